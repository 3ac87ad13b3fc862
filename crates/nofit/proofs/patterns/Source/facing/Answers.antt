-- `nofit::patterns::Source::facing` meets its contract. Assumes nothing.
use mathlib.Core.Path.{sym, ap, subst, ◌∙◌}
use Rattle.model.specs.Lists.{concat}
use Rattle.polygons.specs.Boxes.{extents_of}
use Rattle.geometry.specs.Pieces.{Standing, parts_in}
use Rattle.geometry.specs.declared.pieces.Piece.{Piece}
use Rattle.nofit.proofs.patterns.Source.facing.Goals as goal

pub invariant_of-result : goal.invariant_of-result
invariant_of-result c =
    let f = c.args.self.now in
    let r = f.ready.1.1 in
    let q = c.turned_to.ensures in
    record {
      ready = (
        f.ready.0,
        (
          f.ready.1.0,
          record {
            stands = subst (Standing f.turned.now) (sym q) (r.turnable.stands c.args.k c.requires);
            box = c.box_at.ensures ∙ r.boxes c.args.k c.requires ∙ ap (λ (p : Piece). extents_of (concat (parts_in f.turned.now p))) (sym q);
          },
        ),
      );
    }
