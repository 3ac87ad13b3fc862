use mathlib.Core.List.{List}
use mathlib.Core.Path.{◌≡◌, sym, ap, subst, ◌∙◌}
use Prim.Native.Nat.{◌+◌, ◌*◌, ◌/◌, ◌%◌, ◌<◌}
use native.Mathlib.Omega.{arith}
use lib.ListN.{length-set}
use Rattle.model.specs.Content.{Part, kind_count}
use Rattle.model.specs.Format.{content}
use Rattle.model.specs.Lists.{concat}
use Rattle.polygons.specs.Boxes.{extents_of}
use Rattle.geometry.specs.Pieces.{Standing, parts_in}
use Rattle.geometry.specs.declared.pieces.Piece.{Piece}
use Rattle.shapes.specs.Boxes.{no_box, turned_vertices}
use Rattle.shapes.specs.Pieces.{Turnable}
use Rattle.shapes.proofs.PieceLaws.{written-more, parts-turned, piece_turnable}
use Rattle.shapes.proofs.ViewLaws.{few-kinds}
use Rattle.shapes.proofs.boxes.boxes_of.Goals as goal

pub piece_box-requires : goal.piece_box-requires
piece_box-requires c =
    let stands : Turnable c.args.turned.now c.piece_of-p.result =
    piece_turnable c.args.job.now c.args.turned.now c.loop-t.t c.piece_of-p.result c.requires.1
    c.piece_of-p.ensures (omega (arith, c.requires.0.view.kinds)) in
    subst (Standing c.args.turned.now) (sym c.turned_to.ensures) (stands.stands c.loop-k.k (omega arith))

pub loop-k-preserved : goal.loop-k-preserved
loop-k-preserved c =
    let t = c.loop-t.t in
    let k = c.loop-k.k in
    let few = few-kinds c.args.job.now c.args.view c.requires.0 in
    let h : t < kind_count (content c.args.job.now).kinds = omega (arith, c.requires.0.view.kinds) in
    let q : (t * 4 + k) / 4 ≡ t = omega arith in
    let r : (t * 4 + k) % 4 ≡ k = omega arith in (
      simp length-set c.loop-k.invariant.0,
      λ m l. written-more no_box c.loop-k.of (t * 4 + k) _ (λ m. extents_of (turned_vertices c.args.job.now (m / 4) (m % 4)))
          (omega arith) c.loop-k.invariant.1
          (c.piece_box.ensures
          ∙ ap (λ (p : Piece). extents_of (concat (parts_in c.args.turned.now p))) c.turned_to.ensures
          ∙ ap (λ (Ps : List Part). extents_of (concat Ps))
          (parts-turned c.args.job.now c.args.turned.now t c.piece_of-p.result c.requires.1 c.piece_of-p.ensures h k (omega arith))
          ∙ sym (ap (λ m. extents_of (turned_vertices c.args.job.now m ((t * 4 + k) % 4))) q
          ∙ ap (λ m. extents_of (turned_vertices c.args.job.now t m)) r)) m (omega arith),
    )
