use Rattle.std.proofs.Common.{rules, refl, ◌∙◌}
use mathlib.Core.Bool.{◌&&◌}
use mathlib.Core.Path.{ap, ap₂}
use native.Mathlib.Omega.{arith}
use lib.ListN.{length}
use Rattle.std.proofs.lemmas.Iterator.{YieldsList-from_range}
use Rattle.model.proofs.Ranges.{all_below}
use Rattle.model.specs.Geometry.{strictly_left, vertex_at}
use Rattle.model.specs.Lists.{all, below}
use Rattle.records.proofs.CornerLaws.{corner-is}
use Rattle.cutting.specs.Choice.{is_spared}
use Rattle.cutting.proofs.ChoiceLaws.{ear_is}
use Rattle.cutting.proofs.ears.is_ear.Goals as goal

pub returns : goal.returns
returns c =
    let P = c.args.corners.now in
    let p = corner-is P c.previous-p.result _ c.previous-p.ensures.1 c.index-corners-p.is ∙ ap (vertex_at P)
    c.previous-p.ensures.0 in
    let i = corner-is P c.args.i _ c.requires.1 c.index-corners-i.is in
    let s = corner-is P c.next-s.result _ c.next-s.ensures.1 c.index-corners-s.is ∙ ap (vertex_at P) c.next-s.ensures.0
    in
    ap₂ ◌&&◌ (c.strictly_left.ensures ∙ (λ k. strictly_left (p k) (i k) (s k)))
    (all_below (is_spared P c.previous-p.result c.args.i c.next-s.result) (length P) _ _ c.all.ensures.ran
    (YieldsList-from_range 0 (length P) _ refl (omega arith))
    (λ x b q k. search rules)
    ∙ ap₂ (λ a b. all (is_spared P a c.args.i b) (below (length P))) c.previous-p.ensures.0 c.next-s.ensures.0)
    ∙ ear_is P c.args.i c.requires.1 c.requires.0
