use Rattle.std.proofs.Common.{rules, refl, ◌∙◌}
use mathlib.Core.Bool.{◌||◌}
use mathlib.Core.Path.{ap, ap₂}
use native.Mathlib.Omega.{arith}
use lib.ListN.{length}
use Rattle.std.proofs.lemmas.Iterator.{YieldsList-from_range}
use Rattle.model.proofs.Ranges.{any_below}
use Rattle.model.specs.Geometry.{vertex_at}
use Rattle.outlines.specs.Outline.{doubles_back}
use Rattle.simplicity.specs.Corners.{strikes_in, edge_meets_in}
use Rattle.records.proofs.CornerLaws.{corner-is}
use Rattle.simplicity.proofs.edges.edge_meets.Goals as goal

pub returns : goal.returns
unfolding edge_meets_in
returns c =
    let P = c.args.corners.now in
    let p = corner-is P c.previous.result _ c.previous.ensures.1 c.index-corners-previous.is ∙ ap (vertex_at P)
    c.previous.ensures.0 in
    let a = corner-is P c.args.i _ c.requires c.index-corners-i.is in
    let s = corner-is P c.next.result _ c.next.ensures.1 c.index-corners-next.is ∙ ap (vertex_at P) c.next.ensures.0 in
    ap₂ ◌||◌ (c.doubles_back.ensures ∙ (λ k. doubles_back (p k) (a k) (s k)))
    (any_below (strikes_in P c.args.i) (length P) _ _ c.any.ensures.ran (YieldsList-from_range 0 (length P) _ refl
    (omega arith)) (λ x b q k. search rules))
