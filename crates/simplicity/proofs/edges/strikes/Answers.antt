use mathlib.Core.Bool.{not, ◌&&◌}
use mathlib.Core.Path.{ap, ap₂, ◌∙◌}
use Rattle.model.specs.Geometry.{vertex_at}
use Rattle.outlines.specs.Outline.{meet}
use Rattle.simplicity.specs.Corners.{strikes_in}
use Rattle.records.proofs.CornerLaws.{corner-is}
use Rattle.simplicity.proofs.edges.strikes.Goals as goal

pub returns : goal.returns
unfolding strikes_in
returns c =
    let P = c.args.corners.now in
    let a = corner-is P c.args.i _ c.requires.0 c.index-corners-i.is in
    let b = corner-is P c.next.result _ c.next.ensures.1 c.index-corners-next.is ∙ ap (vertex_at P) c.next.ensures.0 in
    let u = corner-is P c.args.j _ c.requires.1 c.index-corners-j.is in
    let t = corner-is P c.next-2.result _ c.next-2.ensures.1 c.index-corners-next-2.is ∙ ap (vertex_at P)
    c.next-2.ensures.0 in
    ap₂ ◌&&◌ (ap not c.share_corner.ensures) (c.meets.ensures ∙ (λ k. meet (a k) (b k) (u k) (t k)))
