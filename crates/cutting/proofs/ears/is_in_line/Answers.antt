use mathlib.Core.Path.{◌∙◌, ap}
use Rattle.model.specs.Geometry.{cross, vertex_at}
use Rattle.outlines.specs.Outline.{is_zero}
use Rattle.records.proofs.CornerLaws.{corner-is}
use Rattle.cutting.proofs.ChoiceLaws.{line-is}
use Rattle.cutting.proofs.ears.is_in_line.Goals as goal

pub returns : goal.returns
returns c =
    let P = c.args.corners.now in
    let p = corner-is P c.previous.result _ c.previous.ensures.1 c.index-corners-previous.is ∙ ap (vertex_at P)
    c.previous.ensures.0 in
    let i = corner-is P c.args.i _ c.requires.1 c.index-corners-i.is in
    let s = corner-is P c.next.result _ c.next.ensures.1 c.index-corners-next.is ∙ ap (vertex_at P) c.next.ensures.0 in
    c.in_line.ensures ∙ (λ k. is_zero (cross (p k) (i k) (s k))) ∙ line-is P c.args.i c.requires.1 c.requires.0
