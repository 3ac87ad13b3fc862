use mathlib.Core.Path.{◌∙◌, ap}
use Rattle.model.specs.Geometry.{vertex_at}
use Rattle.records.proofs.CornerLaws.{corner-is}
use Rattle.cutting.proofs.TriangleLaws.{triangle-written}
use Rattle.cutting.proofs.triangles.put_triangle.Goals as goal

pub returns : goal.returns
returns c =
    let P = c.args.corners.now in
    let i = corner-is P c.args.i _ c.requires.0.1 c.index-corners-i.is in
    let q = corner-is P c.next.result _ c.next.ensures.1 c.index-corners-next.is ∙ ap (vertex_at P) c.next.ensures.0 in
    let p = corner-is P c.previous.result _ c.previous.ensures.1 c.index-corners-previous.is ∙ ap (vertex_at P)
    c.previous.ensures.0 in
    triangle-written P c.args.i c.requires.0.1 c.requires.0.0 _ _ _ i q p c.args.at c.args.answer.now _ _ _
    c.put_corner.ensures c.put_corner-2.ensures
    c.put_corner-3.ensures
