use mathlib.Core.Path.{ap, ◌∙◌}
use mir.Syntax.{w8}
use mir.ValLaws.{to_z-of_z}
use borrow.Author.Rules.{rules}
use Rattle.model.specs.Content.{Vertex}
use Rattle.model.specs.Services.{coordinate}
use Rattle.cutting.proofs.TriangleLaws.{corner-written}
use Rattle.cutting.proofs.triangles.put_corner.Goals as goal

pub returns : goal.returns
returns c =
    corner-written c.args.corner _ _ c.args.at c.args.answer.now _ _
    (c.coordinate_number.ensures.0 ∙ ap coordinate (to_z-of_z w8 c.corner.inside.x (search rules) ∙ ap (λ (v : Vertex).
    v.x) c.corner.view_is))
    (c.coordinate_number-2.ensures.0 ∙ ap coordinate (to_z-of_z w8 c.corner.inside.y (search rules)
    ∙ ap (λ (v : Vertex). v.y) c.corner.view_is))
    c.put.ensures c.put-2.ensures
