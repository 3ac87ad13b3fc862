-- `polygons::extents::corner` meets its contract. Assumes nothing.
use mathlib.Core.Path.{◌∙◌}
use borrow.Author.Rules.{rules}
use mir.Syntax.{w16}
use mir.Val.{SFits}
use mir.ValLaws.{to_z-of_z}
use Rattle.model.specs.Content.{vertex}
use Rattle.polygons.specs.Boxes.{box_of}
use Rattle.polygons.proofs.extents.corner.Goals as goal

pub returns : goal.returns
returns c =
    let v = c.vertex-v in
    let fx : SFits w16 v.result.x = search rules in
    let fy : SFits w16 v.result.y = search rules in
    c.point.ensures
    ∙ (λ i. box_of (vertex ((to_z-of_z w16 _ fx ∙ v.ensures.0) i) ((to_z-of_z w16 _ fy ∙ v.ensures.1) i)))
