use mathlib.Core.Bool.{◌&&◌}
use mathlib.Core.Path.{ap, ap₂, ◌∙◌}
use lib.IntN.{negsuc}
use lib.Signed.{le_z}
use mir.Syntax.{w8}
use mir.ValLaws.{to_z-of_z}
use borrow.Author.Rules.{rules}
use Rattle.model.specs.Content.{Vertex}
use Rattle.model.specs.Format.{vertex_in_range}
use Rattle.records.proofs.corners.Corner.in_range.Goals as goal

pub returns : goal.returns
unfolding vertex_in_range
returns c =
    ap₂ (λ a b. le_z (negsuc 126) a && le_z (negsuc 126) b)
    (to_z-of_z w8 c.self.inside.x (search rules) ∙ ap (λ (v : Vertex). v.x) c.self.view_is)
    (to_z-of_z w8 c.self.inside.y (search rules) ∙ ap (λ (v : Vertex). v.y) c.self.view_is)
