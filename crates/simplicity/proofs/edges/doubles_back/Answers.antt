use mathlib.Core.Path.{ap, ◌∙◌}
use mir.Syntax.{w32, w64}
use mir.ValLaws.{to_z-of_z}
use borrow.Author.Rules.{rules, sfits_of}
use Rattle.model.specs.Content.{Vertex}
use Rattle.records.proofs.CornerLaws.{differs}
use Rattle.simplicity.proofs.EdgeLaws.{doubles_is}
use Rattle.simplicity.proofs.edges.doubles_back.Goals as goal

pub returns : goal.returns
returns c =
    doubles_is c.args.p c.args.c c.args.s _ _ _ _ _ _ c.in_line.ensures (to_z-of_z w64 _
    (sfits_of c.dot-along.type_inv) ∙ c.dot-along.ensures)
    (to_z-of_z w32 _ (sfits_of c.from.type_inv) ∙ c.from.ensures
    ∙ differs _ _ _ _ _ (sfits_of c.difference.type_inv) (search rules) (search rules) c.difference.ensures
    (ap (λ (v : Vertex). v.x) c.p.view_is)
    (ap (λ (v : Vertex). v.x) c.c.view_is))
    (to_z-of_z w32 _ (sfits_of c.from-2.type_inv) ∙ c.from-2.ensures
    ∙ differs _ _ _ _ _ (sfits_of c.difference-2.type_inv) (search rules) (search rules) c.difference-2.ensures
    (ap (λ (v : Vertex). v.y) c.p.view_is)
    (ap (λ (v : Vertex). v.y) c.c.view_is))
    (differs _ _ _ _ _ (sfits_of c.difference-3.type_inv) (search rules) (search rules) c.difference-3.ensures
    (ap (λ (v : Vertex). v.x) c.s.view_is)
    (ap (λ (v : Vertex). v.x) c.c.view_is))
    (differs _ _ _ _ _ (sfits_of c.difference-4.type_inv) (search rules) (search rules) c.difference-4.ensures
    (ap (λ (v : Vertex). v.y) c.s.view_is)
    (ap (λ (v : Vertex). v.y) c.c.view_is))
