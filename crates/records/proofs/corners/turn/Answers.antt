use mathlib.Core.Path.{ap, ◌∙◌}
use mir.Syntax.{w64}
use mir.ValLaws.{to_z-of_z}
use borrow.Author.Rules.{rules, sfits_of}
use Rattle.model.specs.Content.{Vertex}
use Rattle.records.proofs.CornerLaws.{differs}
use Rattle.records.proofs.PartLaws.{turn_is}
use Rattle.records.proofs.corners.turn.Goals as goal

pub returns : goal.returns
returns c =
    turn_is c.args.p c.args.q c.args.r _ _ _ _ _ (to_z-of_z w64 c.cross.result (sfits_of c.cross.type_inv) ∙
    c.cross.ensures)
    (differs _ _ _ _ _ (sfits_of c.difference.type_inv) (search rules) (search rules) c.difference.ensures
    (ap (λ (v : Vertex). v.x) c.q.view_is)
    (ap (λ (v : Vertex). v.x) c.p.view_is))
    (differs _ _ _ _ _ (sfits_of c.difference-2.type_inv) (search rules) (search rules) c.difference-2.ensures
    (ap (λ (v : Vertex). v.y) c.q.view_is)
    (ap (λ (v : Vertex). v.y) c.p.view_is))
    (differs _ _ _ _ _ (sfits_of c.difference-3.type_inv) (search rules) (search rules) c.difference-3.ensures
    (ap (λ (v : Vertex). v.x) c.r.view_is)
    (ap (λ (v : Vertex). v.x) c.p.view_is))
    (differs _ _ _ _ _ (sfits_of c.difference-4.type_inv) (search rules) (search rules) c.difference-4.ensures
    (ap (λ (v : Vertex). v.y) c.r.view_is)
    (ap (λ (v : Vertex). v.y) c.p.view_is))
