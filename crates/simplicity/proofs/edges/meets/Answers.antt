use mathlib.Core.Path.{ap}
use borrow.Author.Rules.{rules}
use Rattle.model.specs.Content.{Vertex}
use Rattle.simplicity.proofs.EdgeLaws.{apart-read, meet-is}
use Rattle.simplicity.proofs.edges.meets.Goals as goal

pub returns : goal.returns
returns c =
    meet-is c.args.a c.args.b c.args.u c.args.t _ _ _ _ c.same_side.ensures c.same_side-2.ensures
    (apart-read c.a.inside.x c.b.inside.x c.u.inside.x c.t.inside.x (search rules) (search rules) (search rules)
    (search rules) _ _ _ _ _ c.apart.ensures
    (ap (λ (v : Vertex). v.x) c.a.view_is) (ap (λ (v : Vertex). v.x) c.b.view_is) (ap (λ (v : Vertex). v.x)
    c.u.view_is) (ap (λ (v : Vertex). v.x) c.t.view_is))
    (apart-read c.a.inside.y c.b.inside.y c.u.inside.y c.t.inside.y (search rules) (search rules) (search rules)
    (search rules) _ _ _ _ _ c.apart-2.ensures
    (ap (λ (v : Vertex). v.y) c.a.view_is) (ap (λ (v : Vertex). v.y) c.b.view_is) (ap (λ (v : Vertex). v.y)
    c.u.view_is) (ap (λ (v : Vertex). v.y) c.t.view_is))
