use mathlib.Core.Path.{◌≡◌, sym, ap, subst, ◌∙◌}
use Prim.Native.Nat.{◌≤◌}
use lib.IntN.{ℤ, nat_abs}
use mir.Syntax.{w8, w16, w64}
use mir.Val.{SFits, to_z, of_z}
use mir.ValLaws.{to_z-of_z}
use borrow.Author.Rules.{rules, sfits_of}
use Rattle.model.specs.Content.{Vertex}
use Rattle.outlines.specs.Outline.{det}
use Rattle.simplicity.proofs.AreaLaws.{det-is, edge_small}
use Rattle.simplicity.proofs.area.determinant.Goals as goal

pub returns : goal.returns
returns c =
    let value : to_z w64 (of_z w64 c.cross.result) ≡ det c.args.p c.args.q =
    det-is c.args.p c.args.q _ _ _ _ _ (to_z-of_z w64 _ (sfits_of c.cross.type_inv) ∙ c.cross.ensures)
    (to_z-of_z w16 c.from.result (sfits_of c.from.type_inv) ∙ c.from.ensures ∙ to_z-of_z w8 _ (search rules)
    ∙ ap (λ (v : Vertex). v.x) c.p.view_is)
    (to_z-of_z w16 c.from-2.result (sfits_of c.from-2.type_inv) ∙ c.from-2.ensures ∙ to_z-of_z w8 _ (search rules)
    ∙ ap (λ (v : Vertex). v.y) c.p.view_is)
    (to_z-of_z w16 c.from-3.result (sfits_of c.from-3.type_inv) ∙ c.from-3.ensures ∙ to_z-of_z w8 _ (search rules)
    ∙ ap (λ (v : Vertex). v.x) c.q.view_is)
    (to_z-of_z w16 c.from-4.result (sfits_of c.from-4.type_inv) ∙ c.from-4.ensures ∙ to_z-of_z w8 _ (search rules)
    ∙ ap (λ (v : Vertex). v.y) c.q.view_is) in
    record {
      value = value;
      small =
          subst (λ (z : ℤ). nat_abs z ≤ 32768) (sym value)
          (edge_small c.args.p c.args.q (subst (λ (v : Vertex). SFits w8 v.x) c.p.view_is (search rules))
          (subst (λ (v : Vertex). SFits w8 v.y) c.p.view_is (search rules)) (subst (λ (v : Vertex). SFits w8 v.x)
          c.q.view_is (search rules))
          (subst (λ (v : Vertex). SFits w8 v.y) c.q.view_is (search rules)));
    }
