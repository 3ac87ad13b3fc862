use mathlib.Core.Path.{◌≡◌, refl, sym, ap, ap₂, subst, ◌∙◌}
use Prim.Native.Nat.{◌≤◌}
use native.Mathlib.Omega.{arith}
use lib.IntN.{ℤ, nat_abs}
use mir.Syntax.{w64}
use mir.Val.{to_z, of_z}
use mir.ValLaws.{to_z-of_z}
use borrow.Author.Rules.{sfits_of}
use Rattle.model.specs.Geometry.{vertex_at}
use Rattle.outlines.specs.Outline.{det}
use Rattle.simplicity.specs.Corners.{sum_below, edge_area}
use Rattle.simplicity.proofs.AreaLaws.{area_is, more_is}
use Rattle.records.proofs.CornerLaws.{corner-is}
use Rattle.simplicity.proofs.area.doubled_area.Goals as goal
use Rattle.simplicity.proofs.area.doubled_area.Goals.{After-determinant-area}

-- What the edge adds, and that it is small.
abbrev added : After-determinant-area → ℤ
added c = to_z w64 (of_z w64 c.determinant-area.result)

added_is : (c : After-determinant-area) → added c ≡ edge_area c.args.corners.now c.loop-k.k
unfolding edge_area
added_is c =
    let P = c.args.corners.now in
    to_z-of_z w64 c.determinant-area.result (sfits_of c.determinant-area.type_inv) ∙ c.determinant-area.ensures.value
    ∙ ap₂ det (corner-is P c.loop-k.k _ c.loop-k-test.true c.index-corners-k.is)
    (corner-is P c.next.result _ c.next.ensures.1 c.index-corners-next.is ∙ ap (vertex_at P) c.next.ensures.0)

added-small : (c : After-determinant-area) → nat_abs (added c) ≤ 32768
added-small c =
    subst (λ (z : ℤ). nat_abs z ≤ 32768) (sym (to_z-of_z w64 c.determinant-area.result
    (sfits_of c.determinant-area.type_inv))) c.determinant-area.ensures.small

pub loop-k-init : goal.loop-k-init
unfolding sum_below
loop-k-init c = (refl, omega arith)

pub loop-k-preserved : goal.loop-k-preserved
loop-k-preserved c =
    let at = (goal.at.loop-k-preserved c).After-determinant-area in
    more_is c.args.corners.now c.loop-k.k (omega (arith, c.requires, c.loop-k-test.true)) (to_z w64 c.loop-k.area-bits)
    (added at) c.loop-k.invariant.1
    (added-small at) c.loop-k.invariant.0
    (added_is at)

pub returns : goal.returns
returns c = c.loop-k.invariant.0 ∙ ap (sum_below (edge_area c.args.corners.now)) (omega arith) ∙ area_is
    c.args.corners.now
