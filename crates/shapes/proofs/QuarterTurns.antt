-- The x of a turned vertex by the number of quarter turns, its y by its x, and that no turned coordinate wraps. Assumes nothing.
use mathlib.Core.Path.{◌≡◌, sym, ap, ◌∙◌, subst}
use Prim.Native.Nat.{ℕ, zero, suc, ◌+◌, ◌%◌, ◌<◌}
use native.Mathlib.Omega.{arith}
use lib.IntN.{ℤ, pos, neg_ℤ, nat_abs, ◌-ℤ◌, +ℤ_idl, neg_ℤ-neg_ℤ}
use mir.Syntax.{w16}
use mir.Val.{SFits}
use Rattle.integers.proofs.Absolute.{nat_abs-negℤ}
use Rattle.integers.proofs.Sizes.{fits_nat_abs}
use Rattle.model.specs.Content.{Vertex, vertex}
use Rattle.model.specs.Geometry.{quarter_turn, rotated}

module _ (x y : ℤ) where
  pub turned-0 : (k : ℕ) → k ≡ 0 → x ≡ (rotated k (vertex x y)).x
  unfolding rotated
  turned-0 k e = ap (λ n. (rotated n (vertex x y)).x) (sym e)

  pub turned-1 : (k : ℕ) → k ≡ 1 → pos 0 -ℤ y ≡ (rotated k (vertex x y)).x
  unfolding rotated quarter_turn
  turned-1 k e = +ℤ_idl (neg_ℤ y) ∙ ap (λ n. (rotated n (vertex x y)).x) (sym e)

  pub turned-2 : (k : ℕ) → k ≡ 2 → pos 0 -ℤ x ≡ (rotated k (vertex x y)).x
  unfolding rotated quarter_turn
  turned-2 k e = +ℤ_idl (neg_ℤ x) ∙ ap (λ n. (rotated n (vertex x y)).x) (sym e)

  pub turned-3 : (k : ℕ) → k ≡ 3 → y ≡ (rotated k (vertex x y)).x
  unfolding rotated quarter_turn
  turned-3 k e = sym (neg_ℤ-neg_ℤ y) ∙ ap (λ n. (rotated n (vertex x y)).x) (sym e)

-- the y is the x after one turn less
pub one_turn-less : (k : ℕ) (v : Vertex) → k < 4 → (rotated ((k + 3) % 4) v).x ≡ (rotated k v).y
unfolding rotated quarter_turn
one_turn-less zero v h = neg_ℤ-neg_ℤ v.y
one_turn-less (suc k) v h = let e : (suc k + 3) % 4 ≡ k = omega arith in ap (λ n. (rotated n v).x) e

-- the opposite of a number of 16 bits that is not the least
pub opposite_16 : (z : ℤ) → nat_abs z < 32768 → SFits w16 (pos 0 -ℤ z)
opposite_16 z h = subst (SFits w16) (sym (+ℤ_idl (neg_ℤ z))) (fits_nat_abs w16 (neg_ℤ z) (rw (nat_abs-negℤ z) h))
