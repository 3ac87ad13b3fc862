-- Numbers by cases, and a Bool by the equation that it meets.
use mathlib.Core.Path.{◌≡◌, refl}
use mathlib.Core.Bool.{Bool, true, false}
use mathlib.Core.Logic.{◌⊎◌, inl, inr}
use Prim.Native.Nat.{ℕ, ◌≤◌, ◌<◌}
use native.Mathlib.Omega.{arith}
use lib.Dec.{leb, eqb}
use borrow.Author.Tests.{leb-true, leb-false, eqb-true, eqb-false}
use mir.Val.{bool_byte}

-- A Bool is true or false.
pub true_or_false : (b : Bool) → (b ≡ true) ⊎ (b ≡ false)
true_or_false true = inl refl
true_or_false false = inr refl

-- Of two numbers the first is at most the second, or above it.
pub le_or_lt : (a b : ℕ) → (a ≤ b) ⊎ (b < a)
le_or_lt a b = go (true_or_false (leb a b))
  where
    go : (leb a b ≡ true) ⊎ (leb a b ≡ false) → (a ≤ b) ⊎ (b < a)
    go (inl e) = inl (leb-true a b e)
    go (inr e) = inr (leb-false a b e)

-- Two numbers are equal or not.
pub eq_or_ne : (a b : ℕ) → (a ≡ b) ⊎ (a ≡ b → ⊥)
eq_or_ne a b = go (true_or_false (eqb a b))
  where
    go : (eqb a b ≡ true) ⊎ (eqb a b ≡ false) → (a ≡ b) ⊎ (a ≡ b → ⊥)
    go (inl e) = inl (eqb-true a b e)
    go (inr e) = inr (eqb-false a b e)

-- A truth value as a number.
pub at_most_one : (t : Bool) → bool_byte t ≤ 1
at_most_one true = omega arith
at_most_one false = omega arith
