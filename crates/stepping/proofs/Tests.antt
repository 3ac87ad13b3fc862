-- Tests that are equal: conjunctions put in another order, and comparisons.
use mathlib.Core.Bool.{Bool, true, false, not, ◌&&◌, ◌||◌, and-true, and-false}
use mathlib.Core.Logic.{⊎_elim}
use mathlib.Core.Path.{◌≡◌, refl, sym, ◌∙◌}
use Prim.Native.Nat.{ℕ, ◌+◌, max, ◌≤◌}
use native.Mathlib.Omega.{arith}
use borrow.Author.Tests.{ltb-true, ltb-false, lt-ltb, le-ltb}
use lib.Dec.{ltb}
use Rattle.words.proofs.Cases.{le_or_lt}

-- Four tests the other way round.
pub and_turn : (p q a f : Bool) → (p && q && a && f) ≡ (f && a && p && q)
and_turn p q a false = and-false (p && q && a)
and_turn p q false true = and-true (p && q && false) ∙ and-false (p && q)
and_turn p q true true = and-true (p && q && true) ∙ and-true (p && q)

-- Two further tests put last.
pub and_last : (c f a b x y : Bool) → (c && (f && x) && (a && y) && b) ≡ (c && f && a && b && x && y)
and_last false f a b x y = refl
and_last true false a b x y = refl
and_last true true a b false y = sym (rw (and-false (a && b)))
and_last true true false b true y = refl
and_last true true true b true false = sym (and-false (b && true))
and_last true true true b true true = sym (and-true (b && true) ∙ and-true b)

-- Neither of two.
pub not_or : (a b : Bool) → not (a || b) ≡ (not b && not a)
not_or true b = sym (and-false (not b))
not_or false b = sym (and-true (not b))

-- The same added to both sides changes no comparison.
pub ltb_plus : (a b m : ℕ) → ltb (a + m) (b + m) ≡ ltb a b
ltb_plus a b m = ⊎_elim (λ l. le-ltb (a + m) (b + m) (omega arith) ∙ sym (le-ltb a b l)) (λ l. lt-ltb (a + m) (b + m) (omega arith) ∙ sym (lt-ltb a b l)) (le_or_lt b a)

-- The larger of two numbers is below a bound if both are.
pub ltb_max : (a b c : ℕ) → ltb (max a b) c ≡ (ltb a c && ltb b c)
ltb_max a b c = go (ltb a c) (ltb b c) refl refl
  where
    go : (p q : Bool) → ltb a c ≡ p → ltb b c ≡ q → ltb (max a b) c ≡ (p && q)
    go true true d e = lt-ltb (max a b) c (omega (arith, ltb-true a c d, ltb-true b c e))
    go true false d e = le-ltb (max a b) c (omega (arith, ltb-false b c e))
    go false q d e = le-ltb (max a b) c (omega (arith, ltb-false a c d))

-- What is below the smaller of two bounds is below both.
pub ltb_bounds : (a b c : ℕ) → b ≤ c → ltb a b ≡ (ltb a c && ltb a b)
ltb_bounds a b c l = go (ltb a b) refl
  where
    go : (p : Bool) → ltb a b ≡ p → p ≡ (ltb a c && p)
    go true d = sym (rw (lt-ltb a c (omega (arith, ltb-true a b d))))
    go false d = sym (and-false (ltb a c))
