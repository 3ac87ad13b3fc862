-- What does not change when a list's elements change places.
use mathlib.Core.Bool.{Bool, true, false, not, cond, ◌&&◌, ◌||◌}
use mathlib.Core.List.{List, ◌∷◌, map}
use mathlib.Core.Path.{◌≡◌, refl, sym, ap, ◌∙◌}
use Prim.Native.Nat.{ℕ, max}
use native.Mathlib.Omega.{arith}
use borrow.Author.Tests.{eqb-true, eq-eqb, eqb-false, ne_eqb, not-true}
use lib.Dec.{eqb}
use Rattle.model.specs.ClassOrder.{Permuted, end, behind, change, chain}
use Rattle.model.specs.Format.{distinct}
use Rattle.model.specs.Lists.{all, any, keep, largest}
use Rattle.model.proofs.Lists.{and_left, and_right, not_both, or_left}

-- The first of two tests changes places with the second, before a third.
and_swap : (a b c : Bool) → (a && (b && c)) ≡ (b && (a && c))
and_swap true true c = refl
and_swap true false c = refl
and_swap false true c = refl
and_swap false false c = refl

or_swap : (a b c : Bool) → (a || (b || c)) ≡ (b || (a || c))
or_swap true true c = refl
or_swap true false c = refl
or_swap false true c = refl
or_swap false false c = refl

module _ {A : Type 0} where
  pub any-permuted : (p : A → Bool) {xs ys : List A} → Permuted xs ys → any p xs ≡ any p ys
  unfolding any
  any-permuted p end = refl
  any-permuted p (behind {x = x} r) = ap (λ b. p x || b) (any-permuted p r)
  any-permuted p (change {x = x} {y = y} {xs = xs}) = or_swap (p x) (p y) (any p xs)
  any-permuted p (chain r q) = any-permuted p r ∙ any-permuted p q

  pub all-permuted : (p : A → Bool) {xs ys : List A} → Permuted xs ys → all p xs ≡ all p ys
  unfolding all
  all-permuted p end = refl
  all-permuted p (behind {x = x} r) = ap (λ b. p x && b) (all-permuted p r)
  all-permuted p (change {x = x} {y = y} {xs = xs}) = and_swap (p x) (p y) (all p xs)
  all-permuted p (chain r q) = all-permuted p r ∙ all-permuted p q

  pub map-permuted : {B : Type 0} (f : A → B) {xs ys : List A} → Permuted xs ys → Permuted (map f xs) (map f ys)
  map-permuted f end = end
  map-permuted f (behind r) = behind (map-permuted f r)
  map-permuted f change = change
  map-permuted f (chain r q) = chain (map-permuted f r) (map-permuted f q)

-- The largest of the numbers.
pub largest-permuted : {ms ns : List ℕ} → Permuted ms ns → largest ms ≡ largest ns
unfolding largest
largest-permuted end = refl
largest-permuted (behind {x = x} r) = ap (max x) (largest-permuted r)
largest-permuted (change {x = x} {y = y} {xs = xs}) = omega arith
largest-permuted (chain r q) = largest-permuted r ∙ largest-permuted q

-- Equality of numbers is tested either way round.
pub eqb_comm : (a b : ℕ) → eqb a b ≡ eqb b a
eqb_comm a b = go (eqb a b) refl
  where
    go : (c : Bool) → eqb a b ≡ c → eqb a b ≡ eqb b a
    go true e = e ∙ sym (eq-eqb b a (sym (eqb-true a b e)))
    go false e = e ∙ sym (ne_eqb b a (λ q. eqb-false a b e (sym q)))

-- The first two numbers change places.
distinct-swap : (e a b d : Bool) → (not (e || a) && (not b && d)) ≡ (not (e || b) && (not a && d))
distinct-swap true a b d = refl
distinct-swap false a b d = and_swap (not a) (not b) d

pub distinct-permuted : {ms ns : List ℕ} → Permuted ms ns → distinct ms ≡ distinct ns
unfolding distinct any
distinct-permuted end = refl
distinct-permuted (behind {x = x} {xs = xs} {ys = ys} r) =
    rw (any-permuted (eqb x) r) (ap (λ b. not (any (eqb x) ys) && b) (distinct-permuted r))
distinct-permuted (change {x = x} {y = y} {xs = xs}) =
    rw (eqb_comm y x) (distinct-swap (eqb x y) (any (eqb x) xs) (any (eqb y) xs) (distinct xs))
distinct-permuted (chain r q) = distinct-permuted r ∙ distinct-permuted q

module _ {A : Type 0} (number : A → ℕ) where
  -- Of elements with distinct numbers, at most one has the number i: whatever their order, it is what is kept.
  pub keep-permuted : (i : ℕ) {xs ys : List A} → Permuted xs ys → distinct (map number xs) ≡ true
      → keep (λ x. eqb (number x) i) xs ≡ keep (λ x. eqb (number x) i) ys
  unfolding keep distinct any
  keep-permuted i end d = refl
  keep-permuted i (behind {x = x} {xs = xs} {ys = ys} r) d =
      rw (keep-permuted i r (and_right (not (any (eqb (number x)) (map number xs))) _ d))
  keep-permuted i (change {x = x} {y = y} {xs = xs}) d = go (eqb (number x) i) (eqb (number y) i) refl refl
    where
      both : eqb (number x) i ≡ true → eqb (number y) i ≡ true → ⊥
      both e f =
          not_both (eq-eqb (number x) (number y) (eqb-true _ _ e ∙ sym (eqb-true _ _ f)))
          (or_left _ _ (not-true _ (and_left (not (eqb (number x) (number y) || any (eqb (number x)) (map number xs))) _ d)))

      go : (a b : Bool) → eqb (number x) i ≡ a → eqb (number y) i ≡ b
          → cond a (x ∷ cond b (y ∷ keep (λ x. eqb (number x) i) xs) (keep (λ x. eqb (number x) i) xs)) (cond b (y ∷ keep (λ x. eqb (number x) i) xs) (keep (λ x. eqb (number x) i) xs))
          ≡ cond b (y ∷ cond a (x ∷ keep (λ x. eqb (number x) i) xs) (keep (λ x. eqb (number x) i) xs)) (cond a (x ∷ keep (λ x. eqb (number x) i) xs) (keep (λ x. eqb (number x) i) xs))
      go true true e f = absurd (both e f)
      go true false e f = refl
      go false true e f = refl
      go false false e f = refl
  keep-permuted i (chain r q) d =
      keep-permuted i r d ∙ keep-permuted i q (sym (distinct-permuted (map-permuted number r)) ∙ d)
