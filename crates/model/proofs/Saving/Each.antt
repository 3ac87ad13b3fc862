-- Tests of every element, as what holds of each.
use mathlib.Core.Bool.{Bool, true, false, not, ◌||◌}
use mathlib.Core.List.{List, [], ◌∷◌, map}
use mathlib.Core.Path.{◌≡◌, refl, ap}
use Prim.Native.Nat.{ℕ, zero, suc, ◌+◌, ◌≤◌, ◌<◌}
use native.Mathlib.Nat.{not-suc-le-zero, le_of_suc-le-suc}
use native.Mathlib.Omega.{arith}
use borrow.Author.Tests.{ne_eqb}
use lib.Dec.{eqb}
use lib.ListN.{length, get_or}
use Rattle.model.proofs.Lists.{and_left, and_right, and_both, or_left, or_right}
use Rattle.model.specs.Format.{distinct}
use Rattle.model.specs.Lists.{all, any}
use Rattle.model.specs.ContentFit.{Each, RisingFrom}

-- Neither of two tests holds.
pub or_both : (a b : Bool) → a ≡ false → b ≡ false → (a || b) ≡ false
or_both a b p q = rw (p, q)

pub not_of : (a : Bool) → a ≡ true → not a ≡ false
not_of a e = ap not e

module _ {A : Type 0} where
  pub each_map : {P Q : A → Type 0} → ((a : A) → P a → Q a) → (xs : List A) → Each P xs → Each Q xs
  each_map f [] h = tt
  each_map f (x ∷ xs) h = (f x h.0, each_map f xs h.1)

  -- of the element at a place
  pub each_at : (P : A → Type 0) (xs : List A) (d : A) → Each P xs → (i : ℕ) → i < length xs → P (get_or xs i d)
  each_at P [] d h i l = absurd (not-suc-le-zero l)
  each_at P (x ∷ xs) d h zero l = h.0
  each_at P (x ∷ xs) d h (suc i) l = each_at P xs d h.1 i (le_of_suc-le-suc l)

  pub each_both : (P Q : A → Type 0) (xs : List A) → Each P xs → Each Q xs → Each (λ a. P a × Q a) xs
  each_both P Q [] h k = tt
  each_both P Q (x ∷ xs) h k = ((h.0, k.0), each_both P Q xs h.1 k.1)

  pub all-each : (p : A → Bool) (xs : List A) → all p xs ≡ true → Each (λ a. p a ≡ true) xs
  unfolding all
  all-each p [] e = tt
  all-each p (x ∷ xs) e = (and_left (p x) _ e, all-each p xs (and_right (p x) _ e))

  pub each_all : (p : A → Bool) (xs : List A) → Each (λ a. p a ≡ true) xs → all p xs ≡ true
  unfolding all
  each_all p [] h = refl
  each_all p (x ∷ xs) h = and_both (p x) (all p xs) h.0 (each_all p xs h.1)

  pub any-each : (p : A → Bool) (xs : List A) → any p xs ≡ false → Each (λ a. p a ≡ false) xs
  unfolding any
  any-each p [] e = tt
  any-each p (x ∷ xs) e = (or_left (p x) _ e, any-each p xs (or_right (p x) _ e))

  pub each-any : (p : A → Bool) (xs : List A) → Each (λ a. p a ≡ false) xs → any p xs ≡ false
  unfolding any
  each-any p [] h = refl
  each-any p (x ∷ xs) h = or_both (p x) (any p xs) h.0 (each-any p xs h.1)

-- Numbers that rise: none is lower than the first, none occurs twice, and those to hi are few.
rising-absent : (n lo : ℕ) (ns : List ℕ) → n < lo → RisingFrom lo ns → any (eqb n) ns ≡ false
unfolding any
rising-absent n lo [] l h = refl
rising-absent n lo (m ∷ ns) l h =
    or_both (eqb n m) (any (eqb n) ns) (ne_eqb n m (λ e. omega (arith, h.0))) (rising-absent n (suc m) ns (omega (arith, h.0)) h.1)

pub rising-distinct : (lo : ℕ) (ns : List ℕ) → RisingFrom lo ns → distinct ns ≡ true
unfolding distinct
rising-distinct lo [] h = refl
rising-distinct lo (n ∷ ns) h =
    and_both (not (any (eqb n) ns)) (distinct ns) (ap not (rising-absent n (suc n) ns (omega arith) h.1)) (rising-distinct (suc n) ns h.1)

pub rising-few : (hi lo : ℕ) (ns : List ℕ) → lo ≤ hi → RisingFrom lo ns → Each (λ n. n < hi) ns → lo + length ns ≤ hi
rising-few hi lo [] l h b = omega arith
rising-few hi lo (n ∷ ns) l h b = omega (arith, h.0, rising-few hi (suc n) ns b.0 h.1 b.1)

pub each-of_map : {A : Type 0} (f : A → ℕ) (P : ℕ → Type 0) (xs : List A) → Each (λ a. P (f a)) xs → Each P (map f xs)
each-of_map f P [] h = tt
each-of_map f P (x ∷ xs) h = (h.0, each-of_map f P xs h.1)
