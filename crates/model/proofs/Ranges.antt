-- `all`, `any` and `position` over the numbers below n, in the words of the definitions: what a chain `(0..n).all(..)` answers where its closure answers
-- as a test does.
use mathlib.Core.Bool.{Bool, true, false, ◌&&◌, ◌||◌}
use mathlib.Core.List.{List, [], ◌∷◌}
use mathlib.Core.Path.{◌≡◌, refl, ap, ◌∙◌}
use Prim.Native.Nat.{ℕ, zero, suc}
use native.Mathlib.Omega.{arith}
use denote.Param.Members.{Mut}
use Rattle.std.specs.Prelude.{Option, MatchOption}
use Rattle.std.specs.Iterator.{YieldsThen}
use Rattle.std.specs.List.{FoldsTo, list_all, list_any, range_with_len}
use Rattle.std.specs.Fn.{Called}
use Rattle.std.proofs.lemmas.Iterator.{YieldsList}
use Rattle.std.proofs.lemmas.Iterator.Search.{all_from_yields_List, any_from_yields_List}
use Rattle.model.specs.Lists.{all, any, rising, below}

pub list_all-all : {A : Type 0} (p : A → Bool) (xs : List A) → list_all p xs ≡ all p xs
unfolding all
list_all-all p [] = refl
list_all-all p (x ∷ xs) = ap (λ b. p x && b) (list_all-all p xs)

pub list_any-any : {A : Type 0} (p : A → Bool) (xs : List A) → list_any p xs ≡ any p xs
unfolding any
list_any-any p [] = refl
list_any-any p (x ∷ xs) = ap (λ b. p x || b) (list_any-any p xs)

numbers_rising : (i k : ℕ) → range_with_len i k ≡ rising i k
unfolding rising
numbers_rising i zero = refl
numbers_rising i (suc k) = ap (λ (ns : List ℕ). i ∷ ns) (ap (λ j. range_with_len j k) (omega arith) ∙ numbers_rising (suc i) k)

pub numbers_below : (n : ℕ) → range_with_len 0 n ≡ below n
unfolding below
numbers_below n = numbers_rising 0 n

module _ {S F : Type 0} {steps : S → Option ℕ → S → Type 0} {g : Mut F (ℕ × Unit {0}) Bool} (test : ℕ → Bool) (n : ℕ) (u : S) (f : F) {s : S} {r : Bool} where
  pub all_below : (xs : List ℕ) × (o : Option ℕ) × (j : F) × YieldsThen steps s xs o u × FoldsTo (λ p x q. Called g p (x, tt) true q) f xs j
      × MatchOption o (r ≡ true) (λ x. (r ≡ false) × ((h : F) × Called g j (x, tt) false h))
      → YieldsList steps (λ x. x) s (range_with_len 0 n)
      → ((x : ℕ) (b : Bool) (q : F) → Called g f (x, tt) b q → (q ≡ f) × (b ≡ test x)) → r ≡ all test (below n)
  all_below ran yields k =
      all_from_yields_List test u f r ran yields k ∙ ap (list_all test) (numbers_below n) ∙ list_all-all test (below n)

  pub any_below : (xs : List ℕ) × (o : Option ℕ) × (j : F) × YieldsThen steps s xs o u × FoldsTo (λ p x q. Called g p (x, tt) false q) f xs j
      × MatchOption o (r ≡ false) (λ x. (r ≡ true) × ((h : F) × Called g j (x, tt) true h))
      → YieldsList steps (λ x. x) s (range_with_len 0 n)
      → ((x : ℕ) (b : Bool) (q : F) → Called g f (x, tt) b q → (q ≡ f) × (b ≡ test x)) → r ≡ any test (below n)
  any_below ran yields k =
      any_from_yields_List test u f r ran yields k ∙ ap (list_any test) (numbers_below n) ∙ list_any-any test (below n)
