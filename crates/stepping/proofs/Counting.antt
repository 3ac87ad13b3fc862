-- Counting, keeping and numbers that rise.
use mathlib.Core.Bool.{Bool, true, false, cond, ◌&&◌}
use mathlib.Core.List.{List, [], ◌∷◌, ◌++◌}
use mathlib.Core.Path.{◌≡◌, refl, sym, ap, ◌∙◌}
use Prim.Native.Nat.{ℕ, zero, suc, ◌+◌, ◌-◌, ◌≤◌, ◌<◌}
use native.Mathlib.Nat.{add-zero, zero-add}
use native.Mathlib.Omega.{arith}
use Rattle.words.specs.Sets.{how_many}
use Rattle.model.specs.Lists.{all, keep, count_of, rising, below}
use Rattle.model.proofs.Folds.{rising-append}
use Rattle.model.proofs.Sorted.{mem_rising, count_of-append, count_of-none}

module _ {A : Type 0} where
  -- To count among the elements kept is to count those of which both tests hold.
  pub count_of-keep : (p q : A → Bool) (xs : List A) → count_of p (keep q xs) ≡ count_of (λ x. q x && p x) xs
  unfolding count_of keep
  count_of-keep p q [] = refl
  count_of-keep p q (x ∷ xs) = go (q x) (count_of-keep p q xs)
    where
      go : (b : Bool) → count_of p (keep q xs) ≡ count_of (λ x. q x && p x) xs
          → count_of p (cond b (x ∷ keep q xs) (keep q xs)) ≡ cond (b && p x) 1 0 + count_of (λ x. q x && p x) xs
      go true h = ap (λ (n : ℕ). cond (p x) 1 0 + n) h
      go false h = h ∙ sym (zero-add (count_of (λ x. q x && p x) xs))

  -- Tests that agree count alike.
  pub count_of-same : (p q : A → Bool) → ((x : A) → p x ≡ q x) → (xs : List A) → count_of p xs ≡ count_of q xs
  unfolding count_of
  count_of-same p q f [] = refl
  count_of-same p q f (x ∷ xs) = rw (f x, count_of-same p q f xs)

-- A test that holds of no number from n on counts the same below n and below any larger number.
pub count_of-below : (p : ℕ → Bool) (n m : ℕ) → n ≤ m → ((i : ℕ) → n ≤ i → p i ≡ false) → count_of p (below m) ≡ count_of p (below n)
unfolding below
count_of-below p n m l f =
    let e : n + (m - n) ≡ m = omega arith in
    ap (λ (x : ℕ). count_of p (rising 0 x)) (sym e)
    ∙ ap (count_of p) (rising-append 0 n (m - n))
    ∙ count_of-append p (rising 0 n) (rising (0 + n) (m - n))
    ∙ rw (count_of-none p (rising (0 + n) (m - n)) (λ i h. f i (omega (arith, mem_rising (0 + n) (m - n) i h)))) (add-zero (count_of p (rising 0 n)))

-- Tests that agree on numbers hold of all of them alike: of the n from i on, and of those below n.
pub all_same : (p q : ℕ → Bool) (i n : ℕ) → ((m : ℕ) → i ≤ m → m < i + n → p m ≡ q m) → all p (rising i n) ≡ all q (rising i n)
unfolding all rising
all_same p q i zero f = refl
all_same p q i (suc n) f = rw (f i (omega arith) (omega arith), all_same p q (suc i) n (λ m l h. f m (omega arith) (omega arith)))

pub all-below-same : (p q : ℕ → Bool) (n : ℕ) → ((m : ℕ) → m < n → p m ≡ q m) → all p (below n) ≡ all q (below n)
unfolding below
all-below-same p q n f = all_same p q 0 n (λ m l h. f m (omega arith))

-- The numbers up to l.
pub below_suc : (l : ℕ) → below (suc l) ≡ below l ++ l ∷ []
unfolding below rising
below_suc l =
    let e : suc l ≡ l + 1 = omega arith in
    ap (rising 0) e ∙ rising-append 0 l 1 ∙ ap (λ (n : ℕ). rising 0 l ++ n ∷ []) (zero-add l)

-- Of no number nothing holds.
no_numbers : (q : ℕ → Bool) → 0 ≡ count_of q (below 0)
unfolding count_of below rising
no_numbers q = refl

-- How many numbers below n meet a condition, in the two ways of saying it.
pub how_many-count_of : (p q : ℕ → Bool) (n : ℕ) → ((i : ℕ) → i < n → p i ≡ q i) → how_many n p ≡ count_of q (below n)
unfolding how_many count_of
how_many-count_of p q zero f = no_numbers q
how_many-count_of p q (suc n) f =
    rw (f n (omega arith), how_many-count_of p q n (λ i h. f i (omega arith)), below_suc n, count_of-append q (below n) (n ∷ []))
    (omega arith)
