-- The number of a refusal: n exactly if cause n holds and no earlier one does, and 0 exactly if none holds.
use mathlib.Core.Bool.{Bool, true, false, cond}
use mathlib.Core.List.{List}
use mathlib.Core.Logic.{◌⊎◌, inl, inr, ◌↔◌}
use mathlib.Core.Path.{◌≡◌, refl, sym, ap, ◌∙◌}
use Prim.Native.Nat.{ℕ, zero, suc, ◌+◌, ◌<◌, ◌≤◌}
use native.Mathlib.Nat.{eq-or-lt_of_le}
use native.Mathlib.Omega.{arith}
use lib.Dec.{eqb}
use Rattle.model.specs.Format.{cause1, cause2, cause3, cause4, cause5, cause6, cause7, refusal}

-- Cause n of the job's sender, for n from 1 to 7.
abbrev pub cause : List ℕ → ℕ → Bool
cause s n =
    cond (eqb n 1) (cause1 s)
    (cond (eqb n 2) (cause2 s)
    (cond (eqb n 3) (cause3 s)
    (cond (eqb n 4) (cause4 s)
    (cond (eqb n 5) (cause5 s)
    (cond (eqb n 6) (cause6 s)
    (cond (eqb n 7) (cause7 s) false))))))

-- Cause n holds and no earlier one does.
pub record FirstCause (s : List ℕ) (n : ℕ) : Type 0 where
  pub holds : cause s n ≡ true
  pub earlier : (m : ℕ) → 1 ≤ m → m < n → cause s m ≡ false

-- The first of the k numbers from i on of which the test holds, and 0 if it holds of none.
first_of : (ℕ → Bool) → ℕ → ℕ → ℕ
first_of p i zero = 0
first_of p i (suc k) = cond (p i) i (first_of p (suc i) k)

refusal-first : (s : List ℕ) → refusal s ≡ first_of (cause s) 1 7
unfolding refusal first_of
refusal-first s = refl

module _ (p : ℕ → Bool) where
  -- Nothing before the number that is found holds.
  none_before : (i k n : ℕ) → 1 ≤ i → first_of p i k ≡ n → 1 ≤ n → (m : ℕ) → i ≤ m → m < n → p m ≡ false
  unfolding first_of
  none_before i zero n h e l m a b = absurd (omega arith)
  none_before i (suc k) n h e l m a b = go (p i) refl e (none_before (suc i) k n (omega arith))
    where
      go : (t : Bool) → p i ≡ t → cond t i (first_of p (suc i) k) ≡ n
          → (first_of p (suc i) k ≡ n → 1 ≤ n → (m : ℕ) → suc i ≤ m → m < n → p m ≡ false) → p m ≡ false
      go true q z ih = absurd (omega arith)
      go false q z ih = at (eq-or-lt_of_le {n = i} {m = m} a)
        where
          at : (i ≡ m) ⊎ (i < m) → p m ≡ false
          at (inl c) = ap p (sym c) ∙ q
          at (inr c) = ih z l m c b

  -- The number that is found holds.
  found-holds : (i k n : ℕ) → first_of p i k ≡ n → 1 ≤ n → p n ≡ true
  unfolding first_of
  found-holds i zero n e l = absurd (omega arith)
  found-holds i (suc k) n e l = go (p i) refl e (found-holds (suc i) k n)
    where
      go : (t : Bool) → p i ≡ t → cond t i (first_of p (suc i) k) ≡ n → (first_of p (suc i) k ≡ n → 1 ≤ n → p n ≡ true) → p n ≡ true
      go true q z ih = ap p (sym z) ∙ q
      go false q z ih = ih z l

  -- Where none is found, none holds.
  none-holds : (i k : ℕ) → 1 ≤ i → first_of p i k ≡ 0 → (m : ℕ) → i ≤ m → m < i + k → p m ≡ false
  unfolding first_of
  none-holds i zero h e m a b = absurd (omega arith)
  none-holds i (suc k) h e m a b = go (p i) refl e (none-holds (suc i) k (omega arith))
    where
      go : (t : Bool) → p i ≡ t → cond t i (first_of p (suc i) k) ≡ 0
          → (first_of p (suc i) k ≡ 0 → (m : ℕ) → suc i ≤ m → m < suc i + k → p m ≡ false) → p m ≡ false
      go true q z ih = absurd (omega arith)
      go false q z ih = at (eq-or-lt_of_le {n = i} {m = m} a)
        where
          at : (i ≡ m) ⊎ (i < m) → p m ≡ false
          at (inl c) = ap p (sym c) ∙ q
          at (inr c) = ih z m c (omega arith)

  -- The first that holds is found.
  first_found : (i k n : ℕ) → i ≤ n → n < i + k → p n ≡ true → ((m : ℕ) → i ≤ m → m < n → p m ≡ false) → first_of p i k ≡ n
  unfolding first_of
  first_found i zero n a b h e = absurd (omega arith)
  first_found i (suc k) n a b h e = go (p i) refl (first_found (suc i) k n) (eq-or-lt_of_le {n = i} {m = n} a)
    where
      go : (t : Bool) → p i ≡ t
          → (suc i ≤ n → n < suc i + k → p n ≡ true → ((m : ℕ) → suc i ≤ m → m < n → p m ≡ false) → first_of p (suc i) k ≡ n)
          → (i ≡ n) ⊎ (i < n) → cond t i (first_of p (suc i) k) ≡ n
      go true q ih (inl c) = c
      go true q ih (inr c) = let z : true ≡ false = sym q ∙ e i (omega arith) c in cc
      go false q ih (inl c) = let z : true ≡ false = sym h ∙ ap p (sym c) ∙ q in cc
      go false q ih (inr c) = ih c (omega arith) h (λ m x y. e m (omega arith) y)

  none_found : (i k : ℕ) → ((m : ℕ) → i ≤ m → m < i + k → p m ≡ false) → first_of p i k ≡ 0
  unfolding first_of
  none_found i zero e = refl
  none_found i (suc k) e = rw (e i (omega arith) (omega arith)) (none_found (suc i) k (λ m a b. e m (omega arith) (omega arith)))

-- What is found lies below the numbers that are not looked at: so no number above 7 is told of a job.
first_below : (p : ℕ → Bool) (i k : ℕ) → 1 ≤ i → first_of p i k < i + k
unfolding first_of
first_below p i zero h = omega arith
first_below p i (suc k) h = go (p i) (first_below p (suc i) k (omega arith))
  where
    go : (t : Bool) → first_of p (suc i) k < suc i + k → cond t i (first_of p (suc i) k) < i + suc k
    go true l = omega arith
    go false l = omega arith

pub refusal-most : (s : List ℕ) → refusal s ≤ 7
refusal-most s = omega (arith, refusal-first s, first_below (cause s) 1 7 (omega arith))

-- The number told is n exactly if cause n holds and no earlier one does.
pub refusal-first-cause : (s : List ℕ) (n : ℕ) → 1 ≤ n → n ≤ 7 → (refusal s ≡ n) ↔ FirstCause s n
refusal-first-cause s n a b = (
  λ e.
      let q : first_of (cause s) 1 7 ≡ n = sym (refusal-first s) ∙ e in
      record { holds = found-holds (cause s) 1 7 n q a; earlier = λ m x y. none_before (cause s) 1 7 n (omega arith) q a m x y },
  λ f. refusal-first s ∙ first_found (cause s) 1 7 n a (omega arith) f.holds f.earlier,
)

-- Nothing is told exactly if no cause holds.
pub refusal-none : (s : List ℕ) → (refusal s ≡ 0) ↔ ((m : ℕ) → 1 ≤ m → m ≤ 7 → cause s m ≡ false)
refusal-none s = (
  λ e m a b. none-holds (cause s) 1 7 (omega arith) (sym (refusal-first s) ∙ e) m a (omega arith),
  λ f. refusal-first s ∙ none_found (cause s) 1 7 (λ m a b. f m a (omega arith)),
)
