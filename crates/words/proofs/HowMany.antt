-- How many numbers below n meet a condition.
use mathlib.Core.Path.{◌≡◌, refl, sym, ap, ap₂, ◌∙◌}
use mathlib.Core.Bool.{Bool, true, false, cond}
use mathlib.Core.Logic.{◌⊎◌, inl, inr}
use Prim.Native.Nat.{ℕ, zero, suc, ◌+◌, ◌/◌, ◌%◌, ◌^◌, ◌≤◌, ◌<◌}
use native.Mathlib.Nat.{add-zero, add-suc, pow-succ'}
use native.Mathlib.Numerals.{one-add}
use native.Mathlib.Omega.{arith}
use lib.Dec.{eqb}
use lib.Count.{ones, ones_step, ones-le}
use Rattle.words.specs.Bits.{test_bit}
use Rattle.words.specs.Sets.{how_many}
use Rattle.words.proofs.Cases.{eq_or_ne}
use Rattle.words.proofs.Bit.{test_bit-first, test_bit-next}

-- Conditions that agree below n are met as often.
pub how_many-cong : (n : ℕ) (p q : ℕ → Bool) → ((i : ℕ) → i < n → p i ≡ q i) → how_many n p ≡ how_many n q
unfolding how_many
how_many-cong zero p q h = refl
how_many-cong (suc n) p q h = rw (h n (omega arith), how_many-cong n p q (λ i l. h i (omega arith)))

-- The first n numbers and the m after them are counted apart.
pub how_many-add : (n m : ℕ) (p : ℕ → Bool) → how_many (n + m) p ≡ how_many n p + how_many m (λ i. p (n + i))
unfolding how_many
how_many-add n zero p = rw (add-zero, add-zero)
how_many-add n (suc m) p = rw (add-suc n m, how_many-add n m p) (omega arith)

pub how_many-le : (n : ℕ) (p : ℕ → Bool) → how_many n p ≤ n
unfolding how_many
how_many-le zero p = omega arith
how_many-le (suc n) p = go (p n) (how_many-le n p)
  where
    go : (b : Bool) → how_many n p ≤ n → cond b 1 0 + how_many n p ≤ suc n
    go true h = omega arith
    go false h = omega arith

-- None is met: the count is 0.
pub how_many-none : (n : ℕ) (p : ℕ → Bool) → ((i : ℕ) → i < n → p i ≡ false) → how_many n p ≡ 0
unfolding how_many
how_many-none zero p h = refl
how_many-none (suc n) p h = rw (h n (omega arith), how_many-none n p (λ i l. h i (omega arith)))

-- One more number meets q than p: the count is one more.
pub how_many-more : (n m : ℕ) (p q : ℕ → Bool) → m < n → ((i : ℕ) → (i ≡ m → ⊥) → q i ≡ p i) → p m ≡ false → q m ≡ true → how_many n q ≡ how_many n p + 1
unfolding how_many
how_many-more zero m p q l h e f = absurd (omega arith)
how_many-more (suc n) m p q l h e f = go (eq_or_ne n m) (λ (k : m < n). how_many-more n m p q k h e f)
  where
    go : (n ≡ m) ⊎ (n ≡ m → ⊥) → (m < n → how_many n q ≡ how_many n p + 1) → how_many (suc n) q ≡ how_many (suc n) p + 1
    go (inl d) rest =
        let qn : q n ≡ true = ap q d ∙ f in
        let pn : p n ≡ false = ap p d ∙ e in
        rw (qn, pn, how_many-cong n q p (λ i k. h i (λ (x : i ≡ m). omega arith))) (omega arith)
    go (inr d) rest = rw (h n d, rest (omega arith)) (omega arith)

-- A digit is how often its test is met.
digit_count : (x : ℕ) → x < 2 → cond (eqb x 1) 1 0 ≡ x
digit_count zero h = refl
digit_count (suc zero) h = refl
digit_count (suc (suc x)) h = absurd (omega arith)

-- The digits set in a number of n bits are its bits that are set.
pub how_many-bits : (n w : ℕ) → w < 2 ^ n → how_many n (test_bit w) ≡ ones w
unfolding how_many
how_many-bits zero w h = omega (arith, ones-le 0 w h)
how_many-bits (suc n) w h =
    let first : cond (test_bit w 0) 1 0 + 0 ≡ w % 2 = rw (test_bit-first, add-zero) (digit_count (w % 2) (omega arith)) in
    let rest : how_many n (λ i. test_bit w (1 + i)) ≡ ones (w / 2) =
    how_many-cong n (λ i. test_bit w (1 + i)) (test_bit (w / 2)) (λ i l. rw one-add (test_bit-next w i))
    ∙ how_many-bits n (w / 2) (omega (arith, pow-succ' 2 n)) in
    ap (λ (k : ℕ). how_many k (test_bit w)) (sym (one-add n)) ∙ how_many-add 1 n (test_bit w)
    ∙ ap₂ (λ (x y : ℕ). x + y) first rest ∙ sym (ones_step w)
