-- Bits of a number: one law each, at every width.
use mathlib.Core.Path.{◌≡◌, refl, sym, ap, ap₂, ◌∙◌, subst}
use mathlib.Core.Bool.{Bool, true, false, cond, not, ◌&&◌, ◌||◌, and-true, and-false, or-true, or-false}
use mathlib.Core.Logic.{◌⊎◌, inl, inr}
use Prim.Native.Nat.{ℕ, zero, suc, ◌+◌, ◌-◌, ◌*◌, ◌/◌, ◌%◌, ◌^◌, ◌≤◌, ◌<◌, min, max}
use native.Mathlib.Nat.{mod-eq_of_lt, zero-div, div-one, zero-add, div-eq_of_lt, pow-succ', lt_of_lt_of_le, one-mul}
use native.Mathlib.Omega.{arith}
use native.Mathlib.Numerals.{one-add, add-one}
use lib.Dec.{eqb, eqb-suc-suc, eqb-suc-zero, eqb-zero-suc}
use lib.Arith.{digits_mod}
use lib.Pow.{pow_mono, pow-lt, shr-shr, field, mod-mod-pow}
use lib.Bits.{bit_and, bit_or, bit_xor, differ, and_step, or_step, xor_step, and_shr, or_shr, xor_shr, or_lt, or_add_and, or_disjoint, or_zero_r, or_shifted_r, and_mask}
use borrow.Author.Tests.{eqb-true, eqb-false, eq-eqb, ne_eqb}
use Rattle.words.specs.Bits.{test_bit, bits_where, with_bit, without_bit, assigned_bit}
use Rattle.words.proofs.Cases.{le_or_lt, eq_or_ne}

-- ---- where a bit stands

-- No bit of 0 is set.
pub test_bit-none : (i : ℕ) → test_bit 0 i ≡ false
unfolding test_bit
test_bit-none i = rw zero-div

-- The lowest bit.
pub test_bit-first : (w : ℕ) → test_bit w 0 ≡ eqb (w % 2) 1
unfolding test_bit
test_bit-first w = rw div-one

-- A bit from place k on is a bit of what is left after k places are shifted out.
pub test_bit-shift : (w k i : ℕ) → test_bit w (k + i) ≡ test_bit (w / 2 ^ k) i
unfolding test_bit
test_bit-shift w k i = rw shr-shr

-- The bits above the lowest are those of the half.
pub test_bit-next : (w i : ℕ) → test_bit w (suc i) ≡ test_bit (w / 2) i
test_bit-next w i = rw (← (one-add i)) (test_bit-shift w 1 i)

-- The bits below place n are those of the rest by 2 ^ n.
pub test_bit-low : (w n i : ℕ) → i < n → test_bit (w % 2 ^ n) i ≡ test_bit w i
unfolding test_bit
test_bit-low w n i h =
    let e : n ≡ (n - suc i) + (1 + i) = omega arith in
    let same : w % 2 ^ n % 2 ^ (1 + i) ≡ w % 2 ^ (1 + i) =
    subst (λ (k : ℕ). w % 2 ^ k % 2 ^ (1 + i) ≡ w % 2 ^ (1 + i)) (sym e) (mod-mod-pow w (n - suc i) (1 + i)) in
    ap (λ (x : ℕ). eqb x 1) (sym (field (w % 2 ^ n) 1 i) ∙ ap (λ (x : ℕ). x / 2 ^ i) same ∙ field w 1 i)

-- A number below 2 ^ n has no bit at or above place n.
pub test_bit-above : (w n i : ℕ) → w < 2 ^ n → n ≤ i → test_bit w i ≡ false
unfolding test_bit
test_bit-above w n i h l = rw (div-eq_of_lt {n = w} {m = 2 ^ i} (lt_of_lt_of_le h (pow_mono l)))

-- ---- the same bits, the same number

-- A digit is told by its test.
digit_same : (x y : ℕ) → x < 2 → y < 2 → eqb x 1 ≡ eqb y 1 → x ≡ y
digit_same x y hx hy e = go (eq_or_ne y 1)
  where
    go : (y ≡ 1) ⊎ (y ≡ 1 → ⊥) → x ≡ y
    go (inl q) = eqb-true x 1 (e ∙ eq-eqb y 1 q) ∙ sym q
    go (inr q) =
        let p : x ≡ 1 → ⊥ = eqb-false x 1 (e ∙ ne_eqb y 1 q) in
        omega arith

-- Two numbers below 2 ^ n with the same bits are equal.
pub bits-same : (n a b : ℕ) → a < 2 ^ n → b < 2 ^ n → ((i : ℕ) → i < n → test_bit a i ≡ test_bit b i) → a ≡ b
bits-same zero a b ha hb h = omega arith
bits-same (suc n) a b ha hb h =
    let p : 2 ^ suc n ≡ 2 * 2 ^ n = pow-succ' 2 n in
    let low : a % 2 ≡ b % 2 =
    digit_same (a % 2) (b % 2) (omega arith) (omega arith) (sym (test_bit-first a) ∙ h 0 (omega arith) ∙ test_bit-first b) in
    let rest : a / 2 ≡ b / 2 =
    bits-same n (a / 2) (b / 2) (omega arith) (omega arith)
    (λ i l. sym (test_bit-next a i) ∙ h (suc i) (omega arith) ∙ test_bit-next b i) in
    omega arith

-- A number is below its power of two.
pub lt_pow : (n : ℕ) → n < 2 ^ n
lt_pow zero = omega arith
lt_pow (suc n) = omega (arith, pow-succ' 2 n, lt_pow n)

-- Two numbers with the same bits are equal, at no width.
pub bits-all : (a b : ℕ) → ((i : ℕ) → test_bit a i ≡ test_bit b i) → a ≡ b
bits-all a b h =
    bits-same (a + b) a b (lt_of_lt_of_le (lt_pow a) (pow_mono (omega arith))) (lt_of_lt_of_le (lt_pow b) (pow_mono (omega arith)))
    (λ i l. h i)

-- ---- AND and OR, bit by bit

-- What holds of the four pairs of digits holds of all.
digits : (P : ℕ → ℕ → Type 0) → P 0 0 → P 0 1 → P 1 0 → P 1 1 → (x y : ℕ) → x < 2 → y < 2 → P x y
digits P a b c d zero zero hx hy = a
digits P a b c d zero (suc zero) hx hy = b
digits P a b c d (suc zero) zero hx hy = c
digits P a b c d (suc zero) (suc zero) hx hy = d
digits P a b c d zero (suc (suc y)) hx hy = absurd (omega arith)
digits P a b c d (suc zero) (suc (suc y)) hx hy = absurd (omega arith)
digits P a b c d (suc (suc x)) y hx hy = absurd (omega arith)

-- An operation on digits is a digit, and its test is g of the digits' tests.
abbrev Acts : (ℕ → ℕ → ℕ) → (Bool → Bool → Bool) → ℕ → ℕ → Type 0
Acts f g x y = (f x y < 2) × (eqb (f x y) 1 ≡ g (eqb x 1) (eqb y 1))

module _ (op f : ℕ → ℕ → ℕ) (g : Bool → Bool → Bool)
    (shr : (a b k : ℕ) → op a b / 2 ^ k ≡ op (a / 2 ^ k) (b / 2 ^ k))
    (step : (a b : ℕ) → op a b ≡ op (a / 2) (b / 2) * 2 + f (a % 2) (b % 2))
    (acts : (x y : ℕ) → x < 2 → y < 2 → Acts f g x y) where
  test_bit-op : (a b i : ℕ) → test_bit (op a b) i ≡ g (test_bit a i) (test_bit b i)
  unfolding test_bit
  test_bit-op a b i =
      let x : ℕ = a / 2 ^ i in
      let y : ℕ = b / 2 ^ i in
      let both : Acts f g (x % 2) (y % 2) = acts (x % 2) (y % 2) (omega arith) (omega arith) in
      let digit : op x y % 2 ≡ f (x % 2) (y % 2) =
      ap (λ (z : ℕ). z % 2) (step x y) ∙ digits_mod (op (x / 2) (y / 2)) both.0 in
      ap (λ (z : ℕ). eqb (z % 2) 1) (shr a b i) ∙ ap (λ (z : ℕ). eqb z 1) digit ∙ both.1

-- A bit of an AND is set where both are, and of an OR where one is.
pub test_bit-and : (a b i : ℕ) → test_bit (bit_and a b) i ≡ test_bit a i && test_bit b i
test_bit-and =
    test_bit-op bit_and min ◌&&◌ and_shr and_step
    (digits (Acts min ◌&&◌) (omega arith, refl) (omega arith, refl) (omega arith, refl) (omega arith, refl))

pub test_bit-or : (a b i : ℕ) → test_bit (bit_or a b) i ≡ test_bit a i || test_bit b i
test_bit-or =
    test_bit-op bit_or max ◌||◌ or_shr or_step
    (digits (Acts max ◌||◌) (omega arith, refl) (omega arith, refl) (omega arith, refl) (omega arith, refl))

-- A bit of an exclusive OR is set where exactly one is.
pub test_bit-xor : (a b i : ℕ) → test_bit (bit_xor a b) i ≡ cond (test_bit a i) (not (test_bit b i)) (test_bit b i)
test_bit-xor =
    test_bit-op bit_xor differ (λ (x y : Bool). cond x (not y) y) xor_shr xor_step
    (digits (Acts differ (λ (x y : Bool). cond x (not y) y)) (omega arith, refl) (omega arith, refl) (omega arith, refl) (omega arith, refl))

-- ---- a power of two, and the complement

-- The one bit of 2 ^ i is bit i.
pub test_bit-pow : (i j : ℕ) → test_bit (2 ^ i) j ≡ eqb i j
test_bit-pow zero zero = test_bit-first 1
test_bit-pow zero (suc j) = test_bit-next 1 j ∙ test_bit-none j ∙ sym (eqb-zero-suc j)
test_bit-pow (suc i) zero =
    let e : 2 ^ suc i ≡ 2 * 2 ^ i = pow-succ' 2 i in
    let even : 2 ^ suc i % 2 ≡ 0 = omega arith in
    test_bit-first (2 ^ suc i) ∙ ap (λ (x : ℕ). eqb x 1) even ∙ sym (eqb-suc-zero i)
test_bit-pow (suc i) (suc j) =
    let e : 2 ^ suc i ≡ 2 * 2 ^ i = pow-succ' 2 i in
    let half : 2 ^ suc i / 2 ≡ 2 ^ i = omega arith in
    test_bit-next (2 ^ suc i) j ∙ ap (λ (x : ℕ). test_bit x j) half ∙ test_bit-pow i j ∙ sym (eqb-suc-suc i j)

-- The other digit.
digit_not : (x : ℕ) → x < 2 → eqb (1 - x) 1 ≡ not (eqb x 1)
digit_not zero h = refl
digit_not (suc zero) h = refl
digit_not (suc (suc x)) h = absurd (omega arith)

-- What is left to the largest number of n bits (`!b` in code) has the other bits.
pub test_bit-not : (n b i : ℕ) → b < 2 ^ n → i < n → test_bit (2 ^ n - 1 - b) i ≡ not (test_bit b i)
test_bit-not zero b i hb hi = absurd (omega arith)
test_bit-not (suc n) b zero hb hi =
    let e : 2 ^ suc n ≡ 2 * 2 ^ n = pow-succ' 2 n in
    let digit : (2 ^ suc n - 1 - b) % 2 ≡ 1 - b % 2 = omega arith in
    test_bit-first (2 ^ suc n - 1 - b) ∙ ap (λ (x : ℕ). eqb x 1) digit
    ∙ digit_not (b % 2) (omega arith) ∙ ap not (sym (test_bit-first b))
test_bit-not (suc n) b (suc i) hb hi =
    let e : 2 ^ suc n ≡ 2 * 2 ^ n = pow-succ' 2 n in
    let half : (2 ^ suc n - 1 - b) / 2 ≡ 2 ^ n - 1 - b / 2 = omega arith in
    test_bit-next (2 ^ suc n - 1 - b) i ∙ ap (λ (x : ℕ). test_bit x i) half
    ∙ test_bit-not n (b / 2) i (omega arith) (omega arith) ∙ ap not (sym (test_bit-next b i))

-- AND with a complement takes away (`a & !b` in code).
pub test_bit-and_not : (n a b i : ℕ) → a < 2 ^ n → b < 2 ^ n → test_bit (bit_and a (2 ^ n - 1 - b)) i ≡ test_bit a i && not (test_bit b i)
test_bit-and_not n a b i ha hb = test_bit-and a (2 ^ n - 1 - b) i ∙ go (le_or_lt n i)
  where
    go : (n ≤ i) ⊎ (i < n) → test_bit a i && test_bit (2 ^ n - 1 - b) i ≡ test_bit a i && not (test_bit b i)
    go (inl h) = rw (test_bit-above a n i ha h)
    go (inr h) = rw (test_bit-not n b i hb h)

-- ---- one bit set, one bit cleared

-- A test of one place, and of every other.
at_one : (P : ℕ → Bool) (i j : ℕ) → P j && eqb i j ≡ P i && eqb i j
at_one P i j = go (eq_or_ne i j)
  where
    go : (i ≡ j) ⊎ (i ≡ j → ⊥) → P j && eqb i j ≡ P i && eqb i j
    go (inl e) = ap (λ (k : ℕ). P k && eqb i j) (sym e)
    go (inr e) = rw (ne_eqb i j e) (and-false (P j) ∙ sym (and-false (P i)))

-- The bits of 2 ^ i or of 0.
test_bit-power_or_none : (b : Bool) (i j : ℕ) → test_bit (cond b (2 ^ i) 0) j ≡ b && eqb i j
test_bit-power_or_none true i j = test_bit-pow i j
test_bit-power_or_none false i j = test_bit-none j

-- AND with 2 ^ i keeps bit i alone.
pub and_pow : (w i : ℕ) → bit_and w (2 ^ i) ≡ cond (test_bit w i) (2 ^ i) 0
and_pow w i =
    bits-all (bit_and w (2 ^ i)) (cond (test_bit w i) (2 ^ i) 0)
    (λ j. test_bit-and w (2 ^ i) j ∙ ap (λ (b : Bool). test_bit w j && b) (test_bit-pow i j)
    ∙ at_one (test_bit w) i j ∙ sym (test_bit-power_or_none (test_bit w i) i j))

-- OR with 2 ^ i sets bit i (`w | (1 << i)` in code).
pub or_pow : (w i : ℕ) → bit_or w (2 ^ i) ≡ with_bit w i
unfolding with_bit
or_pow w i = go (test_bit w i) (rw (and_pow w i) at (or_add_and w (2 ^ i)))
  where
    go : (b : Bool) → bit_or w (2 ^ i) + cond b (2 ^ i) 0 ≡ w + 2 ^ i → bit_or w (2 ^ i) ≡ cond b w (w + 2 ^ i)
    go true e = omega arith
    go false e = omega arith

-- Bit i is set, and every other bit is as it was.
pub test_bit-with : (w i j : ℕ) → test_bit (with_bit w i) j ≡ test_bit w j || eqb i j
test_bit-with w i j = rw (← or_pow) (test_bit-or w (2 ^ i) j ∙ ap (λ (b : Bool). test_bit w j || b) (test_bit-pow i j))

-- A bit set below place n keeps the number below 2 ^ n.
pub with_bit-lt : (n w i : ℕ) → w < 2 ^ n → i < n → with_bit w i < 2 ^ n
with_bit-lt n w i h l = rw (← or_pow) (or_lt n w (2 ^ i) h (pow-lt l))

-- Taking bit e away, and putting it back.
taken : (a e : Bool) → (e ≡ true → a ≡ false) → a && not e ≡ a
taken true true h = sym (h refl)
taken true false h = refl
taken false e h = refl

put_back : (a e : Bool) → (e ≡ true → a ≡ true) → (a && not e) || e ≡ a
put_back true true h = refl
put_back true false h = refl
put_back false true h = sym (h refl)
put_back false false h = refl

-- AND with all bits of n but bit i clears bit i (`w & !(1 << i)` in code).
abbrev cleared : ℕ → ℕ → ℕ → ℕ
cleared n w i = bit_and w (2 ^ n - 1 - 2 ^ i)

module _ (n w i : ℕ) (h : w < 2 ^ n) (l : i < n) where
  test_bit-cleared : (j : ℕ) → test_bit (cleared n w i) j ≡ test_bit w j && not (eqb i j)
  test_bit-cleared j =
      test_bit-and_not n w (2 ^ i) j h (pow-lt l) ∙ ap (λ (b : Bool). test_bit w j && not b) (test_bit-pow i j)

  pub and_not_pow : cleared n w i ≡ without_bit w i
  unfolding without_bit
  and_not_pow = go (test_bit w i) refl
    where
      at_i : (b : Bool) → test_bit w i ≡ b → (j : ℕ) → eqb i j ≡ true → test_bit w j ≡ b
      at_i b e j q = subst (λ (k : ℕ). test_bit w k ≡ b) (eqb-true i j q) e

      none_left : bit_and (cleared n w i) (2 ^ i) ≡ 0
      none_left =
          and_pow (cleared n w i) i
          ∙ ap (λ (b : Bool). cond b (2 ^ i) 0)
          (test_bit-cleared i ∙ ap (λ (b : Bool). test_bit w i && not b) (eq-eqb i i refl) ∙ and-false (test_bit w i))

      go : (b : Bool) → test_bit w i ≡ b → (cleared n w i) ≡ cond b (w - 2 ^ i) w
      go true e =
          let whole : bit_or (cleared n w i) (2 ^ i) ≡ w = bits-all (bit_or (cleared n w i) (2 ^ i)) w
          (λ j. test_bit-or (cleared n w i) (2 ^ i) j ∙ ap₂ (λ (a b : Bool). a || b) (test_bit-cleared j) (test_bit-pow i j)
          ∙ put_back (test_bit w j) (eqb i j) (at_i true e j)) in
          omega (arith, or_disjoint (cleared n w i) (2 ^ i) none_left)
      go false e = bits-all (cleared n w i) w (λ j. test_bit-cleared j ∙ taken (test_bit w j) (eqb i j) (at_i false e j))

-- Bit i is clear, and every other bit is as it was.
pub test_bit-without : (w i j : ℕ) → test_bit (without_bit w i) j ≡ test_bit w j && not (eqb i j)
test_bit-without w i j =
    let n : ℕ = w + suc i in
    let h : w < 2 ^ n = lt_of_lt_of_le (lt_pow w) (pow_mono (omega arith)) in
    let l : i < n = omega arith in
    rw (← (and_not_pow n w i h l)) (test_bit-cleared n w i h l j)

-- A bit cleared makes no number larger.
pub without_bit-le : (w i : ℕ) → without_bit w i ≤ w
unfolding without_bit
without_bit-le w i = go (test_bit w i)
  where
    go : (b : Bool) → cond b (w - 2 ^ i) w ≤ w
    go true = omega arith
    go false = omega arith

-- ---- the same by place: at i, and at every other

pub test_bit-with_same : (w i : ℕ) → test_bit (with_bit w i) i ≡ true
test_bit-with_same w i = rw (test_bit-with, eq-eqb i i refl) (or-true (test_bit w i))

pub test_bit-with_other : (w i j : ℕ) → (i ≡ j → ⊥) → test_bit (with_bit w i) j ≡ test_bit w j
test_bit-with_other w i j h = rw (test_bit-with, ne_eqb i j h) (or-false (test_bit w j))

pub test_bit-without_same : (w i : ℕ) → test_bit (without_bit w i) i ≡ false
test_bit-without_same w i = rw (test_bit-without, eq-eqb i i refl) (and-false (test_bit w i))

pub test_bit-without_other : (w i j : ℕ) → (i ≡ j → ⊥) → test_bit (without_bit w i) j ≡ test_bit w j
test_bit-without_other w i j h = rw (test_bit-without, ne_eqb i j h) (and-true (test_bit w j))

-- ---- the number with given bits

-- It has no bit at or above place n.
pub bits_where-lt : (n : ℕ) (p : ℕ → Bool) → bits_where n p < 2 ^ n
unfolding bits_where
bits_where-lt zero p = omega arith
bits_where-lt (suc n) p = go (p n) (bits_where-lt n p)
  where
    go : (b : Bool) → bits_where n p < 2 ^ n → cond b (2 ^ n) 0 + bits_where n p < 2 ^ suc n
    go true h = omega (arith, pow-succ' 2 n)
    go false h = omega (arith, pow-succ' 2 n)

-- One bit more, as a loop sets it.
pub bits_where-more : (n : ℕ) (p : ℕ → Bool) → bits_where (suc n) p ≡ bit_or (bits_where n p) (cond (p n) (2 ^ n) 0)
unfolding bits_where
bits_where-more n p = go (p n)
  where
    go : (b : Bool) → cond b (2 ^ n) 0 + bits_where n p ≡ bit_or (bits_where n p) (cond b (2 ^ n) 0)
    go true = sym (rw one-mul at (or_shifted_r 1 n (bits_where n p) (bits_where-lt n p)))
    go false = zero-add (bits_where n p) ∙ sym (or_zero_r (bits_where n p))

-- Bit i is set where the condition holds of i.
pub test_bit-bits_where : (n : ℕ) (p : ℕ → Bool) (i : ℕ) → i < n → test_bit (bits_where n p) i ≡ p i
test_bit-bits_where zero p i h = absurd (omega arith)
test_bit-bits_where (suc n) p i h =
    rw (bits_where-more, test_bit-or, test_bit-power_or_none) (go (eq_or_ne n i) (test_bit-bits_where n p i))
  where
    go : (n ≡ i) ⊎ (n ≡ i → ⊥) → (i < n → test_bit (bits_where n p) i ≡ p i) → test_bit (bits_where n p) i || (p n && eqb n i) ≡ p i
    go (inl e) ih = rw (test_bit-above (bits_where n p) n i (bits_where-lt n p) (omega arith), eq-eqb n i e, e) (and-true (p i))
    go (inr e) ih = rw (ih (omega arith), ne_eqb n i e, and-false) (or-false (p i))

-- Conditions that agree below n give the same number.
pub bits_where-cong : (n : ℕ) (p q : ℕ → Bool) → ((i : ℕ) → i < n → p i ≡ q i) → bits_where n p ≡ bits_where n q
unfolding bits_where
bits_where-cong zero p q h = refl
bits_where-cong (suc n) p q h = rw (h n (omega arith), bits_where-cong n p q (λ i l. h i (omega arith)))

-- A number below 2 ^ n is given by its own bits.
pub bits_where-test_bit : (n w : ℕ) → w < 2 ^ n → bits_where n (test_bit w) ≡ w
bits_where-test_bit n w h = bits-same n (bits_where n (test_bit w)) w (bits_where-lt n (test_bit w)) h (λ i l. test_bit-bits_where n (test_bit w) i l)

-- ---- as code writes it

-- A 1 shifted to place i of n.
pub one_shifted : (n i : ℕ) → i < n → 1 * 2 ^ i % 2 ^ n ≡ 2 ^ i
one_shifted n i h = rw one-mul (mod-eq_of_lt (pow-lt h))

-- The test of the lowest bit after a shift.
pub shifted_test : (w i : ℕ) → eqb (bit_and (w / 2 ^ i) 1) 1 ≡ test_bit w i
unfolding test_bit
shifted_test w i = ap (λ (x : ℕ). eqb x 1) (and_mask (w / 2 ^ i) 1)

-- No bit is none.
pub bits_where-none : (p : ℕ → Bool) → bits_where 0 p ≡ 0
unfolding bits_where
bits_where-none p = refl

-- The number with given bits, one bit more.
pub bits_where-next : (p : ℕ → Bool) (n : ℕ) (on : Bool) → on ≡ p n → assigned_bit on (bits_where n p) n ≡ bits_where (n + 1) p
unfolding bits_where with_bit without_bit
bits_where-next p n on e = go on e
  where
    dark : test_bit (bits_where n p) n ≡ false
    dark = test_bit-above (bits_where n p) n n (bits_where-lt n p) (omega arith)

    go : (on : Bool) → on ≡ p n → assigned_bit on (bits_where n p) n ≡ bits_where (n + 1) p
    go true q = rw (add-one, ← q, dark) (omega arith)
    go false q = rw (add-one, ← q, dark) (omega arith)
