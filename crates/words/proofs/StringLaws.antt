-- Strings of bits in words: bits moved up, and the 64 bits from any bit of a list of bytes on.
use mathlib.Core.Path.{◌≡◌, sym, ap, ap₂, ◌∙◌}
use mathlib.Core.Bool.{false, ◌||◌, or-false}
use mathlib.Core.List.{List}
use mathlib.Core.Logic.{◌⊎◌, inl, inr}
use Prim.Native.Nat.{ℕ, zero, suc, ◌+◌, ◌-◌, ◌*◌, ◌/◌, ◌%◌, ◌^◌, ◌≤◌, ◌<◌}
use native.Mathlib.Nat.{mod-lt}
use native.Mathlib.Omega.{arith}
use lib.Bits.{bit_or, or_lt, shifted_even, shifted_half}
use lib.Dec.{eqb}
use lib.Pow.{shl-shr, shr_le, pow_pos}
use Rattle.words.specs.Bits.{test_bit, bits_where}
use Rattle.words.specs.Bytes.{AreBytes}
use Rattle.words.specs.Number.{number_at}
use Rattle.words.specs.Sets.{member}
use Rattle.words.proofs.Bit.{bits-same, bits_where-lt, test_bit-above, test_bit-bits_where, test_bit-first, test_bit-low, test_bit-next, test_bit-or, test_bit-shift}
use Rattle.words.proofs.Cases.{le_or_lt}
use Rattle.words.proofs.Member.{member-word, word_lt}

-- ---- bits moved up

-- A bit moved up k places stands k places higher.
pub test_bit-up : (a k i : ℕ) → test_bit (a * 2 ^ k) (k + i) ≡ test_bit a i
test_bit-up a k i = test_bit-shift (a * 2 ^ k) k i ∙ ap (λ (x : ℕ). test_bit x i) (shl-shr a k)

-- The places below are empty.
pub test_bit-under : (a k i : ℕ) → i < k → test_bit (a * 2 ^ k) i ≡ false
test_bit-under a zero i h = absurd (omega arith)
test_bit-under a (suc k) zero h = test_bit-first (a * 2 ^ suc k) ∙ ap (λ (x : ℕ). eqb x 1) (shifted_even a k)
test_bit-under a (suc k) (suc i) h =
    test_bit-next (a * 2 ^ suc k) i ∙ ap (λ (x : ℕ). test_bit x i) (shifted_half a k) ∙ test_bit-under a k i (omega arith)

-- The words of a list of bytes from bit `at` on.
module _ (low high k : ℕ) (small : k < 64) (fits : low < 2 ^ 64) where
  abbrev moved : ℕ
  moved = high * 2 ^ 1 % 2 ^ 64 * 2 ^ (63 - k) % 2 ^ 64

  -- The bits of the next word stand behind those that are left of the first.
  moved-behind : (i : ℕ) → 64 ≤ k + i → i < 64 → test_bit moved i ≡ test_bit high (k + i - 64)
  moved-behind i l h =
      let e : i ≡ 63 - k + (1 + (k + i - 64)) = omega arith in
      test_bit-low (high * 2 ^ 1 % 2 ^ 64 * 2 ^ (63 - k)) 64 i h
      ∙ ap (test_bit (high * 2 ^ 1 % 2 ^ 64 * 2 ^ (63 - k))) e
      ∙ test_bit-up (high * 2 ^ 1 % 2 ^ 64) (63 - k) (1 + (k + i - 64))
      ∙ test_bit-low (high * 2 ^ 1) 64 (1 + (k + i - 64)) (omega arith)
      ∙ test_bit-up high 1 (k + i - 64)

  -- None stands before.
  moved_before : (i : ℕ) → k + i < 64 → test_bit moved i ≡ false
  moved_before i l = test_bit-low (high * 2 ^ 1 % 2 ^ 64 * 2 ^ (63 - k)) 64 i (omega arith) ∙ go (le_or_lt (63 - k) i)
    where
      go : (63 - k ≤ i) ⊎ (i < 63 - k) → test_bit (high * 2 ^ 1 % 2 ^ 64 * 2 ^ (63 - k)) i ≡ false
      go (inl q) =
          let e : i ≡ 63 - k + 0 = omega arith in
          ap (test_bit (high * 2 ^ 1 % 2 ^ 64 * 2 ^ (63 - k))) e
          ∙ test_bit-up (high * 2 ^ 1 % 2 ^ 64) (63 - k) 0
          ∙ test_bit-low (high * 2 ^ 1) 64 0 (omega arith)
          ∙ test_bit-under high 1 0 (omega arith)
      go (inr q) = test_bit-under (high * 2 ^ 1 % 2 ^ 64) (63 - k) i q

  -- Both together.
  joined-before : (i : ℕ) → k + i < 64 → test_bit (bit_or (low / 2 ^ k) moved) i ≡ test_bit low (k + i)
  joined-before i l =
      test_bit-or (low / 2 ^ k) moved i ∙ ap₂ ◌||◌ (sym (test_bit-shift low k i)) (moved_before i l) ∙ or-false (test_bit low (k + i))

  joined-behind : (i : ℕ) → 64 ≤ k + i → i < 64 → test_bit (bit_or (low / 2 ^ k) moved) i ≡ test_bit high (k + i - 64)
  joined-behind i l h =
      test_bit-or (low / 2 ^ k) moved i ∙ ap₂ ◌||◌ (sym (test_bit-shift low k i) ∙ test_bit-above low 64 (k + i) fits l) (moved-behind i l h)

  joined-lt : bit_or (low / 2 ^ k) moved < 2 ^ 64
  joined-lt = or_lt 64 (low / 2 ^ k) moved (omega (arith, shr_le low k)) (mod-lt _ (pow_pos 64))

-- The 64 bits from bit `at` on, as code joins them from two words.
pub bits-joined : (s : List ℕ) (at low high : ℕ) → AreBytes s → low ≡ number_at 8 s (at / 64 * 8) → high ≡ number_at 8 s (at / 64 * 8 + 8)
    → bit_or (low / 2 ^ (at % 64)) (high * 2 ^ 1 % 2 ^ 64 * 2 ^ (63 - at % 64) % 2 ^ 64) ≡ bits_where 64 (λ i. member s (at + i))
bits-joined s at low high h p q =
    bits-same 64 _ _ (joined-lt low high (at % 64) (omega arith) fits) (bits_where-lt 64 (λ i. member s (at + i)))
    (λ i l. go i l (le_or_lt 64 (at % 64 + i)) ∙ sym (test_bit-bits_where 64 (λ i. member s (at + i)) i l))
  where
    fits : low < 2 ^ 64
    fits = rw p (word_lt s (at / 64 * 8) h)

    word : ℕ
    word = bit_or (low / 2 ^ (at % 64)) (high * 2 ^ 1 % 2 ^ 64 * 2 ^ (63 - at % 64) % 2 ^ 64)

    go : (i : ℕ) → i < 64 → (64 ≤ at % 64 + i) ⊎ (at % 64 + i < 64) → test_bit word i ≡ member s (at + i)
    go i l (inl b) =
        let e : at + i ≡ (at / 64 + 1) * 64 + (at % 64 + i - 64) = omega arith in
        let f : (at / 64 + 1) * 8 ≡ at / 64 * 8 + 8 = omega arith in
        joined-behind low high (at % 64) (omega arith) fits i b l
        ∙ ap (λ (w : ℕ). test_bit w (at % 64 + i - 64)) (q ∙ ap (number_at 8 s) (sym f))
        ∙ sym (member-word s (at / 64 + 1) (at % 64 + i - 64) (omega arith)) ∙ ap (member s) (sym e)
    go i l (inr b) =
        let e : at + i ≡ at / 64 * 64 + (at % 64 + i) = omega arith in
        joined-before low high (at % 64) (omega arith) fits i b
        ∙ ap (λ (w : ℕ). test_bit w (at % 64 + i)) p
        ∙ sym (member-word s (at / 64) (at % 64 + i) b) ∙ ap (member s) (sym e)
