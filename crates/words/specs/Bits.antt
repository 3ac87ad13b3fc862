-- Bits of a number, and sets of numbers kept in its bits.
use Rattle.std.specs.Prelude.{Bool, true, false, cond, ℕ, zero, suc, ◌+◌, ◌-◌, ◌/◌, ◌%◌, ◌^◌, eqb}

-- Bit i of w, the lowest being bit 0, is set.
unfoldable pub test_bit : ℕ → ℕ → Bool
test_bit w i = eqb (w / 2 ^ i % 2) 1

-- The number whose bit i, for each i below n, is set exactly where p holds of i, and no other bit.
unfoldable pub bits_where : ℕ → (ℕ → Bool) → ℕ
bits_where zero p = 0
bits_where (suc n) p = cond (p n) (2 ^ n) 0 + bits_where n p

-- w with bit i set.
unfoldable pub with_bit : ℕ → ℕ → ℕ
with_bit w i = cond (test_bit w i) w (w + 2 ^ i)

-- w with bit i cleared.
unfoldable pub without_bit : ℕ → ℕ → ℕ
without_bit w i = cond (test_bit w i) (w - 2 ^ i) w

-- A change of one bit: set, or cleared.
abbrev pub assigned_bit : Bool → ℕ → ℕ → ℕ
assigned_bit true = with_bit
assigned_bit false = without_bit
