-- Sets of numbers kept in words of 64 bits, each in eight bytes, low byte first: n is bit n mod 64 of word n div 64.
use Rattle.std.specs.Prelude.{Bool, true, false, cond, List, ℕ, zero, suc, ◌+◌, ◌-◌, ◌*◌, ◌/◌, ◌%◌, replicate}
use Rattle.words.specs.Number.{number_at, with_number, filled}
use Rattle.words.specs.Bits.{test_bit, with_bit, without_bit}

-- The byte at which the word of n begins.
abbrev pub word_offset : ℕ → ℕ
word_offset n = n / 64 * 8

-- n is a member of the set that these bytes keep.
unfoldable pub member : List ℕ → ℕ → Bool
member s n = test_bit (number_at 8 s (word_offset n)) (n % 64)

-- The bytes after f changed the bit of n in its word.
unfoldable pub changed : (ℕ → ℕ → ℕ) → List ℕ → ℕ → List ℕ
changed f s n = with_number 8 s (word_offset n) (f (number_at 8 s (word_offset n)) (n % 64))

-- The bytes after n became a member.
abbrev pub with_member : List ℕ → ℕ → List ℕ
with_member s n = changed with_bit s n

-- The bytes after n ceased to be a member.
abbrev pub without_member : List ℕ → ℕ → List ℕ
without_member s n = changed without_bit s n

-- How many numbers below n meet a condition.
unfoldable pub how_many : ℕ → (ℕ → Bool) → ℕ
how_many zero p = 0
how_many (suc n) p = cond (p n) 1 0 + how_many n p

-- How many numbers below n are members.
unfoldable pub count_members : ℕ → List ℕ → ℕ
count_members n s = how_many n (member s)

-- The bytes after the first words became zero; every later byte is unchanged.
unfoldable pub cleared_words : ℕ → List ℕ → List ℕ
cleared_words words s = filled 8 (replicate words 0) s

-- The first of the n numbers from i on that meets a condition, or the number behind them where none does.
unfoldable pub first_from : (ℕ → Bool) → ℕ → ℕ → ℕ
first_from p zero i = i
first_from p (suc n) i = elim (p i) [ true ↦ i | false ↦ first_from p n (suc i) ]

-- The first member at or above i and below a limit, or the limit where there is none. (i where it is not below the limit.)
unfoldable pub next_member : ℕ → List ℕ → ℕ → ℕ
next_member limit s i = first_from (member s) (limit - i) i
