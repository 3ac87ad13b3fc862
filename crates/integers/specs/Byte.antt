-- A byte as a signed number: below 128 it is itself, from 128 on it is 256 less.
use Rattle.std.specs.Prelude.{ℕ, cond, ltb, ℤ, pos, ◌-ℤ◌}

-- the signed value of the byte b
unfoldable pub signed : ℕ → ℤ
signed b = cond (ltb b 128) (pos b) (pos b -ℤ pos 256)
