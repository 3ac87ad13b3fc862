-- The absolute value of an integer, as an integer.
use Rattle.std.specs.Prelude.{ℤ, pos, nat_abs}

-- |z|
abbrev pub abs_z : ℤ → ℤ
abs_z z = pos (nat_abs z)
