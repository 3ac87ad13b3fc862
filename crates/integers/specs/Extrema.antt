-- The larger and the smaller of two integers, by one test.
use Rattle.std.specs.Prelude.{cond, ℤ}
use Rattle.std.specs.Int.Signed.{le_z}

-- the larger of a and b
unfoldable pub max_z : ℤ → ℤ → ℤ
max_z a b = cond (le_z a b) b a

-- the smaller of a and b
unfoldable pub min_z : ℤ → ℤ → ℤ
min_z a b = cond (le_z a b) a b
