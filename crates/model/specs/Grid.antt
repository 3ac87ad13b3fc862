-- Document 01, "Dots and candidates": the dots, and the number of a candidate.
use Rattle.std.specs.Prelude.{ℕ, ◌+◌, ◌*◌, ◌/◌, ◌%◌}
use Rattle.model.specs.Content.{Board}

-- "Columns c have x = c × g up to L." So many columns.
unfoldable pub columns : Board → ℕ
columns b = b.L / b.g + 1

-- "Rows r have y = r × g up to W. R is the number of rows."
unfoldable pub rows : Board → ℕ
rows b = b.W / b.g + 1

-- "D, the number of dots"
unfoldable pub dots : Board → ℕ
dots b = columns b * rows b

-- "a column, a row and an allowed turn"
pub record Placement : Type 0 where
  pub column : ℕ
  pub row : ℕ
  pub rotation : ℕ

abbrev pub placement : ℕ → ℕ → ℕ → Placement
placement c r k = record { column = c; row = r; rotation = k }

-- "Its number is (c × R + r) × 4 + turn."
unfoldable pub number_of : Board → Placement → ℕ
number_of b p = (p.column * rows b + p.row) * 4 + p.rotation

-- The column, row and turn that have this number.
unfoldable pub placement_of : Board → ℕ → Placement
placement_of b n = placement (n / 4 / rows b) (n / 4 % rows b) (n % 4)

-- Candidate numbers are below this one: four turns on each dot.
unfoldable pub number_limit : Board → ℕ
number_limit b = dots b * 4

-- "ceil(D / 16) words": 64 bits for the four turns of 16 dots.
unfoldable pub set_words : Board → ℕ
set_words b = (dots b + 15) / 16
