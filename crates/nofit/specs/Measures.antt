-- How far the pieces of a job reach: the box around all kinds, and the columns that keep them apart.
use Rattle.std.specs.Prelude.{true, List, ◌≡◌, ℕ, ◌*◌, ◌/◌, ◌%◌, ◌≤◌, ◌<◌, get_or, ◌≤ℤ◌}
use Rattle.words.specs.Bits.{test_bit}
use Rattle.polygons.specs.declared.extents.Extents.{Extents}
use Rattle.shapes.specs.Boxes.{no_box}

-- The box f lies, from its left side to its right side, within the box e.
pub record Within (e f : Extents) : Type 0 where
  pub left : e.min_x ≤ℤ f.min_x
  pub right : f.max_x ≤ℤ e.max_x

-- Of the first n boxes, those of a rotation that the kind may have lie within the box e.
abbrev pub Around : (ℕ → ℕ) → List Extents → ℕ → Extents → Type 0
Around mask boxes n e = (i : ℕ) → i < n → test_bit (mask (i / 4)) (i % 4) ≡ true → Within e (get_or boxes i no_box)

-- No kind below n has a larger gap.
abbrev pub NoLarger : (ℕ → ℕ) → ℕ → ℕ → Type 0
NoLarger gap n most = (t : ℕ) → t < n → gap t ≤ most

-- On a board of so many columns, a step apart, dots that are `reach` columns apart, or more, are `span` apart.
pub record Spaced (span step columns reach : ℕ) : Type 0 where
  pub some : 1 ≤ reach
  pub most : reach ≤ columns
  pub clear : (d : ℕ) → reach ≤ d → d < columns → span ≤ d * step
