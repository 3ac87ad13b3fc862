-- Placements as the code tests them: by the numbers of a view and the boxes of the kinds. The laws say that this is the model's `admitted`, and its
-- `extent`.
use Rattle.std.specs.Prelude.{Bool, ◌&&◌, ℕ, ◌*◌, ◌/◌, ◌%◌, ◌≤◌, ◌<◌, ltb, ℤ, pos, ◌+ℤ◌, ◌-ℤ◌}
use Rattle.std.specs.Int.Signed.{le_z}
use Rattle.words.specs.Bits.{test_bit}
use Rattle.model.specs.Candidate.{natural}
use Rattle.polygons.specs.declared.extents.Extents.{Extents}
use Rattle.job.specs.View.{rotations_of, gap_of}
use Rattle.job.specs.declared.View.{View}
use Rattle.shapes.specs.Boxes.{box_at}
use Rattle.shapes.specs.declared.boxes.Boxes.{Boxes}

-- The ranges of a view's numbers.
pub record Bounded (v : View) : Type 0 where
  pub kinds : v.kinds ≤ 8
  pub rows : (1 ≤ v.rows) × (v.rows ≤ 1001)
  pub columns : v.columns ≤ 1001
  pub size : (v.length ≤ 1000) × (v.width ≤ 1000)
  pub step : v.step ≤ 1000
  pub margin : v.margin ≤ 63
  pub across : (c : ℕ) → c < v.columns → c * v.step ≤ v.length
  pub up : (r : ℕ) → r < v.rows → r * v.step ≤ v.width
  pub rotations : (t : ℕ) → t < v.kinds → rotations_of v t < 16
  pub gaps : (t : ℕ) → t < v.kinds → gap_of v t ≤ 63

-- What lies from low to high stays, moved by this much, between the margin and the limit less the margin.
unfoldable pub within : ℤ → ℤ → ℕ → ℕ → ℕ → Bool
within low high by margin limit = le_z (pos margin) (low +ℤ pos by) && le_z (high +ℤ pos by) (pos limit -ℤ pos margin)

-- The box stays on the board, clear of the margin, if it is moved to a column and a row.
unfoldable pub fits_at : View → Extents → ℕ → ℕ → Bool
fits_at v e c r =
    within e.min_x e.max_x (c * v.step) v.margin v.length
    && within e.min_y e.max_y (r * v.step) v.margin v.width

-- "A candidate of a type is a column, a row and an allowed turn with every turned, moved corner" on the board, clear of the margin.
unfoldable pub placeable : View → Boxes → ℕ → ℕ → ℕ → ℕ → Bool
placeable v b t c r k = ltb c v.columns && ltb r v.rows && test_bit (rotations_of v t) k && fits_at v (box_at b t k) c r

-- The same of a candidate number.
unfoldable pub offered : View → Boxes → ℕ → ℕ → Bool
offered v b t n = placeable v b t (n / 4 / v.rows) (n / 4 % v.rows) (n % 4)

-- "Its end is its largest x."
unfoldable pub extent_at : View → Boxes → ℕ → ℕ → ℕ → ℕ
extent_at v b t c k = natural ((box_at b t k).max_x +ℤ pos (c * v.step))
