-- The tests of a pair of parts: of their boxes, of the distances of their corners, and what is told without the edges of the second.
use Rattle.std.specs.Prelude.{Bool, false, Option, None, ◌&&◌, ◌||◌, map, ◌≡◌, ℕ, ℤ, pos, ◌+ℤ◌}
use Rattle.std.specs.Int.Signed.{le_z}
use Rattle.model.specs.Content.{vertex, Part}
use Rattle.model.specs.Geometry.{normals, corners_clear, separated}
use Rattle.model.specs.Lists.{any}
use Rattle.polygons.specs.Flat.{shifted}
use Rattle.directions.specs.Directions.{separates_moved}
use Rattle.distances.specs.Middles.{Tells}
use Rattle.polygons.specs.declared.extents.Extents.{Extents}

-- What ends at high and is moved by from clears, by the gap, what begins at low and is moved by to.
abbrev pub clear_of : ℕ → ℤ → ℤ → ℤ → ℤ → Bool
clear_of gap high from low to = le_z (high +ℤ from +ℤ pos gap) (low +ℤ to)

-- The boxes are the gap apart along an axis, the second moved by (dx, dy).
unfoldable pub boxes_apart : ℕ → Extents → Extents → ℤ → ℤ → Bool
boxes_apart gap e f dx dy =
    clear_of gap e.max_x (pos 0) f.min_x dx
    || clear_of gap e.max_y (pos 0) f.min_y dy
    || clear_of gap f.max_x dx e.min_x (pos 0)
    || clear_of gap f.max_y dy e.min_y (pos 0)

-- No corner of either part is nearer than the gap to an edge of the other.
abbrev pub both_clear : ℕ → Part → Part → Bool
both_clear gap P Q = corners_clear gap P Q && corners_clear gap Q P

-- The answer r, if it tells anything, tells whether P and Q moved by (dx, dy) are separated at the gap, and it tells
-- nothing only where no normal of P separates them.
pub record Beside (gap : ℕ) (P Q : Part) (dx dy : ℤ) (r : Option Bool) : Type 0 where
  pub tells : Tells r (separated gap P (map (shifted dx dy) Q))
  pub none : r ≡ None → any (separates_moved P Q (vertex dx dy)) (normals P) ≡ false
