-- A part as a flat run of numbers: x and y of the first vertex, x and y of the second, and so on.
use Rattle.std.specs.Prelude.{List, [], ◌∷◌, ℕ, ℤ}
use Rattle.model.specs.Content.{vertex, Part}
use Rattle.model.specs.Geometry.{Direction, vertex_at, following, outward_normal}
pub use Rattle.model.specs.Geometry.{shifted}

-- The vertices that the numbers say. An odd last number counts for nothing.
unfoldable pub part_of : List ℤ → Part
part_of [] = []
part_of (x ∷ []) = []
part_of (x ∷ y ∷ zs) = vertex x y ∷ part_of zs

-- The outward normal of the edge from vertex k to the next one.
unfoldable pub normal_of : Part → ℕ → Direction
normal_of P k = outward_normal (vertex_at P k) (vertex_at P (following P k))
