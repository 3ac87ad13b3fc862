-- A part along a direction. Both parts of a test stay where they stand: every vertex of a part moves equally far along a direction, so that its move is reckoned once a direction
-- and not once a vertex.
use Rattle.std.specs.Prelude.{Bool, map, ◌≡◌, ℕ, ◌≤◌, ◌<◌, ◌^◌, ℤ, nat_abs, ◌+ℤ◌, length}
use Rattle.std.specs.Int.Signed.{le_z}
use Rattle.model.specs.Content.{Vertex, Part}
use Rattle.model.specs.Geometry.{Direction, along, vertex_at}
use Rattle.model.specs.Lists.{largest_z, smallest_z}

-- d separates P from Q moved by e.
unfoldable pub separates_moved : Part → Part → Vertex → Direction → Bool
separates_moved P Q e d = le_z (largest_z (map (along d) P)) (smallest_z (map (along d) Q) +ℤ along d e)

-- No vertex of P lies further along d than vertex k.
pub record Furthest (P : Part) (d : Direction) (k : ℕ) : Type 0 where
  pub inside : k < length P
  pub most : largest_z (map (along d) P) ≡ along d (vertex_at P k)

-- A result and a bound of its size, so that a caller can add to it.
pub record Small (z : ℤ) (k : ℕ) (r : ℤ) : Type 0 where
  pub value : r ≡ z
  pub size : nat_abs r ≤ 2 ^ k
