-- The outer loop has tried the edges before k, and none of their normals separates. The inner loop has found no
-- vertex of q before i that lies before the limit. A vertex that does gives the direction up; when there is none, the
-- direction separates. Assumes nothing.
use mathlib.Core.Bool.{false}
use mathlib.Core.Path.{◌≡◌}
use Prim.Native.Nat.{ℕ, ◌<◌}
use lib.Signed.{◌≤ℤ◌}
use Rattle.model.specs.Content.{vertex}
use Rattle.model.specs.Geometry.{along, direction, vertex_at}
use Rattle.polygons.specs.Flat.{part_of, normal_of}
use Rattle.directions.specs.Directions.{separates_moved}
use Rattle.directions.proofs.edges.edges_separate.Given as goal

abbrev pub invariant-loop-i : goal.invariant-loop-i
invariant-loop-i l = (j : ℕ) → j < l.i → l.limit ≤ℤ along (direction l.normal.a l.normal.b) (vertex_at (part_of l.q) j)

abbrev pub invariant-directions : goal.invariant-directions
invariant-directions l = (j : ℕ) → j < l.k
    → separates_moved (part_of l.p) (part_of l.q) (vertex l.dx l.dy) (normal_of (part_of l.p) j) ≡ false
