-- Document 01's measure of a gap: "The gap is thus measured as a square." Since document 02's "5/13 Gap for a round cutter" no service is defined by it.
-- It stays for the laws that what is a gap apart by it is so by the round one: boxes are looked at first by these, and layouts that were made under it (Layouts) still pass, so
-- that they are taken over as they are (`square-passes`, proofs/Layouts).
use Rattle.std.specs.Prelude.{Bool, List, [], ◌∷◌, ◌++◌, map, ℕ, ◌+◌, ◌*◌, ℤ, pos, negsuc, nat_abs, ◌+ℤ◌}
use Rattle.std.specs.Int.Signed.{le_z}
use Rattle.model.specs.Content.{Part}
use Rattle.model.specs.Geometry.{Direction, direction, directions, along}
use Rattle.model.specs.Lists.{any, largest_z, smallest_z}

-- "the four axis directions"
unfoldable pub axes : List Direction
axes = direction (pos 1) (pos 0) ∷ direction (pos 0) (pos 1) ∷ direction (negsuc 0) (pos 0) ∷ direction (pos 0) (negsuc 0) ∷ []

-- "gap × (|a| + |b|)"
unfoldable pub clearance : ℕ → Direction → ℤ
clearance gap d = pos (gap * (nat_abs d.a + nat_abs d.b))

-- "A direction (a, b) separates them if the largest a × x + b × y over P, plus gap × (|a| + |b|), is at most the smallest over Q."
unfoldable pub separates_by : ℕ → Part → Part → Direction → Bool
separates_by gap P Q d = le_z (largest_z (map (along d) P) +ℤ clearance gap d) (smallest_z (map (along d) Q))

-- "The directions are the outward normals of P's edges, the negated outward normals of Q's edges, and the four axis directions."
unfoldable pub square_directions : Part → Part → List Direction
square_directions P Q = directions P Q ++ axes

-- The parts are separated at this gap, measured as a square.
unfoldable pub square_separated : ℕ → Part → Part → Bool
square_separated gap P Q = any (separates_by gap P Q) (square_directions P Q)
