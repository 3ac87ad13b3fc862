-- Document 01, "Dots and candidates", and document 02, "Clamp margin": which placements of a type are candidates, and where they end.
use Rattle.std.specs.Prelude.{Bool, ◌&&◌, List, map, ℕ, ◌*◌, ltb, ℤ, pos, negsuc, ◌-ℤ◌}
use Rattle.std.specs.Int.Signed.{le_z}
use Rattle.words.specs.Bits.{test_bit}
use Rattle.model.specs.Content.{Vertex, Part, Kind, Board, kind_at}
use Rattle.model.specs.Geometry.{rotated, moved}
use Rattle.model.specs.Grid.{Placement, columns, rows, placement_of, number_limit}
use Rattle.model.specs.Lists.{all, concat, keep, below, largest_z}
use Rattle.model.specs.Problem.{Problem}

-- A part turned, then moved to its dot: "x = c × g", "y = r × g".
unfoldable pub placed_part : Board → Placement → Part → Part
placed_part b p P = map (λ v. moved (p.column * b.g) (p.row * b.g) (rotated p.rotation v)) P

-- The parts of a placed piece.
unfoldable pub placed_parts : Board → Kind → Placement → List Part
placed_parts b k p = map (placed_part b p) k.parts

-- The corners of a placed piece: "every turned, moved corner".
unfoldable pub placed_vertices : Board → Kind → Placement → List Vertex
placed_vertices b k p = concat (placed_parts b k p)

-- Document 02: "in m to L - m by m to W - m", edges included. (The differences are integers: where 2 × m is above L or W, nothing lies there.)
unfoldable pub on_board : ℕ → Board → Vertex → Bool
on_board m b v =
    le_z (pos m) v.x
    && le_z v.x (pos b.L -ℤ pos m)
    && le_z (pos m) v.y
    && le_z v.y (pos b.W -ℤ pos m)

-- "A candidate of a type is a column, a row and an allowed turn with every turned, moved corner" on the board, clear of the margin.
unfoldable pub admitted : Problem → Kind → Placement → Bool
admitted j k p =
    ltb p.column (columns j.sheet)
    && ltb p.row (rows j.sheet)
    && test_bit k.rotations p.rotation
    && all (on_board j.margin j.sheet) (placed_vertices j.sheet k p)

-- The type has a candidate of this number.
unfoldable pub is_candidate : Problem → ℕ → ℕ → Bool
is_candidate j t n = admitted j (kind_at j.kinds t) (placement_of j.sheet n)

-- The numbers of a type's candidates, rising.
unfoldable pub candidates : Problem → ℕ → List ℕ
candidates j t = keep (is_candidate j t) (below (number_limit j.sheet))

-- An x on the board as a number from 0.
unfoldable pub natural : ℤ → ℕ
natural (pos n) = n
natural (negsuc n) = 0

-- Document 01's "end": "Its end is its largest x."
unfoldable pub extent : Board → Kind → Placement → ℕ
extent b k p = natural (largest_z (map (λ v. v.x) (placed_vertices b k p)))
