-- A part as it stands in bytes that begin at it: corner i has its x at byte 2 i + 1 and its y behind that.
use Rattle.std.specs.Prelude.{Bool, not, cond, ◌||◌, List, map, ℕ, ◌+◌, ◌*◌, eqb}
use Rattle.integers.specs.Byte.{signed}
use Rattle.model.specs.Content.{Vertex, vertex, Part}
use Rattle.model.specs.Format.{byte_at, vertex_in_range}
use Rattle.model.specs.Geometry.{strictly_left}
use Rattle.model.specs.Lists.{all, below}

-- Corner i.
abbrev pub vertex_from : List ℕ → ℕ → Vertex
vertex_from s i = vertex (signed (byte_at s (i * 2 + 1))) (signed (byte_at s (i * 2 + 2)))

-- The n corners.
abbrev pub part_from : List ℕ → ℕ → Part
part_from s n = map (vertex_from s) (below n)

-- The corner after corner i of n.
unfoldable pub next_of : ℕ → ℕ → ℕ
next_of n i = cond (eqb (i + 1) n) 0 (i + 1)

-- Corner k is p or q, or lies strictly left of the line from p to q.
unfoldable pub corner_sound : List ℕ → ℕ → ℕ → ℕ → Bool
corner_sound s p q k = eqb k p || eqb k q || strictly_left (vertex_from s p) (vertex_from s q) (vertex_from s k)

unfoldable pub edge_sound_from : List ℕ → ℕ → ℕ → ℕ → Bool
edge_sound_from s n p q = all (corner_sound s p q) (below n)

-- The edge from corner i to the one after it.
unfoldable pub edge_sound_at : List ℕ → ℕ → ℕ → Bool
edge_sound_at s n i = edge_sound_from s n i (next_of n i)

unfoldable pub sound_from : List ℕ → ℕ → Bool
sound_from s n = all (edge_sound_at s n) (below n)

unfoldable pub in_range_from : List ℕ → ℕ → Bool
in_range_from s n = all vertex_in_range (part_from s n)

unfoldable pub unfit_from : List ℕ → ℕ → Bool
unfit_from s n = not (sound_from s n) || not (in_range_from s n)
