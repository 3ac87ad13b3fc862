-- Corners by their numbers, for code that counts them from 0.
use Rattle.std.specs.Prelude.{cond, List, ◌++◌, ℕ, suc, ◌-◌, eqb, length, take, drop}
use Rattle.model.specs.Content.{Vertex}
use Rattle.model.specs.Geometry.{vertex_at}
use Rattle.outlines.specs.Outline.{Place, place}

-- The other corners as they follow corner i.
abbrev pub others : List Vertex → ℕ → List Vertex
others P i = drop (suc i) P ++ take i P

-- Corner i in its place.
abbrev pub place_at : List Vertex → ℕ → Place
place_at P i = place (take i P) (vertex_at P i) (drop (suc i) P)

-- The corner before corner i: the last one before the first.
unfoldable pub previous : List Vertex → ℕ → ℕ
previous P i = cond (eqb i 0) (length P - 1) (i - 1)
