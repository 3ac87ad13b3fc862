-- The corners of an outline by their numbers.
use Rattle.std.specs.Prelude.{Bool, not, cond, ◌&&◌, ◌||◌, List, ℕ, zero, suc, ◌-◌, eqb, ℤ, pos, ◌+ℤ◌, length}
use Rattle.model.specs.Content.{Vertex}
use Rattle.model.specs.Geometry.{vertex_at}
use Rattle.model.specs.Lists.{any, below}
use Rattle.outlines.specs.Outline.{det, meet, doubles_back}
use Rattle.records.specs.Parts.{next_of}

-- The corner before corner i of n.
unfoldable pub previous_of : ℕ → ℕ → ℕ
previous_of n i = cond (eqb i 0) (n - 1) (i - 1)

-- The corners after and before corner i.
abbrev pub after : List Vertex → ℕ → Vertex
after P i = vertex_at P (next_of (length P) i)

abbrev pub before : List Vertex → ℕ → Vertex
before P i = vertex_at P (previous_of (length P) i)

-- The sum of f over the numbers below k.
unfoldable pub sum_below : (ℕ → ℤ) → ℕ → ℤ
sum_below f zero = pos 0
sum_below f (suc k) = sum_below f k +ℤ f k

-- What edge i, from corner i to the one after it, adds to the doubled area.
unfoldable pub edge_area : List Vertex → ℕ → ℤ
edge_area P i = det (vertex_at P i) (after P i)

-- Edges i and j of n have a corner in common.
unfoldable pub neighbours : ℕ → ℕ → ℕ → Bool
neighbours n i j = eqb j i || eqb j (previous_of n i) || eqb j (next_of n i)

-- Edge j has no corner in common with edge i, and meets it.
unfoldable pub strikes_in : List Vertex → ℕ → ℕ → Bool
strikes_in P i j = not (neighbours (length P) i j) && meet (vertex_at P i) (after P i) (vertex_at P j) (after P j)

-- Edge i meets another edge elsewhere than in the corner they share.
unfoldable pub edge_meets_in : List Vertex → ℕ → Bool
edge_meets_in P i = doubles_back (before P i) (vertex_at P i) (after P i) || any (strikes_in P i) (below (length P))
