-- The points of an edge, with which the theorems say what `near_edge` measures.
use Rattle.std.specs.Prelude.{ℤ, ◌+ℤ◌, ◌-ℤ◌, ◌*ℤ◌}
use Rattle.model.specs.Content.{Vertex}

-- (k + l)² times the squared distance of v and the point (k · s + l · t) / (k + l), which runs over the edge from s to t as k and l run over the whole numbers
-- of at least 0, not both 0.
abbrev pub reach_squared : Vertex → Vertex → Vertex → ℤ → ℤ → ℤ
reach_squared s t v k l =
    (k *ℤ (s.x -ℤ v.x) +ℤ l *ℤ (t.x -ℤ v.x)) *ℤ (k *ℤ (s.x -ℤ v.x) +ℤ l *ℤ (t.x -ℤ v.x))
    +ℤ (k *ℤ (s.y -ℤ v.y) +ℤ l *ℤ (t.y -ℤ v.y)) *ℤ (k *ℤ (s.y -ℤ v.y) +ℤ l *ℤ (t.y -ℤ v.y))
