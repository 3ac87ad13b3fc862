-- Parts and moves whose numbers are small, so that the squares which distances are compared by fit 64 bits; and the test of one corner.
use Rattle.std.specs.Prelude.{Bool, not, ℕ, ◌≤◌, ◌<◌, ℤ, nat_abs, length}
use Rattle.model.specs.Content.{Vertex, Part}
use Rattle.model.specs.Geometry.{vertex_at, following, near_edge}
use Rattle.model.specs.Lists.{all, below}

-- Neither number is above n in size.
abbrev pub Short : ℕ → ℤ → ℤ → Type 0
Short n x y = (nat_abs x ≤ n) × (nat_abs y ≤ n)

-- No coordinate of the part is above 4096 in size.
abbrev pub Compact : Part → Type 0
Compact P = (i : ℕ) → i < length P → Short 4096 (vertex_at P i).x (vertex_at P i).y

-- The corner v is nearer than the gap to no edge of Q.
unfoldable pub corner_clear : ℕ → Part → Vertex → Bool
corner_clear gap Q v = all (λ k. not (near_edge gap (vertex_at Q k) (vertex_at Q (following Q k)) v)) (below (length Q))
