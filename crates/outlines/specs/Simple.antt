-- What a simple outline is, in plain terms: `simple_exact` of proofs/Theorems says that the refusal "two edges meeting anywhere but at the corner shared by neighbours" finds exactly the outlines
-- that are not simple.
use Rattle.std.specs.Prelude.{List, [], ◌∷◌, ◌⊎◌, ◌≡◌, ℤ, pos, ◌+ℤ◌, ◌*ℤ◌, ◌≤ℤ◌, ◌<ℤ◌}
use Rattle.model.specs.Content.{Vertex}
use Rattle.model.specs.Geometry.{cross, along_edge}
use Rattle.outlines.specs.Outline.{last_of}

-- The edges a b and u w have a point in common, ends included: the mean of a and b with the weights m and n is the mean of u and w with the weights k and l. The weights are whole numbers, none
-- negative, with the same sum on both edges, which is not 0.
pub record Meet (a b u w : Vertex) : Type 0 where
  pub m : ℤ
  pub n : ℤ
  pub k : ℤ
  pub l : ℤ
  pub m0 : pos 0 ≤ℤ m
  pub n0 : pos 0 ≤ℤ n
  pub k0 : pos 0 ≤ℤ k
  pub l0 : pos 0 ≤ℤ l
  pub some : pos 0 <ℤ (m +ℤ n)
  pub sums : m +ℤ n ≡ k +ℤ l
  pub atx : m *ℤ a.x +ℤ n *ℤ b.x ≡ k *ℤ u.x +ℤ l *ℤ w.x
  pub aty : m *ℤ a.y +ℤ n *ℤ b.y ≡ k *ℤ u.y +ℤ l *ℤ w.y

-- The neighbours p a and a b have only a in common: they lie in no line, or in one with a between p and b, so that b stands before a, seen along the edge from a to p.
pub record ShareOnly (p a b : Vertex) : Type 0 where
  pub apart : cross p a b ≡ pos 0 → along_edge a p b <ℤ pos 0

-- On the path a, b, .. the corner u is followed by t.
abbrev pub PathEdge : Vertex → List Vertex → Vertex → Vertex → Type 0
PathEdge a [] u t = ⊥
PathEdge a (b ∷ bs) u t = ((u ≡ a) × (t ≡ b)) ⊎ PathEdge b bs u t

-- An edge of the outline leads from u to t: on the path, or from its last corner to its first.
abbrev pub Edge : List Vertex → Vertex → Vertex → Type 0
Edge [] u t = ⊥
Edge (a ∷ zs) u t = PathEdge a zs u t ⊎ ((u ≡ last_of a zs) × (t ≡ a))

-- a is none of these.
abbrev pub NotIn : Vertex → List Vertex → Type 0
NotIn a [] = Unit {0}
NotIn a (b ∷ bs) = (a ≡ b → ⊥) × NotIn a bs

-- No corner stands twice in the list.
abbrev pub Distinct : List Vertex → Type 0
Distinct [] = Unit {0}
Distinct (a ∷ zs) = NotIn a zs × Distinct zs

-- A simple outline: no corner twice; edges that share no corner have no point in common; neighbours have only their corner in common.
pub record IsSimple (P : List Vertex) : Type 0 where
  pub dist : Distinct P
  pub far : (a b u t : Vertex) → Edge P a b → Edge P u t → (a ≡ u → ⊥) → (b ≡ u → ⊥) → (a ≡ t → ⊥) → Meet a b u t → ⊥
  pub adj : (p a b : Vertex) → Edge P p a → Edge P a b → ShareOnly p a b
