-- A cutting of an outline, one corner at a time: its areas sum to the outline's, and its triangles around a point are as many as the crossings.
use mathlib.Core.List.{List, [], ◌∷◌, ◌++◌}
use mathlib.Core.Path.{◌≡◌, sym, ◌∙◌, ap₂, subst}
use lib.IntN.{ℤ, pos, neg_ℤ, ◌+ℤ◌, ◌*ℤ◌, +ℤ_idl}
use Rattle.model.specs.Content.{Vertex}
use Rattle.model.specs.Geometry.{cross}
use Rattle.outlines.specs.Outline.{det, doubled_area, times, Triangle, triangle, triangle_area, area_sum, edge_sum}
use Rattle.outlines.proofs.Tools.{times as taking, ◌≺◌, #, ◌⊞◌, ◌⊟◌, ◌⊠◌, ⊖◌, ◌⋖◌, ◌≈◌, hyp, num, ◌⊕◌, ◌⊗◌, ◌⊢◌by◌, order, ring}
use Rattle.outlines.proofs.Crossing.{cross_e, crossed, crossed-anti, tri_is, tri_flat, inside, NotZero, cross-rot}
use Rattle.outlines.proofs.EdgeSums.{before, after, More, edge_sum-cut}

-- How an outline is cut into triangles: two corners remain, or a corner in line is dropped, or a left turn is cut off.
pub data Cuts : List Vertex → List Triangle → Type 0 where
  done : (a b : Vertex) → Cuts (a ∷ b ∷ []) []
  flat : (xs : List Vertex) (c : Vertex) (ys : List Vertex) {ts : List Triangle} → More xs ys → cross (before xs c ys) c (after xs c ys) ≡ pos 0 → Cuts (xs ++ ys) ts → Cuts (xs ++ c ∷ ys) ts
  cut : (xs : List Vertex) (c : Vertex) (ys : List Vertex) {ts : List Triangle} → More xs ys → pos 0 ≺ cross (before xs c ys) c (after xs c ys) → Cuts (xs ++ ys) ts → Cuts (xs ++ c ∷ ys) (triangle c (after xs c ys) (before xs c ys) ∷ ts)

-- ---- Areas

-- The other way along an edge, its part of the area changes its sign.
pub det-anti : (a b : Vertex) → det b a ≡ neg_ℤ (det a b)
unfolding det
det-anti a b = ring 4 (λ ax ay cx cy. cx ⊠ ay ⊟ cy ⊠ ax ≈ ⊖ (ax ⊠ cy ⊟ ay ⊠ cx)) tt a.x a.y b.x b.y

-- A triangle's area is the sum over its edges.
det-cross : (p c s : Vertex) → det p c +ℤ det c s +ℤ det s p ≡ cross p c s
unfolding det cross
det-cross p c s = ring 6 (λ px py cx cy sx sy. (px ⊠ cy ⊟ py ⊠ cx) ⊞ (cx ⊠ sy ⊟ cy ⊠ sx) ⊞ (sx ⊠ py ⊟ sy ⊠ px) ≈ cross_e px py cx cy sx sy) tt p.x p.y c.x c.y s.x s.y

-- There and back.
two : (f g : ℤ) → g ≡ neg_ℤ f → f +ℤ pos 0 +ℤ g ≡ pos 0
two = order 2 (λ f g. (g ≈ ⊖ f) ∷ [] ⊢ f ⊞ # (pos 0) ⊞ g ≈ # (pos 0) by taking 0 (# (pos 1))) tt

-- The areas of a cutting sum to the area of the outline.
pub area_sum_lem : {P : List Vertex} {ts : List Triangle} → Cuts P ts → doubled_area P ≡ area_sum ts
unfolding doubled_area area_sum triangle_area
area_sum_lem (done a b) = two (det a b) (det b a) (det-anti a b)
area_sum_lem (flat xs c ys m h r) = edge_sum-cut det det-anti xs c ys m ∙ ap₂ ◌+ℤ◌ (det-cross (before xs c ys) c (after xs c ys) ∙ h) (area_sum_lem r) ∙ +ℤ_idl _
area_sum_lem (cut xs c ys m h r) = edge_sum-cut det det-anti xs c ys m ∙ ap₂ ◌+ℤ◌ (det-cross (before xs c ys) c (after xs c ys) ∙ cross-rot (before xs c ys) c (after xs c ys)) (area_sum_lem r)

-- ---- Crossings of the ray from the point (X.x / d, X.y / d)

-- Scaling scales the cross.
cross-times : (d : ℤ) (p c s : Vertex) → cross (times d p) (times d c) (times d s) ≡ d *ℤ d *ℤ cross p c s
unfolding cross times
cross-times d p c s = ring 7 (λ d px py cx cy sx sy. cross_e (d ⊠ px) (d ⊠ py) (d ⊠ cx) (d ⊠ cy) (d ⊠ sx) (d ⊠ sy) ≈ d ⊠ d ⊠ cross_e px py cx cy sx sy) tt d p.x p.y c.x c.y s.x s.y

-- Scaling keeps a left turn.
mul3 : (d t : ℤ) → pos 0 ≺ d → pos 0 ≺ t → pos 0 ≺ d *ℤ d *ℤ t
mul3 = order 2 (λ d t. (# (pos 0) ⋖ d) ∷ (# (pos 0) ⋖ t) ∷ [] ⊢ # (pos 0) ⋖ d ⊠ d ⊠ t by (hyp 0 ⊕ num 1) ⊗ (hyp 0 ⊕ num 1) ⊗ hyp 1 ⊕ hyp 0 ⊗ hyp 0 ⊕ hyp 0 ⊕ hyp 0) tt

-- The crossing of an edge with the ray from the point (X.x / d, X.y / d).
abbrev pub crossed_at : ℤ → Vertex → Vertex → Vertex → ℤ
crossed_at d X a b = crossed (times d a) (times d b) X

-- How many triangles are around the point.
abbrev pub around : ℤ → Vertex → List Triangle → ℤ
around d X [] = pos 0
around d X (t ∷ ts) = inside (times d t.predecessor) (times d t.corner) (times d t.successor) X +ℤ around d X ts

-- The point is on none of the lines through the triangles' edges.
abbrev pub OffLines : ℤ → Vertex → List Triangle → Type 0
OffLines d X [] = Unit {0}
OffLines d X (t ∷ ts) = NotZero (cross (times d t.predecessor) (times d t.corner) X) × NotZero (cross (times d t.corner) (times d t.successor) X) × NotZero (cross (times d t.successor) (times d t.predecessor) X) × OffLines d X ts

-- Scaling keeps a line.
times0 : (d t : ℤ) → t ≡ pos 0 → d *ℤ d *ℤ t ≡ pos 0
times0 = order 2 (λ d t. (t ≈ # (pos 0)) ∷ [] ⊢ d ⊠ d ⊠ t ≈ # (pos 0) by taking 0 (d ⊠ d)) tt

-- The crossings with the outline are as many as the triangles around the point.
pub around_is : (d : ℤ) (X : Vertex) {P : List Vertex} {ts : List Triangle} → pos 0 ≺ d → Cuts P ts → OffLines d X ts → edge_sum (crossed_at d X) P ≡ around d X ts
around_is d X k (done a b) o = two (crossed_at d X a b) (crossed_at d X b a) (crossed-anti (times d a) (times d b) X)
around_is d X k (flat xs c ys m h r) o = edge_sum-cut (crossed_at d X) (λ a b. crossed-anti (times d a) (times d b) X) xs c ys m
    ∙ ap₂ ◌+ℤ◌ (tri_flat (times d (before xs c ys)) (times d c) (times d (after xs c ys)) X (cross-times d (before xs c ys) c (after xs c ys) ∙ times0 d _ h)) (around_is d X k r o) ∙ +ℤ_idl _
around_is d X k (cut xs c ys m h r) o = edge_sum-cut (crossed_at d X) (λ a b. crossed-anti (times d a) (times d b) X) xs c ys m
    ∙ ap₂ ◌+ℤ◌ (tri_is (times d (before xs c ys)) (times d c) (times d (after xs c ys)) X (subst (λ z. pos 0 ≺ z) (sym (cross-times d (before xs c ys) c (after xs c ys))) (mul3 d _ k h)) o.0 o.1 o.2) (around_is d X k r o.3)
