-- What the test `near_edge` measures: it fails exactly if no point of the edge is nearer. The point (k · s + l · t) / (k + l), with k and l at least 0, not both 0.
-- Assumes nothing.
use mathlib.Core.Path.{◌≡◌, refl, sym, ◌∙◌}
use mathlib.Core.Bool.{Bool, true, false, cond}
use mathlib.Core.List.{[], ◌∷◌}
use mathlib.Core.Logic.{⊎_elim}
use Prim.Native.Nat.{ℕ, ◌*◌}
use lib.IntN.{ℤ, pos, ◌+ℤ◌, ◌-ℤ◌, ◌*ℤ◌}
use lib.Signed.{le_z, lt_z, ◌≤ℤ◌, ◌<ℤ◌}
use Rattle.integers.proofs.Solver.{Expr, ◌⊞◌, ◌⊟◌, ◌⊠◌, ◌≲◌, ◌≺◌}
use Rattle.integers.proofs.Slack.{nonneg_pos}
use Rattle.integers.proofs.Certificates.{order, ◌⊢◌by◌, hyp, sqr, num, ◌⊕◌, ◌⊗◌}
use Rattle.integers.proofs.Order.{le_or_lt, <ℤ-trans, <ℤ-≤ℤ, le_z_true, le_z_false, le_le_z, lt_le_z, lt_z_false, le_lt_z}
use Rattle.model.specs.Content.{Vertex, vertex}
use Rattle.model.specs.Geometry.{cross, distance_squared, along_edge, near_edge}
use Rattle.convexity.specs.Points.{reach_squared}
use Rattle.convexity.proofs.HalfPlanes.{O, I, suc_pos}
use Rattle.convexity.proofs.Edges.{Edge, area, area_e}
use Rattle.convexity.proofs.Distances.{d2, along, Far, cancel}

-- ---- the test

-- the test, once its two questions are answered
near_by_lem : (h : ℕ) (e : Edge) (v : Vertex) (a b : Bool) → le_z (along v e) (pos 0) ≡ a → le_z (d2 e.s e.t) (along v e) ≡ b
    → near_edge h e.s e.t v
    ≡ cond a (lt_z (d2 e.s v) (pos (h * h))) (cond b (lt_z (d2 e.t v) (pos (h * h))) (lt_z (area e.s e.t v *ℤ area e.s e.t v) (pos (h * h) *ℤ d2 e.s e.t)))
unfolding near_edge along_edge distance_squared cross
near_by_lem h e v a b p q = rw (p, q)

-- the test fails exactly if the corner is far
pub far-not_near : (h : ℕ) (e : Edge) (v : Vertex) → Far (pos h) v e → near_edge h e.s e.t v ≡ false
far-not_near h e v f = go (le_z (along v e) (pos 0)) (le_z (d2 e.s e.t) (along v e)) refl refl
  where
    go : (a b : Bool) → le_z (along v e) (pos 0) ≡ a → le_z (d2 e.s e.t) (along v e) ≡ b → near_edge h e.s e.t v ≡ false
    go true b p q = near_by_lem h e v true b p q ∙ le_lt_z _ _ (f.before (le_z_true _ _ p))
    go false true p q = near_by_lem h e v false true p q ∙ le_lt_z _ _ (f.after (le_z_false _ _ p) (le_z_true _ _ q))
    go false false p q = near_by_lem h e v false false p q ∙ le_lt_z _ _ (f.beside (le_z_false _ _ p) (le_z_false _ _ q))

pub not_near-far : (h : ℕ) (e : Edge) (v : Vertex) → near_edge h e.s e.t v ≡ false → Far (pos h) v e
not_near-far h e v n = record {
  before = λ p. lt_z_false _ _ (sym (near_by_lem h e v true (le_z (d2 e.s e.t) (along v e)) (le_le_z _ _ p) refl) ∙ n);
  after = λ p q. lt_z_false _ _ (sym (near_by_lem h e v false true (lt_le_z _ _ p) (le_le_z _ _ q)) ∙ n);
  beside = λ p q. lt_z_false _ _ (sym (near_by_lem h e v false false (lt_le_z _ _ p) (lt_le_z _ _ q)) ∙ n);
}

-- ---- the points of the edge

-- no point of the edge is nearer than g to the corner
abbrev pub Points : ℤ → Vertex → Edge → Type 0
Points g c e = (k l : ℤ) → pos 0 ≤ℤ k → pos 0 ≤ℤ l → pos 0 <ℤ (k +ℤ l) → (g *ℤ g *ℤ ((k +ℤ l) *ℤ (k +ℤ l))) ≤ℤ reach_squared e.s e.t c k l

-- `d2`, `along` and `reach_squared` of expressions
abbrev d_e : Expr → Expr → Expr → Expr → Expr
d_e px py qx qy = (qx ⊟ px) ⊠ (qx ⊟ px) ⊞ (qy ⊟ py) ⊠ (qy ⊟ py)

abbrev a_e : Expr → Expr → Expr → Expr → Expr → Expr → Expr
a_e cx cy sx sy tx ty = (tx ⊟ sx) ⊠ (cx ⊟ sx) ⊞ (ty ⊟ sy) ⊠ (cy ⊟ sy)

abbrev r_e : Expr → Expr → Expr → Expr → Expr → Expr → Expr → Expr → Expr
r_e cx cy sx sy tx ty k l = (k ⊠ (sx ⊟ cx) ⊞ l ⊠ (tx ⊟ cx)) ⊠ (k ⊠ (sx ⊟ cx) ⊞ l ⊠ (tx ⊟ cx)) ⊞ (k ⊠ (sy ⊟ cy) ⊞ l ⊠ (ty ⊟ cy)) ⊠ (k ⊠ (sy ⊟ cy) ⊞ l ⊠ (ty ⊟ cy))

-- a corner before the edge, beyond it, and beside it
from_start : (g k l cx cy sx sy tx ty : ℤ) → pos 0 ≤ℤ k → pos 0 ≤ℤ l → ((tx -ℤ sx) *ℤ (cx -ℤ sx) +ℤ (ty -ℤ sy) *ℤ (cy -ℤ sy)) ≤ℤ pos 0 → (g *ℤ g) ≤ℤ ((cx -ℤ sx) *ℤ (cx -ℤ sx) +ℤ (cy -ℤ sy) *ℤ (cy -ℤ sy)) →
    (g *ℤ g *ℤ ((k +ℤ l) *ℤ (k +ℤ l))) ≤ℤ reach_squared (vertex sx sy) (vertex tx ty) (vertex cx cy) k l
from_start = order 9 (λ g k l cx cy sx sy tx ty. (O ≲ k) ∷ (O ≲ l) ∷ (a_e cx cy sx sy tx ty ≲ O) ∷ (g ⊠ g ≲ d_e sx sy cx cy) ∷ []
    ⊢ g ⊠ g ⊠ ((k ⊞ l) ⊠ (k ⊞ l)) ≲ r_e cx cy sx sy tx ty k l
    by sqr (k ⊞ l) ⊗ hyp 3 ⊕ num 2 ⊗ (hyp 0 ⊕ hyp 1) ⊗ hyp 1 ⊗ hyp 2 ⊕ sqr (l ⊠ (tx ⊟ sx)) ⊕ sqr (l ⊠ (ty ⊟ sy))) tt

from_end : (g k l cx cy sx sy tx ty : ℤ) → pos 0 ≤ℤ k → pos 0 ≤ℤ l → ((tx -ℤ sx) *ℤ (tx -ℤ sx) +ℤ (ty -ℤ sy) *ℤ (ty -ℤ sy)) ≤ℤ ((tx -ℤ sx) *ℤ (cx -ℤ sx) +ℤ (ty -ℤ sy) *ℤ (cy -ℤ sy)) → (g *ℤ g) ≤ℤ ((cx -ℤ tx) *ℤ (cx -ℤ tx) +ℤ (cy -ℤ ty) *ℤ (cy -ℤ ty)) →
    (g *ℤ g *ℤ ((k +ℤ l) *ℤ (k +ℤ l))) ≤ℤ reach_squared (vertex sx sy) (vertex tx ty) (vertex cx cy) k l
from_end = order 9 (λ g k l cx cy sx sy tx ty. (O ≲ k) ∷ (O ≲ l) ∷ (d_e sx sy tx ty ≲ a_e cx cy sx sy tx ty) ∷ (g ⊠ g ≲ d_e tx ty cx cy) ∷ []
    ⊢ g ⊠ g ⊠ ((k ⊞ l) ⊠ (k ⊞ l)) ≲ r_e cx cy sx sy tx ty k l
    by sqr (k ⊞ l) ⊗ hyp 3 ⊕ num 2 ⊗ (hyp 0 ⊕ hyp 1) ⊗ hyp 0 ⊗ hyp 2 ⊕ sqr (k ⊠ (tx ⊟ sx)) ⊕ sqr (k ⊠ (ty ⊟ sy))) tt

from-side : (g k l cx cy sx sy tx ty : ℤ) → (g *ℤ g *ℤ ((tx -ℤ sx) *ℤ (tx -ℤ sx) +ℤ (ty -ℤ sy) *ℤ (ty -ℤ sy))) ≤ℤ (((tx -ℤ sx) *ℤ (cy -ℤ sy) -ℤ (ty -ℤ sy) *ℤ (cx -ℤ sx)) *ℤ ((tx -ℤ sx) *ℤ (cy -ℤ sy) -ℤ (ty -ℤ sy) *ℤ (cx -ℤ sx))) →
    (((tx -ℤ sx) *ℤ (tx -ℤ sx) +ℤ (ty -ℤ sy) *ℤ (ty -ℤ sy)) *ℤ (g *ℤ g *ℤ ((k +ℤ l) *ℤ (k +ℤ l)))) ≤ℤ (((tx -ℤ sx) *ℤ (tx -ℤ sx) +ℤ (ty -ℤ sy) *ℤ (ty -ℤ sy)) *ℤ reach_squared (vertex sx sy) (vertex tx ty) (vertex cx cy) k l)
from-side = order 9 (λ g k l cx cy sx sy tx ty. (g ⊠ g ⊠ d_e sx sy tx ty ≲ area_e sx sy tx ty cx cy ⊠ area_e sx sy tx ty cx cy) ∷ []
    ⊢ d_e sx sy tx ty ⊠ (g ⊠ g ⊠ ((k ⊞ l) ⊠ (k ⊞ l))) ≲ d_e sx sy tx ty ⊠ r_e cx cy sx sy tx ty k l
    by sqr (k ⊞ l) ⊗ hyp 0 ⊕ sqr (l ⊠ d_e sx sy tx ty ⊟ (k ⊞ l) ⊠ a_e cx cy sx sy tx ty)) tt

-- Far from the edge, far from each of its points.
pub far-points : (g : ℤ) (c : Vertex) (e : Edge) → Far g c e → Points g c e
far-points g c e f k l hk hl h = ⊎_elim (λ b. from_start g k l c.x c.y e.s.x e.s.y e.t.x e.t.y hk hl b (f.before b))
    (λ a. ⊎_elim (λ b. from_end g k l c.x c.y e.s.x e.s.y e.t.x e.t.y hk hl b (f.after a b))
    (λ b. cancel (d2 e.s e.t) (g *ℤ g *ℤ ((k +ℤ l) *ℤ (k +ℤ l))) (reach_squared e.s e.t c k l) (<ℤ-trans a b)
    (from-side g k l c.x c.y e.s.x e.s.y e.t.x e.t.y (f.beside a b)))
    (le_or_lt (d2 e.s e.t) (along c e)))
    (le_or_lt (along c e) (pos 0))

-- The other way round, by three points: the edge's start, its end, and the foot of the corner.
start_only : (g cx cy sx sy tx ty : ℤ) → (g *ℤ g *ℤ ((pos 1 +ℤ pos 0) *ℤ (pos 1 +ℤ pos 0))) ≤ℤ reach_squared (vertex sx sy) (vertex tx ty) (vertex cx cy) (pos 1) (pos 0) → (g *ℤ g) ≤ℤ ((cx -ℤ sx) *ℤ (cx -ℤ sx) +ℤ (cy -ℤ sy) *ℤ (cy -ℤ sy))
start_only = order 7 (λ g cx cy sx sy tx ty. (g ⊠ g ⊠ ((I ⊞ O) ⊠ (I ⊞ O)) ≲ r_e cx cy sx sy tx ty I O) ∷ [] ⊢ g ⊠ g ≲ d_e sx sy cx cy by hyp 0) tt

end-only : (g cx cy sx sy tx ty : ℤ) → (g *ℤ g *ℤ ((pos 0 +ℤ pos 1) *ℤ (pos 0 +ℤ pos 1))) ≤ℤ reach_squared (vertex sx sy) (vertex tx ty) (vertex cx cy) (pos 0) (pos 1) → (g *ℤ g) ≤ℤ ((cx -ℤ tx) *ℤ (cx -ℤ tx) +ℤ (cy -ℤ ty) *ℤ (cy -ℤ ty))
end-only = order 7 (λ g cx cy sx sy tx ty. (g ⊠ g ⊠ ((O ⊞ I) ⊠ (O ⊞ I)) ≲ r_e cx cy sx sy tx ty O I) ∷ [] ⊢ g ⊠ g ≲ d_e tx ty cx cy by hyp 0) tt

foot_only : (g : ℤ) (c : Vertex) (e : Edge) → (let k = d2 e.s e.t -ℤ along c e in (g *ℤ g *ℤ ((k +ℤ along c e) *ℤ (k +ℤ along c e))) ≤ℤ reach_squared e.s e.t c k (along c e)) →
    (d2 e.s e.t *ℤ (g *ℤ g *ℤ d2 e.s e.t)) ≤ℤ (d2 e.s e.t *ℤ (area e.s e.t c *ℤ area e.s e.t c))
foot_only g c e = order 7 (λ g cx cy sx sy tx ty.
    (g ⊠ g ⊠ ((d_e sx sy tx ty ⊟ a_e cx cy sx sy tx ty ⊞ a_e cx cy sx sy tx ty) ⊠ (d_e sx sy tx ty ⊟ a_e cx cy sx sy tx ty ⊞ a_e cx cy sx sy tx ty)) ≲ r_e cx cy sx sy tx ty (d_e sx sy tx ty ⊟ a_e cx cy sx sy tx ty) (a_e cx cy sx sy tx ty)) ∷ []
    ⊢ d_e sx sy tx ty ⊠ (g ⊠ g ⊠ d_e sx sy tx ty) ≲ d_e sx sy tx ty ⊠ (area_e sx sy tx ty cx cy ⊠ area_e sx sy tx ty cx cy) by hyp 0) tt g c.x c.y e.s.x e.s.y e.t.x e.t.y

pub points_far : (g : ℤ) (c : Vertex) (e : Edge) → Points g c e → Far g c e
points_far g c e f = record {
  before = λ w. start_only g c.x c.y e.s.x e.s.y e.t.x e.t.y (f (pos 1) (pos 0) (nonneg_pos 1) (nonneg_pos 0) (suc_pos 0));
  after = λ u w. end-only g c.x c.y e.s.x e.s.y e.t.x e.t.y (f (pos 0) (pos 1) (nonneg_pos 0) (nonneg_pos 1) (suc_pos 0));
  beside = λ u v. cancel (d2 e.s e.t) (g *ℤ g *ℤ d2 e.s e.t) (area e.s e.t c *ℤ area e.s e.t c) (<ℤ-trans u v)
      (foot_only g c e (f (d2 e.s e.t -ℤ along c e) (along c e) (rest (d2 e.s e.t) (along c e) (<ℤ-≤ℤ v)) (<ℤ-≤ℤ u) (whole (d2 e.s e.t) (along c e) (<ℤ-trans u v))));
}
  where
    rest : (l u : ℤ) → u ≤ℤ l → pos 0 ≤ℤ (l -ℤ u)
    rest = order 2 (λ l u. (u ≲ l) ∷ [] ⊢ O ≲ l ⊟ u by hyp 0) tt

    whole : (l u : ℤ) → pos 0 <ℤ l → pos 0 <ℤ (l -ℤ u +ℤ u)
    whole = order 2 (λ l u. (O ≺ l) ∷ [] ⊢ O ≺ l ⊟ u ⊞ u by hyp 0) tt
