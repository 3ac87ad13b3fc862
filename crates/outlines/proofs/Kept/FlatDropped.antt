-- A corner in line with its neighbours, dropped from the front of a simple outline: what is left is simple, with the same κ.
use mathlib.Core.List.{List, [], ◌∷◌}
use mathlib.Core.Logic.{◌⊎◌, inl, inr, ⊎_elim}
use mathlib.Core.Path.{◌≡◌, refl, sym, ◌∙◌}
use lib.IntN.{ℤ, pos, negsuc, neg_ℤ, ◌+ℤ◌, ◌-ℤ◌, ◌*ℤ◌}
use Rattle.integers.proofs.Order.{≤ℤ-antisym, <ℤ-≤ℤ, le_or_lt}
use Rattle.integers.proofs.Slack.{le_slack, nonneg_*ℤ}
use Rattle.model.specs.Content.{Vertex}
use Rattle.model.specs.Geometry.{cross, along_edge}
use Rattle.outlines.specs.Outline.{last_of}
use Rattle.outlines.specs.Simple.{Meet, ShareOnly, PathEdge, IsSimple}
use Rattle.outlines.proofs.Tools.{dot, ◌≼◌, ◌≺◌, #, ◌⊞◌, ◌⊟◌, ◌⊠◌, ⊖◌, ◌≲◌, ◌⋖◌, ◌≈◌, never, hyp, sqr, num, ◌⊕◌, ◌⊗◌, ◌⊢◌by◌, order, neg_lt, plus_lt, times}
use Rattle.outlines.proofs.Crossing.{tri_flat}
use Rattle.outlines.proofs.Winding.Cone.{share_sym, cross-from}
use Rattle.outlines.proofs.Winding.Turning.{κ, not_on_path}
use Rattle.outlines.proofs.Kept.Closed.{simple_close}
use Rattle.outlines.proofs.Kept.EarClipped.{κ_less}

-- h lies between p and s: a p + b s = (a + b) h.
record Between (p h s : Vertex) : Type 0 where
  a : ℤ
  b : ℤ
  a0 : pos 0 ≺ a
  b0 : pos 0 ≺ b
  atx : a *ℤ (p.x -ℤ h.x) +ℤ b *ℤ (s.x -ℤ h.x) ≡ pos 0
  aty : a *ℤ (p.y -ℤ h.y) +ℤ b *ℤ (s.y -ℤ h.y) ≡ pos 0

-- The weights: the squared length of h s, and the inner product negated.
bx : (X Y U K : ℤ) → Y *ℤ U -ℤ X *ℤ K ≡ pos 0 → (U *ℤ U +ℤ K *ℤ K) *ℤ X +ℤ neg_ℤ (X *ℤ U +ℤ Y *ℤ K) *ℤ U ≡ pos 0
bx = order 4 (λ X Y U K. (Y ⊠ U ⊟ X ⊠ K ≈ # (pos 0)) ∷ [] ⊢ (U ⊠ U ⊞ K ⊠ K) ⊠ X ⊞ ⊖ (X ⊠ U ⊞ Y ⊠ K) ⊠ U ≈ # (pos 0) by times 0 (⊖ K)) tt

bz : (X Y U K : ℤ) → Y *ℤ U -ℤ X *ℤ K ≡ pos 0 → (U *ℤ U +ℤ K *ℤ K) *ℤ Y +ℤ neg_ℤ (X *ℤ U +ℤ Y *ℤ K) *ℤ K ≡ pos 0
bz = order 4 (λ X Y U K. (Y ⊠ U ⊟ X ⊠ K ≈ # (pos 0)) ∷ [] ⊢ (U ⊠ U ⊞ K ⊠ K) ⊠ Y ⊞ ⊖ (X ⊠ U ⊞ Y ⊠ K) ⊠ K ≈ # (pos 0) by times 0 U) tt

-- An edge has a length.
sq : (X Y U K : ℤ) → X *ℤ U +ℤ Y *ℤ K ≺ pos 0 → pos 0 ≺ U *ℤ U +ℤ K *ℤ K
sq X Y U K d = ⊎_elim (λ i. absurd (bad X Y U K d i)) (λ i. i) (le_or_lt (U *ℤ U +ℤ K *ℤ K) (pos 0))
  where
    bad : (X Y U K : ℤ) → X *ℤ U +ℤ Y *ℤ K ≺ pos 0 → U *ℤ U +ℤ K *ℤ K ≼ pos 0 → ⊥
    bad = order 4 (λ X Y U K. (X ⊠ U ⊞ Y ⊠ K ⋖ # (pos 0)) ∷ (U ⊠ U ⊞ K ⊠ K ≲ # (pos 0)) ∷ [] ⊢ never
        by (sqr X ⊕ sqr Y) ⊗ hyp 1 ⊕ sqr (X ⊠ K ⊟ Y ⊠ U) ⊕ hyp 0 ⊗ hyp 0 ⊕ hyp 0 ⊕ hyp 0) tt

-- Neighbours in line that share their corner alone have it between them.
between : (p h s : Vertex) → ShareOnly p h s → cross p h s ≡ pos 0 → Between p h s
unfolding along_edge
between p h s adj e = record {
  a = U *ℤ U +ℤ K *ℤ K;
  b = neg_ℤ (dot p h s);
  a0 = sq X Y U K (adj.apart e);
  b0 = neg_lt (dot p h s) (adj.apart e);
  atx = bx X Y U K (sym (cross-from p h s) ∙ e);
  aty = bz X Y U K (sym (cross-from p h s) ∙ e);
}
  where
    X : ℤ
    X = p.x -ℤ h.x

    Y : ℤ
    Y = p.y -ℤ h.y

    U : ℤ
    U = s.x -ℤ h.x

    K : ℤ
    K = s.y -ℤ h.y

-- ---- what meets p s meets p h or h s

-- A point of p s as a point of p h, or of h s: the weights, their signs and their sums.
m1x : (a b m n k l p h s u t : ℤ) → a *ℤ (p -ℤ h) +ℤ b *ℤ (s -ℤ h) ≡ pos 0 → m *ℤ p +ℤ n *ℤ s ≡ k *ℤ u +ℤ l *ℤ t → (m *ℤ b -ℤ n *ℤ a) *ℤ p +ℤ (n *ℤ (a +ℤ b)) *ℤ h ≡ (b *ℤ k) *ℤ u +ℤ (b *ℤ l) *ℤ t
m1x = order 11 (λ a b m n k l p h s u t. (a ⊠ (p ⊟ h) ⊞ b ⊠ (s ⊟ h) ≈ # (pos 0)) ∷ (m ⊠ p ⊞ n ⊠ s ≈ k ⊠ u ⊞ l ⊠ t) ∷ [] ⊢ (m ⊠ b ⊟ n ⊠ a) ⊠ p ⊞ (n ⊠ (a ⊞ b)) ⊠ h ≈ (b ⊠ k) ⊠ u ⊞ (b ⊠ l) ⊠ t by times 1 b ⊕ times 0 (⊖ n)) tt

m2x : (a b m n k l p h s u t : ℤ) → a *ℤ (p -ℤ h) +ℤ b *ℤ (s -ℤ h) ≡ pos 0 → m *ℤ p +ℤ n *ℤ s ≡ k *ℤ u +ℤ l *ℤ t → (m *ℤ (a +ℤ b)) *ℤ h +ℤ (n *ℤ a -ℤ m *ℤ b) *ℤ s ≡ (a *ℤ k) *ℤ u +ℤ (a *ℤ l) *ℤ t
m2x = order 11 (λ a b m n k l p h s u t. (a ⊠ (p ⊟ h) ⊞ b ⊠ (s ⊟ h) ≈ # (pos 0)) ∷ (m ⊠ p ⊞ n ⊠ s ≈ k ⊠ u ⊞ l ⊠ t) ∷ [] ⊢ (m ⊠ (a ⊞ b)) ⊠ h ⊞ (n ⊠ a ⊟ m ⊠ b) ⊠ s ≈ (a ⊠ k) ⊠ u ⊞ (a ⊠ l) ⊠ t by times 1 a ⊕ times 0 (⊖ m)) tt

ms : (a b m : ℤ) → pos 0 ≺ a → pos 0 ≺ b → pos 0 ≼ m → pos 0 ≼ m *ℤ (a +ℤ b)
ms = order 3 (λ a b m. (# (pos 0) ⋖ a) ∷ (# (pos 0) ⋖ b) ∷ (# (pos 0) ≲ m) ∷ [] ⊢ # (pos 0) ≲ m ⊠ (a ⊞ b) by hyp 2 ⊗ (hyp 0 ⊕ hyp 1 ⊕ num 2)) tt

som1 : (a b m n : ℤ) → pos 0 ≺ b → pos 0 ≺ m +ℤ n → pos 0 ≺ m *ℤ b -ℤ n *ℤ a +ℤ n *ℤ (a +ℤ b)
som1 = order 4 (λ a b m n. (# (pos 0) ⋖ b) ∷ (# (pos 0) ⋖ m ⊞ n) ∷ [] ⊢ # (pos 0) ⋖ m ⊠ b ⊟ n ⊠ a ⊞ n ⊠ (a ⊞ b) by hyp 0 ⊗ hyp 1 ⊕ hyp 0 ⊕ hyp 1) tt

som2 : (a b m n : ℤ) → pos 0 ≺ a → pos 0 ≺ m +ℤ n → pos 0 ≺ m *ℤ (a +ℤ b) +ℤ (n *ℤ a -ℤ m *ℤ b)
som2 = order 4 (λ a b m n. (# (pos 0) ⋖ a) ∷ (# (pos 0) ⋖ m ⊞ n) ∷ [] ⊢ # (pos 0) ⋖ m ⊠ (a ⊞ b) ⊞ (n ⊠ a ⊟ m ⊠ b) by hyp 0 ⊗ hyp 1 ⊕ hyp 0 ⊕ hyp 1) tt

sum1 : (a b m n k l : ℤ) → m +ℤ n ≡ k +ℤ l → m *ℤ b -ℤ n *ℤ a +ℤ n *ℤ (a +ℤ b) ≡ b *ℤ k +ℤ b *ℤ l
sum1 = order 6 (λ a b m n k l. (m ⊞ n ≈ k ⊞ l) ∷ [] ⊢ m ⊠ b ⊟ n ⊠ a ⊞ n ⊠ (a ⊞ b) ≈ b ⊠ k ⊞ b ⊠ l by times 0 b) tt

sum2 : (a b m n k l : ℤ) → m +ℤ n ≡ k +ℤ l → m *ℤ (a +ℤ b) +ℤ (n *ℤ a -ℤ m *ℤ b) ≡ a *ℤ k +ℤ a *ℤ l
sum2 = order 6 (λ a b m n k l. (m ⊞ n ≈ k ⊞ l) ∷ [] ⊢ m ⊠ (a ⊞ b) ⊞ (n ⊠ a ⊟ m ⊠ b) ≈ a ⊠ k ⊞ a ⊠ l by times 0 a) tt

-- What meets p s meets p h or h s.
flat-meet : (p h s u t : Vertex) → Between p h s → Meet p s u t → Meet p h u t ⊎ Meet h s u t
flat-meet p h s u t r M = ⊎_elim
    (λ i. inl (record {
      m = M.m *ℤ r.b -ℤ M.n *ℤ r.a;
      n = M.n *ℤ (r.a +ℤ r.b);
      k = r.b *ℤ M.k;
      l = r.b *ℤ M.l;
      m0 = le_slack i;
      n0 = ms r.a r.b M.n r.a0 r.b0 M.n0;
      k0 = nonneg_*ℤ r.b M.k (<ℤ-≤ℤ r.b0) M.k0;
      l0 = nonneg_*ℤ r.b M.l (<ℤ-≤ℤ r.b0) M.l0;
      some = som1 r.a r.b M.m M.n r.b0 M.some;
      sums = sum1 r.a r.b M.m M.n M.k M.l M.sums;
      atx = m1x r.a r.b M.m M.n M.k M.l p.x h.x s.x u.x t.x r.atx M.atx;
      aty = m1x r.a r.b M.m M.n M.k M.l p.y h.y s.y u.y t.y r.aty M.aty;
    }))
    (λ i. inr (record {
      m = M.m *ℤ (r.a +ℤ r.b);
      n = M.n *ℤ r.a -ℤ M.m *ℤ r.b;
      k = r.a *ℤ M.k;
      l = r.a *ℤ M.l;
      m0 = ms r.a r.b M.m r.a0 r.b0 M.m0;
      n0 = le_slack (<ℤ-≤ℤ i);
      k0 = nonneg_*ℤ r.a M.k (<ℤ-≤ℤ r.a0) M.k0;
      l0 = nonneg_*ℤ r.a M.l (<ℤ-≤ℤ r.a0) M.l0;
      some = som2 r.a r.b M.m M.n r.a0 M.some;
      sums = sum2 r.a r.b M.m M.n M.k M.l M.sums;
      atx = m2x r.a r.b M.m M.n M.k M.l p.x h.x s.x u.x t.x r.atx M.atx;
      aty = m2x r.a r.b M.m M.n M.k M.l p.y h.y s.y u.y t.y r.aty M.aty;
    }))
    (le_or_lt (M.n *ℤ r.a) (M.m *ℤ r.b))

-- ---- the neighbours of the new edge
c+ : (K b X Y u v' U W : ℤ) → pos 0 ≺ K → K *ℤ u ≡ b *ℤ U → K *ℤ v' ≡ b *ℤ W → Y *ℤ U -ℤ X *ℤ W ≡ pos 0 → pos 0 ≺ Y *ℤ u -ℤ X *ℤ v' → ⊥
c+ = order 8 (λ K b X Y u v' U W. (# (pos 0) ⋖ K) ∷ (K ⊠ u ≈ b ⊠ U) ∷ (K ⊠ v' ≈ b ⊠ W) ∷ (Y ⊠ U ⊟ X ⊠ W ≈ # (pos 0)) ∷ (# (pos 0) ⋖ Y ⊠ u ⊟ X ⊠ v') ∷ []
    ⊢ never by hyp 0 ⊗ hyp 4 ⊕ hyp 0 ⊕ hyp 4 ⊕ times 1 Y ⊕ times 2 (⊖ X) ⊕ times 3 b) tt

-- And not negative.
c- : (K b X Y u v' U W : ℤ) → pos 0 ≺ K → K *ℤ u ≡ b *ℤ U → K *ℤ v' ≡ b *ℤ W → Y *ℤ U -ℤ X *ℤ W ≡ pos 0 → Y *ℤ u -ℤ X *ℤ v' ≺ pos 0 → ⊥
c- = order 8 (λ K b X Y u v' U W. (# (pos 0) ⋖ K) ∷ (K ⊠ u ≈ b ⊠ U) ∷ (K ⊠ v' ≈ b ⊠ W) ∷ (Y ⊠ U ⊟ X ⊠ W ≈ # (pos 0)) ∷ (Y ⊠ u ⊟ X ⊠ v' ⋖ # (pos 0)) ∷ []
    ⊢ never by hyp 0 ⊗ hyp 4 ⊕ hyp 0 ⊕ hyp 4 ⊕ times 1 (⊖ Y) ⊕ times 2 X ⊕ times 3 (⊖ b)) tt

-- The inner product keeps its sign.
d+ : (K b X Y u v' U W : ℤ) → pos 0 ≺ K → K *ℤ u ≡ b *ℤ U → K *ℤ v' ≡ b *ℤ W → pos 0 ≺ b → X *ℤ u +ℤ Y *ℤ v' ≺ pos 0 → pos 0 ≼ X *ℤ U +ℤ Y *ℤ W → ⊥
d+ = order 8 (λ K b X Y u v' U W. (# (pos 0) ⋖ K) ∷ (K ⊠ u ≈ b ⊠ U) ∷ (K ⊠ v' ≈ b ⊠ W) ∷ (# (pos 0) ⋖ b) ∷ (X ⊠ u ⊞ Y ⊠ v' ⋖ # (pos 0)) ∷ (# (pos 0) ≲ X ⊠ U ⊞ Y ⊠ W) ∷ []
    ⊢ never by hyp 0 ⊗ hyp 4 ⊕ hyp 0 ⊕ hyp 4 ⊕ (hyp 3 ⊕ num 1) ⊗ hyp 5 ⊕ times 1 (⊖ X) ⊕ times 2 (⊖ Y)) tt

-- Neighbours that share their corner alone do so where the second is made longer.
adj-scale : (q p h s : Vertex) (K b : ℤ) → pos 0 ≺ K → pos 0 ≺ b → K *ℤ (h.x -ℤ p.x) ≡ b *ℤ (s.x -ℤ p.x) → K *ℤ (h.y -ℤ p.y) ≡ b *ℤ (s.y -ℤ p.y) → ShareOnly q p h → ShareOnly q p s
unfolding along_edge
adj-scale q p h s K b k0 b0 ex ey adj = record {
  apart = λ e. ⊎_elim
      (λ i. absurd (d+ K b X Y (h.x -ℤ p.x) (h.y -ℤ p.y) (s.x -ℤ p.x) (s.y -ℤ p.y) k0 ex ey b0 (adj.apart (zero (sym (cross-from q p s) ∙ e))) i)) (λ i. i) (le_or_lt (pos 0) (dot q p s));
}
  where
    X : ℤ
    X = q.x -ℤ p.x

    Y : ℤ
    Y = q.y -ℤ p.y

    zero : Y *ℤ (s.x -ℤ p.x) -ℤ X *ℤ (s.y -ℤ p.y) ≡ pos 0 → cross q p h ≡ pos 0
    zero e = cross-from q p h ∙ ≤ℤ-antisym
        (⊎_elim (λ i. i) (λ i. absurd (c+ K b X Y (h.x -ℤ p.x) (h.y -ℤ p.y) (s.x -ℤ p.x) (s.y -ℤ p.y) k0 ex ey e i)) (le_or_lt _ (pos 0)))
        (⊎_elim (λ i. i) (λ i. absurd (c- K b X Y (h.x -ℤ p.x) (h.y -ℤ p.y) (s.x -ℤ p.x) (s.y -ℤ p.y) k0 ex ey e i)) (le_or_lt (pos 0) _))

-- The direction from p to h and to s is the same.
tp : (a b p h s : ℤ) → a *ℤ (p -ℤ h) +ℤ b *ℤ (s -ℤ h) ≡ pos 0 → (a +ℤ b) *ℤ (h -ℤ p) ≡ b *ℤ (s -ℤ p)
tp = order 5 (λ a b p h s. (a ⊠ (p ⊟ h) ⊞ b ⊠ (s ⊟ h) ≈ # (pos 0)) ∷ [] ⊢ (a ⊞ b) ⊠ (h ⊟ p) ≈ b ⊠ (s ⊟ p) by times 0 (# (negsuc 0))) tt

-- So it is from s.
ts : (a b p h s : ℤ) → a *ℤ (p -ℤ h) +ℤ b *ℤ (s -ℤ h) ≡ pos 0 → (a +ℤ b) *ℤ (h -ℤ s) ≡ a *ℤ (p -ℤ s)
ts = order 5 (λ a b p h s. (a ⊠ (p ⊟ h) ⊞ b ⊠ (s ⊟ h) ≈ # (pos 0)) ∷ [] ⊢ (a ⊞ b) ⊠ (h ⊟ s) ≈ a ⊠ (p ⊟ s) by times 0 (# (negsuc 0))) tt

-- Without the corner in line the outline is simple.
pub simple_flat : (h s m m' : Vertex) (M' : List Vertex) → let M = m ∷ m' ∷ M' in IsSimple (h ∷ s ∷ M) → cross (last_of s M) h s ≡ pos 0 → IsSimple (s ∷ M)
simple_flat h s m m' M' g e = simple_close g s m m' M' g.dist.1 (λ u t o. inl (inr o)) free
    (share_sym (adj-scale m s h p (r.a +ℤ r.b) r.a (plus_lt r.a r.b r.a0 r.b0) r.a0 (ts r.a r.b p.x h.x s.x r.atx) (ts r.a r.b p.y h.y s.y r.aty) (share_sym (g.adj h s m (inl (inl (refl, refl))) (inl (inr (inl (refl, refl))))))))
    (λ q o. adj-scale q p h s (r.a +ℤ r.b) r.b (plus_lt r.a r.b r.a0 r.b0) r.b0 (tp r.a r.b p.x h.x s.x r.atx) (tp r.a r.b p.y h.y s.y r.aty) (g.adj q p h (inl (inr o)) (inr (refl, refl))))
  where
    M : List Vertex
    M = m ∷ m' ∷ M'

    p : Vertex
    p = last_of s M

    r : Between p h s
    r = between p h s (g.adj p h s (inr (refl, refl)) (inl (inl (refl, refl)))) e

    free : (u t : Vertex) → PathEdge s M u t → (p ≡ u → ⊥) → (s ≡ u → ⊥) → (p ≡ t → ⊥) → (s ≡ t → ⊥) → Meet p s u t → ⊥
    free u t o n1 n2 n3 n4 N = ⊎_elim (λ i. g.far p h u t (inr (refl, refl)) (inl (inr o)) n1 (not_on_path h s M u t g.dist.0 o).0 n3 i)
        (λ i. g.far h s u t (inl (inl (refl, refl))) (inl (inr o)) (not_on_path h s M u t g.dist.0 o).0 n2 (not_on_path h s M u t g.dist.0 o).1 i) (flat-meet p h s u t r N)

-- It has the same κ.
pub κ_flat : (h s m m' : Vertex) (M' : List Vertex) → let M = m ∷ m' ∷ M' in IsSimple (h ∷ s ∷ M) → cross (last_of s M) h s ≡ pos 0 → κ (s ∷ M) ≡ κ (h ∷ s ∷ M)
κ_flat h s m m' M' g e = κ_less h s m m' M' g (simple_flat h s m m' M' g e) (tri_flat (last_of m' M') h s m e)
