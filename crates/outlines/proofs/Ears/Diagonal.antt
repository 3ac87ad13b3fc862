-- A diagonal: the segment from a corner to one in its triangle that is nearest to it. What meets the segment meets it at its far end.
use mathlib.Core.List.{List, [], ◌∷◌}
use mathlib.Core.Logic.{◌⊎◌, inl, inr, ⊎_elim}
use mathlib.Core.Path.{◌≡◌, sym, ◌∙◌, ap, ap₂, subst}
use lib.IntN.{ℤ, pos, negsuc, ◌+ℤ◌, ◌-ℤ◌, ◌*ℤ◌, +ℤ_idl, +ℤ_idr, +ℤ_comm, -ℤ-+ℤ_cancel}
use lib.Signed.{clash_ℤ, ≤ℤ_refl}
use Rattle.integers.proofs.Order.{≤ℤ-trans, ≤ℤ-antisym, <ℤ-≤ℤ, le_or_lt}
use Rattle.model.specs.Content.{Vertex}
use Rattle.model.specs.Geometry.{cross, along_edge}
use Rattle.outlines.specs.Simple.{Meet, ShareOnly, Edge, IsSimple}
use Rattle.outlines.proofs.Tools.{◌≼◌, ◌≺◌, #, ◌⊞◌, ◌⊟◌, ◌⊠◌, ⊖◌, ◌≲◌, ◌⋖◌, ◌≈◌, never, hyp, sqr, ◌⊕◌, ◌⊗◌, ◌⊢◌by◌, order, refilled, summand, le_minus, plus_lt, ring, times}
use Rattle.outlines.proofs.Crossing.{cross-rot, cross-1, cross-2}
use Rattle.outlines.proofs.Winding.Cone.{cross-from}
use Rattle.outlines.proofs.Winding.Telescope.{Meet-ab, Meet-uw, meet+, meet-}
use Rattle.outlines.proofs.Winding.Turning.{Three}
use Rattle.outlines.proofs.Kept.Legs.{coord_x, coord_y}
use Rattle.outlines.proofs.Kept.Reach.{Outside, depth, End, diag_free, diag_s, diag_p, diag_depth}
use Rattle.outlines.proofs.Kept.EarClipped.{depth_line}
use Rattle.outlines.proofs.Ears.Turned.{Mem, edge_mem, next, edge_ne, succ_one, pred_one}

-- ---- equality of corners
dec_z : (a b : ℤ) → (a ≡ b) ⊎ (a ≡ b → ⊥)
dec_z a b = ⊎_elim (λ i. ⊎_elim (λ j. inl (≤ℤ-antisym i j)) (λ j. inr (λ e. clash_ℤ j (subst (λ t. t ≼ a) e (≤ℤ_refl a)))) (le_or_lt b a))
    (λ i. inr (λ e. clash_ℤ i (subst (λ t. a ≼ t) e (≤ℤ_refl a)))) (le_or_lt a b)

-- Corners with the same coordinates are the same.
pub at_same : {a b : Vertex} → a.x ≡ b.x → a.y ≡ b.y → a ≡ b
at_same i j = ap₂ (λ s t. record { x = s; y = t }) i j

-- Two corners are the same or not.
pub dec : (a b : Vertex) → (a ≡ b) ⊎ (a ≡ b → ⊥)
dec a b = ⊎_elim (λ i. ⊎_elim (λ j. inl (at_same i j)) (λ j. inr (λ e. j (ap (λ v. v.y) e))) (dec_z a.y b.y)) (λ i. inr (λ e. i (ap (λ v. v.x) e))) (dec_z a.x b.x)

-- ---- a point on an edge

-- z is on the edge u t.
pub record On (z u t : Vertex) : Type 0 where
  pub k : ℤ
  pub l : ℤ
  pub k0 : pos 0 ≼ k
  pub l0 : pos 0 ≼ l
  pub some : pos 0 ≺ k +ℤ l
  pub atx : (k +ℤ l) *ℤ z.x ≡ k *ℤ u.x +ℤ l *ℤ t.x
  pub aty : (k +ℤ l) *ℤ z.y ≡ k *ℤ u.y +ℤ l *ℤ t.y

-- What meets h z in z alone has z on it.
pub meet-on : (h z u t : Vertex) (M : Meet h z u t) → M.m ≡ pos 0 → On z u t
meet-on h z u t M e = record {
  k = M.k;
  l = M.l;
  k0 = M.k0;
  l0 = M.l0;
  some = subst (λ q. pos 0 ≺ q) M.sums M.some;
  atx = at M.m M.n M.k M.l h.x z.x u.x t.x e M.sums M.atx;
  aty = at M.m M.n M.k M.l h.y z.y u.y t.y e M.sums M.aty;
}
  where
    at : (m n k l h z u t : ℤ) → m ≡ pos 0 → m +ℤ n ≡ k +ℤ l → m *ℤ h +ℤ n *ℤ z ≡ k *ℤ u +ℤ l *ℤ t → (k +ℤ l) *ℤ z ≡ k *ℤ u +ℤ l *ℤ t
    at = order 8 (λ m n k l h z u t. (m ≈ # (pos 0)) ∷ (m ⊞ n ≈ k ⊞ l) ∷ (m ⊠ h ⊞ n ⊠ z ≈ k ⊠ u ⊞ l ⊠ t) ∷ [] ⊢ (k ⊞ l) ⊠ z ≈ k ⊠ u ⊞ l ⊠ t by times 2 (# (pos 1)) ⊕ times 1 (⊖ z) ⊕ times 0 (z ⊟ h)) tt

-- A point on an edge meets it.
pub on_meet : (z y u t : Vertex) → On z u t → Meet z y u t
on_meet z y u t o = record {
  m = o.k +ℤ o.l;
  n = pos 0;
  k = o.k;
  l = o.l;
  m0 = <ℤ-≤ℤ o.some;
  n0 = ≤ℤ_refl (pos 0);
  k0 = o.k0;
  l0 = o.l0;
  some = subst (λ q. pos 0 ≺ q) (sym (+ℤ_idr (o.k +ℤ o.l))) o.some;
  sums = +ℤ_idr (o.k +ℤ o.l);
  atx = z0 (o.k +ℤ o.l) z.x y.x ∙ o.atx;
  aty = z0 (o.k +ℤ o.l) z.y y.y ∙ o.aty;
}
  where
    z0 : (m z y : ℤ) → m *ℤ z +ℤ pos 0 *ℤ y ≡ m *ℤ z
    z0 = ring 3 (λ m z y. m ⊠ z ⊞ # (pos 0) ⊠ y ≈ m ⊠ z) tt

-- The edge turned round.
pub on_swap : {z u t : Vertex} → On z u t → On z t u
on_swap {z} {u} {t} o = record { k = o.l; l = o.k; k0 = o.l0; l0 = o.k0; some = subst (λ q. pos 0 ≺ q) (+ℤ_comm o.k o.l) o.some; atx = sw o.k o.l z.x u.x t.x o.atx; aty = sw o.k o.l z.y u.y t.y o.aty }
  where
    sw : (k l z u t : ℤ) → (k +ℤ l) *ℤ z ≡ k *ℤ u +ℤ l *ℤ t → (l +ℤ k) *ℤ z ≡ l *ℤ t +ℤ k *ℤ u
    sw = order 5 (λ k l z u t. ((k ⊞ l) ⊠ z ≈ k ⊠ u ⊞ l ⊠ t) ∷ [] ⊢ (l ⊞ k) ⊠ z ≈ l ⊠ t ⊞ k ⊠ u by times 0 (# (pos 1))) tt

-- With z on u t, the neighbours z u and u t share more than u.
on_adj : (z u t : Vertex) → On z u t → ShareOnly z u t → ⊥
unfolding along_edge
on_adj z u t o a = bad (o.k +ℤ o.l) o.l (z.x -ℤ u.x) (z.y -ℤ u.y) (t.x -ℤ u.x) (t.y -ℤ u.y) o.some o.l0 ex ey (a.apart (cross-from z u t ∙ zero))
  where
    dif : (k l z u t : ℤ) → (k +ℤ l) *ℤ z ≡ k *ℤ u +ℤ l *ℤ t → (k +ℤ l) *ℤ (z -ℤ u) ≡ l *ℤ (t -ℤ u)
    dif = order 5 (λ k l z u t. ((k ⊞ l) ⊠ z ≈ k ⊠ u ⊞ l ⊠ t) ∷ [] ⊢ (k ⊞ l) ⊠ (z ⊟ u) ≈ l ⊠ (t ⊟ u) by times 0 (# (pos 1))) tt

    ex : (o.k +ℤ o.l) *ℤ (z.x -ℤ u.x) ≡ o.l *ℤ (t.x -ℤ u.x)
    ex = dif o.k o.l z.x u.x t.x o.atx

    ey : (o.k +ℤ o.l) *ℤ (z.y -ℤ u.y) ≡ o.l *ℤ (t.y -ℤ u.y)
    ey = dif o.k o.l z.y u.y t.y o.aty

    bad : (K l X Y a b : ℤ) → pos 0 ≺ K → pos 0 ≼ l → K *ℤ X ≡ l *ℤ a → K *ℤ Y ≡ l *ℤ b → X *ℤ a +ℤ Y *ℤ b ≺ pos 0 → ⊥
    bad = order 6 (λ K l X Y a b. (# (pos 0) ⋖ K) ∷ (# (pos 0) ≲ l) ∷ (K ⊠ X ≈ l ⊠ a) ∷ (K ⊠ Y ≈ l ⊠ b) ∷ (X ⊠ a ⊞ Y ⊠ b ⋖ # (pos 0)) ∷ []
        ⊢ never by hyp 0 ⊗ hyp 4 ⊕ hyp 0 ⊕ hyp 4 ⊕ hyp 1 ⊗ (sqr a ⊕ sqr b) ⊕ times 2 (⊖ a) ⊕ times 3 (⊖ b)) tt

    up : (K l X Y a b : ℤ) → pos 0 ≺ K → K *ℤ X ≡ l *ℤ a → K *ℤ Y ≡ l *ℤ b → pos 0 ≺ Y *ℤ a -ℤ X *ℤ b → ⊥
    up = order 6 (λ K l X Y a b. (# (pos 0) ⋖ K) ∷ (K ⊠ X ≈ l ⊠ a) ∷ (K ⊠ Y ≈ l ⊠ b) ∷ (# (pos 0) ⋖ Y ⊠ a ⊟ X ⊠ b) ∷ []
        ⊢ never by hyp 0 ⊗ hyp 3 ⊕ hyp 0 ⊕ hyp 3 ⊕ times 1 (⊖ b) ⊕ times 2 a) tt

    dn : (K l X Y a b : ℤ) → pos 0 ≺ K → K *ℤ X ≡ l *ℤ a → K *ℤ Y ≡ l *ℤ b → Y *ℤ a -ℤ X *ℤ b ≺ pos 0 → ⊥
    dn = order 6 (λ K l X Y a b. (# (pos 0) ⋖ K) ∷ (K ⊠ X ≈ l ⊠ a) ∷ (K ⊠ Y ≈ l ⊠ b) ∷ (Y ⊠ a ⊟ X ⊠ b ⋖ # (pos 0)) ∷ []
        ⊢ never by hyp 0 ⊗ hyp 3 ⊕ hyp 0 ⊕ hyp 3 ⊕ times 1 b ⊕ times 2 (⊖ a)) tt

    zero : (z.y -ℤ u.y) *ℤ (t.x -ℤ u.x) -ℤ (z.x -ℤ u.x) *ℤ (t.y -ℤ u.y) ≡ pos 0
    zero = ≤ℤ-antisym
        (⊎_elim (λ i. i) (λ i. absurd (up (o.k +ℤ o.l) o.l (z.x -ℤ u.x) (z.y -ℤ u.y) (t.x -ℤ u.x) (t.y -ℤ u.y) o.some ex ey i)) (le_or_lt _ (pos 0)))
        (⊎_elim (λ i. i) (λ i. absurd (dn (o.k +ℤ o.l) o.l (z.x -ℤ u.x) (z.y -ℤ u.y) (t.x -ℤ u.x) (t.y -ℤ u.y) o.some ex ey i)) (le_or_lt (pos 0) _))

-- No corner of a simple outline lies on an edge but its ends.
pub off_edge : (P : List Vertex) → IsSimple P → (z u t : Vertex) → Mem z P → Edge P u t → (z ≡ u → ⊥) → (z ≡ t → ⊥) → On z u t → ⊥
off_edge P g z u t m e n1 n2 o = let r = next P z m in
    ⊎_elim (λ i. on_adj z u t o (g.adj z u t (subst (λ q. Edge P z q) i r.1) e))
    (λ i. g.far z r.0 u t r.1 e n1 i n2 (on_meet z r.0 u t o)) (dec r.0 u)

-- ---- strictly inside the triangle but for the new side

-- x blocks the triangle at h: it lies in it, on neither leg.
pub record Blocks (p h s x : Vertex) : Type 0 where
  pub a : pos 0 ≺ cross h s x
  pub b : pos 0 ≺ cross p h x
  pub c : depth p h s x ≼ cross p h s

-- A point of the triangle whose one coordinate is 0 lies on a leg.
onx : (d a b h p s x : ℤ) → d *ℤ (x -ℤ h) ≡ a *ℤ (p -ℤ h) +ℤ b *ℤ (s -ℤ h) → a ≡ pos 0 → (d -ℤ b +ℤ b) *ℤ x ≡ (d -ℤ b) *ℤ h +ℤ b *ℤ s
onx = order 7 (λ d a b h p s x. (d ⊠ (x ⊟ h) ≈ a ⊠ (p ⊟ h) ⊞ b ⊠ (s ⊟ h)) ∷ (a ≈ # (pos 0)) ∷ [] ⊢ (d ⊟ b ⊞ b) ⊠ x ≈ (d ⊟ b) ⊠ h ⊞ b ⊠ s by times 0 (# (pos 1)) ⊕ times 1 (p ⊟ h)) tt

onx' : (d a b h p s x : ℤ) → d *ℤ (x -ℤ h) ≡ a *ℤ (p -ℤ h) +ℤ b *ℤ (s -ℤ h) → b ≡ pos 0 → (a +ℤ (d -ℤ a)) *ℤ x ≡ a *ℤ p +ℤ (d -ℤ a) *ℤ h
onx' = order 7 (λ d a b h p s x. (d ⊠ (x ⊟ h) ≈ a ⊠ (p ⊟ h) ⊞ b ⊠ (s ⊟ h)) ∷ (b ≈ # (pos 0)) ∷ [] ⊢ (a ⊞ (d ⊟ a)) ⊠ x ≈ a ⊠ p ⊞ (d ⊟ a) ⊠ h by times 0 (# (pos 1)) ⊕ times 1 (s ⊟ h)) tt

-- What is left of the size.
rest_b : (a b d : ℤ) → a ≡ pos 0 → a +ℤ b ≼ d → pos 0 ≼ d -ℤ b
rest_b = order 3 (λ a b d. (a ≈ # (pos 0)) ∷ (a ⊞ b ≲ d) ∷ [] ⊢ # (pos 0) ≲ d ⊟ b by hyp 1 ⊕ times 0 (# (negsuc 0))) tt

rest_a : (a b d : ℤ) → b ≡ pos 0 → a +ℤ b ≼ d → pos 0 ≼ d -ℤ a
rest_a = order 3 (λ a b d. (b ≈ # (pos 0)) ∷ (a ⊞ b ≲ d) ∷ [] ⊢ # (pos 0) ≲ d ⊟ a by hyp 1 ⊕ times 0 (# (negsuc 0))) tt

-- Another corner is outside the triangle, or blocks it.
pub in_or_out : (P : List Vertex) → IsSimple P → (p h s : Vertex) → Edge P p h → Edge P h s → pos 0 ≺ cross p h s → (x : Vertex) → Mem x P → (x ≡ p → ⊥) → (x ≡ h → ⊥) → (x ≡ s → ⊥) → Outside p h s x ⊎ Blocks p h s x
in_or_out P g p h s e f d x m np nh ns = ⊎_elim
    (λ i. ⊎_elim
    (λ j. ⊎_elim
    (λ k. ⊎_elim
    (λ u. ⊎_elim (λ v. inr (record { a = u; b = v; c = k })) (λ v. absurd (off_edge P g x p h m e np nh (on_b (≤ℤ-antisym v j) i k))) (lt_or B))
    (λ u. absurd (off_edge P g x h s m f nh ns (on_a (≤ℤ-antisym u i) j k))) (lt_or A))
    (λ k. inl (inr k)) (le_or_lt (depth p h s x) (cross p h s)))
    (λ j. inl (inl (inr j))) (le_or_lt (pos 0) B))
    (λ i. inl (inl (inl i))) (le_or_lt (pos 0) A)
  where
    A : ℤ
    A = cross h s x

    B : ℤ
    B = cross p h x

    D : ℤ
    D = cross p h s

    lt_or : (t : ℤ) → (pos 0 ≺ t) ⊎ (t ≼ pos 0)
    lt_or t = ⊎_elim (λ i. inr i) (λ i. inl i) (le_or_lt t (pos 0))

    on_a : A ≡ pos 0 → pos 0 ≼ B → depth p h s x ≼ D → On x h s
    on_a i j k = record {
      k = D -ℤ B;
      l = B;
      k0 = rest_b A B D i k;
      l0 = j;
      some = subst (λ q. pos 0 ≺ q) (sym (-ℤ-+ℤ_cancel D B)) d;
      atx = onx D A B h.x p.x s.x x.x (coord_x p h s x) i;
      aty = onx D A B h.y p.y s.y x.y (coord_y p h s x) i;
    }

    on_b : B ≡ pos 0 → pos 0 ≼ A → depth p h s x ≼ D → On x p h
    on_b i j k = record {
      k = A;
      l = D -ℤ A;
      k0 = j;
      l0 = rest_a A B D i k;
      some = refilled D A d;
      atx = onx' D A B h.x p.x s.x x.x (coord_x p h s x) i;
      aty = onx' D A B h.y p.y s.y x.y (coord_y p h s x) i;
    }

-- ---- the segment

-- x is outside the triangle, or no nearer to h than z.
abbrev pub Far : Vertex → Vertex → Vertex → Vertex → Vertex → Type 0
Far p h s z x = Outside p h s x ⊎ (depth p h s z ≼ depth p h s x)

-- The feet of the legs lie as deep as the new side.
depth_s : (p h s : Vertex) → depth p h s s ≡ cross p h s
depth_s p h s = ap (λ t. t +ℤ cross p h s) (cross-2 h s) ∙ +ℤ_idl (cross p h s)

depth_p : (p h s : Vertex) → depth p h s p ≡ cross p h s
depth_p p h s = ap₂ ◌+ℤ◌ (sym (cross-rot p h s)) (cross-1 p h) ∙ +ℤ_idr (cross p h s)

-- s t, from the foot of the one leg over the other.
over_s : (p h s t : Vertex) → pos 0 ≺ cross p h s → pos 0 ≼ cross h s t → cross p h t ≺ pos 0 → depth p h s t ≼ cross p h s → Meet p h s t
over_s p h s t d a b c = meet+ p h s t (subst (λ q. pos 0 ≼ q) (cross-rot h s t) a) (subst (λ q. q ≼ pos 0) (sym e) (le_minus (depth p h s t) (cross p h s) c)) (<ℤ-≤ℤ d) (<ℤ-≤ℤ b)
    (subst (λ q. q ≺ cross s t h) (sym e) (subst (λ q. depth p h s t -ℤ cross p h s ≺ q) (cross-rot h s t) (lt (cross h s t) (cross p h t) (cross p h s) d b)))
  where
    e : cross s t p ≡ depth p h s t -ℤ cross p h s
    e = cross-rot s t p ∙ summand (depth p h s t) (cross p h s) (cross t p s) (depth_line p h s t)

    lt : (a b d : ℤ) → pos 0 ≺ d → b ≺ pos 0 → a +ℤ b -ℤ d ≺ a
    lt = order 3 (λ a b d. (# (pos 0) ⋖ d) ∷ (b ⋖ # (pos 0)) ∷ [] ⊢ a ⊞ b ⊟ d ⋖ a by hyp 0 ⊕ hyp 1) tt

-- p t, from the foot of the one leg over the other.
over_p : (p h s t : Vertex) → pos 0 ≺ cross p h s → cross h s t ≺ pos 0 → pos 0 ≼ cross p h t → depth p h s t ≼ cross p h s → Meet h s t p
over_p p h s t d a b c = meet- h s t p (subst (λ q. q ≼ pos 0) (sym e) (le_minus (depth p h s t) (cross p h s) c)) (subst (λ q. pos 0 ≼ q) (sym (cross-rot t p h)) b) (<ℤ-≤ℤ a) (subst (λ q. pos 0 ≼ q) (cross-rot p h s) (<ℤ-≤ℤ d))
    (subst (λ q. q ≺ cross t p h) (sym e) (subst (λ q. depth p h s t -ℤ cross p h s ≺ q) (sym (cross-rot t p h)) (lt (cross h s t) (cross p h t) (cross p h s) d a)))
  where
    e : cross t p s ≡ depth p h s t -ℤ cross p h s
    e = summand (depth p h s t) (cross p h s) (cross t p s) (depth_line p h s t)

    lt : (a b d : ℤ) → pos 0 ≺ d → a ≺ pos 0 → a +ℤ b -ℤ d ≺ b
    lt = order 3 (λ a b d. (# (pos 0) ⋖ d) ∷ (a ⋖ # (pos 0)) ∷ [] ⊢ a ⊞ b ⊟ d ⋖ b by hyp 0 ⊕ hyp 1) tt

-- What meets the diagonal h z meets it in z alone.
pub diagonal : (P : List Vertex) → Three P → IsSimple P → (p h s : Vertex) → Edge P p h → Edge P h s → pos 0 ≺ cross p h s → (z : Vertex) → Blocks p h s z →
    ((x : Vertex) → Mem x P → (x ≡ p → ⊥) → (x ≡ h → ⊥) → (x ≡ s → ⊥) → Far p h s z x) →
    (u t : Vertex) → Edge P u t → (h ≡ u → ⊥) → (h ≡ t → ⊥) → (M : Meet h z u t) → M.m ≡ pos 0
diagonal P three g p h s eph ehs d z blk far u t e hu ht M = ⊎_elim (λ us. from-s us) (λ us. ⊎_elim (λ tp. to-p us tp) (λ tp. off us tp) (dec t p)) (dec u s)
  where
    pz : pos 0 ≺ depth p h s z
    pz = plus_lt (cross h s z) (cross p h z) blk.a blk.b

    at_s : depth p h s z ≼ depth p h s s
    at_s = subst (λ q. depth p h s z ≼ q) (sym (depth_s p h s)) blk.c

    at_p : depth p h s z ≼ depth p h s p
    at_p = subst (λ q. depth p h s z ≼ q) (sym (depth_p p h s)) blk.c

    beyond : (x : Vertex) → cross p h s ≺ depth p h s x → depth p h s z ≼ depth p h s x
    beyond x i = ≤ℤ-trans blk.c (<ℤ-≤ℤ i)

    from-s : u ≡ s → M.m ≡ pos 0
    from-s us = go (subst (λ q. Meet h z q t) us M)
      where
        e' : Edge P s t
        e' = subst (λ q. Edge P q t) us e

        lv : depth p h s z ≼ depth p h s t → M.m ≡ pos 0
        lv i = diag_depth p h s z u t pz (subst (λ q. depth p h s z ≼ depth p h s q) (sym us) at_s) i M

        out : (t ≡ p → ⊥) → Meet h z s t → Far p h s z t → M.m ≡ pos 0
        out n N = ⊎_elim (λ o. ⊎_elim (λ i. ⊎_elim (λ j. absurd (diag_s p h s z t d blk.a j N))
            (λ j. ⊎_elim (λ k. ⊎_elim (λ l. absurd (g.far p h s t eph e' (λ q. edge_ne P p h three g eph (q ∙ sym (sh q))) (edge_ne P h s three g ehs) (λ q. n (sym q)) (over_s p h s t d k j l))) (λ l. lv (beyond t l)) (le_or_lt (depth p h s t) (cross p h s)))
            (λ k. absurd (diag_s p h s z t d blk.a k N)) (le_or_lt (pos 0) (cross h s t))) i) (λ i. lv (beyond t i)) o) lv
          where
            sh : p ≡ s → h ≡ s
            sh q = absurd (clash_ℤ d (subst (λ r. r ≼ pos 0) (sym (ap (λ r. cross p h r) (sym q) ∙ cross-1 p h)) (≤ℤ_refl (pos 0))))

        go : Meet h z s t → M.m ≡ pos 0
        go N = ⊎_elim (λ i. lv (subst (λ q. depth p h s z ≼ depth p h s q) (sym i) at_p))
            (λ i. out i N (far t (edge_mem P s t e').1 i (λ q. ht (sym q)) (λ q. edge_ne P s t three g e' (sym q)))) (dec t p)

    to-p : (u ≡ s → ⊥) → t ≡ p → M.m ≡ pos 0
    to-p us tp = out (subst (λ q. Meet h z u q) tp M) (far u (edge_mem P u p e').0 (edge_ne P u p three g e') (λ q. hu (sym q)) us)
      where
        e' : Edge P u p
        e' = subst (λ q. Edge P u q) tp e

        lv : depth p h s z ≼ depth p h s u → M.m ≡ pos 0
        lv i = diag_depth p h s z u t pz i (subst (λ q. depth p h s z ≼ depth p h s q) (sym tp) at_p) M

        out : Meet h z u p → Far p h s z u → M.m ≡ pos 0
        out N = ⊎_elim (λ o. ⊎_elim (λ i. ⊎_elim
            (λ j. ⊎_elim (λ k. ⊎_elim (λ l. absurd (g.far h s u p ehs e' hu (λ q. us (sym q)) (λ q. edge_ne P p h three g eph (sym q)) (over_p p h s u d j k l))) (λ l. lv (beyond u l)) (le_or_lt (depth p h s u) (cross p h s)))
            (λ k. absurd (diag_p p h s z u d blk.b k (Meet-uw N))) (le_or_lt (pos 0) (cross p h u)))
            (λ j. absurd (diag_p p h s z u d blk.b j (Meet-uw N))) i) (λ i. lv (beyond u i)) o) lv

    off : (u ≡ s → ⊥) → (t ≡ p → ⊥) → M.m ≡ pos 0
    off us tp = diag_free p h s z u t d (<ℤ-≤ℤ blk.a) (<ℤ-≤ℤ blk.b) pz blk.c
        (end u (far u (edge_mem P u t e).0 up (λ q. hu (sym q)) us)) (end t (far t (edge_mem P u t e).1 tp (λ q. ht (sym q)) ts))
        (λ N. g.far p h u t eph e (λ q. up (sym q)) hu (λ q. tp (sym q)) (Meet-ab N)) (λ N. g.far h s u t ehs e hu (λ q. us (sym q)) ht N) M
      where
        up : u ≡ p → ⊥
        up q = ht (sym (succ_one P p h t three g eph (subst (λ r. Edge P r t) q e)))

        ts : t ≡ s → ⊥
        ts q = hu (sym (pred_one P h u s three g ehs (subst (λ r. Edge P u r) q e)))

        end : (x : Vertex) → Far p h s z x → End p h s z x
        end x = ⊎_elim (λ o. ⊎_elim (λ i. ⊎_elim (λ l. inl (i, l)) (λ l. inr (beyond x l)) (le_or_lt (depth p h s x) (cross p h s))) (λ i. inr (beyond x i)) o) (λ i. inr i)
