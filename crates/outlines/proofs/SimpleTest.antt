-- An outline whose edges do not meet by the test is simple.
use mathlib.Core.Bool.{Bool, true, false, ◌&&◌, ◌||◌, true≢false}
use mathlib.Core.List.{List, [], ◌∷◌, ◌++◌}
use mathlib.Core.Logic.{inl, inr, ⊎_elim}
use mathlib.Core.Option.{Option, none, some}
use mathlib.Core.Path.{◌≡◌, refl, sym, ◌∙◌, ap, ap₂, subst}
use borrow.Author.Tests.{not-false}
use lib.IntN.{ℤ, pos, negsuc, ◌+ℤ◌, ◌-ℤ◌, ◌*ℤ◌}
use lib.Signed.{clash_ℤ, ≤ℤ_refl}
use Rattle.integers.proofs.Order.{lt_z_true, le_z_false}
use Rattle.model.specs.Content.{Vertex}
use Rattle.model.specs.Geometry.{cross, strictly_left, along_edge}
use Rattle.model.proofs.Lists.{and_left, and_right, or_left, or_right, and_four}
use Rattle.outlines.specs.Outline.{Place, first_where, is_zero, same_side, less_than, meet, doubles_back, meets_path, edge_meets, edges_meet, last_of}
use Rattle.outlines.specs.Simple.{Meet, ShareOnly, PathEdge, Edge, NotIn, Distinct, IsSimple}
use Rattle.outlines.proofs.Tools.{dot, ◌≼◌, ◌≺◌, #, ◌⊞◌, ◌⊟◌, ◌⊠◌, ⊖◌, ◌≲◌, ◌⋖◌, ◌≈◌, never, hyp, num, ◌⊕◌, ◌⊗◌, ◌⊢◌by◌, order, ring, times, or_case}
use Rattle.outlines.proofs.Crossing.{cross-1, cross-2}
use Rattle.outlines.proofs.Winding.Cone.{share_sym}
use Rattle.outlines.proofs.Winding.Telescope.{Meet-swap}
use Rattle.outlines.proofs.Winding.Turning.{Three, not_on_path}
use Rattle.outlines.proofs.Kept.Reach.{aff}
use Rattle.outlines.proofs.Ears.Turned.{mem_next, path_split, last_split, Turned, round, mem_not}
use Rattle.outlines.proofs.Ears.Block.{not_front}
use Rattle.outlines.proofs.Rule.{missed, is_zero_lem, left_is}

-- ---- edges that the test finds clear do not meet
one_side : (k l X Y : ℤ) → pos 0 ≼ k → pos 0 ≼ l → pos 0 ≺ k +ℤ l → pos 0 ≺ X → pos 0 ≺ Y → pos 0 ≡ k *ℤ X +ℤ l *ℤ Y → ⊥
one_side = order 4 (λ k l X Y. (# (pos 0) ≲ k) ∷ (# (pos 0) ≲ l) ∷ (# (pos 0) ⋖ k ⊞ l) ∷ (# (pos 0) ⋖ X) ∷ (# (pos 0) ⋖ Y) ∷ (# (pos 0) ≈ k ⊠ X ⊞ l ⊠ Y) ∷ []
    ⊢ never by hyp 0 ⊗ hyp 3 ⊕ hyp 1 ⊗ hyp 4 ⊕ hyp 2 ⊕ times 5 (# (negsuc 0))) tt

-- A mean of 0 and 0.
z2 : (m n : ℤ) → m *ℤ pos 0 +ℤ n *ℤ pos 0 ≡ pos 0
z2 = ring 2 (λ m n. m ⊠ # (pos 0) ⊞ n ⊠ # (pos 0) ≈ # (pos 0)) tt

-- The weights on the second edge.
kl : {a b u t : Vertex} (M : Meet a b u t) → pos 0 ≺ M.k +ℤ M.l
kl M = subst (λ q. pos 0 ≺ q) M.sums M.some

-- An edge on a line does not meet what lies strictly on one side of it.
line : (c d : Vertex) {a b u t : Vertex} (M : Meet a b u t) → cross c d a ≡ pos 0 → cross c d b ≡ pos 0 → pos 0 ≺ cross c d u → pos 0 ≺ cross c d t → ⊥
line c d {a} {b} {u} {t} M ea eb i j = one_side M.k M.l (cross c d u) (cross c d t) M.k0 M.l0 (kl M) i j
    (sym (z2 M.m M.n) ∙ ap₂ (λ p q. M.m *ℤ p +ℤ M.n *ℤ q) (sym ea) (sym eb) ∙ aff c d M)

-- Edges that lie on one side do not meet.
side_clear : (a b u t : Vertex) → same_side a b u t ≡ true → Meet a b u t → ⊥
unfolding same_side
side_clear a b u t e M = ⊎_elim
    (λ i. line a b M (cross-1 a b) (cross-2 a b) (left_is a b u (and_left (strictly_left a b u) (strictly_left a b t) i)) (left_is a b t (and_right (strictly_left a b u) (strictly_left a b t) i)))
    (λ i. line b a M (cross-2 b a) (cross-1 b a) (left_is b a u (and_left (strictly_left b a u) (strictly_left b a t) i)) (left_is b a t (and_right (strictly_left b a u) (strictly_left b a t) i)))
    (or_case (strictly_left a b u && strictly_left a b t) (strictly_left b a u && strictly_left b a t) e)

-- Nor do edges that are apart in one coordinate.
apart : (m n k l a b u t : ℤ) → pos 0 ≼ m → pos 0 ≼ n → pos 0 ≼ k → pos 0 ≼ l → pos 0 ≺ m +ℤ n → pos 0 ≺ k +ℤ l → m +ℤ n ≡ k +ℤ l → m *ℤ a +ℤ n *ℤ b ≡ k *ℤ u +ℤ l *ℤ t →
    a ≺ u → a ≺ t → b ≺ u → b ≺ t → ⊥
apart = order 8 (λ m n k l a b u t. (# (pos 0) ≲ m) ∷ (# (pos 0) ≲ n) ∷ (# (pos 0) ≲ k) ∷ (# (pos 0) ≲ l) ∷ (# (pos 0) ⋖ m ⊞ n) ∷ (# (pos 0) ⋖ k ⊞ l) ∷ (m ⊞ n ≈ k ⊞ l) ∷ (m ⊠ a ⊞ n ⊠ b ≈ k ⊠ u ⊞ l ⊠ t) ∷ (a ⋖ u) ∷ (a ⋖ t) ∷ (b ⋖ u) ∷ (b ⋖ t) ∷ []
    ⊢ never by hyp 0 ⊗ hyp 2 ⊗ hyp 8 ⊕ hyp 0 ⊗ hyp 3 ⊗ hyp 9 ⊕ hyp 1 ⊗ hyp 2 ⊗ hyp 10 ⊕ hyp 1 ⊗ hyp 3 ⊗ hyp 11 ⊕ hyp 4 ⊗ hyp 5 ⊕ hyp 4 ⊕ hyp 5 ⊕ times 7 (⊖ (m ⊞ n)) ⊕ times 6 (m ⊠ a ⊞ n ⊠ b)) tt

-- Apart in x.
less_x : (a b u t : Vertex) → less_than a.x b.x u.x t.x ≡ true → Meet a b u t → ⊥
unfolding less_than
less_x a b u t e M = let r = and_four _ _ _ _ e in apart M.m M.n M.k M.l a.x b.x u.x t.x M.m0 M.n0 M.k0 M.l0 M.some (kl M) M.sums M.atx
    (lt_z_true a.x u.x r.0) (lt_z_true a.x t.x r.1) (lt_z_true b.x u.x r.2) (lt_z_true b.x t.x r.3)

-- Apart in y.
less_y : (a b u t : Vertex) → less_than a.y b.y u.y t.y ≡ true → Meet a b u t → ⊥
unfolding less_than
less_y a b u t e M = let r = and_four _ _ _ _ e in apart M.m M.n M.k M.l a.y b.y u.y t.y M.m0 M.n0 M.k0 M.l0 M.some (kl M) M.sums M.aty
    (lt_z_true a.y u.y r.0) (lt_z_true a.y t.y r.1) (lt_z_true b.y u.y r.2) (lt_z_true b.y t.y r.3)

-- Edges that are found not to meet have no point in common.
pub clear : (a b u t : Vertex) → meet a b u t ≡ false → Meet a b u t → ⊥
unfolding meet
clear a b u t e M = six (not-false _ e)
  where
    six : (same_side a b u t || same_side u t a b || less_than a.x b.x u.x t.x || less_than u.x t.x a.x b.x || less_than a.y b.y u.y t.y || less_than u.y t.y a.y b.y) ≡ true → ⊥
    six q = ⊎_elim (λ q1. ⊎_elim (λ q2. ⊎_elim (λ q3. ⊎_elim (λ q4. ⊎_elim (λ i. side_clear a b u t i M) (λ i. side_clear u t a b i (Meet-swap M)) (or_case _ _ q4))
        (λ i. less_x a b u t i M) (or_case _ _ q3)) (λ i. less_x u t a b i (Meet-swap M)) (or_case _ _ q2)) (λ i. less_y a b u t i M) (or_case _ _ q1)) (λ i. less_y u t a b i (Meet-swap M)) (or_case _ _ q)

-- ---- neighbours
adj-is : (p c s : Vertex) → doubles_back p c s ≡ false → ShareOnly p c s
unfolding doubles_back along_edge
adj-is p c s e = record { apart = λ z. le_z_false (pos 0) (dot p c s) (second (is_zero (cross p c s)) _ (is_zero_lem (cross p c s) z) e) }
  where
    second : (a b : Bool) → a ≡ true → (a && b) ≡ false → b ≡ false
    second true b i j = j
    second false b i j = absurd (true≢false (sym i))

-- Neighbours that share their corner alone have a length.
adj-ne : (p c s : Vertex) → ShareOnly p c s → c ≡ s → ⊥
unfolding along_edge
adj-ne p c s a e = clash_ℤ (subst (λ q. dot p c q ≺ pos 0) (sym e) (a.apart (ap (λ q. cross p c q) (sym e) ∙ cross-2 p c))) (subst (λ q. pos 0 ≼ q) (sym (z p.x p.y c.x c.y)) (≤ℤ_refl (pos 0)))
  where
    z : (px py cx cy : ℤ) → (px -ℤ cx) *ℤ (cx -ℤ cx) +ℤ (py -ℤ cy) *ℤ (cy -ℤ cy) ≡ pos 0
    z = ring 4 (λ px py cx cy. (px ⊟ cx) ⊠ (cx ⊟ cx) ⊞ (py ⊟ cy) ⊠ (cy ⊟ cy) ≈ # (pos 0)) tt

-- ---- a path
path_clear : (c s m : Vertex) (M : List Vertex) → meets_path c s (m ∷ M) ≡ false → (u t : Vertex) → PathEdge m M u t → Meet c s u t → ⊥
unfolding meets_path
path_clear c s m [] e u t o N = o
path_clear c s m (m' ∷ M) e u t (inl i) N = clear c s m m' (or_left (meet c s m m') (meets_path c s (m' ∷ M)) e) (subst (λ q. Meet c s q m') i.0 (subst (λ q. Meet c s u q) i.1 N))
path_clear c s m (m' ∷ M) e u t (inr o) N = path_clear c s m' M (or_right (meet c s m m') (meets_path c s (m' ∷ M)) e) u t o N

-- Edges from one corner meet.
pub same-meet : (c s x y : Vertex) → c ≡ x → Meet c s x y
same-meet c s x y e = record {
  m = pos 1;
  n = pos 0;
  k = pos 1;
  l = pos 0;
  m0 = p1;
  n0 = ≤ℤ_refl (pos 0);
  k0 = p1;
  l0 = ≤ℤ_refl (pos 0);
  some = p2;
  sums = refl;
  atx = at c.x s.x x.x y.x (ap (λ q. q.x) e);
  aty = at c.y s.y x.y y.y (ap (λ q. q.y) e);
}
  where
    p1 : pos 0 ≼ pos 1
    p1 = order 0 ([] ⊢ # (pos 0) ≲ # (pos 1) by num 1) tt

    p2 : pos 0 ≺ pos 1 +ℤ pos 0
    p2 = order 0 ([] ⊢ # (pos 0) ⋖ # (pos 1) ⊞ # (pos 0) by num 0) tt

    at : (c s x y : ℤ) → c ≡ x → pos 1 *ℤ c +ℤ pos 0 *ℤ s ≡ pos 1 *ℤ x +ℤ pos 0 *ℤ y
    at = order 4 (λ c s x y. (c ≈ x) ∷ [] ⊢ # (pos 1) ⊠ c ⊞ # (pos 0) ⊠ s ≈ # (pos 1) ⊠ x ⊞ # (pos 0) ⊠ y by times 0 (# (pos 1))) tt

-- ---- one corner, first of a turned outline
record Clean (c s : Vertex) (M : List Vertex) : Type 0 where
  adj : ShareOnly (last_of s M) c s
  path : (m : Vertex) (N : List Vertex) → M ≡ m ∷ N → (u t : Vertex) → PathEdge m N u t → Meet c s u t → ⊥

-- The test of one corner.
clean : (c s : Vertex) (M : List Vertex) → edge_meets c (s ∷ M) ≡ false → Clean c s M
unfolding edge_meets
clean c s M e = record { adj = adj-is (last_of s M) c s (or_left (doubles_back (last_of s M) c s) (meets_path c s M) e); path = λ m N i. path_clear c s m N (subst (λ q. meets_path c s q ≡ false) i (or_right (doubles_back (last_of s M) c s) (meets_path c s M) e)) }

-- Such a corner stands once in the outline.
clean_not : (c s : Vertex) (M : List Vertex) → Three (c ∷ s ∷ M) → Clean c s M → NotIn c (s ∷ M)
clean_not c s [] t k = absurd t
clean_not c s (m ∷ M) t k = (adj-ne (last_of m M) c s k.adj, mem_not c (m ∷ M) (λ x i e. ⊎_elim (λ j. adj-ne s c (last_of m M) (share_sym k.adj) (e ∙ j)) (λ j. k.path m M refl x j.0 j.1 (same-meet c s x j.0 e)) (mem_next m M x i)))

-- ---- all corners

-- Where a corner fails, the outline does.
pub meets-some : (P : List Vertex) (f : Place) → first_where edge_meets [] P ≡ some f → edges_meet P ≡ true
unfolding edges_meet
meets-some P f e = rw (e, edges_meet)

-- Where the outline passes, no corner fails.
pub meets-none : (P : List Vertex) → edges_meet P ≡ false → first_where edge_meets [] P ≡ none
meets-none P e = go (first_where edge_meets [] P) refl
  where
    go : (o : Option Place) → first_where edge_meets [] P ≡ o → first_where edge_meets [] P ≡ none
    go none i = i
    go (some f) i = absurd (true≢false (sym (meets-some P f i) ∙ e))

-- All corners stand once.
distinct_of : (P : List Vertex) → ((ds : List Vertex) (c : Vertex) (bs : List Vertex) → P ≡ ds ++ c ∷ bs → NotIn c bs) → Distinct P
distinct_of [] f = tt
distinct_of (c ∷ P) f = (f [] c P refl, distinct_of P (λ ds d bs e. f (c ∷ ds) d bs (ap (λ q. c ∷ q) e)))

-- An outline, split at an edge of it.
edge_split : (P : List Vertex) (u t : Vertex) → Three P → Edge P u t → (xs : List Vertex) × (ys : List Vertex) × (M : List Vertex) × (P ≡ xs ++ u ∷ ys) × (ys ++ xs ≡ t ∷ M)
edge_split [] u t h e = absurd h
edge_split (a ∷ zs) u t h (inl o) = let r = path_split a zs u t o in (r.0, t ∷ r.1, r.1 ++ r.0, r.2, refl)
edge_split (a ∷ []) u t h (inr i) = absurd h
edge_split (a ∷ b ∷ zs) u t h (inr i) = let r = last_split b zs in (a ∷ r.0, [], r.0, ap (λ q. a ∷ q) r.1 ∙ ap (λ q. a ∷ (r.0 ++ q ∷ [])) (sym i.0), ap (λ q. q ∷ r.0) (sym i.1))

-- The first corner stands once.
first_of : (c : Vertex) (R : List Vertex) → Three (c ∷ R) → edge_meets c R ≡ false → NotIn c R
first_of c [] t e = absurd t
first_of c (s ∷ M) t e = clean_not c s M t (clean c s M e)

-- An outline that passes is simple.
pub simple : (P : List Vertex) → Three P → edges_meet P ≡ false → IsSimple P
simple P t e = record { dist = distinct_of P (λ ds c bs i. not_front c bs ds (first_of c (bs ++ ds) ((turned ds c bs i).three t) (at ds c bs i))); far = far; adj = adj }
  where
    at : (ds : List Vertex) (c : Vertex) (bs : List Vertex) → P ≡ ds ++ c ∷ bs → edge_meets c (bs ++ ds) ≡ false
    at ds c bs i = missed edge_meets [] ds c bs (ap (λ q. first_where edge_meets [] q) (sym i) ∙ meets-none P e)

    turned : (ds : List Vertex) (c : Vertex) (bs : List Vertex) → P ≡ ds ++ c ∷ bs → Turned P (c ∷ (bs ++ ds))
    turned ds c bs i = subst (λ q. Turned q (c ∷ (bs ++ ds))) (sym i) (round ds (c ∷ bs))

    far : (a b u v : Vertex) → Edge P a b → Edge P u v → (a ≡ u → ⊥) → (b ≡ u → ⊥) → (a ≡ v → ⊥) → Meet a b u v → ⊥
    far a b u v ab uv n1 n2 n3 N = let r = edge_split P a b t ab in
        go r.2 (clean a b r.2 (subst (λ q. edge_meets a q ≡ false) r.4 (at r.0 a r.1 r.3))) ((subst (λ q. Turned P (a ∷ q)) r.4 (turned r.0 a r.1 r.3)).to u v uv)
      where
        go : (M : List Vertex) → Clean a b M → Edge (a ∷ b ∷ M) u v → ⊥
        go M k (inl (inl i)) = n1 (sym i.0)
        go [] k (inl (inr o)) = o
        go (m ∷ M) k (inl (inr (inl i))) = n2 (sym i.0)
        go (m ∷ M) k (inl (inr (inr o))) = k.path m M refl u v o N
        go M k (inr i) = n3 (sym i.1)

    adj : (p a b : Vertex) → Edge P p a → Edge P a b → ShareOnly p a b
    adj p a b pa ab = let r = edge_split P a b t ab in let q = subst (λ q. Turned P (a ∷ q)) r.4 (turned r.0 a r.1 r.3) in
        go r.2 (q.three t) (clean a b r.2 (subst (λ q. edge_meets a q ≡ false) r.4 (at r.0 a r.1 r.3))) (q.to p a pa)
      where
        go : (M : List Vertex) → Three (a ∷ b ∷ M) → Clean a b M → Edge (a ∷ b ∷ M) p a → ShareOnly p a b
        go M h k (inl (inl i)) = absurd ((clean_not a b M h k).0 i.1)
        go M h k (inl (inr o)) = absurd ((not_on_path a b M p a (clean_not a b M h k) o).1 refl)
        go M h k (inr i) = subst (λ q. ShareOnly q a b) (sym i.0) k.adj
