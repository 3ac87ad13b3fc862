-- Separation by a direction, corner by corner: at gap 0 an edge's normal separates, or a point lies inside both; and such a point excludes every direction.
-- Assumes nothing.
use mathlib.Core.List.{List, [], ◌∷◌}
use mathlib.Core.Logic.{◌⊎◌, inl, inr, ⊎_elim}
use lib.IntN.{ℤ, pos, neg_ℤ, ◌+ℤ◌, ◌-ℤ◌, ◌*ℤ◌}
use lib.Signed.{◌≤ℤ◌, ◌<ℤ◌, ≤ℤ_refl}
use Rattle.integers.specs.Absolute.{abs_z}
use Rattle.integers.proofs.Solver.{Expr, #, ◌⊞◌, ◌⊟◌, ◌⊠◌, ⊖◌, ◌≲◌, ◌≺◌, never}
use Rattle.integers.proofs.Certificates.{order, ◌⊢◌by◌, hyp, sqr, num, ◌⊕◌, ◌⊗◌}
use Rattle.integers.proofs.Order.{le_or_lt}
use Rattle.model.specs.Content.{Vertex, Part}
use Rattle.convexity.proofs.Members.{In, here, there, not_in, cons}
use Rattle.convexity.proofs.HalfPlanes.{O, I, Half, at, dot3}
use Rattle.convexity.proofs.Edges.{Edge, chain, edges, area, side, point, Good, Common, touch_common, hull, one_lt, area_e, side_e}

-- the model's `along`, open
abbrev pub dot : ℤ → ℤ → Vertex → ℤ
dot a b p = a *ℤ p.x +ℤ b *ℤ p.y

-- the parts lie w apart along the direction (a, b)
abbrev pub Wide : ℤ → ℤ → ℤ → Part → Part → Type 0
Wide w a b ps qs = (p q : Vertex) → In p ps → In q qs → (dot a b p +ℤ w) ≤ℤ dot a b q

-- it separates them at gap g
abbrev pub Sep : ℤ → ℤ → ℤ → Part → Part → Type 0
Sep g a b ps qs = Wide (g *ℤ (abs_z a +ℤ abs_z b)) a b ps qs

-- the outward normal of an edge
abbrev pub nx : Edge → ℤ
nx e = e.t.y -ℤ e.s.y

abbrev pub ny : Edge → ℤ
ny e = e.s.x -ℤ e.t.x

-- an edge's normal separates at gap 0
abbrev pub ByEdge : Part → Part → Type 0
ByEdge ps qs = ((e : Edge) × In e (edges ps) × Sep (pos 0) (nx e) (ny e) ps qs) ⊎ ((e : Edge) × In e (edges qs) × Sep (pos 0) (neg_ℤ (nx e)) (neg_ℤ (ny e)) ps qs)

-- an edge starts at a corner
start_of : (f p : Vertex) (ps : Part) (e : Edge) → In e (chain f p ps) → In e.s (p ∷ ps)
start_of f p [] e here = here
start_of f p [] e (there i) = absurd (not_in i)
start_of f p (q ∷ ps) e here = here
start_of f p (q ∷ ps) e (there i) = there (start_of f q ps e i)

pub start : (ps : Part) (e : Edge) → In e (edges ps) → In e.s ps
start [] e i = absurd (not_in i)
start (p ∷ ps) e i = start_of p p ps e i

-- an edge that has no corner of the other part on its left separates: one of the first part, and one of the second
out-sep : (e : Edge) (p q : Vertex) → pos 0 ≤ℤ area e.s e.t p → area e.s e.t q ≤ℤ pos 0 → (dot (nx e) (ny e) p +ℤ pos 0 *ℤ (abs_z (nx e) +ℤ abs_z (ny e))) ≤ℤ dot (nx e) (ny e) q
out-sep e p q = order 9 (λ sx sy tx ty px py qx qy w. (O ≲ area_e sx sy tx ty px py) ∷ (area_e sx sy tx ty qx qy ≲ O) ∷ []
    ⊢ (ty ⊟ sy) ⊠ px ⊞ (sx ⊟ tx) ⊠ py ⊞ O ⊠ w ≲ (ty ⊟ sy) ⊠ qx ⊞ (sx ⊟ tx) ⊠ qy by hyp 0 ⊕ hyp 1) tt
    e.s.x e.s.y e.t.x e.t.y p.x p.y q.x q.y (abs_z (nx e) +ℤ abs_z (ny e))

in_sep : (e : Edge) (p q : Vertex) → area e.s e.t p ≤ℤ pos 0 → pos 0 ≤ℤ area e.s e.t q → (dot (neg_ℤ (nx e)) (neg_ℤ (ny e)) p +ℤ pos 0 *ℤ (abs_z (neg_ℤ (nx e)) +ℤ abs_z (neg_ℤ (ny e)))) ≤ℤ dot (neg_ℤ (nx e)) (neg_ℤ (ny e)) q
in_sep e p q = order 9 (λ sx sy tx ty px py qx qy w. (area_e sx sy tx ty px py ≲ O) ∷ (O ≲ area_e sx sy tx ty qx qy) ∷ []
    ⊢ ⊖ (ty ⊟ sy) ⊠ px ⊞ ⊖ (sx ⊟ tx) ⊠ py ⊞ O ⊠ w ≲ ⊖ (ty ⊟ sy) ⊠ qx ⊞ ⊖ (sx ⊟ tx) ⊠ qy by hyp 0 ⊕ hyp 1) tt
    e.s.x e.s.y e.t.x e.t.y p.x p.y q.x q.y (abs_z (neg_ℤ (nx e)) +ℤ abs_z (neg_ℤ (ny e)))

-- no corner is on the left of the edge
abbrev Clear : Edge → Part → Type 0
Clear e qs = (q : Vertex) → In q qs → area e.s e.t q ≤ℤ pos 0

-- none is, or one is; and so for each of the edges
scan : (e : Edge) (qs : Part) → Clear e qs ⊎ ((c : Vertex) × In c qs × (pos 0 <ℤ area e.s e.t c))
scan e [] = inl (λ c i. absurd (not_in i))
scan e (q ∷ qs) = ⊎_elim (λ n. ⊎_elim (λ f. inl (cons (λ c. area e.s e.t c ≤ℤ pos 0) n f)) (λ (c, i, h). inr (c, there i, h)) (scan e qs)) (λ h. inr (q, here, h)) (le_or_lt (area e.s e.t q) (pos 0))

search_edge : (es : List Edge) (qs : Part) → ((e : Edge) × In e es × Clear e qs) ⊎ ((e : Edge) → In e es → (c : Vertex) × In c qs × (pos 0 <ℤ area e.s e.t c))
search_edge [] qs = inr (λ c i. absurd (not_in i))
search_edge (e ∷ es) qs = ⊎_elim (λ f. inl (e, here, f)) (λ h. ⊎_elim (λ (k, i, f). inl (k, there i, f)) (λ g. inr (cons (λ e. (c : Vertex) × In c qs × (pos 0 <ℤ area e.s e.t c)) h g)) (search_edge es qs)) (scan e qs)

-- An edge's normal separates, or a point lies strictly inside both.
pub decide : (ps qs : Part) → Good ps → Good qs → ByEdge ps qs ⊎ Common ps qs
decide ps qs g h = ⊎_elim (λ (e, i, f). inl (inl (e, i, λ p q u v. out-sep e p q (g.weak e p i u) (f q v))))
    (λ t. ⊎_elim (λ (e, i, f). inl (inr (e, i, λ p q u v. in_sep e p q (f p u) (h.weak e q i v)))) (λ u. inr (touch_common ps qs g h t u)) (search_edge (edges qs) ps))
    (search_edge (edges ps) qs)

-- ---- a point inside both excludes every direction

-- how far the direction (a, b) goes to the left of an edge
abbrev lin : ℤ → ℤ → Edge → ℤ
lin a b e = (e.t.x -ℤ e.s.x) *ℤ b -ℤ (e.t.y -ℤ e.s.y) *ℤ a

-- a number above the squares of them all: the point times it, moved by twice (a, b), is still inside
bound : ℤ → ℤ → List Edge → ℤ
bound a b [] = pos 2
bound a b (e ∷ es) = lin a b e *ℤ lin a b e +ℤ bound a b es

bound-two : (a b : ℤ) (es : List Edge) → pos 2 ≤ℤ bound a b es
unfolding bound
bound-two a b [] = ≤ℤ_refl (pos 2)
bound-two a b (e ∷ es) = order 2 (λ u v. (# (pos 2) ≲ v) ∷ [] ⊢ # (pos 2) ≲ u ⊠ u ⊞ v by hyp 0 ⊕ sqr u) tt (lin a b e) (bound a b es) (bound-two a b es)

bound-in : (a b : ℤ) (es : List Edge) (e : Edge) → In e es → (lin a b e *ℤ lin a b e +ℤ pos 2) ≤ℤ bound a b es
unfolding bound
bound-in a b [] k x' = elim x' [ ]
bound-in a b (e ∷ es) k here = order 2 (λ u v. (# (pos 2) ≲ v) ∷ [] ⊢ u ⊠ u ⊞ # (pos 2) ≲ u ⊠ u ⊞ v by hyp 0) tt (lin a b e) (bound a b es) (bound-two a b es)
bound-in a b (e ∷ es) k (there i) = order 3 (λ u v w. (w ⊠ w ⊞ # (pos 2) ≲ v) ∷ [] ⊢ w ⊠ w ⊞ # (pos 2) ≲ u ⊠ u ⊞ v by hyp 0 ⊕ sqr u) tt (lin a b e) (bound a b es) (lin a b k) (bound-in a b es k i)

moved : (e : Edge) (a b j x y d : ℤ) → pos 0 <ℤ side e.s e.t x y d → (lin a b e *ℤ lin a b e +ℤ pos 2) ≤ℤ j → pos 0 <ℤ side e.s e.t (j *ℤ x +ℤ pos 2 *ℤ a) (j *ℤ y +ℤ pos 2 *ℤ b) (j *ℤ d)
moved e = order 10 (λ sx sy tx ty a b j x y d. (O ≺ side_e sx sy tx ty x y d) ∷ (l sx sy tx ty a b ⊠ l sx sy tx ty a b ⊞ # (pos 2) ≲ j) ∷ []
    ⊢ O ≺ side_e sx sy tx ty (j ⊠ x ⊞ # (pos 2) ⊠ a) (j ⊠ y ⊞ # (pos 2) ⊠ b) (j ⊠ d) by (hyp 1 ⊕ sqr (l sx sy tx ty a b) ⊕ num 2) ⊗ hyp 0 ⊕ hyp 1 ⊕ sqr (l sx sy tx ty a b ⊞ I)) tt
    e.s.x e.s.y e.t.x e.t.y
  where
    l : Expr → Expr → Expr → Expr → Expr → Expr → Expr
    l sx sy tx ty a b = (tx ⊟ sx) ⊠ b ⊟ (ty ⊟ sy) ⊠ a

-- That moved point lies before all of the second part, so the point itself lies beyond it.
pub excludes : (ps qs : Part) → Good ps → Good qs → Common ps qs → (a b : ℤ) → pos 0 <ℤ (a *ℤ a +ℤ b *ℤ b) → Sep (pos 0) a b ps qs → ⊥
excludes ps qs g h c a b n s = last a b c.x c.y c.d j n (one_lt c.d c.one) (hull qs c.x c.y c.d k h (one_lt c.d c.one) c.right below)
  where
    j : ℤ
    j = bound a b (edges ps)

    x' : ℤ
    x' = j *ℤ c.x +ℤ pos 2 *ℤ a

    y' : ℤ
    y' = j *ℤ c.y +ℤ pos 2 *ℤ b

    d' : ℤ
    d' = j *ℤ c.d

    deep : pos 0 <ℤ d'
    deep = order 2 (λ j d. (# (pos 2) ≲ j) ∷ (O ≺ d) ∷ [] ⊢ O ≺ j ⊠ d by hyp 0 ⊗ hyp 1 ⊕ hyp 0 ⊕ num 2 ⊗ hyp 1 ⊕ num 1) tt j c.d (bound-two a b (edges ps)) (one_lt c.d c.one)

    k : Half
    k = record { a = neg_ℤ (d' *ℤ a); b = neg_ℤ (d' *ℤ b); c = a *ℤ x' +ℤ b *ℤ y' }

    kq : Vertex → Half
    kq q = record { a = a; b = b; c = neg_ℤ (dot a b q) }

    under : (a b px py qx qy w : ℤ) → (a *ℤ px +ℤ b *ℤ py +ℤ pos 0 *ℤ w) ≤ℤ (a *ℤ qx +ℤ b *ℤ qy) → (a *ℤ px +ℤ b *ℤ py +ℤ neg_ℤ (a *ℤ qx +ℤ b *ℤ qy) *ℤ pos 1) ≤ℤ pos 0
    under = order 7 (λ a b px py qx qy w. (a ⊠ px ⊞ b ⊠ py ⊞ O ⊠ w ≲ a ⊠ qx ⊞ b ⊠ qy) ∷ [] ⊢ dot3 a b (⊖ (a ⊠ qx ⊞ b ⊠ qy)) px py I ≲ O by hyp 0) tt

    turn : (a b x y d qx qy : ℤ) → (a *ℤ x +ℤ b *ℤ y +ℤ neg_ℤ (a *ℤ qx +ℤ b *ℤ qy) *ℤ d) ≤ℤ pos 0 → (neg_ℤ (d *ℤ a) *ℤ qx +ℤ neg_ℤ (d *ℤ b) *ℤ qy +ℤ (a *ℤ x +ℤ b *ℤ y) *ℤ pos 1) ≤ℤ pos 0
    turn = order 7 (λ a b x y d qx qy. (dot3 a b (⊖ (a ⊠ qx ⊞ b ⊠ qy)) x y d ≲ O) ∷ [] ⊢ dot3 (⊖ (d ⊠ a)) (⊖ (d ⊠ b)) (a ⊠ x ⊞ b ⊠ y) qx qy I ≲ O by hyp 0) tt

    below : (q : Vertex) → In q qs → at k (point q) ≤ℤ pos 0
    below q i = turn a b x' y' d' q.x q.y (hull ps x' y' d' (kq q) g deep
        (λ e l. moved e a b j c.x c.y c.d (c.left e l) (bound-in a b (edges ps) e l))
        (λ p l. under a b p.x p.y q.x q.y (abs_z a +ℤ abs_z b) (s p q l i)))

    last : (a b x y d j : ℤ) → pos 0 <ℤ (a *ℤ a +ℤ b *ℤ b) → pos 0 <ℤ d → (neg_ℤ (j *ℤ d *ℤ a) *ℤ x +ℤ neg_ℤ (j *ℤ d *ℤ b) *ℤ y +ℤ (a *ℤ (j *ℤ x +ℤ pos 2 *ℤ a) +ℤ b *ℤ (j *ℤ y +ℤ pos 2 *ℤ b)) *ℤ d) ≤ℤ pos 0 → ⊥
    last = order 6 (λ a b x y d j. (O ≺ a ⊠ a ⊞ b ⊠ b) ∷ (O ≺ d) ∷ (⊖ (j ⊠ d ⊠ a) ⊠ x ⊞ ⊖ (j ⊠ d ⊠ b) ⊠ y ⊞ (a ⊠ (j ⊠ x ⊞ # (pos 2) ⊠ a) ⊞ b ⊠ (j ⊠ y ⊞ # (pos 2) ⊠ b)) ⊠ d ≲ O) ∷ []
        ⊢ never by hyp 2 ⊕ num 2 ⊗ (hyp 0 ⊗ hyp 1 ⊕ hyp 0 ⊕ hyp 1) ⊕ num 1) tt

-- ---- the normals of good parts are not (0, 0)

pub neg_nz : (a b : ℤ) → pos 0 <ℤ (a *ℤ a +ℤ b *ℤ b) → pos 0 <ℤ (neg_ℤ a *ℤ neg_ℤ a +ℤ neg_ℤ b *ℤ neg_ℤ b)
neg_nz = order 2 (λ a b. (O ≺ a ⊠ a ⊞ b ⊠ b) ∷ [] ⊢ O ≺ ⊖ a ⊠ ⊖ a ⊞ ⊖ b ⊠ ⊖ b by hyp 0) tt

-- the normal of an edge with a corner on its left is not (0, 0)
normal_nz : (e : Edge) (c : Vertex) → pos 0 <ℤ area e.s e.t c → pos 0 <ℤ (nx e *ℤ nx e +ℤ ny e *ℤ ny e)
normal_nz e c h = ⊎_elim (λ n. absurd (no e.s.x e.s.y e.t.x e.t.y c.x c.y h n)) (λ p. p) (le_or_lt (nx e *ℤ nx e +ℤ ny e *ℤ ny e) (pos 0))
  where
    no : (sx sy tx ty cx cy : ℤ) → pos 0 <ℤ ((tx -ℤ sx) *ℤ (cy -ℤ sy) -ℤ (ty -ℤ sy) *ℤ (cx -ℤ sx)) → ((ty -ℤ sy) *ℤ (ty -ℤ sy) +ℤ (sx -ℤ tx) *ℤ (sx -ℤ tx)) ≤ℤ pos 0 → ⊥
    no = order 6 (λ sx sy tx ty cx cy. (O ≺ area_e sx sy tx ty cx cy) ∷ ((ty ⊟ sy) ⊠ (ty ⊟ sy) ⊞ (sx ⊟ tx) ⊠ (sx ⊟ tx) ≲ O) ∷ []
        ⊢ never by hyp 0 ⊗ hyp 0 ⊕ hyp 0 ⊕ hyp 0 ⊕ hyp 1 ⊗ (sqr (cx ⊟ sx) ⊕ sqr (cy ⊟ sy)) ⊕ sqr ((tx ⊟ sx) ⊠ (cx ⊟ sx) ⊞ (ty ⊟ sy) ⊠ (cy ⊟ sy))) tt

pub out-nz : (ps : Part) → Good ps → (e : Edge) → In e (edges ps) → pos 0 <ℤ (nx e *ℤ nx e +ℤ ny e *ℤ ny e)
out-nz ps g e i = normal_nz e (g.some e i).0 (g.some e i).2

pub into_nz : (ps : Part) → Good ps → (e : Edge) → In e (edges ps) → pos 0 <ℤ (neg_ℤ (nx e) *ℤ neg_ℤ (nx e) +ℤ neg_ℤ (ny e) *ℤ neg_ℤ (ny e))
into_nz ps g e i = neg_nz (nx e) (ny e) (out-nz ps g e i)

-- ---- the theorem at gap 0

-- If some direction separates, an edge's normal does.
pub some-edge : (ps qs : Part) → Good ps → Good qs → (a b : ℤ) → pos 0 <ℤ (a *ℤ a +ℤ b *ℤ b) → Sep (pos 0) a b ps qs → ByEdge ps qs
some-edge ps qs g h a b n s = ⊎_elim (λ e. e) (λ c. absurd (excludes ps qs g h c a b n s)) (decide ps qs g h)
