-- The corner nearest to the top among those that block its triangle, and the two parts of the outline on the sides of the diagonal to it.
use mathlib.Core.List.{List, [], ◌∷◌, ◌++◌, append_assoc}
use mathlib.Core.Logic.{◌⊎◌, inl, inr, ⊎_elim}
use mathlib.Core.Path.{◌≡◌, refl, sym, ◌∙◌, ap, subst}
use lib.IntN.{ℤ, pos, negsuc, ◌+ℤ◌, ◌-ℤ◌, ◌*ℤ◌}
use lib.Signed.{clash_ℤ, ≤ℤ_refl}
use Rattle.integers.proofs.Order.{≤ℤ-trans, ≤ℤ-antisym, <ℤ-≤ℤ, le_or_lt}
use Rattle.integers.proofs.Slack.{le_slack}
use Rattle.model.specs.Content.{Vertex}
use Rattle.model.specs.Geometry.{cross, along_edge}
use Rattle.outlines.specs.Outline.{last_of}
use Rattle.outlines.specs.Simple.{Meet, ShareOnly, PathEdge, Edge, NotIn, Distinct, IsSimple}
use Rattle.outlines.proofs.Tools.{dot, ◌≼◌, ◌≺◌, #, ◌⊞◌, ◌⊟◌, ◌⊠◌, ⊖◌, ◌≲◌, ◌⋖◌, ◌≈◌, never, hyp, num, ◌⊕◌, ◌⊗◌, ◌⊢◌by◌, order, refilled, minus_zero, square-flip, ring, times}
use Rattle.outlines.proofs.Crossing.{crossed, crossed-anti, cross-rot, cross-1, cross-2}
use Rattle.outlines.proofs.EdgeSums.{last_of-append}
use Rattle.outlines.proofs.Winding.Cone.{share_sym, cross-from}
use Rattle.outlines.proofs.Winding.Telescope.{Meet-ab, Meet-uw, Meet-uw_m}
use Rattle.outlines.proofs.Winding.Turning.{κ, Three, path_snoc, distinct_snoc}
use Rattle.outlines.proofs.Winding.Kappa.{κ_split, edge_sum-split}
use Rattle.outlines.proofs.Kept.Reach.{depth}
use Rattle.outlines.proofs.Kept.Closed.{simple_close}
use Rattle.outlines.proofs.Kept.EarClipped.{side_positive}
use Rattle.outlines.proofs.Ears.Turned.{Mem, mem_l, mem_r, mem_or, path_l, edge_ne, succ_one, pred_one, round, not_mem, mem_not}
use Rattle.outlines.proofs.Ears.Diagonal.{meet-on, off_edge, Blocks, Far, diagonal, at_same}
use Rattle.outlines.proofs.Ears.Parts.{Parts, adj-of}
use Rattle.outlines.proofs.Ears.Top.{κ_le}

-- ---- the nearest
dec_blocks : (p h s x : Vertex) → Blocks p h s x ⊎ (Blocks p h s x → ⊥)
dec_blocks p h s x = ⊎_elim (λ i. inr (λ b. clash_ℤ b.a i))
    (λ i. ⊎_elim (λ j. inr (λ b. clash_ℤ b.b j))
    (λ j. ⊎_elim (λ k. inl (record { a = i; b = j; c = k })) (λ k. inr (λ b. clash_ℤ k b.c)) (le_or_lt (depth p h s x) (cross p h s))) (le_or_lt (cross p h x) (pos 0))) (le_or_lt (cross h s x) (pos 0))

-- A nearest of the corners that block the triangle at h.
pub record Nearest (p h s : Vertex) (L : List Vertex) : Type 0 where
  pub z : Vertex
  pub mem : Mem z L
  pub blk : Blocks p h s z
  pub least : (x : Vertex) → Mem x L → Blocks p h s x → depth p h s z ≼ depth p h s x

-- No corner blocks the triangle, or there is a nearest one that does.
pub search_near : (p h s : Vertex) (L : List Vertex) → ((x : Vertex) → Mem x L → Blocks p h s x → ⊥) ⊎ Nearest p h s L
search_near p h s [] = inl (λ x m b. m)
search_near p h s (a ∷ L) = go (search_near p h s L) (dec_blocks p h s a)
  where
    go : ((x : Vertex) → Mem x L → Blocks p h s x → ⊥) ⊎ Nearest p h s L → Blocks p h s a ⊎ (Blocks p h s a → ⊥) → ((x : Vertex) → Mem x (a ∷ L) → Blocks p h s x → ⊥) ⊎ Nearest p h s (a ∷ L)
    go (inl f) (inr n) = inl (λ x m b. ⊎_elim (λ i. n (subst (λ q. Blocks p h s q) i b)) (λ i. f x i b) m)
    go (inl f) (inl y) = inr (record { z = a; mem = inl refl; blk = y; least = λ x m b. ⊎_elim (λ i. subst (λ q. depth p h s a ≼ depth p h s q) (sym i) (≤ℤ_refl (depth p h s a))) (λ i. absurd (f x i b)) m })
    go (inr r) (inr n) = inr (record { z = r.z; mem = inr r.mem; blk = r.blk; least = λ x m b. ⊎_elim (λ i. absurd (n (subst (λ q. Blocks p h s q) i b))) (λ i. r.least x i b) m })
    go (inr r) (inl y) = ⊎_elim
        (λ le. inr (record { z = a; mem = inl refl; blk = y; least = λ x m b. ⊎_elim (λ i. subst (λ q. depth p h s a ≼ depth p h s q) (sym i) (≤ℤ_refl (depth p h s a))) (λ i. ≤ℤ-trans le (r.least x i b)) m }))
        (λ lt. inr (record { z = r.z; mem = inr r.mem; blk = r.blk; least = λ x m b. ⊎_elim (λ i. subst (λ q. depth p h s r.z ≼ depth p h s q) (sym i) (<ℤ-≤ℤ lt)) (λ i. r.least x i b) m }))
        (le_or_lt (depth p h s a) (depth p h s r.z))

-- ---- the diagonal and an edge at its end z
zero_of : (N d a X : ℤ) → pos 0 ≺ N → N *ℤ X ≡ d *ℤ a → d ≡ pos 0 → X ≡ pos 0
zero_of N d a X n e z = ≤ℤ-antisym (⊎_elim (λ i. i) (λ i. absurd (up N d a X n e z i)) (le_or_lt X (pos 0))) (⊎_elim (λ i. i) (λ i. absurd (dn N d a X n e z i)) (le_or_lt (pos 0) X))
  where
    up : (N d a X : ℤ) → pos 0 ≺ N → N *ℤ X ≡ d *ℤ a → d ≡ pos 0 → pos 0 ≺ X → ⊥
    up = order 4 (λ N d a X. (# (pos 0) ⋖ N) ∷ (N ⊠ X ≈ d ⊠ a) ∷ (d ≈ # (pos 0)) ∷ (# (pos 0) ⋖ X) ∷ [] ⊢ never by hyp 0 ⊗ hyp 3 ⊕ hyp 0 ⊕ hyp 3 ⊕ times 1 (# (pos 1)) ⊕ times 2 a) tt

    dn : (N d a X : ℤ) → pos 0 ≺ N → N *ℤ X ≡ d *ℤ a → d ≡ pos 0 → X ≺ pos 0 → ⊥
    dn = order 4 (λ N d a X. (# (pos 0) ⋖ N) ∷ (N ⊠ X ≈ d ⊠ a) ∷ (d ≈ # (pos 0)) ∷ (X ⋖ # (pos 0)) ∷ [] ⊢ never by hyp 0 ⊗ hyp 3 ⊕ hyp 0 ⊕ hyp 3 ⊕ times 1 (# (negsuc 0)) ⊕ times 2 (⊖ a)) tt

-- A squared length.
abbrev Nsq : ℤ → ℤ → ℤ
Nsq a b = a *ℤ a +ℤ b *ℤ b

-- N (q - z) = d (h - z)
alongx : (X Y a b : ℤ) → Y *ℤ a -ℤ X *ℤ b ≡ pos 0 → Nsq a b *ℤ X ≡ (X *ℤ a +ℤ Y *ℤ b) *ℤ a
alongx = order 4 (λ X Y a b. (Y ⊠ a ⊟ X ⊠ b ≈ # (pos 0)) ∷ [] ⊢ (a ⊠ a ⊞ b ⊠ b) ⊠ X ≈ (X ⊠ a ⊞ Y ⊠ b) ⊠ a by times 0 (⊖ b)) tt

alongy : (X Y a b : ℤ) → Y *ℤ a -ℤ X *ℤ b ≡ pos 0 → Nsq a b *ℤ Y ≡ (X *ℤ a +ℤ Y *ℤ b) *ℤ b
alongy = order 4 (λ X Y a b. (Y ⊠ a ⊟ X ⊠ b ≈ # (pos 0)) ∷ [] ⊢ (a ⊠ a ⊞ b ⊠ b) ⊠ Y ≈ (X ⊠ a ⊞ Y ⊠ b) ⊠ b by times 0 a) tt

-- q on the diagonal, between its ends.
near : (N d h z q : ℤ) → N *ℤ (q -ℤ z) ≡ d *ℤ (h -ℤ z) → d *ℤ h +ℤ (N -ℤ d) *ℤ z ≡ N *ℤ q +ℤ pos 0 *ℤ z
near = order 5 (λ N d h z q. (N ⊠ (q ⊟ z) ≈ d ⊠ (h ⊟ z)) ∷ [] ⊢ d ⊠ h ⊞ (N ⊟ d) ⊠ z ≈ N ⊠ q ⊞ # (pos 0) ⊠ z by times 0 (# (negsuc 0))) tt

-- q on its line, beyond h.
away : (N d h z q : ℤ) → N *ℤ (q -ℤ z) ≡ d *ℤ (h -ℤ z) → d *ℤ h +ℤ pos 0 *ℤ z ≡ N *ℤ q +ℤ (d -ℤ N) *ℤ z
away = order 5 (λ N d h z q. (N ⊠ (q ⊟ z) ≈ d ⊠ (h ⊟ z)) ∷ [] ⊢ d ⊠ h ⊞ # (pos 0) ⊠ z ≈ N ⊠ q ⊞ (d ⊟ N) ⊠ z by times 0 (# (negsuc 0))) tt

-- An edge q z that meets the diagonal in z alone shares z alone with it.
adj-dia : (q z h : Vertex) → pos 0 ≺ Nsq (h.x -ℤ z.x) (h.y -ℤ z.y) → (q ≡ z → ⊥) → ((M : Meet h z q z) → M.m ≡ pos 0) → ShareOnly q z h
unfolding along_edge
adj-dia q z h n ne f = record { apart = λ e. ⊎_elim (λ i. absurd (no (sym (cross-from q z h) ∙ e) i)) (λ i. i) (le_or_lt (pos 0) (dot q z h)) }
  where
    a : ℤ
    a = h.x -ℤ z.x

    b : ℤ
    b = h.y -ℤ z.y

    X : ℤ
    X = q.x -ℤ z.x

    Y : ℤ
    Y = q.y -ℤ z.y

    N : ℤ
    N = Nsq a b

    d : ℤ
    d = X *ℤ a +ℤ Y *ℤ b

    n0 : pos 0 ≼ N
    n0 = <ℤ-≤ℤ n

    g3 : (N d : ℤ) → d +ℤ (N -ℤ d) ≡ N +ℤ pos 0
    g3 = ring 2 (λ N d. d ⊞ (N ⊟ d) ≈ N ⊞ # (pos 0)) tt

    g4 : (N d : ℤ) → N ≺ d → pos 0 ≼ d -ℤ N
    g4 = order 2 (λ N d. (N ⋖ d) ∷ [] ⊢ # (pos 0) ≲ d ⊟ N by hyp 0 ⊕ num 1) tt

    g5 : (N d : ℤ) → pos 0 ≺ N → N ≺ d → pos 0 ≺ d +ℤ pos 0
    g5 = order 2 (λ N d. (# (pos 0) ⋖ N) ∷ (N ⋖ d) ∷ [] ⊢ # (pos 0) ⋖ d ⊞ # (pos 0) by hyp 0 ⊕ hyp 1 ⊕ num 1) tt

    g6 : (N d : ℤ) → d +ℤ pos 0 ≡ N +ℤ (d -ℤ N)
    g6 = ring 2 (λ N d. d ⊞ # (pos 0) ≈ N ⊞ (d ⊟ N)) tt

    no : Y *ℤ a -ℤ X *ℤ b ≡ pos 0 → pos 0 ≼ d → ⊥
    no e i = let ex : N *ℤ X ≡ d *ℤ a = alongx X Y a b e in let ey : N *ℤ Y ≡ d *ℤ b = alongy X Y a b e in
        ⊎_elim (λ j. let z0 : d ≡ pos 0 = f (record { m = d; n = N -ℤ d; k = N; l = pos 0; m0 = i; n0 = le_slack j; k0 = n0; l0 = ≤ℤ_refl (pos 0); some = refilled N d n; sums = g3 N d; atx = near N d h.x z.x q.x ex; aty = near N d h.y z.y q.y ey }) in
        ne (at_same (minus_zero q.x z.x (zero_of N d a X n ex z0)) (minus_zero q.y z.y (zero_of N d b Y n ey z0))))
        (λ j. let z0 : d ≡ pos 0 = f (record { m = d; n = pos 0; k = N; l = d -ℤ N; m0 = i; n0 = ≤ℤ_refl (pos 0); k0 = n0; l0 = g4 N d j; some = g5 N d n j; sums = g6 N d; atx = away N d h.x z.x q.x ex; aty = away N d h.y z.y q.y ey }) in
        bad N d n j z0) (le_or_lt d N)
      where
        bad : (N d : ℤ) → pos 0 ≺ N → N ≺ d → d ≡ pos 0 → ⊥
        bad = order 2 (λ N d. (# (pos 0) ⋖ N) ∷ (N ⋖ d) ∷ (d ≈ # (pos 0)) ∷ [] ⊢ never by hyp 0 ⊕ hyp 1 ⊕ num 1 ⊕ times 2 (# (pos 1))) tt

-- ---- a chain closed by a segment
close : {P : List Vertex} → IsSimple P → (x : Vertex) (L : List Vertex) (y : Vertex) → last_of x L ≡ y → Three (x ∷ L) → Distinct (x ∷ L) → ((u t : Vertex) → PathEdge x L u t → Edge P u t) →
    ((u t : Vertex) → PathEdge x L u t → (y ≡ u → ⊥) → (x ≡ u → ⊥) → (y ≡ t → ⊥) → (x ≡ t → ⊥) → Meet y x u t → ⊥) →
    ((q : Vertex) → PathEdge x L x q → ShareOnly y x q) → ((q : Vertex) → PathEdge x L q y → ShareOnly q y x) → IsSimple (x ∷ L)
close g x [] y e th d sub free a1 a2 = absurd th
close g x (m ∷ []) y e th d sub free a1 a2 = absurd th
close g x (m ∷ m' ∷ M) y e th d sub free a1 a2 = simple_close g x m m' M d sub
    (subst (λ y. (u t : Vertex) → PathEdge x (m ∷ m' ∷ M) u t → (y ≡ u → ⊥) → (x ≡ u → ⊥) → (y ≡ t → ⊥) → (x ≡ t → ⊥) → Meet y x u t → ⊥) (sym e) free)
    (subst (λ y. ShareOnly y x m) (sym e) (a1 m (inl (refl, refl)))) (subst (λ y. (q : Vertex) → PathEdge x (m ∷ m' ∷ M) q y → ShareOnly q y x) (sym e) a2)

-- What is not in a list is not in its front.
pub not_front : (a : Vertex) (L D : List Vertex) → NotIn a (L ++ D) → NotIn a L
not_front a [] D n = tt
not_front a (x ∷ L) D n = (n.0, not_front a L D n.1)

-- No corner twice, so none in the front.
distinct-front : (L D : List Vertex) → Distinct (L ++ D) → Distinct L
distinct-front [] D d = tt
distinct-front (x ∷ L) D d = (not_front x L D d.0, distinct-front L D d.1)

-- No corner twice, so none in the back.
distinct-back : (L D : List Vertex) → Distinct (L ++ D) → Distinct D
distinct-back [] D d = d
distinct-back (x ∷ L) D d = distinct-back L D d.1

-- No corner is in both parts.
distinct_apart : (L D : List Vertex) (x : Vertex) → Distinct (L ++ D) → Mem x L → Mem x D → ⊥
distinct_apart [] D x d m n = m
distinct_apart (a ∷ L) D x d (inl i) n = not_mem a (L ++ D) x d.0 (mem_r x L D n) (sym i)
distinct_apart (a ∷ L) D x d (inr i) n = distinct_apart L D x d.1 i n

-- An edge of the second part of a path.
path_r : (a : Vertex) (C : List Vertex) (z : Vertex) (D : List Vertex) (u t : Vertex) → PathEdge z D u t → PathEdge a (C ++ z ∷ D) u t
path_r a [] z D u t o = inr o
path_r a (c ∷ C) z D u t o = inr (path_r c C z D u t o)

-- An edge of a path is before z or from z on.
pub path_or : (a : Vertex) (C : List Vertex) (z : Vertex) (D : List Vertex) (u t : Vertex) → PathEdge a (C ++ z ∷ D) u t → PathEdge a (C ++ z ∷ []) u t ⊎ PathEdge z D u t
path_or a [] z D u t (inl i) = inl (inl i)
path_or a [] z D u t (inr o) = inr o
path_or a (c ∷ C) z D u t (inl i) = inl (inl i)
path_or a (c ∷ C) z D u t (inr o) = ⊎_elim (λ i. inl (inr i)) (λ i. inr i) (path_or c C z D u t o)

-- A list, split at an element.
pub mem_split : (x : Vertex) (L : List Vertex) → Mem x L → (C : List Vertex) × (D : List Vertex) × (L ≡ C ++ x ∷ D)
mem_split x [] m = absurd m
mem_split x (a ∷ L) (inl i) = ([], L, ap (λ q. q ∷ L) (sym i))
mem_split x (a ∷ L) (inr i) = let r = mem_split x L i in (a ∷ r.0, r.1, ap (λ q. a ∷ q) r.2)

-- ---- the two parts
three1 : (h s : Vertex) (C : List Vertex) (z : Vertex) → Three (h ∷ s ∷ (C ++ z ∷ []))
three1 h s [] z = tt
three1 h s (c ∷ C) z = tt

-- Three corners, turned by one.
three3 : (h z : Vertex) (D : List Vertex) → Three (h ∷ z ∷ D) → Three (z ∷ (D ++ h ∷ []))
three3 h z [] t = t
three3 h z (x ∷ []) t = tt
three3 h z (x ∷ y ∷ E) t = tt

-- A positive number is not 0.
zero_lt : {A : Type 0} (t : ℤ) → pos 0 ≺ t → t ≡ pos 0 → A
zero_lt t i e = clash_ℤ i (subst (λ q. q ≼ pos 0) (sym e) (≤ℤ_refl (pos 0)))

-- The second part has three corners.
three2 : (h s z : Vertex) (D : List Vertex) → Blocks (last_of z D) h s z → Three (h ∷ z ∷ D)
three2 h s z [] b = zero_lt (cross z h z) b.b (cross-1 z h)
three2 h s z (x ∷ E) b = tt

-- Two numbers that are not positive and sum to 0 are 0.
zero2 : (a b c : ℤ) → c ≡ a +ℤ b → c ≡ pos 0 → a ≼ pos 0 → b ≼ pos 0 → pos 0 ≼ a
zero2 = order 3 (λ a b c. (c ≈ a ⊞ b) ∷ (c ≈ # (pos 0)) ∷ (a ≲ # (pos 0)) ∷ (b ≲ # (pos 0)) ∷ [] ⊢ # (pos 0) ≲ a by hyp 3 ⊕ times 0 (# (pos 1)) ⊕ times 1 (# (negsuc 0))) tt

zero2' : (a b c : ℤ) → c ≡ a +ℤ b → c ≡ pos 0 → a ≼ pos 0 → b ≼ pos 0 → pos 0 ≼ b
zero2' = order 3 (λ a b c. (c ≈ a ⊞ b) ∷ (c ≈ # (pos 0)) ∷ (a ≲ # (pos 0)) ∷ (b ≲ # (pos 0)) ∷ [] ⊢ # (pos 0) ≲ b by hyp 2 ⊕ times 0 (# (pos 1)) ⊕ times 1 (# (negsuc 0))) tt

-- The two parts on the sides of the diagonal h z.
pub parts : (h s : Vertex) (C : List Vertex) (z : Vertex) (D : List Vertex) → let Q = h ∷ s ∷ (C ++ z ∷ D) in IsSimple Q → κ Q ≡ pos 0 → Three Q → pos 0 ≺ cross (last_of z D) h s →
    Blocks (last_of z D) h s z → ((x : Vertex) → Mem x Q → (x ≡ last_of z D → ⊥) → (x ≡ h → ⊥) → (x ≡ s → ⊥) → Far (last_of z D) h s z x) →
    Parts Q (h ∷ s ∷ (C ++ z ∷ [])) (h ∷ z ∷ D) h z
parts h s C z D g k three d blk far = record {
  three = three;
  three_q = three1 h s C z;
  three_r = three2 h s z D blk;
  sim = g;
  sim_q = one;
  sim_r = two;
  kap = k;
  kap_q = ≤ℤ-antisym le1 (zero2 (κ P1) (κ P2) (κ Q) sp k le1 le2);
  kap_r = ≤ℤ-antisym le2 (zero2' (κ P1) (κ P2) (κ Q) sp k le1 le2);
  ed_q = ed_q;
  ed_r = ed_r;
  mem = mem;
  only = only;
  dia_q = inr (sym (last_of-append s C z []), refl);
  dia_r = inl (inl (refl, refl));
  sum = λ x. edge_sum-split (λ a b. crossed a b x) (λ a b. crossed-anti a b x) h (s ∷ C) z D;
}
  where
    Q : List Vertex
    Q = h ∷ s ∷ (C ++ z ∷ D)

    P1 : List Vertex
    P1 = h ∷ s ∷ (C ++ z ∷ [])

    P2 : List Vertex
    P2 = h ∷ z ∷ D

    p : Vertex
    p = last_of z D

    eph : Edge Q p h
    eph = inr (sym (last_of-append s C z D), refl)

    ehs : Edge Q h s
    ehs = inl (inl (refl, refl))

    zs : s ≡ z → ⊥
    zs e = zero_lt (cross h s z) blk.a (ap (λ q. cross h s q) (sym e) ∙ cross-2 h s)

    hz : h ≡ z → ⊥
    hz e = zero_lt (cross h s z) blk.a (ap (λ q. cross h s q) (sym e) ∙ cross-1 h s)

    assoc : (C ++ z ∷ []) ++ D ≡ C ++ z ∷ D
    assoc = append_assoc C (z ∷ []) D

    dd : Distinct (P1 ++ D)
    dd = subst (λ q. Distinct (h ∷ s ∷ q)) (sym assoc) g.dist

    z_q : Mem z Q
    z_q = inr (inr (mem_r z C (z ∷ D) (inl refl)))

    sub1 : (u t : Vertex) → PathEdge h (s ∷ (C ++ z ∷ [])) u t → Edge Q u t
    sub1 u t o = inl (subst (λ q. PathEdge h (s ∷ q) u t) assoc (path_l h (s ∷ (C ++ z ∷ [])) D u t o))

    sub2 : (u t : Vertex) → PathEdge z (D ++ h ∷ []) u t → Edge Q u t
    sub2 u t o = ⊎_elim (λ i. inl (inr (path_r s C z D u t i))) (λ i. inr (i.0 ∙ sym (last_of-append s C z D), i.1)) (path_snoc z D h u t o)

    zero : (u t : Vertex) → Edge Q u t → (h ≡ u → ⊥) → (h ≡ t → ⊥) → (M : Meet h z u t) → M.m ≡ pos 0
    zero = diagonal Q three g p h s eph ehs d z blk far

    free : (u t : Vertex) → Edge Q u t → (h ≡ u → ⊥) → (h ≡ t → ⊥) → (z ≡ u → ⊥) → (z ≡ t → ⊥) → Meet h z u t → ⊥
    free u t e n1 n2 n3 n4 M = off_edge Q g z u t z_q e n3 n4 (meet-on h z u t M (zero u t e n1 n2 M))

    nsq : pos 0 ≺ Nsq (h.x -ℤ z.x) (h.y -ℤ z.y)
    nsq = subst (λ q. pos 0 ≺ q) (square-flip z.x h.x z.y h.y) (side_positive h s z blk.a)

    adjz : (q : Vertex) → Edge Q q z → ShareOnly q z h
    adjz q e = adj-dia q z h nsq (edge_ne Q q z three g e) (zero q z e (λ i. zs (sym (succ_one Q h s z three g ehs (subst (λ r. Edge Q r z) (sym i) e)))) hz)

    zadj : (q : Vertex) → Edge Q z q → ShareOnly h z q
    zadj q e = share_sym (adj-dia q z h nsq (λ i. edge_ne Q z q three g e (sym i)) (λ M. sym (Meet-uw_m M) ∙ zero z q e hz (λ i. zp (sym (pred_one Q z p h three g (subst (λ r. Edge Q z r) (sym i) e) eph))) (Meet-uw M)))
      where
        zp : z ≡ p → ⊥
        zp i = zero_lt (cross p h z) blk.b (ap (λ q. cross p h q) i ∙ cross-1 p h)

    one : IsSimple P1
    one = close g h (s ∷ (C ++ z ∷ [])) z (last_of-append s C z []) (three1 h s C z) (distinct-front P1 D dd) sub1
        (λ u t o n1 n2 n3 n4 M. free u t (sub1 u t o) n2 n4 n1 n3 (Meet-ab M))
        (λ q o. subst (λ r. ShareOnly z h r) (sym (succ_one Q h s q three g ehs (sub1 h q o))) (adj-of (subst (λ r. pos 0 ≺ r) (sym (cross-rot z h s)) blk.a))) (λ q o. adjz q (sub1 q z o))

    dz : Distinct (z ∷ D)
    dz = distinct-back C (z ∷ D) g.dist.1.1

    h_d : NotIn h (z ∷ D)
    h_d = mem_not h (z ∷ D) (λ x m e. not_mem h (s ∷ (C ++ z ∷ D)) x g.dist.0 (inr (mem_r x C (z ∷ D) m)) e)

    two : IsSimple P2
    two = (round (z ∷ D) (h ∷ [])).sim (three3 h z D (three2 h s z D blk))
        (close g z (D ++ h ∷ []) h (last_of-append z D h []) (three3 h z D (three2 h s z D blk)) (distinct_snoc (z ∷ D) h h_d dz) sub2
        (λ u t o n1 n2 n3 n4 M. free u t (sub2 u t o) n1 n3 n2 n4 M) (λ q o. zadj q (sub2 z q o))
        (λ q o. subst (λ r. ShareOnly r h z) (sym (pred_one Q p q h three g eph (sub2 q h o))) (adj-of blk.b)))

    le1 : κ P1 ≼ pos 0
    le1 = κ_le P1 (three1 h s C z) one

    le2 : κ P2 ≼ pos 0
    le2 = κ_le P2 (three2 h s z D blk) two

    sp : κ Q ≡ κ P1 +ℤ κ P2
    sp = κ_split h s C z D d blk.b (subst (λ r. pos 0 ≺ r) (sym (cross-rot z h s)) blk.a)

    ed_q : (u t : Vertex) → Edge P1 u t → Edge Q u t ⊎ ((u ≡ z) × (t ≡ h))
    ed_q u t (inl o) = inl (sub1 u t o)
    ed_q u t (inr i) = inr (i.0 ∙ last_of-append s C z [], i.1)

    ed_r : (u t : Vertex) → Edge P2 u t → Edge Q u t ⊎ ((u ≡ h) × (t ≡ z))
    ed_r u t (inl (inl i)) = inr i
    ed_r u t (inl (inr o)) = inl (inl (inr (path_r s C z D u t o)))
    ed_r u t (inr i) = inl (inr (i.0 ∙ sym (last_of-append s C z D), i.1))

    mem : (x : Vertex) → Mem x Q → Mem x P1 ⊎ Mem x P2
    mem x (inl i) = inl (inl i)
    mem x (inr (inl i)) = inl (inr (inl i))
    mem x (inr (inr i)) = ⊎_elim (λ j. inl (inr (inr (mem_l x C (z ∷ []) j)))) (λ j. inr (inr j)) (mem_or x C (z ∷ D) i)

    only : (x : Vertex) → Mem x P1 → Mem x P2 → (x ≡ h) ⊎ (x ≡ z)
    only x m (inl i) = inl i
    only x m (inr (inl i)) = inr i
    only x m (inr (inr i)) = absurd (distinct_apart P1 D x dd m i)
