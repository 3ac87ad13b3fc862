-- A simple outline of positive area has κ = 0: the one or its reverse has, and what the rule cuts has no negative area.
use mathlib.Core.List.{List, [], ◌∷◌, ◌++◌, reverse, reverse-cons, reverse-reverse}
use mathlib.Core.Logic.{inl, inr, ⊎_elim}
use mathlib.Core.Path.{◌≡◌, refl, sym, ◌∙◌, ap, ap₂, subst}
use Prim.Native.Nat.{suc}
use native.Mathlib.Omega.{arith}
use lib.IntN.{ℤ, pos, negsuc, neg_ℤ, ◌+ℤ◌, ◌-ℤ◌, +ℤ_idr}
use lib.ListN.{length, length-reverse}
use Rattle.integers.proofs.Order.{≤ℤ-antisym, le_or_lt}
use Rattle.model.specs.Content.{Vertex}
use Rattle.outlines.specs.Outline.{det, doubled_area, last_of, path_sum, edge_sum}
use Rattle.outlines.specs.Simple.{PathEdge, Edge, NotIn, Distinct, IsSimple}
use Rattle.outlines.proofs.Tools.{◌≼◌, ◌≺◌, #, ◌⊞◌, ◌⊟◌, ⊖◌, ◌≲◌, ◌⋖◌, ◌≈◌, never, hyp, ◌⊕◌, ◌⊢◌by◌, order, times}
use Rattle.outlines.proofs.Crossing.{crossed, crossed-anti}
use Rattle.outlines.proofs.EdgeSums.{path_sum-append, last_of-append}
use Rattle.outlines.proofs.Cutting.{area_sum_lem, det-anti}
use Rattle.outlines.proofs.Winding.Cone.{share_sym, cone, both_ways}
use Rattle.outlines.proofs.Winding.Telescope.{Meet-ab, Meet-uw}
use Rattle.outlines.proofs.Winding.CornerRule.{winding}
use Rattle.outlines.proofs.Winding.Turning.{κ, Three, path_snoc, distinct_snoc}
use Rattle.outlines.proofs.Ears.Turned.{Mem, mem_or, front, succ_one, pred_one, path_l, path_end, not_mem, mem_not}
use Rattle.outlines.proofs.Ears.Top.{Top, top, κ_le}
use Rattle.outlines.proofs.Rule.{Done, cut_all, three_of}
use Rattle.outlines.proofs.Steps.{cuts, areas_nonneg}

-- The corners of the reverse.
reversed_mem : (zs : List Vertex) (x : Vertex) → Mem x (reverse zs) → Mem x zs
reversed_mem [] x m = m
reversed_mem (a ∷ zs) x m = ⊎_elim (λ i. inr (reversed_mem zs x i)) (λ i. ⊎_elim (λ j. inl j) (λ j. absurd j) i) (mem_or x (reverse zs) (a ∷ []) (subst (λ q. Mem x q) (reverse-cons a zs) m))

-- What is not in the list.
reversed_not : (a : Vertex) (zs : List Vertex) → NotIn a zs → NotIn a (reverse zs)
reversed_not a zs n = mem_not a (reverse zs) (λ x m e. not_mem a zs x n (reversed_mem zs x m) e)

-- No corner twice.
reversed_distinct : (zs : List Vertex) → Distinct zs → Distinct (reverse zs)
reversed_distinct [] d = tt
reversed_distinct (a ∷ zs) d = subst Distinct (sym (reverse-cons a zs)) (distinct_snoc (reverse zs) a (reversed_not a zs d.0) (reversed_distinct zs d.1))

-- ---- a path the other way
path_reversed : (x : Vertex) (L : List Vertex) (y u t : Vertex) → PathEdge x (L ++ y ∷ []) u t → PathEdge y (reverse L ++ x ∷ []) t u
path_reversed x [] y u t (inl i) = inl (i.1, i.0)
path_reversed x [] y u t (inr o) = absurd o
path_reversed x (a ∷ L) y u t (inl i) = subst (λ q. PathEdge y (q ++ x ∷ []) t u) (sym (reverse-cons a L)) (path_end y (reverse L ++ a ∷ []) x [] t u (i.1 ∙ sym (last_of-append y (reverse L) a [])) i.0)
path_reversed x (a ∷ L) y u t (inr o) = subst (λ q. PathEdge y (q ++ x ∷ []) t u) (sym (reverse-cons a L)) (path_l y (reverse L ++ a ∷ []) (x ∷ []) t u (path_reversed a L y u t o))

-- An edge of an outline is one of the path that comes back to its first corner.
edge_path : (a : Vertex) (zs : List Vertex) (u t : Vertex) → Edge (a ∷ zs) u t → PathEdge a (zs ++ a ∷ []) u t
edge_path a zs u t (inl o) = path_l a zs (a ∷ []) u t o
edge_path a zs u t (inr i) = path_end a zs a [] u t i.0 i.1

-- The other way.
path_edge : (a : Vertex) (zs : List Vertex) (u t : Vertex) → PathEdge a (zs ++ a ∷ []) u t → Edge (a ∷ zs) u t
path_edge a zs u t o = path_snoc a zs a u t o

-- The edges of the reverse.
edge_reversed : (h : Vertex) (R : List Vertex) (u t : Vertex) → Edge (h ∷ R) u t → Edge (h ∷ reverse R) t u
edge_reversed h R u t e = path_edge h (reverse R) t u (path_reversed h R h u t (edge_path h R u t e))

-- The other way.
reversed_edge : (h : Vertex) (R : List Vertex) (u t : Vertex) → Edge (h ∷ reverse R) u t → Edge (h ∷ R) t u
reversed_edge h R u t e = subst (λ q. Edge (h ∷ q) t u) (reverse-reverse R) (edge_reversed h (reverse R) u t e)

-- A sum over the reverse has the other sign.
sum-reversed : (F : Vertex → Vertex → ℤ) → ((a b : Vertex) → F b a ≡ neg_ℤ (F a b)) → (x : Vertex) (L : List Vertex) (y : Vertex) → path_sum F y (reverse L ++ x ∷ []) ≡ neg_ℤ (path_sum F x (L ++ y ∷ []))
sum-reversed F anti x [] y = one (F x y) (F y x) (anti x y)
  where
    one : (a b : ℤ) → b ≡ neg_ℤ a → b +ℤ pos 0 ≡ neg_ℤ (a +ℤ pos 0)
    one = order 2 (λ a b. (b ≈ ⊖ a) ∷ [] ⊢ b ⊞ # (pos 0) ≈ ⊖ (a ⊞ # (pos 0)) by times 0 (# (pos 1))) tt
sum-reversed F anti x (a ∷ L) y = ap (λ q. path_sum F y (q ++ x ∷ [])) (reverse-cons a L) ∙ path_sum-append F y (reverse L ++ a ∷ []) x [] ∙ ap (λ q. path_sum F y (reverse L ++ a ∷ []) +ℤ F q x +ℤ pos 0) (last_of-append y (reverse L) a [])
    ∙ fin (path_sum F y (reverse L ++ a ∷ [])) (F a x) (F x a) (path_sum F a (L ++ y ∷ [])) (sum-reversed F anti a L y) (anti x a)
  where
    fin : (o f g r : ℤ) → o ≡ neg_ℤ r → f ≡ neg_ℤ g → o +ℤ f +ℤ pos 0 ≡ neg_ℤ (g +ℤ r)
    fin = order 4 (λ o f g r. (o ≈ ⊖ r) ∷ (f ≈ ⊖ g) ∷ [] ⊢ o ⊞ f ⊞ # (pos 0) ≈ ⊖ (g ⊞ r) by times 0 (# (pos 1)) ⊕ times 1 (# (pos 1))) tt

-- A sum over an outline is one over the path that comes back.
edge_sum-path : (F : Vertex → Vertex → ℤ) (a : Vertex) (zs : List Vertex) → path_sum F a (zs ++ a ∷ []) ≡ edge_sum F (a ∷ zs)
edge_sum-path F a zs = path_sum-append F a zs a [] ∙ +ℤ_idr _

-- A sum over the reverse of an outline has the other sign.
edge_sum-reversed : (F : Vertex → Vertex → ℤ) → ((a b : Vertex) → F b a ≡ neg_ℤ (F a b)) → (h : Vertex) (R : List Vertex) → edge_sum F (h ∷ reverse R) ≡ neg_ℤ (edge_sum F (h ∷ R))
edge_sum-reversed F anti h R = sym (edge_sum-path F h (reverse R)) ∙ sum-reversed F anti h R h ∙ ap neg_ℤ (edge_sum-path F h R)

-- ---- the reverse is simple
simple_reversed : (h : Vertex) (R : List Vertex) → Three (h ∷ R) → IsSimple (h ∷ R) → IsSimple (h ∷ reverse R)
simple_reversed h R t g = record {
  dist = (reversed_not h R g.dist.0, reversed_distinct R g.dist.1);
  far = λ a b u v e f n1 n2 n3 M. g.far b a v u (reversed_edge h R a b e) (reversed_edge h R u v f) (λ i. n1 (succ_one (h ∷ R) v u a t g (reversed_edge h R u v f) (subst (λ q. Edge (h ∷ R) q a) i (reversed_edge h R a b e)))) n3 n2 (Meet-ab (Meet-uw M));
  adj = λ p a b e f. share_sym (g.adj b a p (reversed_edge h R a b f) (reversed_edge h R p a e));
}

-- κ at any corner
κ_at : (P : List Vertex) (p x s : Vertex) → Three P → IsSimple P → Edge P p x → Edge P x s → κ P ≡ winding P x -ℤ cone p x s
κ_at P p x s h g e f = let r = front P x s h f in
    let l : last_of s r.0 ≡ p = pred_one P p (last_of s r.0) x h g e (r.1.back (last_of s r.0) x (inr (refl, refl))) in
    sym (r.1.kap h g) ∙ ap₂ (λ t q. t -ℤ cone q x s) (r.1.sum (λ a b. crossed a b x)) l

-- ---- orientation

-- A simple outline of positive area has κ = 0.
pub orient : (P : List Vertex) → Three P → IsSimple P → pos 0 ≺ doubled_area P → κ P ≡ pos 0
unfolding doubled_area
orient P t g a = at (top P t g)
  where
    at : Top P → κ P ≡ pos 0
    at r = ≤ℤ-antisym (κ_le P t g) (⊎_elim (λ i. i) (λ i. absurd (bad i)) (le_or_lt (pos 0) (κ P)))
      where
        R : List Vertex
        R = r.s ∷ r.m ∷ r.M

        p : Vertex
        p = last_of r.m r.M

        g_r : IsSimple (r.h ∷ R)
        g_r = r.turned.sim t g

        Q : List Vertex
        Q = r.h ∷ reverse R

        l : length Q ≡ suc (suc (suc (length r.M)))
        l = omega (arith, length-reverse R)

        t_q : Three Q
        t_q = three_of (length r.M) Q l

        g_q : IsSimple Q
        g_q = simple_reversed r.h R tt g_r

        bad : κ P ≺ pos 0 → ⊥
        bad i = no (doubled_area P) (doubled_area Q) a (sym (ap neg_ℤ (r.turned.sum det)) ∙ sym (edge_sum-reversed det det-anti r.h R)) nn
          where
            k_p : κ P ≡ winding (r.h ∷ R) r.h -ℤ cone p r.h r.s
            k_p = sym (r.turned.kap t g) ∙ κ_at (r.h ∷ R) p r.h r.s tt g_r (inr (refl, refl)) (inl (inl (refl, refl)))

            k_q : κ Q ≡ winding Q r.h -ℤ cone r.s r.h p
            k_q = κ_at Q r.s r.h p t_q g_q (edge_reversed r.h R r.h r.s (inl (inl (refl, refl)))) (edge_reversed r.h R p r.h (inr (refl, refl)))

            ge : pos 0 ≼ κ Q
            ge = num0 (κ P) (κ Q) (winding (r.h ∷ R) r.h) (winding Q r.h) (cone p r.h r.s) (cone r.s r.h p) k_p k_q r.no_winding (edge_sum-reversed (λ a b. crossed a b r.h) (λ a b. crossed-anti a b r.h) r.h R)
                (both_ways p r.h r.s (g_r.adj p r.h r.s (inr (refl, refl)) (inl (inl (refl, refl))))) i
              where
                num0 : (k q w v' i j : ℤ) → k ≡ w -ℤ i → q ≡ v' -ℤ j → w ≡ pos 0 → v' ≡ neg_ℤ w → i +ℤ j ≡ pos 1 → k ≺ pos 0 → pos 0 ≼ q
                num0 = order 6 (λ k q w v' i j. (k ≈ w ⊟ i) ∷ (q ≈ v' ⊟ j) ∷ (w ≈ # (pos 0)) ∷ (v' ≈ ⊖ w) ∷ (i ⊞ j ≈ # (pos 1)) ∷ (k ⋖ # (pos 0)) ∷ []
                    ⊢ # (pos 0) ≲ q by hyp 5 ⊕ times 0 (# (negsuc 0)) ⊕ times 1 (# (negsuc 0)) ⊕ times 3 (# (negsuc 0)) ⊕ times 4 (# (pos 1))) tt

            k0 : κ Q ≡ pos 0
            k0 = ≤ℤ-antisym (κ_le Q t_q g_q) ge

            d : Done (suc (length r.M)) Q
            d = cut_all (suc (length r.M)) Q l (λ u. (g_q, k0))

            nn : pos 0 ≼ doubled_area Q
            nn = let c = cuts (suc (length r.M)) Q d.ts l d.is in subst (λ q. pos 0 ≼ q) (sym (area_sum_lem c)) (areas_nonneg c)

            no : (a b : ℤ) → pos 0 ≺ a → neg_ℤ a ≡ b → pos 0 ≼ b → ⊥
            no = order 2 (λ a b. (# (pos 0) ⋖ a) ∷ (⊖ a ≈ b) ∷ (# (pos 0) ≲ b) ∷ [] ⊢ never by hyp 0 ⊕ hyp 2 ⊕ times 1 (# (negsuc 0))) tt
