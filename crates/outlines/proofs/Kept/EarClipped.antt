-- An ear cut off the front of a simple outline leaves a simple outline with the same κ.
use mathlib.Core.List.{List, [], ◌∷◌, ◌++◌}
use mathlib.Core.Logic.{◌⊎◌, inl, inr, ⊎_elim}
use mathlib.Core.Path.{◌≡◌, refl, sym, ◌∙◌, ap, ap₂, subst}
use lib.IntN.{ℤ, pos, negsuc, neg_ℤ, ◌+ℤ◌, ◌-ℤ◌, ◌*ℤ◌, +ℤ_idl, +ℤ_idr, +ℤ_comm}
use lib.Signed.{clash_ℤ, ≤ℤ_refl}
use Rattle.integers.proofs.Order.{<ℤ-≤ℤ, le_or_lt}
use Rattle.model.specs.Content.{Vertex}
use Rattle.model.specs.Geometry.{cross, along_edge}
use Rattle.outlines.specs.Outline.{last_of, edge_sum}
use Rattle.outlines.specs.Simple.{Meet, ShareOnly, PathEdge, Edge, IsSimple}
use Rattle.outlines.proofs.Tools.{dot, ◌≼◌, ◌≺◌, #, ◌⊞◌, ◌⊟◌, ◌⊠◌, ⊖◌, ◌≲◌, ◌⋖◌, ◌≈◌, never, hyp, sqr, num, ◌⊕◌, ◌⊗◌, ◌⊢◌by◌, order, square-flip, neg_zero, third_lt, ring, times, neg_lt}
use Rattle.outlines.proofs.Crossing.{cross_e, crossed, crossed-anti, sum-cross, tri_out, Neg3, cross-rot, cross-anti}
use Rattle.outlines.proofs.EdgeSums.{edge_sum-cut, last_of-append}
use Rattle.outlines.proofs.Winding.Cone.{cone, share_sym}
use Rattle.outlines.proofs.Winding.Telescope.{Meet-ab, Meet-uw}
use Rattle.outlines.proofs.Winding.CornerRule.{winding}
use Rattle.outlines.proofs.Winding.Turning.{not_on_path, κ, turns, not_last, path_last, first}
use Rattle.outlines.proofs.Kept.Legs.{coord_x, coord_y, Eq1}
use Rattle.outlines.proofs.Kept.Reach.{Outside, depth, ear_free}
use Rattle.outlines.proofs.Kept.Closed.{simple_close}

-- ---- neighbours of the new side: q p and p s, with q outside

-- The depth of q is that of the new side and the cross with it.
pub depth_line : (p h s q : Vertex) → depth p h s q ≡ cross p h s +ℤ cross q p s
unfolding cross
depth_line p h s q = ring 8 (λ px py hx hy sx sy qx qy. cross_e hx hy sx sy qx qy ⊞ cross_e px py hx hy qx qy ≈ cross_e px py hx hy sx sy ⊞ cross_e qx qy px py sx sy) tt p.x p.y h.x h.y s.x s.y q.x q.y

-- A point q on the line p s: D (q - p) = B (s - p).
on_x : (d a b h p s q : ℤ) → d *ℤ (q -ℤ h) ≡ a *ℤ (p -ℤ h) +ℤ b *ℤ (s -ℤ h) → a +ℤ b ≡ d → d *ℤ (q -ℤ p) ≡ b *ℤ (s -ℤ p)
on_x = order 7 (λ d a b h p s q. (d ⊠ (q ⊟ h) ≈ a ⊠ (p ⊟ h) ⊞ b ⊠ (s ⊟ h)) ∷ (a ⊞ b ≈ d) ∷ [] ⊢ d ⊠ (q ⊟ p) ≈ b ⊠ (s ⊟ p) by times 0 (# (pos 1)) ⊕ times 1 (p ⊟ h)) tt

-- For a negative b the directions are opposite.
opp : (d b X Y x y : ℤ) → pos 0 ≺ d → b ≺ pos 0 → d *ℤ X ≡ b *ℤ x → d *ℤ Y ≡ b *ℤ y → pos 0 ≺ x *ℤ x +ℤ y *ℤ y → pos 0 ≼ X *ℤ x +ℤ Y *ℤ y → ⊥
opp = order 6 (λ d b X Y x y. (# (pos 0) ⋖ d) ∷ (b ⋖ # (pos 0)) ∷ (d ⊠ X ≈ b ⊠ x) ∷ (d ⊠ Y ≈ b ⊠ y) ∷ (# (pos 0) ⋖ x ⊠ x ⊞ y ⊠ y) ∷ (# (pos 0) ≲ X ⊠ x ⊞ Y ⊠ y) ∷ []
    ⊢ never by (hyp 0 ⊕ num 1) ⊗ hyp 5 ⊕ times 2 x ⊕ times 3 y ⊕ hyp 1 ⊗ hyp 4 ⊕ hyp 1 ⊕ hyp 4) tt

-- For a negative a, s lies between p and q.
beyond : (d a b h p s q : ℤ) → d *ℤ (q -ℤ h) ≡ a *ℤ (p -ℤ h) +ℤ b *ℤ (s -ℤ h) → a +ℤ b ≡ d → pos 0 *ℤ h +ℤ b *ℤ s ≡ d *ℤ q +ℤ neg_ℤ a *ℤ p
beyond = order 7 (λ d a b h p s q. (d ⊠ (q ⊟ h) ≈ a ⊠ (p ⊟ h) ⊞ b ⊠ (s ⊟ h)) ∷ (a ⊞ b ≈ d) ∷ [] ⊢ # (pos 0) ⊠ h ⊞ b ⊠ s ≈ d ⊠ q ⊞ ⊖ a ⊠ p by times 0 (# (negsuc 0)) ⊕ times 1 h) tt

-- A side of a triangle has a length.
pub side_positive : (p h s : Vertex) → pos 0 ≺ cross p h s → pos 0 ≺ (s.x -ℤ p.x) *ℤ (s.x -ℤ p.x) +ℤ (s.y -ℤ p.y) *ℤ (s.y -ℤ p.y)
unfolding cross
side_positive p h s d = ⊎_elim (λ i. absurd (bad (h.x -ℤ p.x) (h.y -ℤ p.y) (s.x -ℤ p.x) (s.y -ℤ p.y) d i)) (λ i. i) (le_or_lt _ (pos 0))
  where
    bad : (x y X Y : ℤ) → pos 0 ≺ x *ℤ Y -ℤ y *ℤ X → X *ℤ X +ℤ Y *ℤ Y ≼ pos 0 → ⊥
    bad = order 4 (λ x y X Y. (# (pos 0) ⋖ x ⊠ Y ⊟ y ⊠ X) ∷ (X ⊠ X ⊞ Y ⊠ Y ≲ # (pos 0)) ∷ [] ⊢ never
        by (sqr x ⊕ sqr y) ⊗ hyp 1 ⊕ sqr (x ⊠ X ⊞ y ⊠ Y) ⊕ hyp 0 ⊗ hyp 0 ⊕ hyp 0 ⊕ hyp 0) tt

-- A point on the line of the new side lies as deep as that side.
pub depth_flat : (p h s q : Vertex) → cross q p s ≡ pos 0 → cross h s q +ℤ cross p h q ≡ cross p h s
depth_flat p h s q e = depth_line p h s q ∙ ap (λ t. cross p h s +ℤ t) e ∙ +ℤ_idr (cross p h s)

-- Where one coordinate is negative, the other is positive.
b-nn : (a b d : ℤ) → a +ℤ b ≡ d → pos 0 ≺ d → a ≺ pos 0 → pos 0 ≺ b
b-nn = order 3 (λ a b d. (a ⊞ b ≈ d) ∷ (# (pos 0) ⋖ d) ∷ (a ⋖ # (pos 0)) ∷ [] ⊢ # (pos 0) ⋖ b by hyp 1 ⊕ hyp 2 ⊕ num 1 ⊕ times 0 (# (negsuc 0))) tt

-- The same sum, one summand on the other side.
sumz : (a b d : ℤ) → a +ℤ b ≡ d → pos 0 +ℤ b ≡ d +ℤ neg_ℤ a
sumz = order 3 (λ a b d. (a ⊞ b ≈ d) ∷ [] ⊢ # (pos 0) ⊞ b ≈ d ⊞ ⊖ a by times 0 (# (pos 1))) tt

-- With q, p, s in line and q outside, the edge q p leads away from s, or meets h s in s.
away : (h p s q : Vertex) (D a b : ℤ) → Eq1 D a b h.x p.x s.x q.x → Eq1 D a b h.y p.y s.y q.y → pos 0 ≺ D →
    pos 0 ≺ (s.x -ℤ p.x) *ℤ (s.x -ℤ p.x) +ℤ (s.y -ℤ p.y) *ℤ (s.y -ℤ p.y) →
    ((a ≺ pos 0) ⊎ (b ≺ pos 0)) ⊎ (D ≺ a +ℤ b) → (Meet h s q p → ⊥) → a +ℤ b ≡ D → dot q p s ≺ pos 0
away h p s q D a b cx cy d sq o nm f = ⊎_elim (λ i. ⊎_elim (λ j. absurd (nm (record {
  m = pos 0;
  n = b;
  k = D;
  l = neg_ℤ a;
  m0 = ≤ℤ_refl (pos 0);
  n0 = <ℤ-≤ℤ (b-nn a b D f d j);
  k0 = <ℤ-≤ℤ d;
  l0 = <ℤ-≤ℤ (neg_lt a j);
  some = subst (λ t. pos 0 ≺ t) (sym (+ℤ_idl b)) (b-nn a b D f d j);
  sums = sumz a b D f;
  atx = beyond D a b h.x p.x s.x q.x cx f;
  aty = beyond D a b h.y p.y s.y q.y cy f;
})))
    (λ j. ⊎_elim (λ t. absurd (opp D b (q.x -ℤ p.x) (q.y -ℤ p.y) (s.x -ℤ p.x) (s.y -ℤ p.y) d j (on_x D a b h.x p.x s.x q.x cx f) (on_x D a b h.y p.y s.y q.y cy f) sq t)) (λ t. t) (le_or_lt (pos 0) (dot q p s))) i)
    (λ i. clash_ℤ i (subst (λ t. t ≼ D) (sym f) (≤ℤ_refl D))) o

-- q before p, outside the triangle: if the edge q p does not meet h s, then q p and the new side p s share p alone.
pub adj-ear : (p h s q : Vertex) → pos 0 ≺ cross p h s → Outside p h s q → (Meet h s q p → ⊥) → ShareOnly q p s
unfolding along_edge
adj-ear p h s q d o nm = record { apart = λ e. away h p s q (cross p h s) (cross h s q) (cross p h q) (coord_x p h s q) (coord_y p h s q) d (side_positive p h s d) o nm (depth_flat p h s q e) }

-- q after s: the same at the other end.
pub adj-ear' : (p h s q : Vertex) → pos 0 ≺ cross p h s → Outside p h s q → (Meet h p q s → ⊥) → ShareOnly p s q
unfolding along_edge
adj-ear' p h s q d o nm = share_sym (record {
  apart = λ e. away h s p q (cross p h s) (cross p h q) (cross h s q)
      (coord_x p h s q ∙ +ℤ_comm (cross h s q *ℤ (p.x -ℤ h.x)) (cross p h q *ℤ (s.x -ℤ h.x))) (coord_y p h s q ∙ +ℤ_comm (cross h s q *ℤ (p.y -ℤ h.y)) (cross p h q *ℤ (s.y -ℤ h.y))) d
      (subst (λ t. pos 0 ≺ t) (square-flip s.x p.x s.y p.y) (side_positive p h s d))
      (⊎_elim (λ i. inl (⊎_elim (λ j. inr j) (λ j. inl j) i)) (λ i. inr (subst (λ t. cross p h s ≺ t) (+ℤ_comm (cross h s q) (cross p h q)) i)) o)
      nm (+ℤ_comm (cross p h q) (cross h s q) ∙ depth_flat p h s q (neg_zero (cross q s p) (cross q p s) (cross-anti p q s ∙ ap neg_ℤ (cross-rot p q s)) e));
})

-- ---- the outline without its first corner

-- An ear at h: a left turn whose closed triangle holds no corner but its own.
pub record Ear (p h s : Vertex) (P : List Vertex) : Type 0 where
  pub left : pos 0 ≺ cross p h s
  pub empty : (x : Vertex) → (x ≡ p → ⊥) → (x ≡ h → ⊥) → (x ≡ s → ⊥) → (y : Vertex) → (Edge P x y ⊎ Edge P y x) → Outside p h s x

-- Without the ear the outline is simple: the path of the other corners is closed by the new side.
pub simple_clip : (h s m m' : Vertex) (M' : List Vertex) → let M = m ∷ m' ∷ M' in IsSimple (h ∷ s ∷ M) → Ear (last_of s M) h s (h ∷ s ∷ M) → IsSimple (s ∷ M)
simple_clip h s m m' M' g e = simple_close g s m m' M' g.dist.1 (λ u t o. inl (inr o)) free at_s at_p
  where
    M : List Vertex
    M = m ∷ m' ∷ M'

    p : Vertex
    p = last_of s M

    free : (u t : Vertex) → PathEdge s M u t → (p ≡ u → ⊥) → (s ≡ u → ⊥) → (p ≡ t → ⊥) → (s ≡ t → ⊥) → Meet p s u t → ⊥
    free u t o n1 n2 n3 n4 = ear_free p h s u t e.left
        (e.empty u (λ i. n1 (sym i)) (λ i. (not_on_path h s M u t g.dist.0 o).0 (sym i)) (λ i. n2 (sym i)) t (inl (inl (inr o))))
        (e.empty t (λ i. n3 (sym i)) (λ i. (not_on_path h s M u t g.dist.0 o).1 (sym i)) (λ i. n4 (sym i)) u (inr (inl (inr o))))
        (λ m. g.far p h u t (inr (refl, refl)) (inl (inr o)) n1 (not_on_path h s M u t g.dist.0 o).0 n3 (Meet-ab m))
        (λ m. g.far h s u t (inl (inl (refl, refl))) (inl (inr o)) (not_on_path h s M u t g.dist.0 o).0 n2 (not_on_path h s M u t g.dist.0 o).1 m)

    m-p : m ≡ p → ⊥
    m-p i = not_last m m' M' g.dist.1.1.0 i

    at_s : ShareOnly p s m
    at_s = adj-ear' p h s m e.left (e.empty m m-p (λ k. g.dist.0.1.0 (sym k)) (λ k. g.dist.1.0.0 (sym k)) s (inr (inl (inr (inl (refl, refl))))))
        (λ k. g.far p h s m (inr (refl, refl)) (inl (inr (inl (refl, refl)))) (λ l. not_last s m (m' ∷ M') g.dist.1.0 (sym l)) g.dist.0.0 (λ l. m-p (sym l)) (Meet-ab (Meet-uw k)))

    at_p : (q : Vertex) → PathEdge s M q p → ShareOnly q p s
    at_p q o = adj-ear p h s q e.left (e.empty q (λ k. path_last s M q p g.dist.1 o k) (λ k. (not_on_path h s M q p g.dist.0 o).0 (sym k)) (λ k. sq (sym k)) p (inl (inl (inr o))))
        (λ k. g.far h s q p (inl (inl (refl, refl))) (inl (inr o)) (not_on_path h s M q p g.dist.0 o).0 sq (λ l. not_last h s M g.dist.0 l) k)
      where
        sq : s ≡ q → ⊥
        sq k = m-p (sym (first s m (m' ∷ M') q p g.dist.1.0 o k))

-- ---- κ stays: by a corner that the cut does not touch
outside-neg : (p h s x : Vertex) → Outside p h s x → Neg3 (cross p h x) (cross h s x) (cross s p x)
outside-neg p h s x = ⊎_elim (λ i. ⊎_elim (λ j. inr (inl j)) (λ j. inl j) i) (λ i. inr (inr (third_lt (cross p h x) (cross h s x) (cross s p x) (cross p h s) (sum-cross p h s x) i)))

-- Where the triangle p, h, s has no crossings together from x, taking h out leaves the winding number of x.
winding_less : (p h s x : Vertex) (xs : List Vertex) (m : Vertex) → last_of m xs ≡ p → crossed p h x +ℤ crossed h s x +ℤ crossed s p x ≡ pos 0 →
    winding (m ∷ (xs ++ h ∷ s ∷ [])) x ≡ winding (m ∷ (xs ++ s ∷ [])) x
winding_less p h s x xs m e z = edge_sum-cut F (λ a b. crossed-anti a b x) (m ∷ xs) h (s ∷ []) tt
    ∙ ap (λ q. F q h +ℤ F h s +ℤ F s q +ℤ edge_sum F (m ∷ (xs ++ s ∷ []))) e
    ∙ ap (λ t. t +ℤ edge_sum F (m ∷ (xs ++ s ∷ []))) z ∙ +ℤ_idl (edge_sum F (m ∷ (xs ++ s ∷ [])))
  where
    F : Vertex → Vertex → ℤ
    F a b = crossed a b x

-- And κ, if the rest is simple: by the corner m, which is no corner of the triangle.
pub κ_less : (h s m m' : Vertex) (M' : List Vertex) → let M = m ∷ m' ∷ M' in let p = last_of m' M' in IsSimple (h ∷ s ∷ M) → IsSimple (s ∷ M) →
    crossed p h m +ℤ crossed h s m +ℤ crossed s p m ≡ pos 0 → κ (s ∷ M) ≡ κ (h ∷ s ∷ M)
κ_less h s m m' M' g r z =
    sym (turns (s ∷ []) (m ∷ m' ∷ M') tt r).1
    ∙ ap₂ (λ t q. t -ℤ cone q m m') (sym (winding_less (last_of m' M') h s m (m' ∷ M') m refl z)) (last_of-append m' M' s [] ∙ sym (last_of-append m' M' h (s ∷ [])))
    ∙ (turns (h ∷ s ∷ []) (m ∷ m' ∷ M') tt g).1

-- Without the ear the outline has the same κ.
pub κ_clip : (h s m m' : Vertex) (M' : List Vertex) → let M = m ∷ m' ∷ M' in IsSimple (h ∷ s ∷ M) → Ear (last_of s M) h s (h ∷ s ∷ M) → κ (s ∷ M) ≡ κ (h ∷ s ∷ M)
κ_clip h s m m' M' g e = κ_less h s m m' M' g (simple_clip h s m m' M' g e)
    (tri_out p h s m e.left (outside-neg p h s m (e.empty m mp (λ k. g.dist.0.1.0 (sym k)) (λ k. g.dist.1.0.0 (sym k)) m' (inl (inl (inr (inr (inl (refl, refl)))))))))
  where
    p : Vertex
    p = last_of m' M'

    mp : m ≡ p → ⊥
    mp k = not_last m m' M' g.dist.1.1.0 k
