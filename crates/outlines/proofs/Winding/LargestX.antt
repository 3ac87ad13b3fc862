-- At a corner with the largest x there is no crossing; and a cone that a diagonal splits is the sum of its two parts.
use mathlib.Core.Bool.{Bool, true, false}
use mathlib.Core.List.{List, [], ◌∷◌}
use mathlib.Core.Logic.{◌⊎◌, inl, inr, ⊎_elim}
use mathlib.Core.Path.{◌≡◌, refl, sym, ◌∙◌, ap, ap₂}
use lib.IntN.{ℤ, pos, negsuc, neg_ℤ, ◌+ℤ◌, ◌-ℤ◌, ◌*ℤ◌, +ℤ_idl}
use lib.Signed.{lt_z}
use Rattle.integers.proofs.Order.{≤ℤ-antisym, <ℤ-≤ℤ}
use Rattle.model.specs.Content.{Vertex}
use Rattle.model.specs.Geometry.{cross}
use Rattle.outlines.specs.Outline.{last_of, path_sum}
use Rattle.outlines.proofs.Tools.{◌≼◌, ◌≺◌, #, ◌⊞◌, ◌⊟◌, ◌⊠◌, ⊖◌, ◌≲◌, ◌⋖◌, ◌≈◌, never, hyp, num, ◌⊕◌, ◌⊗◌, ◌⊢◌by◌, order, neg_lt, ring, times}
use Rattle.outlines.proofs.Crossing.{cross_e, crossed, edge_crossing, above, Positive, positive_is}
use Rattle.outlines.proofs.Winding.Cone.{upper_half, upper_by, cone_by, cone, one_negative, one_negative-0, one_positive-0, minus_negative-0, Negative, negative_is}
use Rattle.outlines.proofs.Winding.CornerRule.{winding}

-- ---- no crossing at a largest x

-- No corner lies further right than h.
abbrev pub NoneRight : Vertex → List Vertex → Type 0
NoneRight h [] = Unit {0}
NoneRight h (a ∷ zs) = (a.x ≼ h.x) × NoneRight h zs

-- A rising edge no further right than h has h not on its left; a falling one not on its right.
rise : (ux uy wx wy hx hy : ℤ) → uy -ℤ hy ≼ pos 0 → pos 0 ≺ wy -ℤ hy → ux ≼ hx → wx ≼ hx → (wx -ℤ ux) *ℤ (hy -ℤ uy) -ℤ (wy -ℤ uy) *ℤ (hx -ℤ ux) ≼ pos 0
rise = order 6 (λ ux uy wx wy hx hy. (uy ⊟ hy ≲ # (pos 0)) ∷ (# (pos 0) ⋖ wy ⊟ hy) ∷ (ux ≲ hx) ∷ (wx ≲ hx) ∷ [] ⊢ cross_e ux uy wx wy hx hy ≲ # (pos 0) by (hyp 1 ⊕ num 1) ⊗ hyp 2 ⊕ hyp 0 ⊗ hyp 3) tt

fall : (ux uy wx wy hx hy : ℤ) → pos 0 ≺ uy -ℤ hy → wy -ℤ hy ≼ pos 0 → ux ≼ hx → wx ≼ hx → pos 0 ≼ (wx -ℤ ux) *ℤ (hy -ℤ uy) -ℤ (wy -ℤ uy) *ℤ (hx -ℤ ux)
fall = order 6 (λ ux uy wx wy hx hy. (# (pos 0) ⋖ uy ⊟ hy) ∷ (wy ⊟ hy ≲ # (pos 0)) ∷ (ux ≲ hx) ∷ (wx ≲ hx) ∷ [] ⊢ # (pos 0) ≲ cross_e ux uy wx wy hx hy by (hyp 0 ⊕ num 1) ⊗ hyp 3 ⊕ hyp 1 ⊗ hyp 2) tt

-- So it has no crossing from h.
crossed-max : (h u t : Vertex) → u.x ≼ h.x → t.x ≼ h.x → crossed u t h ≡ pos 0
unfolding crossed cross
crossed-max h u t i j = go (above h u) (above h t) (positive_is h.y u.y) (positive_is h.y t.y)
  where
    go : (a b : Bool) → Positive a (u.y -ℤ h.y) → Positive b (t.y -ℤ h.y) → edge_crossing a b (cross u t h) ≡ pos 0
    go false false k l = refl
    go true true k l = refl
    go false true k l = one_positive-0 (cross u t h) (rise u.x u.y t.x t.y h.x h.y k l i j)
    go true false k l = minus_negative-0 (cross u t h) (fall u.x u.y t.x t.y h.x h.y k l i j)

-- The last lies no further right.
none-right-last : (h a : Vertex) (zs : List Vertex) → a.x ≼ h.x → NoneRight h zs → (last_of a zs).x ≼ h.x
none-right-last h a [] i f = i
none-right-last h a (b ∷ zs) i f = none-right-last h b zs f.0 f.1

-- A path has no crossings.
path_max : (h a : Vertex) (zs : List Vertex) → a.x ≼ h.x → NoneRight h zs → path_sum (λ s t. crossed s t h) a zs ≡ pos 0
path_max h a [] i f = refl
path_max h a (b ∷ zs) i f = ap₂ ◌+ℤ◌ (crossed-max h a b i f.0) (path_max h b zs f.0 f.1)

-- From there the ray crosses nothing.
pub winding_max : (h : Vertex) (P : List Vertex) → NoneRight h P → winding P h ≡ pos 0
winding_max h [] f = refl
winding_max h (a ∷ zs) f = ap₂ ◌+ℤ◌ (path_max h a zs f.0 f.1) (crossed-max h (last_of a zs) a (none-right-last h a zs f.0 f.1) f.0)

-- ---- a cone split in two

-- What a half plane says of the differences α, up, and X, to the right.
abbrev pub HalfOf : Bool → ℤ → ℤ → Type 0
HalfOf true α X = (pos 0 ≺ α) ⊎ ((α ≡ pos 0) × (X ≺ pos 0))
HalfOf false α X = (α ≺ pos 0) ⊎ ((α ≡ pos 0) × (pos 0 ≼ X))

-- The half plane of b as seen from a says so.
pub half_of : (a b : Vertex) → HalfOf (upper_half a b) (b.y -ℤ a.y) (b.x -ℤ a.x)
unfolding upper_half
half_of a b = go (lt_z a.y b.y) (lt_z b.y a.y) (lt_z b.x a.x) (positive_is a.y b.y) (negative_is b.y a.y) (negative_is b.x a.x)
  where
    α : ℤ
    α = b.y -ℤ a.y

    X : ℤ
    X = b.x -ℤ a.x

    go : (k l m : Bool) → Positive k α → Negative l α → Negative m X → HalfOf (upper_by k l m) α X
    go true l m f g e = inl f
    go false true m f g e = inl g
    go false false true f g e = inr (≤ℤ-antisym f g, e)
    go false false false f g e = inr (≤ℤ-antisym f g, e)

-- With positive a, b, c and c z = b s + a p, the signs that z, s and p cannot have.
k1 : (a b c s z p : ℤ) → pos 0 ≺ a → pos 0 ≺ b → pos 0 ≺ c → c *ℤ z ≡ b *ℤ s +ℤ a *ℤ p → pos 0 ≺ z → s ≼ pos 0 → p ≼ pos 0 → ⊥
k1 = order 6 (λ a b c s z p. (# (pos 0) ⋖ a) ∷ (# (pos 0) ⋖ b) ∷ (# (pos 0) ⋖ c) ∷ (c ⊠ z ≈ b ⊠ s ⊞ a ⊠ p) ∷ (# (pos 0) ⋖ z) ∷ (s ≲ # (pos 0)) ∷ (p ≲ # (pos 0)) ∷ []
    ⊢ never by hyp 2 ⊗ hyp 4 ⊕ hyp 2 ⊕ hyp 4 ⊕ (hyp 1 ⊕ num 1) ⊗ hyp 5 ⊕ (hyp 0 ⊕ num 1) ⊗ hyp 6 ⊕ times 3 (# (pos 1))) tt

k2 : (a b c s z p : ℤ) → pos 0 ≺ a → pos 0 ≺ b → pos 0 ≺ c → c *ℤ z ≡ b *ℤ s +ℤ a *ℤ p → pos 0 ≼ z → s ≺ pos 0 → p ≼ pos 0 → ⊥
k2 = order 6 (λ a b c s z p. (# (pos 0) ⋖ a) ∷ (# (pos 0) ⋖ b) ∷ (# (pos 0) ⋖ c) ∷ (c ⊠ z ≈ b ⊠ s ⊞ a ⊠ p) ∷ (# (pos 0) ≲ z) ∷ (s ⋖ # (pos 0)) ∷ (p ≲ # (pos 0)) ∷ []
    ⊢ never by (hyp 2 ⊕ num 1) ⊗ hyp 4 ⊕ hyp 1 ⊗ hyp 5 ⊕ hyp 1 ⊕ hyp 5 ⊕ (hyp 0 ⊕ num 1) ⊗ hyp 6 ⊕ times 3 (# (pos 1))) tt

k3 : (a b c s z p : ℤ) → pos 0 ≺ a → pos 0 ≺ b → pos 0 ≺ c → c *ℤ z ≡ b *ℤ s +ℤ a *ℤ p → pos 0 ≼ z → s ≼ pos 0 → p ≺ pos 0 → ⊥
k3 = order 6 (λ a b c s z p. (# (pos 0) ⋖ a) ∷ (# (pos 0) ⋖ b) ∷ (# (pos 0) ⋖ c) ∷ (c ⊠ z ≈ b ⊠ s ⊞ a ⊠ p) ∷ (# (pos 0) ≲ z) ∷ (s ≲ # (pos 0)) ∷ (p ⋖ # (pos 0)) ∷ []
    ⊢ never by (hyp 2 ⊕ num 1) ⊗ hyp 4 ⊕ hyp 0 ⊗ hyp 6 ⊕ hyp 0 ⊕ hyp 6 ⊕ (hyp 1 ⊕ num 1) ⊗ hyp 5 ⊕ times 3 (# (pos 1))) tt

-- The same negated, and what 0 says of the order.
n-eq : (a b c s z p : ℤ) → c *ℤ z ≡ b *ℤ s +ℤ a *ℤ p → c *ℤ neg_ℤ z ≡ b *ℤ neg_ℤ s +ℤ a *ℤ neg_ℤ p
n-eq = order 6 (λ a b c s z p. (c ⊠ z ≈ b ⊠ s ⊞ a ⊠ p) ∷ [] ⊢ c ⊠ ⊖ z ≈ b ⊠ ⊖ s ⊞ a ⊠ ⊖ p by times 0 (# (negsuc 0))) tt

ng1 : (t : ℤ) → pos 0 ≺ t → neg_ℤ t ≺ pos 0
ng1 = order 1 (λ t. (# (pos 0) ⋖ t) ∷ [] ⊢ ⊖ t ⋖ # (pos 0) by hyp 0) tt

ng3 : (t : ℤ) → pos 0 ≼ t → neg_ℤ t ≼ pos 0
ng3 = order 1 (λ t. (# (pos 0) ≲ t) ∷ [] ⊢ ⊖ t ≲ # (pos 0) by hyp 0) tt

ng4 : (t : ℤ) → t ≡ pos 0 → neg_ℤ t ≼ pos 0
ng4 = order 1 (λ t. (t ≈ # (pos 0)) ∷ [] ⊢ ⊖ t ≲ # (pos 0) by times 0 (# (negsuc 0))) tt

ng5 : (t : ℤ) → t ≡ pos 0 → pos 0 ≼ neg_ℤ t
ng5 = order 1 (λ t. (t ≈ # (pos 0)) ∷ [] ⊢ # (pos 0) ≲ ⊖ t by times 0 (# (pos 1))) tt

e1 : (t : ℤ) → t ≡ pos 0 → pos 0 ≼ t
e1 = order 1 (λ t. (t ≈ # (pos 0)) ∷ [] ⊢ # (pos 0) ≲ t by times 0 (# (negsuc 0))) tt

e2 : (t : ℤ) → t ≡ pos 0 → t ≼ pos 0
e2 = order 1 (λ t. (t ≈ # (pos 0)) ∷ [] ⊢ t ≲ # (pos 0) by times 0 (# (pos 1))) tt

module _ (a b c sx sy zx zy px py : ℤ) (ha : pos 0 ≺ a) (hb : pos 0 ≺ b) (hc : pos 0 ≺ c) (ex : c *ℤ zx ≡ b *ℤ sx +ℤ a *ℤ px) (ey : c *ℤ zy ≡ b *ℤ sy +ℤ a *ℤ py) where
  down-y : {t u : ℤ} → (t ≺ pos 0) ⊎ ((t ≡ pos 0) × (pos 0 ≼ u)) → t ≼ pos 0
  down-y {t} {u} = ⊎_elim (λ i. <ℤ-≤ℤ i) (λ i. e2 t i.0)

  dud : HalfOf false sy sx → HalfOf true zy zx → HalfOf false py px → ⊥
  dud s z p = ⊎_elim (λ i. k1 a b c sy zy py ha hb hc ey i (down-y s) (down-y p))
      (λ i. ⊎_elim (λ j. k2 a b c sy zy py ha hb hc ey (e1 zy i.0) j (down-y p))
      (λ j. ⊎_elim (λ k. k3 a b c sy zy py ha hb hc ey (e1 zy i.0) (e2 sy j.0) k)
      (λ k. k1 a b c (neg_ℤ sx) (neg_ℤ zx) (neg_ℤ px) ha hb hc (n-eq a b c sx zx px ex) (neg_lt zx i.1) (ng3 sx j.1) (ng3 px k.1)) p) s) z

  up-y : {t u : ℤ} → (pos 0 ≺ t) ⊎ ((t ≡ pos 0) × (u ≺ pos 0)) → neg_ℤ t ≼ pos 0
  up-y {t} {u} = ⊎_elim (λ i. <ℤ-≤ℤ (ng1 t i)) (λ i. ng4 t i.0)

  udu : HalfOf true sy sx → HalfOf false zy zx → HalfOf true py px → ⊥
  udu s z p = ⊎_elim (λ i. k1 a b c (neg_ℤ sy) (neg_ℤ zy) (neg_ℤ py) ha hb hc ney (neg_lt zy i) (up-y s) (up-y p))
      (λ i. ⊎_elim (λ j. k2 a b c (neg_ℤ sy) (neg_ℤ zy) (neg_ℤ py) ha hb hc ney (ng5 zy i.0) (ng1 sy j) (up-y p))
      (λ j. ⊎_elim (λ k. k3 a b c (neg_ℤ sy) (neg_ℤ zy) (neg_ℤ py) ha hb hc ney (ng5 zy i.0) (ng4 sy j.0) (ng1 py k))
      (λ k. k2 a b c sx zx px ha hb hc ex i.1 j.1 (<ℤ-≤ℤ k.1)) p) s) z
    where
      ney : c *ℤ neg_ℤ zy ≡ b *ℤ neg_ℤ sy +ℤ a *ℤ neg_ℤ py
      ney = n-eq a b c sy zy py ey

  split3 : (us uz up' : Bool) → HalfOf us sy sx → HalfOf uz zy zx → HalfOf up' py px → cone_by us up' c ≡ cone_by uz up' b +ℤ cone_by us uz a
  split3 false true false s z p = absurd (dud s z p)
  split3 true false true s z p = absurd (udu s z p)
  split3 false false true s z p = ap (λ t. pos 1 +ℤ t) (sym (one_negative-0 a (<ℤ-≤ℤ ha)))
  split3 false true true s z p = ap (λ t. t +ℤ pos 1) (sym (one_negative-0 b (<ℤ-≤ℤ hb)))
  split3 false false false s z p = one_negative-0 c (<ℤ-≤ℤ hc) ∙ sym (ap₂ ◌+ℤ◌ (one_negative-0 b (<ℤ-≤ℤ hb)) (one_negative-0 a (<ℤ-≤ℤ ha)))
  split3 true true true s z p = one_negative-0 c (<ℤ-≤ℤ hc) ∙ sym (ap₂ ◌+ℤ◌ (one_negative-0 b (<ℤ-≤ℤ hb)) (one_negative-0 a (<ℤ-≤ℤ ha)))
  split3 true false false s z p = sym (ap (λ t. t +ℤ pos 0) (one_negative-0 b (<ℤ-≤ℤ hb)))
  split3 true true false s z p = sym (+ℤ_idl (one_negative a) ∙ one_negative-0 a (<ℤ-≤ℤ ha))

-- A direction inside the cone is a mean of its two sides.
cone_x : (p h s z : Vertex) → cross p h s *ℤ (z.x -ℤ h.x) ≡ cross p h z *ℤ (s.x -ℤ h.x) +ℤ cross z h s *ℤ (p.x -ℤ h.x)
unfolding cross
cone_x p h s z = ring 8 (λ px py hx hy sx sy zx zy. cross_e px py hx hy sx sy ⊠ (zx ⊟ hx) ≈ cross_e px py hx hy zx zy ⊠ (sx ⊟ hx) ⊞ cross_e zx zy hx hy sx sy ⊠ (px ⊟ hx)) tt p.x p.y h.x h.y s.x s.y z.x z.y

cone_y : (p h s z : Vertex) → cross p h s *ℤ (z.y -ℤ h.y) ≡ cross p h z *ℤ (s.y -ℤ h.y) +ℤ cross z h s *ℤ (p.y -ℤ h.y)
unfolding cross
cone_y p h s z = ring 8 (λ px py hx hy sx sy zx zy. cross_e px py hx hy sx sy ⊠ (zy ⊟ hy) ≈ cross_e px py hx hy zx zy ⊠ (sy ⊟ hy) ⊞ cross_e zx zy hx hy sx sy ⊠ (py ⊟ hy)) tt p.x p.y h.x h.y s.x s.y z.x z.y

-- A cone is the sum of the two parts into which a direction inside it splits it.
pub cone_split : (p h s z : Vertex) → pos 0 ≺ cross p h s → pos 0 ≺ cross p h z → pos 0 ≺ cross z h s → cone p h s ≡ cone p h z +ℤ cone z h s
unfolding cone
cone_split p h s z hc hb ha = split3 (cross z h s) (cross p h z) (cross p h s) (s.x -ℤ h.x) (s.y -ℤ h.y) (z.x -ℤ h.x) (z.y -ℤ h.y) (p.x -ℤ h.x) (p.y -ℤ h.y) ha hb hc (cone_x p h s z) (cone_y p h s z)
    (upper_half h s) (upper_half h z) (upper_half h p) (half_of h s) (half_of h z) (half_of h p)
