-- A segment that reaches into a triangle from beyond a leg crosses one of its two legs.
use mathlib.Core.List.{[], ◌∷◌}
use mathlib.Core.Logic.{◌⊎◌, inl, inr, ⊎_elim}
use mathlib.Core.Path.{◌≡◌, ◌∙◌, ap₂, subst}
use lib.IntN.{ℤ, pos, neg_ℤ, ◌+ℤ◌, ◌-ℤ◌, ◌*ℤ◌, +ℤ_comm}
use Rattle.integers.proofs.Order.{≤ℤ-antisym, le_or_lt, <ℤ-≤ℤ}
use Rattle.integers.proofs.Slack.{nonneg_*ℤ}
use Rattle.model.specs.Content.{Vertex}
use Rattle.model.specs.Geometry.{cross}
use Rattle.outlines.specs.Simple.{Meet}
use Rattle.outlines.proofs.Tools.{◌≼◌, ◌≺◌, #, ◌⊞◌, ◌⊟◌, ◌⊠◌, ⊖◌, ◌≲◌, ◌⋖◌, ◌≈◌, never, hyp, num, ◌⊕◌, ◌⊗◌, ◌⊢◌by◌, order, ring, times, nonneg_by, pos_by}
use Rattle.outlines.proofs.Crossing.{cross_e}

-- Seen from h, with legs to p and s: cross h s u and cross p h u are the two coordinates of u along the legs, and cross p h s is the size of the triangle. Here the x.
pub coord_x : (p h s u : Vertex) → cross p h s *ℤ (u.x -ℤ h.x) ≡ cross h s u *ℤ (p.x -ℤ h.x) +ℤ cross p h u *ℤ (s.x -ℤ h.x)
unfolding cross
coord_x p h s u = ring 8 (λ px py hx hy sx sy ux uy. cross_e px py hx hy sx sy ⊠ (ux ⊟ hx) ≈ cross_e hx hy sx sy ux uy ⊠ (px ⊟ hx) ⊞ cross_e px py hx hy ux uy ⊠ (sx ⊟ hx)) tt p.x p.y h.x h.y s.x s.y u.x u.y

-- The same of the y.
pub coord_y : (p h s u : Vertex) → cross p h s *ℤ (u.y -ℤ h.y) ≡ cross h s u *ℤ (p.y -ℤ h.y) +ℤ cross p h u *ℤ (s.y -ℤ h.y)
unfolding cross
coord_y p h s u = ring 8 (λ px py hx hy sx sy ux uy. cross_e px py hx hy sx sy ⊠ (uy ⊟ hy) ≈ cross_e hx hy sx sy ux uy ⊠ (py ⊟ hy) ⊞ cross_e px py hx hy ux uy ⊠ (sy ⊟ hy)) tt p.x p.y h.x h.y s.x s.y u.x u.y

-- Where the segment u w meets the line of the leg h p: the point with the weights bv and -bu.
legx : (d au av bu bv h p s u w : ℤ) → d *ℤ (u -ℤ h) ≡ au *ℤ (p -ℤ h) +ℤ bu *ℤ (s -ℤ h) → d *ℤ (w -ℤ h) ≡ av *ℤ (p -ℤ h) +ℤ bv *ℤ (s -ℤ h) →
    (d *ℤ (bv -ℤ bu) -ℤ (bv *ℤ au -ℤ bu *ℤ av)) *ℤ h +ℤ (bv *ℤ au -ℤ bu *ℤ av) *ℤ p ≡ (d *ℤ bv) *ℤ u +ℤ (d *ℤ neg_ℤ bu) *ℤ w
legx = order 10 (λ d au av bu bv h p s u w. (d ⊠ (u ⊟ h) ≈ au ⊠ (p ⊟ h) ⊞ bu ⊠ (s ⊟ h)) ∷ (d ⊠ (w ⊟ h) ≈ av ⊠ (p ⊟ h) ⊞ bv ⊠ (s ⊟ h)) ∷ []
    ⊢ (d ⊠ (bv ⊟ bu) ⊟ (bv ⊠ au ⊟ bu ⊠ av)) ⊠ h ⊞ (bv ⊠ au ⊟ bu ⊠ av) ⊠ p ≈ (d ⊠ bv) ⊠ u ⊞ (d ⊠ ⊖ bu) ⊠ w by times 0 (⊖ bv) ⊕ times 1 bu) tt

-- Its weights are not negative, where the mean of u and w with k and l lies inside and u beyond the leg.
l-pos : (k l bu bv : ℤ) → pos 0 ≼ k → pos 0 ≼ l → pos 0 ≺ k +ℤ l → bu ≺ pos 0 → pos 0 ≼ k *ℤ bu +ℤ l *ℤ bv → l ≼ pos 0 → ⊥
l-pos k l bu bv k0 l0 kl b x y = no2 k l bu bv kl b x (≤ℤ-antisym y l0)
  where
    no2 : (k l bu bv : ℤ) → pos 0 ≺ k +ℤ l → bu ≺ pos 0 → pos 0 ≼ k *ℤ bu +ℤ l *ℤ bv → l ≡ pos 0 → ⊥
    no2 = order 4 (λ k l bu bv. (# (pos 0) ⋖ k ⊞ l) ∷ (bu ⋖ # (pos 0)) ∷ (# (pos 0) ≲ k ⊠ bu ⊞ l ⊠ bv) ∷ (l ≈ # (pos 0)) ∷ []
        ⊢ never by hyp 0 ⊗ hyp 1 ⊕ hyp 0 ⊕ hyp 1 ⊕ hyp 2 ⊕ times 3 (bv ⊟ bu)) tt

-- The other end lies on the other side of the leg.
bv_nn : (k l bu bv : ℤ) → pos 0 ≼ k → pos 0 ≺ l → bu ≺ pos 0 → pos 0 ≼ k *ℤ bu +ℤ l *ℤ bv → bv ≺ pos 0 → ⊥
bv_nn = order 4 (λ k l bu bv. (# (pos 0) ≲ k) ∷ (# (pos 0) ⋖ l) ∷ (bu ⋖ # (pos 0)) ∷ (# (pos 0) ≲ k ⊠ bu ⊞ l ⊠ bv) ∷ (bv ⋖ # (pos 0)) ∷ []
    ⊢ never by hyp 0 ⊗ (hyp 2 ⊕ num 1) ⊕ hyp 1 ⊗ hyp 4 ⊕ hyp 1 ⊕ hyp 4 ⊕ hyp 3) tt

-- The point is not beyond p, the foot of the leg.
foot : (d k l au av bu bv : ℤ) → pos 0 ≺ l → bu ≺ pos 0 → pos 0 ≼ k *ℤ bu +ℤ l *ℤ bv → au +ℤ bu ≼ d → k *ℤ (au +ℤ bu) +ℤ l *ℤ (av +ℤ bv) ≼ (k +ℤ l) *ℤ d →
    d *ℤ (bv -ℤ bu) -ℤ (bv *ℤ au -ℤ bu *ℤ av) ≺ pos 0 → ⊥
foot = order 7 (λ d k l au av bu bv. (# (pos 0) ⋖ l) ∷ (bu ⋖ # (pos 0)) ∷ (# (pos 0) ≲ k ⊠ bu ⊞ l ⊠ bv) ∷ (au ⊞ bu ≲ d) ∷ (k ⊠ (au ⊞ bu) ⊞ l ⊠ (av ⊞ bv) ≲ (k ⊞ l) ⊠ d) ∷ (d ⊠ (bv ⊟ bu) ⊟ (bv ⊠ au ⊟ bu ⊠ av) ⋖ # (pos 0)) ∷ []
    ⊢ never by hyp 0 ⊗ hyp 5 ⊕ hyp 0 ⊕ hyp 5 ⊕ hyp 2 ⊗ hyp 3 ⊕ (hyp 1 ⊕ num 1) ⊗ hyp 4) tt

-- The weights of the point on the leg.
mul_neg : (a b : ℤ) → pos 0 ≺ a → b ≺ pos 0 → pos 0 ≼ a *ℤ neg_ℤ b
mul_neg = order 2 (λ a b. (# (pos 0) ⋖ a) ∷ (b ⋖ # (pos 0)) ∷ [] ⊢ # (pos 0) ≲ a ⊠ ⊖ b by (hyp 0 ⊕ num 1) ⊗ (hyp 1 ⊕ num 1)) tt

tot : (d bu bv e : ℤ) → pos 0 ≺ d → bu ≺ pos 0 → pos 0 ≼ bv → pos 0 ≺ d *ℤ (bv -ℤ bu) -ℤ e +ℤ e
tot = order 4 (λ d bu bv e. (# (pos 0) ⋖ d) ∷ (bu ⋖ # (pos 0)) ∷ (# (pos 0) ≲ bv) ∷ [] ⊢ # (pos 0) ⋖ d ⊠ (bv ⊟ bu) ⊟ e ⊞ e by (hyp 0 ⊕ num 1) ⊗ hyp 2 ⊕ hyp 0 ⊗ hyp 1 ⊕ hyp 0 ⊕ hyp 1) tt

sum-eq : (d bu bv e : ℤ) → d *ℤ (bv -ℤ bu) -ℤ e +ℤ e ≡ d *ℤ bv +ℤ d *ℤ neg_ℤ bu
sum-eq = ring 4 (λ d bu bv e. d ⊠ (bv ⊟ bu) ⊟ e ⊞ e ≈ d ⊠ bv ⊞ d ⊠ ⊖ bu) tt

-- That equation, of one coordinate, with numbers d, a, b for the crosses.
abbrev pub Eq1 : ℤ → ℤ → ℤ → ℤ → ℤ → ℤ → ℤ → Type 0
Eq1 d a b h p s u = d *ℤ (u -ℤ h) ≡ a *ℤ (p -ℤ h) +ℤ b *ℤ (s -ℤ h)

-- The meeting point on the leg h p.
leg : (h p s u w : Vertex) (d au aw bu bw k l : ℤ) →
    Eq1 d au bu h.x p.x s.x u.x → Eq1 d aw bw h.x p.x s.x w.x → Eq1 d au bu h.y p.y s.y u.y → Eq1 d aw bw h.y p.y s.y w.y →
    pos 0 ≺ d → pos 0 ≼ k → pos 0 ≼ l → pos 0 ≺ k +ℤ l → pos 0 ≼ k *ℤ bu +ℤ l *ℤ bw → k *ℤ (au +ℤ bu) +ℤ l *ℤ (aw +ℤ bw) ≼ (k +ℤ l) *ℤ d →
    au +ℤ bu ≼ d → bu ≺ pos 0 → pos 0 ≼ bw *ℤ au -ℤ bu *ℤ aw → Meet h p u w
leg h p s u w d au aw bu bw k l x1 x2 y1 y2 dp k0 l0 kl b0 c0 c b e = record {
  m = d *ℤ (bw -ℤ bu) -ℤ Δ;
  n = Δ;
  k = d *ℤ bw;
  l = d *ℤ neg_ℤ bu;
  m0 = nonneg_by (d *ℤ (bw -ℤ bu) -ℤ Δ) (λ t. foot d k l au aw bu bw lp b b0 c c0 t);
  n0 = e;
  k0 = nonneg_*ℤ d bw (<ℤ-≤ℤ dp) bn;
  l0 = mul_neg d bu dp b;
  some = tot d bu bw Δ dp b bn;
  sums = sum-eq d bu bw Δ;
  atx = legx d au aw bu bw h.x p.x s.x u.x w.x x1 x2;
  aty = legx d au aw bu bw h.y p.y s.y u.y w.y y1 y2;
}
  where
    Δ : ℤ
    Δ = bw *ℤ au -ℤ bu *ℤ aw

    lp : pos 0 ≺ l
    lp = pos_by l (λ t. l-pos k l bu bw k0 l0 kl b b0 t)

    bn : pos 0 ≼ bw
    bn = nonneg_by bw (λ t. bv_nn k l bu bw k0 lp b b0 t)

-- The mean of u and w with the weights k and l lies in the closed triangle.
pub record Inside (p h s u w : Vertex) (k l : ℤ) : Type 0 where
  pub k0 : pos 0 ≼ k
  pub l0 : pos 0 ≼ l
  pub kl : pos 0 ≺ k +ℤ l
  pub a0 : pos 0 ≼ k *ℤ cross h s u +ℤ l *ℤ cross h s w
  pub b0 : pos 0 ≼ k *ℤ cross p h u +ℤ l *ℤ cross p h w
  pub c0 : k *ℤ (cross h s u +ℤ cross p h u) +ℤ l *ℤ (cross h s w +ℤ cross p h w) ≼ (k +ℤ l) *ℤ cross p h s

-- With u beyond this leg alone, the point is not beyond h either.
mixed : (k l au aw bu bw : ℤ) → pos 0 ≺ l → bu ≺ pos 0 → pos 0 ≼ au → pos 0 ≼ k *ℤ au +ℤ l *ℤ aw → pos 0 ≼ k *ℤ bu +ℤ l *ℤ bw → bw *ℤ au -ℤ bu *ℤ aw ≺ pos 0 → ⊥
mixed = order 6 (λ k l au aw bu bw. (# (pos 0) ⋖ l) ∷ (bu ⋖ # (pos 0)) ∷ (# (pos 0) ≲ au) ∷ (# (pos 0) ≲ k ⊠ au ⊞ l ⊠ aw) ∷ (# (pos 0) ≲ k ⊠ bu ⊞ l ⊠ bw) ∷ (bw ⊠ au ⊟ bu ⊠ aw ⋖ # (pos 0)) ∷ []
    ⊢ never by (hyp 1 ⊕ num 1) ⊗ hyp 3 ⊕ hyp 4 ⊗ hyp 2 ⊕ hyp 0 ⊗ hyp 5 ⊕ hyp 0 ⊕ hyp 5) tt

-- A segment that reaches into the triangle, one end beyond a leg and no deeper than the new side, meets a leg.
pub core : (p h s u w : Vertex) (k l : ℤ) → pos 0 ≺ cross p h s → Inside p h s u w k l → cross h s u +ℤ cross p h u ≼ cross p h s →
    (cross h s u ≺ pos 0) ⊎ (cross p h u ≺ pos 0) → Meet h p u w ⊎ Meet h s u w
core p h s u w k l d i c o = ⊎_elim neg_a neg_b o
  where
    au : ℤ
    au = cross h s u

    aw : ℤ
    aw = cross h s w

    bu : ℤ
    bu = cross p h u

    bw : ℤ
    bw = cross p h w

    ac : k *ℤ (bu +ℤ au) +ℤ l *ℤ (bw +ℤ aw) ≼ (k +ℤ l) *ℤ cross p h s
    ac = subst (λ t. t ≼ (k +ℤ l) *ℤ cross p h s) (ap₂ (λ x y. k *ℤ x +ℤ l *ℤ y) (+ℤ_comm au bu) (+ℤ_comm aw bw)) i.c0

    via_b : bu ≺ pos 0 → pos 0 ≼ bw *ℤ au -ℤ bu *ℤ aw → Meet h p u w
    via_b b e = leg h p s u w (cross p h s) au aw bu bw k l (coord_x p h s u) (coord_x p h s w) (coord_y p h s u) (coord_y p h s w) d i.k0 i.l0 i.kl i.b0 i.c0 c b e

    via_a : au ≺ pos 0 → pos 0 ≼ aw *ℤ bu -ℤ au *ℤ bw → Meet h s u w
    via_a a e = leg h s p u w (cross p h s) bu bw au aw k l
        (coord_x p h s u ∙ +ℤ_comm (au *ℤ (p.x -ℤ h.x)) (bu *ℤ (s.x -ℤ h.x))) (coord_x p h s w ∙ +ℤ_comm (aw *ℤ (p.x -ℤ h.x)) (bw *ℤ (s.x -ℤ h.x)))
        (coord_y p h s u ∙ +ℤ_comm (au *ℤ (p.y -ℤ h.y)) (bu *ℤ (s.y -ℤ h.y))) (coord_y p h s w ∙ +ℤ_comm (aw *ℤ (p.y -ℤ h.y)) (bw *ℤ (s.y -ℤ h.y)))
        d i.k0 i.l0 i.kl i.a0 ac (subst (λ t. t ≼ cross p h s) (+ℤ_comm au bu) c) a e

    re : (x y z t : ℤ) → x *ℤ y -ℤ z *ℤ t ≺ pos 0 → pos 0 ≼ t *ℤ z -ℤ y *ℤ x
    re = order 4 (λ x y z t. (x ⊠ y ⊟ z ⊠ t ⋖ # (pos 0)) ∷ [] ⊢ # (pos 0) ≲ t ⊠ z ⊟ y ⊠ x by hyp 0 ⊕ num 1) tt

    neg_b : bu ≺ pos 0 → Meet h p u w ⊎ Meet h s u w
    neg_b b = ⊎_elim (λ e. inl (via_b b e))
        (λ e. ⊎_elim (λ a. absurd (mixed k l au aw bu bw (pos_by l (λ t. l-pos k l bu bw i.k0 i.l0 i.kl b i.b0 t)) b a i.a0 i.b0 e))
        (λ a. inr (via_a a (re bw au bu aw e))) (le_or_lt (pos 0) au))
        (le_or_lt (pos 0) (bw *ℤ au -ℤ bu *ℤ aw))

    neg_a : au ≺ pos 0 → Meet h p u w ⊎ Meet h s u w
    neg_a a = ⊎_elim (λ e. inr (via_a a e))
        (λ e. ⊎_elim (λ b. absurd (mixed k l bu bw au aw (pos_by l (λ t. l-pos k l au aw i.k0 i.l0 i.kl a i.a0 t)) a b i.b0 i.a0 e))
        (λ b. inl (via_b b (re aw bu au bw e))) (le_or_lt (pos 0) bu))
        (le_or_lt (pos 0) (aw *ℤ bu -ℤ au *ℤ bw))
