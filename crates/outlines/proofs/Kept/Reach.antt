-- What meets the new side of an ear, or a diagonal from its tip, meets a leg or the far end of the diagonal.
use mathlib.Core.List.{[], ◌∷◌}
use mathlib.Core.Logic.{◌⊎◌, inl, inr, ⊎_elim}
use mathlib.Core.Path.{◌≡◌, sym, ◌∙◌, ap, ap₂, subst}
use lib.IntN.{ℤ, pos, negsuc, ◌+ℤ◌, ◌-ℤ◌, ◌*ℤ◌, +ℤ_comm}
use lib.Signed.{clash_ℤ}
use Rattle.integers.proofs.Order.{≤ℤ-antisym, le_or_lt, <ℤ-≤ℤ}
use Rattle.integers.proofs.Slack.{nonneg_*ℤ}
use Rattle.model.specs.Content.{Vertex}
use Rattle.model.specs.Geometry.{cross}
use Rattle.outlines.specs.Simple.{Meet}
use Rattle.outlines.proofs.Tools.{◌≼◌, ◌≺◌, #, ◌⊞◌, ◌⊟◌, ◌⊠◌, ◌≲◌, ◌⋖◌, ◌≈◌, never, hyp, num, ◌⊕◌, ◌⊗◌, ◌⊢◌by◌, order, zero_first, ring, times}
use Rattle.outlines.proofs.Crossing.{cross_e, cross-rot, cross-1, cross-2}
use Rattle.outlines.proofs.Winding.Telescope.{Meet-uw}
use Rattle.outlines.proofs.Kept.Legs.{Inside, core}

-- The cross with a line, as a linear function of the point.
cross-lin : (a b x : Vertex) → cross a b x ≡ (a.y -ℤ b.y) *ℤ x.x +ℤ (b.x -ℤ a.x) *ℤ x.y +ℤ (b.y *ℤ a.x -ℤ b.x *ℤ a.y)
unfolding cross
cross-lin a b x = ring 6 (λ ax ay cx cy xx xy. cross_e ax ay cx cy xx xy ≈ (ay ⊟ cy) ⊠ xx ⊞ (cx ⊟ ax) ⊠ xy ⊞ (cy ⊠ ax ⊟ cx ⊠ ay)) tt a.x a.y b.x b.y x.x x.y

-- Such a function of a mean is the mean of its values.
lin : (m n α β γ px py sx sy : ℤ) → m *ℤ (α *ℤ px +ℤ β *ℤ py +ℤ γ) +ℤ n *ℤ (α *ℤ sx +ℤ β *ℤ sy +ℤ γ) ≡ α *ℤ (m *ℤ px +ℤ n *ℤ sx) +ℤ β *ℤ (m *ℤ py +ℤ n *ℤ sy) +ℤ γ *ℤ (m +ℤ n)
lin = ring 9 (λ m n α β γ px py sx sy. m ⊠ (α ⊠ px ⊞ β ⊠ py ⊞ γ) ⊞ n ⊠ (α ⊠ sx ⊞ β ⊠ sy ⊞ γ) ≈ α ⊠ (m ⊠ px ⊞ n ⊠ sx) ⊞ β ⊠ (m ⊠ py ⊞ n ⊠ sy) ⊞ γ ⊠ (m ⊞ n)) tt

-- The cross with a line is the same at the meeting point from both edges.
pub aff : (a b : Vertex) {p s u w : Vertex} (M : Meet p s u w) → M.m *ℤ cross a b p +ℤ M.n *ℤ cross a b s ≡ M.k *ℤ cross a b u +ℤ M.l *ℤ cross a b w
aff a b {p} {s} {u} {w} M = ap₂ (λ t r. M.m *ℤ t +ℤ M.n *ℤ r) (cross-lin a b p) (cross-lin a b s)
    ∙ lin M.m M.n α β γ p.x p.y s.x s.y
    ∙ ap₂ (λ t r. t +ℤ γ *ℤ r) (ap₂ (λ t r. α *ℤ t +ℤ β *ℤ r) M.atx M.aty) M.sums
    ∙ sym (lin M.k M.l α β γ u.x u.y w.x w.y)
    ∙ ap₂ (λ t r. M.k *ℤ t +ℤ M.l *ℤ r) (sym (cross-lin a b u)) (sym (cross-lin a b w))
  where
    α : ℤ
    α = a.y -ℤ b.y

    β : ℤ
    β = b.x -ℤ a.x

    γ : ℤ
    γ = b.y *ℤ a.x -ℤ b.x *ℤ a.y

-- How deep a point lies, seen from the tip h: 0 at h, cross p h s at the new side.
abbrev pub depth : Vertex → Vertex → Vertex → Vertex → ℤ
depth p h s x = cross h s x +ℤ cross p h x

-- x is not in the closed triangle.
abbrev pub Outside : Vertex → Vertex → Vertex → Vertex → Type 0
Outside p h s x = ((cross h s x ≺ pos 0) ⊎ (cross p h x ≺ pos 0)) ⊎ (cross p h s ≺ depth p h s x)

-- The ends of the segment exchanged.
pub Inside-uw : {p h s u w : Vertex} {k l : ℤ} → Inside p h s u w k l → Inside p h s w u l k
Inside-uw {p} {h} {s} {u} {w} {k} {l} i = record {
  k0 = i.l0;
  l0 = i.k0;
  kl = subst (λ t. pos 0 ≺ t) (+ℤ_comm k l) i.kl;
  a0 = subst (λ t. pos 0 ≼ t) (+ℤ_comm (k *ℤ cross h s u) (l *ℤ cross h s w)) i.a0;
  b0 = subst (λ t. pos 0 ≼ t) (+ℤ_comm (k *ℤ cross p h u) (l *ℤ cross p h w)) i.b0;
  c0 = subst (λ t. t ≼ (l +ℤ k) *ℤ cross p h s) (+ℤ_comm (k *ℤ depth p h s u) (l *ℤ depth p h s w)) (subst (λ t. k *ℤ depth p h s u +ℤ l *ℤ depth p h s w ≼ t *ℤ cross p h s) (+ℤ_comm k l) i.c0);
}

-- The segment meets a leg.
abbrev Leg : Vertex → Vertex → Vertex → Vertex → Vertex → Type 0
Leg p h s u w = Meet h p u w ⊎ Meet h s u w

-- Its ends exchanged.
Leg-uw : {p h s u w : Vertex} → Leg p h s w u → Leg p h s u w
Leg-uw = ⊎_elim (λ i. inl (Meet-uw i)) (λ i. inr (Meet-uw i))

-- The ends are not both deeper than the new side.
both_high : (k l d x y : ℤ) → pos 0 ≼ k → pos 0 ≼ l → pos 0 ≺ k +ℤ l → d ≺ x → d ≺ y → k *ℤ x +ℤ l *ℤ y ≼ (k +ℤ l) *ℤ d → ⊥
both_high = order 5 (λ k l d x y. (# (pos 0) ≲ k) ∷ (# (pos 0) ≲ l) ∷ (# (pos 0) ⋖ k ⊞ l) ∷ (d ⋖ x) ∷ (d ⋖ y) ∷ (k ⊠ x ⊞ l ⊠ y ≲ (k ⊞ l) ⊠ d) ∷ []
    ⊢ never by hyp 0 ⊗ hyp 3 ⊕ hyp 1 ⊗ hyp 4 ⊕ hyp 2 ⊕ hyp 5) tt

-- A segment with both ends outside that has a point in the triangle meets a leg.
pub reach : (p h s u w : Vertex) (k l : ℤ) → pos 0 ≺ cross p h s → Inside p h s u w k l → Outside p h s u → Outside p h s w → Leg p h s u w
reach p h s u w k l d i ou ow = ⊎_elim (λ a. low_u a) (λ a. ⊎_elim (λ b. low_w b) (λ b. absurd (both_high k l (cross p h s) (depth p h s u) (depth p h s w) i.k0 i.l0 i.kl a b i.c0)) (le_or_lt (depth p h s w) (cross p h s))) (le_or_lt (depth p h s u) (cross p h s))
  where
    low_u : depth p h s u ≼ cross p h s → Leg p h s u w
    low_u a = ⊎_elim (λ o. core p h s u w k l d i a o) (λ o. clash_ℤ o a) ou

    low_w : depth p h s w ≼ cross p h s → Leg p h s u w
    low_w a = ⊎_elim (λ o. Leg-uw (core p h s w u l k d (Inside-uw i) a o)) (λ o. clash_ℤ o a) ow

-- ---- the new side p s of an ear
in_ps : (p h s : Vertex) {u w : Vertex} → pos 0 ≺ cross p h s → (M : Meet p s u w) → Inside p h s u w M.k M.l
in_ps p h s {u} {w} d M = record {
  k0 = M.k0;
  l0 = M.l0;
  kl = subst (λ t. pos 0 ≺ t) M.sums M.some;
  a0 = subst (λ t. pos 0 ≼ t) (ea) (nonneg_*ℤ M.m D M.m0 (<ℤ-≤ℤ d));
  b0 = subst (λ t. pos 0 ≼ t) (eb) (nonneg_*ℤ M.n D M.n0 (<ℤ-≤ℤ d));
  c0 = tot M.k M.l M.m M.n D (cross h s u) (cross p h u) (cross h s w) (cross p h w) (sym ea) (sym eb) M.sums;
}
  where
    D : ℤ
    D = cross p h s

    z1 : (m n d : ℤ) → m *ℤ d ≡ m *ℤ d +ℤ n *ℤ pos 0
    z1 = ring 3 (λ m n d. m ⊠ d ≈ m ⊠ d ⊞ n ⊠ # (pos 0)) tt

    ea : M.m *ℤ D ≡ M.k *ℤ cross h s u +ℤ M.l *ℤ cross h s w
    ea = z1 M.m M.n D ∙ ap₂ (λ t r. M.m *ℤ t +ℤ M.n *ℤ r) (cross-rot p h s) (sym (cross-2 h s)) ∙ aff h s M

    eb : M.n *ℤ D ≡ M.k *ℤ cross p h u +ℤ M.l *ℤ cross p h w
    eb = zero_first M.m M.n D ∙ ap (λ t. M.m *ℤ t +ℤ M.n *ℤ D) (sym (cross-1 p h)) ∙ aff p h M

    tot : (k l m n d au bu aw bw : ℤ) → k *ℤ au +ℤ l *ℤ aw ≡ m *ℤ d → k *ℤ bu +ℤ l *ℤ bw ≡ n *ℤ d → m +ℤ n ≡ k +ℤ l → k *ℤ (au +ℤ bu) +ℤ l *ℤ (aw +ℤ bw) ≼ (k +ℤ l) *ℤ d
    tot = order 9 (λ k l m n d au bu aw bw. (k ⊠ au ⊞ l ⊠ aw ≈ m ⊠ d) ∷ (k ⊠ bu ⊞ l ⊠ bw ≈ n ⊠ d) ∷ (m ⊞ n ≈ k ⊞ l) ∷ [] ⊢ k ⊠ (au ⊞ bu) ⊞ l ⊠ (aw ⊞ bw) ≲ (k ⊞ l) ⊠ d by times 0 (# (pos 1)) ⊕ times 1 (# (pos 1)) ⊕ times 2 d) tt

-- An edge that meets neither leg, with both ends outside the triangle, does not meet the new side.
pub ear_free : (p h s u w : Vertex) → pos 0 ≺ cross p h s → Outside p h s u → Outside p h s w → (Meet h p u w → ⊥) → (Meet h s u w → ⊥) → Meet p s u w → ⊥
ear_free p h s u w d ou ow np ns M = ⊎_elim np ns (reach p h s u w M.k M.l d (in_ps p h s d M) ou ow)

-- ---- a diagonal h z, z the corner in the triangle nearest to h

-- The first coordinate of the point where an edge meets the diagonal.
pub hz_a : (p h s z : Vertex) {u w : Vertex} (M : Meet h z u w) → M.n *ℤ cross h s z ≡ M.k *ℤ cross h s u +ℤ M.l *ℤ cross h s w
hz_a p h s z M = zero_first M.m M.n (cross h s z) ∙ ap (λ t. M.m *ℤ t +ℤ M.n *ℤ cross h s z) (sym (cross-1 h s)) ∙ aff h s M

-- The second coordinate of it.
pub hz_b : (p h s z : Vertex) {u w : Vertex} (M : Meet h z u w) → M.n *ℤ cross p h z ≡ M.k *ℤ cross p h u +ℤ M.l *ℤ cross p h w
hz_b p h s z M = zero_first M.m M.n (cross p h z) ∙ ap (λ t. M.m *ℤ t +ℤ M.n *ℤ cross p h z) (sym (cross-2 p h)) ∙ aff p h M

-- The meeting point with the diagonal lies in the triangle.
in_hz : (p h s z : Vertex) {u w : Vertex} → pos 0 ≺ cross p h s → pos 0 ≼ cross h s z → pos 0 ≼ cross p h z → depth p h s z ≼ cross p h s → (M : Meet h z u w) →
    Inside p h s u w M.k M.l
in_hz p h s z {u} {w} d az bz lz M = record {
  k0 = M.k0;
  l0 = M.l0;
  kl = subst (λ t. pos 0 ≺ t) M.sums M.some;
  a0 = subst (λ t. pos 0 ≼ t) (hz_a p h s z M) (nonneg_*ℤ M.n (cross h s z) M.n0 az);
  b0 = subst (λ t. pos 0 ≼ t) (hz_b p h s z M) (nonneg_*ℤ M.n (cross p h z) M.n0 bz);
  c0 = tot M.k M.l M.m M.n (cross p h s) (cross h s z) (cross p h z) (cross h s u) (cross p h u) (cross h s w) (cross p h w) (sym (hz_a p h s z M)) (sym (hz_b p h s z M)) M.sums M.m0 M.n0 d lz;
}
  where
    tot : (k l m n d az bz au bu aw bw : ℤ) → k *ℤ au +ℤ l *ℤ aw ≡ n *ℤ az → k *ℤ bu +ℤ l *ℤ bw ≡ n *ℤ bz → m +ℤ n ≡ k +ℤ l → pos 0 ≼ m → pos 0 ≼ n → pos 0 ≺ d → az +ℤ bz ≼ d → k *ℤ (au +ℤ bu) +ℤ l *ℤ (aw +ℤ bw) ≼ (k +ℤ l) *ℤ d
    tot = order 11 (λ k l m n d az bz au bu aw bw. (k ⊠ au ⊞ l ⊠ aw ≈ n ⊠ az) ∷ (k ⊠ bu ⊞ l ⊠ bw ≈ n ⊠ bz) ∷ (m ⊞ n ≈ k ⊞ l) ∷ (# (pos 0) ≲ m) ∷ (# (pos 0) ≲ n) ∷ (# (pos 0) ⋖ d) ∷ (az ⊞ bz ≲ d) ∷ []
        ⊢ k ⊠ (au ⊞ bu) ⊞ l ⊠ (aw ⊞ bw) ≲ (k ⊞ l) ⊠ d by times 0 (# (pos 1)) ⊕ times 1 (# (pos 1)) ⊕ times 2 d ⊕ hyp 3 ⊗ (hyp 5 ⊕ num 1) ⊕ hyp 4 ⊗ hyp 6) tt

-- An end of an edge: it lies beyond a leg and no deeper than the new side, or it is no nearer to h than z.
abbrev pub End : Vertex → Vertex → Vertex → Vertex → Vertex → Type 0
End p h s z u = (((cross h s u ≺ pos 0) ⊎ (cross p h u ≺ pos 0)) × (depth p h s u ≼ cross p h s)) ⊎ (depth p h s z ≼ depth p h s u)

-- With both ends no nearer than z, an edge meets the diagonal in z alone.
pub m-zero : (k l m n z az bz au bu aw bw : ℤ) → k *ℤ au +ℤ l *ℤ aw ≡ n *ℤ az → k *ℤ bu +ℤ l *ℤ bw ≡ n *ℤ bz → m +ℤ n ≡ k +ℤ l → pos 0 ≼ k → pos 0 ≼ l → pos 0 ≺ az +ℤ bz → az +ℤ bz ≼ au +ℤ bu → az +ℤ bz ≼ aw +ℤ bw → pos 0 ≺ m → ⊥
m-zero = order 11 (λ k l m n z az bz au bu aw bw. (k ⊠ au ⊞ l ⊠ aw ≈ n ⊠ az) ∷ (k ⊠ bu ⊞ l ⊠ bw ≈ n ⊠ bz) ∷ (m ⊞ n ≈ k ⊞ l) ∷ (# (pos 0) ≲ k) ∷ (# (pos 0) ≲ l) ∷ (# (pos 0) ⋖ az ⊞ bz) ∷ (az ⊞ bz ≲ au ⊞ bu) ∷ (az ⊞ bz ≲ aw ⊞ bw) ∷ (# (pos 0) ⋖ m) ∷ []
    ⊢ never by times 0 (# (pos 1)) ⊕ times 1 (# (pos 1)) ⊕ hyp 3 ⊗ hyp 6 ⊕ hyp 4 ⊗ hyp 7 ⊕ hyp 8 ⊗ hyp 5 ⊕ hyp 8 ⊕ hyp 5 ⊕ times 2 (az ⊞ bz)) tt

-- What meets the diagonal meets it in z alone.
pub diag_free : (p h s z u w : Vertex) → pos 0 ≺ cross p h s → pos 0 ≼ cross h s z → pos 0 ≼ cross p h z → pos 0 ≺ depth p h s z → depth p h s z ≼ cross p h s →
    End p h s z u → End p h s z w → (Meet h p u w → ⊥) → (Meet h s u w → ⊥) → (M : Meet h z u w) → M.m ≡ pos 0
diag_free p h s z u w d az bz pz lz eu ew np ns M = ⊎_elim
    (λ e. absurd (⊎_elim np ns (core p h s u w M.k M.l d i e.1 e.0)))
    (λ e. ⊎_elim (λ g. absurd (⊎_elim np ns (Leg-uw (core p h s w u M.l M.k d (Inside-uw i) g.1 g.0))))
    (λ g. ⊎_elim (λ t. ≤ℤ-antisym t M.m0)
    (λ t. absurd (m-zero M.k M.l M.m M.n (pos 0) (cross h s z) (cross p h z) (cross h s u) (cross p h u) (cross h s w) (cross p h w) (sym (hz_a p h s z M)) (sym (hz_b p h s z M)) M.sums M.k0 M.l0 pz e g t))
    (le_or_lt M.m (pos 0))) ew) eu
  where
    i : Inside p h s u w M.k M.l
    i = in_hz p h s z d az bz lz M

-- ---- an edge s t at the foot of a leg

-- An edge from the foot of a leg, over that leg, meets no diagonal: the numbers.
pub at_s : (m n k l d az bz at bt : ℤ) → pos 0 ≼ m → pos 0 ≼ n → pos 0 ≼ k → pos 0 ≼ l → pos 0 ≺ m +ℤ n → m +ℤ n ≡ k +ℤ l → pos 0 ≺ d → pos 0 ≺ az → at ≺ pos 0 → n *ℤ az ≡ l *ℤ at → n *ℤ bz ≡ k *ℤ d +ℤ l *ℤ bt → ⊥
at_s m n k l d az bz at bt m0 n0 k0 l0 mn s dp ap' an e f = kz m n k l d bz bt mn s dp k0 nz lz f
  where
    nz' : (n l az at : ℤ) → pos 0 ≼ n → pos 0 ≼ l → pos 0 ≺ az → at ≺ pos 0 → n *ℤ az ≡ l *ℤ at → n ≼ pos 0
    nz' = order 4 (λ n l az at. (# (pos 0) ≲ n) ∷ (# (pos 0) ≲ l) ∷ (# (pos 0) ⋖ az) ∷ (at ⋖ # (pos 0)) ∷ (n ⊠ az ≈ l ⊠ at) ∷ [] ⊢ n ≲ # (pos 0) by hyp 0 ⊗ hyp 2 ⊕ hyp 1 ⊗ (hyp 3 ⊕ num 1) ⊕ times 4 (# (pos 1))) tt

    lz' : (n l az at : ℤ) → pos 0 ≼ n → pos 0 ≼ l → pos 0 ≺ az → at ≺ pos 0 → n *ℤ az ≡ l *ℤ at → l ≼ pos 0
    lz' = order 4 (λ n l az at. (# (pos 0) ≲ n) ∷ (# (pos 0) ≲ l) ∷ (# (pos 0) ⋖ az) ∷ (at ⋖ # (pos 0)) ∷ (n ⊠ az ≈ l ⊠ at) ∷ [] ⊢ l ≲ # (pos 0) by hyp 1 ⊗ hyp 3 ⊕ hyp 0 ⊗ (hyp 2 ⊕ num 1) ⊕ times 4 (# (pos 1))) tt

    nz : n ≡ pos 0
    nz = ≤ℤ-antisym (nz' n l az at n0 l0 ap' an e) n0

    lz : l ≡ pos 0
    lz = ≤ℤ-antisym (lz' n l az at n0 l0 ap' an e) l0

    kz : (m n k l d bz bt : ℤ) → pos 0 ≺ m +ℤ n → m +ℤ n ≡ k +ℤ l → pos 0 ≺ d → pos 0 ≼ k → n ≡ pos 0 → l ≡ pos 0 → n *ℤ bz ≡ k *ℤ d +ℤ l *ℤ bt → ⊥
    kz = order 7 (λ m n k l d bz bt. (# (pos 0) ⋖ m ⊞ n) ∷ (m ⊞ n ≈ k ⊞ l) ∷ (# (pos 0) ⋖ d) ∷ (# (pos 0) ≲ k) ∷ (n ≈ # (pos 0)) ∷ (l ≈ # (pos 0)) ∷ (n ⊠ bz ≈ k ⊠ d ⊞ l ⊠ bt) ∷ []
        ⊢ never by hyp 0 ⊕ times 1 (# (pos 1)) ⊕ hyp 3 ⊗ hyp 2 ⊕ times 6 (# (negsuc 0)) ⊕ times 4 bz ⊕ times 5 (# (pos 1) ⊟ bt)) tt

-- The edge s t, with t beyond the leg h s, does not meet the diagonal.
pub diag_s : (p h s z t : Vertex) → pos 0 ≺ cross p h s → pos 0 ≺ cross h s z → cross h s t ≺ pos 0 → Meet h z s t → ⊥
diag_s p h s z t d az at M = at_s M.m M.n M.k M.l (cross p h s) (cross h s z) (cross p h z) (cross h s t) (cross p h t) M.m0 M.n0 M.k0 M.l0 M.some M.sums d az at
    (hz_a p h s z M ∙ ap (λ q. M.k *ℤ q +ℤ M.l *ℤ cross h s t) (cross-2 h s) ∙ sym (zero_first M.k M.l (cross h s t))) (hz_b p h s z M)

-- The edge p t, with t beyond the leg p h, does not meet the diagonal.
pub diag_p : (p h s z t : Vertex) → pos 0 ≺ cross p h s → pos 0 ≺ cross p h z → cross p h t ≺ pos 0 → Meet h z p t → ⊥
diag_p p h s z t d bz bt M = at_s M.m M.n M.k M.l (cross p h s) (cross p h z) (cross h s z) (cross p h t) (cross h s t) M.m0 M.n0 M.k0 M.l0 M.some M.sums d bz bt
    (hz_b p h s z M ∙ ap (λ q. M.k *ℤ q +ℤ M.l *ℤ cross p h t) (cross-1 p h) ∙ sym (zero_first M.k M.l (cross p h t)))
    (hz_a p h s z M ∙ ap (λ q. M.k *ℤ q +ℤ M.l *ℤ cross h s t) (sym (cross-rot p h s)))

-- An edge with both ends no nearer than z meets the diagonal in z alone.
pub diag_depth : (p h s z u w : Vertex) → pos 0 ≺ depth p h s z → depth p h s z ≼ depth p h s u → depth p h s z ≼ depth p h s w → (M : Meet h z u w) → M.m ≡ pos 0
diag_depth p h s z u w pz e g M = ⊎_elim (λ t. ≤ℤ-antisym t M.m0)
    (λ t. absurd (m-zero M.k M.l M.m M.n (pos 0) (cross h s z) (cross p h z) (cross h s u) (cross p h u) (cross h s w) (cross p h w) (sym (hz_a p h s z M)) (sym (hz_b p h s z M)) M.sums M.k0 M.l0 pz e g t))
    (le_or_lt M.m (pos 0))
