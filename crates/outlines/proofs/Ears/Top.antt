-- The top: the corner of largest x, and of largest y among those. The outline turns left there, and the top lies in no triangle of the other corners.
use mathlib.Core.List.{List, [], ◌∷◌, ◌++◌}
use mathlib.Core.Logic.{◌⊎◌, inl, inr, ⊎_elim}
use mathlib.Core.Path.{◌≡◌, refl, sym, ◌∙◌, ap, subst}
use lib.IntN.{ℤ, pos, negsuc, ◌+ℤ◌, ◌-ℤ◌, ◌*ℤ◌}
use lib.Signed.{≤ℤ_refl}
use Rattle.integers.proofs.Order.{≤ℤ-antisym, <ℤ-≤ℤ, <ℤ-trans, le_or_lt}
use Rattle.integers.proofs.Slack.{le_slack}
use Rattle.model.specs.Content.{Vertex}
use Rattle.model.specs.Geometry.{cross, along_edge}
use Rattle.outlines.specs.Outline.{last_of}
use Rattle.outlines.specs.Simple.{ShareOnly, IsSimple}
use Rattle.outlines.proofs.Tools.{dot, ◌≼◌, ◌≺◌, #, ◌⊞◌, ◌⊟◌, ◌⊠◌, ⊖◌, ◌≲◌, ◌⋖◌, ◌≈◌, never, hyp, sqr, num, ◌⊕◌, ◌⊗◌, ◌⊢◌by◌, order, lt_minus, le_minus, minus_lt, ring, times}
use Rattle.outlines.proofs.Winding.Cone.{cone, cross-from}
use Rattle.outlines.proofs.Winding.CornerRule.{winding}
use Rattle.outlines.proofs.Winding.Turning.{κ, Three}
use Rattle.outlines.proofs.Winding.LargestX.{NoneRight, winding_max}
use Rattle.outlines.proofs.Winding.Kappa.{left-top, cone_nonneg}
use Rattle.outlines.proofs.Kept.Legs.{coord_x, coord_y}
use Rattle.outlines.proofs.Kept.Reach.{Outside, depth}
use Rattle.outlines.proofs.Ears.Turned.{Mem, mem_last, Turned, round, not_mem}
use Rattle.outlines.proofs.Ears.Diagonal.{at_same}

-- a comes before h: its x is smaller, or the same with a smaller y.
abbrev pub Lex : Vertex → Vertex → Type 0
Lex a h = (a.x ≺ h.x) ⊎ ((a.x ≡ h.x) × (a.y ≺ h.y))

-- What comes before what comes before.
lex_trans : (a b c : Vertex) → Lex a b → Lex b c → Lex a c
lex_trans a b c (inl i) (inl j) = inl (<ℤ-trans i j)
lex_trans a b c (inl i) (inr j) = inl (subst (λ t. a.x ≺ t) j.0 i)
lex_trans a b c (inr i) (inl j) = inl (subst (λ t. t ≺ c.x) (sym i.0) j)
lex_trans a b c (inr i) (inr j) = inr (i.0 ∙ j.0, <ℤ-trans i.1 j.1)

-- Two corners are the same, or one comes before the other.
lex_or : (a h : Vertex) → ((a ≡ h) ⊎ Lex a h) ⊎ Lex h a
lex_or a h = ⊎_elim (λ i. ⊎_elim
    (λ j. let e : a.x ≡ h.x = ≤ℤ-antisym i j in
    ⊎_elim (λ k. ⊎_elim (λ l. inl (inl (at_same e (≤ℤ-antisym k l)))) (λ l. inl (inr (inr (e, l)))) (le_or_lt h.y a.y)) (λ k. inr (inr (sym e, k))) (le_or_lt a.y h.y))
    (λ j. inl (inr (inl j))) (le_or_lt h.x a.x))
    (λ i. inr (inl i)) (le_or_lt a.x h.x)

-- A corner after which no other comes.
pub record Most (P : List Vertex) : Type 0 where
  pub xs : List Vertex
  pub h : Vertex
  pub ys : List Vertex
  pub is : P ≡ xs ++ h ∷ ys
  pub most : (x : Vertex) → Mem x P → (x ≡ h) ⊎ Lex x h

-- There is one.
pub most-of : (a : Vertex) (zs : List Vertex) → Most (a ∷ zs)
most-of a [] = record { xs = []; h = a; ys = []; is = refl; most = λ x m. ⊎_elim (λ i. inl i) (λ i. absurd i) m }
most-of a (b ∷ zs) = step (most-of b zs)
  where
    step : Most (b ∷ zs) → Most (a ∷ b ∷ zs)
    step r = ⊎_elim (λ i. record {
      xs = a ∷ r.xs;
      h = r.h;
      ys = r.ys;
      is = ap (λ t. a ∷ t) r.is;
      most = λ x m. ⊎_elim (λ j. ⊎_elim (λ k. inl (j ∙ k)) (λ k. inr (subst (λ t. Lex t r.h) (sym j) k)) i) (λ j. r.most x j) m;
    })
        (λ i. record {
          xs = [];
          h = a;
          ys = b ∷ zs;
          is = refl;
          most = λ x m. ⊎_elim (λ j. inl j) (λ j. inr (⊎_elim (λ k. subst (λ t. Lex t a) (sym k) i) (λ k. lex_trans x r.h a k i) (r.most x j))) m;
        })
        (lex_or a r.h)

-- The x of what comes before is not larger.
pub lex_x : (a h : Vertex) → Lex a h → a.x ≼ h.x
lex_x a h (inl i) = <ℤ-≤ℤ i
lex_x a h (inr i) = subst (λ t. a.x ≼ t) i.0 (≤ℤ_refl a.x)

-- ---- left, and not straight

-- Two corners that come before h do not lie in one line with it on opposite sides: the three cases.
s1 : (X Y U K : ℤ) → X ≺ pos 0 → U ≼ pos 0 → Y *ℤ U -ℤ X *ℤ K ≡ pos 0 → X *ℤ U +ℤ Y *ℤ K ≺ pos 0 → ⊥
s1 = order 4 (λ X Y U K. (X ⋖ # (pos 0)) ∷ (U ≲ # (pos 0)) ∷ (Y ⊠ U ⊟ X ⊠ K ≈ # (pos 0)) ∷ (X ⊠ U ⊞ Y ⊠ K ⋖ # (pos 0)) ∷ []
    ⊢ never by hyp 0 ⊗ hyp 3 ⊕ hyp 0 ⊕ hyp 3 ⊕ hyp 1 ⊗ (sqr X ⊕ sqr Y) ⊕ times 2 (⊖ Y)) tt

s2 : (X Y U K : ℤ) → X ≡ pos 0 → Y ≺ pos 0 → U ≺ pos 0 → Y *ℤ U -ℤ X *ℤ K ≡ pos 0 → ⊥
s2 = order 4 (λ X Y U K. (X ≈ # (pos 0)) ∷ (Y ⋖ # (pos 0)) ∷ (U ⋖ # (pos 0)) ∷ (Y ⊠ U ⊟ X ⊠ K ≈ # (pos 0)) ∷ []
    ⊢ never by hyp 1 ⊗ hyp 2 ⊕ hyp 1 ⊕ hyp 2 ⊕ times 3 (# (pos 1)) ⊕ times 0 K) tt

s3 : (X Y U K : ℤ) → X ≡ pos 0 → Y ≺ pos 0 → U ≡ pos 0 → K ≺ pos 0 → X *ℤ U +ℤ Y *ℤ K ≺ pos 0 → ⊥
s3 = order 4 (λ X Y U K. (X ≈ # (pos 0)) ∷ (Y ⋖ # (pos 0)) ∷ (U ≈ # (pos 0)) ∷ (K ⋖ # (pos 0)) ∷ (X ⊠ U ⊞ Y ⊠ K ⋖ # (pos 0)) ∷ []
    ⊢ never by hyp 1 ⊗ hyp 3 ⊕ hyp 1 ⊕ hyp 3 ⊕ hyp 4 ⊕ num 1 ⊕ times 0 (⊖ U)) tt

-- Equal numbers differ by 0.
eq0 : (a h : ℤ) → a ≡ h → a -ℤ h ≡ pos 0
eq0 = order 2 (λ a h. (a ≈ h) ∷ [] ⊢ a ⊟ h ≈ # (pos 0) by times 0 (# (pos 1))) tt

-- So at h they do not go straight on.
straight : (p h s : Vertex) → Lex p h → Lex s h → cross p h s ≡ pos 0 → dot p h s ≺ pos 0 → ⊥
straight p h s (inl i) j e d = s1 (p.x -ℤ h.x) (p.y -ℤ h.y) (s.x -ℤ h.x) (s.y -ℤ h.y) (lt_minus p.x h.x i) (le_minus s.x h.x (lex_x s h j)) (sym (cross-from p h s) ∙ e) d
straight p h s (inr i) (inl j) e d = s2 (p.x -ℤ h.x) (p.y -ℤ h.y) (s.x -ℤ h.x) (s.y -ℤ h.y) (eq0 p.x h.x i.0) (lt_minus p.y h.y i.1) (lt_minus s.x h.x j) (sym (cross-from p h s) ∙ e)
straight p h s (inr i) (inr j) e d = s3 (p.x -ℤ h.x) (p.y -ℤ h.y) (s.x -ℤ h.x) (s.y -ℤ h.y) (eq0 p.x h.x i.0) (lt_minus p.y h.y i.1) (eq0 s.x h.x j.0) (lt_minus s.y h.y j.1) d

-- Between two corners that come before h, a turn at h that is not to the right is to the left.
pub left-of : (p h s : Vertex) → Lex p h → Lex s h → ShareOnly p h s → pos 0 ≼ cross p h s → pos 0 ≺ cross p h s
unfolding along_edge
left-of p h s i j a c = ⊎_elim (λ k. let e : cross p h s ≡ pos 0 = ≤ℤ-antisym k c in absurd (straight p h s i j e (a.apart e))) (λ k. k) (le_or_lt (cross p h s) (pos 0))

-- ---- in no triangle
wx : (a b c X Y Z : ℤ) → pos 0 ≼ a → pos 0 ≼ b → pos 0 ≼ c → pos 0 ≼ X → pos 0 ≼ Y → pos 0 ≼ Z → a *ℤ X +ℤ b *ℤ Y +ℤ c *ℤ Z ≡ pos 0 → pos 0 ≺ X → a ≼ pos 0
wx = order 6 (λ a b c X Y Z. (# (pos 0) ≲ a) ∷ (# (pos 0) ≲ b) ∷ (# (pos 0) ≲ c) ∷ (# (pos 0) ≲ X) ∷ (# (pos 0) ≲ Y) ∷ (# (pos 0) ≲ Z) ∷ (a ⊠ X ⊞ b ⊠ Y ⊞ c ⊠ Z ≈ # (pos 0)) ∷ (# (pos 0) ⋖ X) ∷ []
    ⊢ a ≲ # (pos 0) by hyp 0 ⊗ hyp 7 ⊕ hyp 1 ⊗ hyp 4 ⊕ hyp 2 ⊗ hyp 5 ⊕ times 6 (# (pos 1))) tt

-- To come before, by the differences.
abbrev LexBy : ℤ → ℤ → Type 0
LexBy X Y = (pos 0 ≺ X) ⊎ ((X ≡ pos 0) × (pos 0 ≺ Y))

-- A weight is at most the weight times the height, or 0.
wle : (a X Y : ℤ) → pos 0 ≼ a → LexBy X Y → (pos 0 ≺ X → a ≼ pos 0) → a ≼ a *ℤ Y
wle a X Y n (inl i) f = z (≤ℤ-antisym (f i) n)
  where
    z : a ≡ pos 0 → a ≼ a *ℤ Y
    z e = order 2 (λ a Y. (a ≈ # (pos 0)) ∷ [] ⊢ a ≲ a ⊠ Y by times 0 (# (pos 1) ⊟ Y)) tt a Y e
wle a X Y n (inr i) f = order 2 (λ a Y. (# (pos 0) ≲ a) ∷ (# (pos 0) ⋖ Y) ∷ [] ⊢ a ≲ a ⊠ Y by hyp 0 ⊗ hyp 1) tt a Y n i.1

-- To come before, by the differences.
lex_by : (a h : Vertex) → Lex a h → LexBy (h.x -ℤ a.x) (h.y -ℤ a.y)
lex_by a h (inl i) = inl (minus_lt a.x h.x i)
lex_by a h (inr i) = inr (eq0 h.x a.x (sym i.0), minus_lt a.y h.y i.1)

-- A point of a triangle is the mean of its corners.
mean : (d a b h p c s : ℤ) → d *ℤ (h -ℤ c) ≡ a *ℤ (p -ℤ c) +ℤ b *ℤ (s -ℤ c) → a *ℤ (h -ℤ p) +ℤ b *ℤ (h -ℤ s) +ℤ (d -ℤ (a +ℤ b)) *ℤ (h -ℤ c) ≡ pos 0
mean = order 7 (λ d a b h p c s. (d ⊠ (h ⊟ c) ≈ a ⊠ (p ⊟ c) ⊞ b ⊠ (s ⊟ c)) ∷ [] ⊢ a ⊠ (h ⊟ p) ⊞ b ⊠ (h ⊟ s) ⊞ (d ⊟ (a ⊞ b)) ⊠ (h ⊟ c) ≈ # (pos 0) by times 0 (# (pos 1))) tt

-- The weights cannot all be 0.
ends : (a b d c p q r : ℤ) → pos 0 ≺ d → a ≼ a *ℤ p → b ≼ b *ℤ q → d -ℤ (a +ℤ b) ≼ (d -ℤ (a +ℤ b)) *ℤ r → a *ℤ p +ℤ b *ℤ q +ℤ (d -ℤ (a +ℤ b)) *ℤ r ≡ pos 0 → ⊥
ends = order 7 (λ a b d c p q r. (# (pos 0) ⋖ d) ∷ (a ≲ a ⊠ p) ∷ (b ≲ b ⊠ q) ∷ (d ⊟ (a ⊞ b) ≲ (d ⊟ (a ⊞ b)) ⊠ r) ∷ (a ⊠ p ⊞ b ⊠ q ⊞ (d ⊟ (a ⊞ b)) ⊠ r ≈ # (pos 0)) ∷ [] ⊢ never by hyp 0 ⊕ hyp 1 ⊕ hyp 2 ⊕ hyp 3 ⊕ times 4 (# (pos 1))) tt

-- The top is in no triangle of corners that come before it.
pub high_out : (p c s h : Vertex) → Lex p h → Lex c h → Lex s h → pos 0 ≺ cross p c s → Outside p c s h
high_out p c s h ip ic is d = ⊎_elim (λ i. ⊎_elim (λ j. ⊎_elim (λ k. absurd (bad i j (le_slack k))) (λ k. inr k) (le_or_lt (depth p c s h) (cross p c s))) (λ j. inl (inr j)) (le_or_lt (pos 0) B)) (λ i. inl (inl i)) (le_or_lt (pos 0) A)
  where
    A : ℤ
    A = cross c s h

    B : ℤ
    B = cross p c h

    D : ℤ
    D = cross p c s

    C : ℤ
    C = D -ℤ (A +ℤ B)

    bad : pos 0 ≼ A → pos 0 ≼ B → pos 0 ≼ C → ⊥
    bad i j k = ends A B D (pos 0) (h.y -ℤ p.y) (h.y -ℤ s.y) (h.y -ℤ c.y) d
        (wle A (h.x -ℤ p.x) (h.y -ℤ p.y) i (lex_by p h ip) (λ q. wx A B C X Y Z i j k x0 y0 z0 mx q))
        (wle B (h.x -ℤ s.x) (h.y -ℤ s.y) j (lex_by s h is) (λ q. wx B C A Y Z X j k i y0 z0 x0 (ro (A *ℤ X) (B *ℤ Y) (C *ℤ Z) ∙ mx) q))
        (wle C (h.x -ℤ c.x) (h.y -ℤ c.y) k (lex_by c h ic) (λ q. wx C A B Z X Y k i j z0 x0 y0 (sym (ro (C *ℤ Z) (A *ℤ X) (B *ℤ Y)) ∙ mx) q))
        (mean D A B h.y p.y c.y s.y (coord_y p c s h))
      where
        X : ℤ
        X = h.x -ℤ p.x

        Y : ℤ
        Y = h.x -ℤ s.x

        Z : ℤ
        Z = h.x -ℤ c.x

        x0 : pos 0 ≼ X
        x0 = le_slack (lex_x p h ip)

        y0 : pos 0 ≼ Y
        y0 = le_slack (lex_x s h is)

        z0 : pos 0 ≼ Z
        z0 = le_slack (lex_x c h ic)

        mx : A *ℤ X +ℤ B *ℤ Y +ℤ C *ℤ Z ≡ pos 0
        mx = mean D A B h.x p.x c.x s.x (coord_x p c s h)

        ro : (a b c : ℤ) → b +ℤ c +ℤ a ≡ a +ℤ b +ℤ c
        ro = ring 3 (λ a b c. b ⊞ c ⊞ a ≈ a ⊞ b ⊞ c) tt

-- ---- the outline turned so that it comes first

-- The outline turned so that its top comes first.
pub record Top (P : List Vertex) : Type 0 where
  pub h : Vertex
  pub s : Vertex
  pub m : Vertex
  pub M : List Vertex
  pub turned : Turned P (h ∷ s ∷ m ∷ M)
  pub high : (x : Vertex) → Mem x (s ∷ m ∷ M) → Lex x h
  pub left : cone (last_of m M) h s ≡ pos 0 → pos 0 ≺ cross (last_of m M) h s
  pub no_winding : winding (h ∷ s ∷ m ∷ M) h ≡ pos 0

-- What comes before lies no further right.
all-x : (h : Vertex) (R : List Vertex) → ((x : Vertex) → Mem x R → Lex x h) → NoneRight h R
all-x h [] f = tt
all-x h (r ∷ R) f = (lex_x r h (f r (inl refl)), all-x h R (λ x m. f x (inr m)))

-- The outline turned to h, if no corner comes after h.
top_at : (P : List Vertex) (h : Vertex) (R : List Vertex) → Three P → IsSimple P → Turned P (h ∷ R) → ((x : Vertex) → Mem x P → (x ≡ h) ⊎ Lex x h) → Top P
top_at P h [] t g r f = absurd (r.three t)
top_at P h (s ∷ []) t g r f = absurd (r.three t)
top_at P h (s ∷ m ∷ M) t g r f = record {
  h = h;
  s = s;
  m = m;
  M = M;
  turned = r;
  high = high;
  left = λ e. left-of (last_of m M) h s (high (last_of m M) lm) (high s (inl refl)) (q.adj (last_of m M) h s (inr (refl, refl)) (inl (inl (refl, refl)))) (left-top (last_of m M) h s (lex_x (last_of m M) h (high (last_of m M) lm)) (lex_x s h (high s (inl refl))) e);
  no_winding = winding_max h (h ∷ s ∷ m ∷ M) (≤ℤ_refl h.x, all-x h (s ∷ m ∷ M) high);
}
  where
    q : IsSimple (h ∷ s ∷ m ∷ M)
    q = r.sim t g

    high : (x : Vertex) → Mem x (s ∷ m ∷ M) → Lex x h
    high x i = ⊎_elim (λ j. absurd (not_mem h (s ∷ m ∷ M) x q.dist.0 i (sym j))) (λ j. j) (f x (r.mem' x (inr i)))

    lm : Mem (last_of m M) (s ∷ m ∷ M)
    lm = inr (mem_last m M)

-- Every simple outline has a top.
pub top : (P : List Vertex) → Three P → IsSimple P → Top P
top [] t g = absurd t
top (a ∷ zs) t g = at (most-of a zs)
  where
    at : Most (a ∷ zs) → Top (a ∷ zs)
    at r = top_at (a ∷ zs) r.h (r.ys ++ r.xs) t g (subst (λ q. Turned q (r.h ∷ (r.ys ++ r.xs))) (sym r.is) (round r.xs (r.h ∷ r.ys))) r.most

-- An outline of κ = 0 turns left at its top.
pub top_left : (P : List Vertex) → Three P → IsSimple P → κ P ≡ pos 0 → (r : Top P) → pos 0 ≺ cross (last_of r.m r.M) r.h r.s
top_left P t g k r = r.left (zero (winding (r.h ∷ r.s ∷ r.m ∷ r.M) r.h) (cone (last_of r.m r.M) r.h r.s) r.no_winding (r.turned.kap t g ∙ k))
  where
    zero : (a b : ℤ) → a ≡ pos 0 → a -ℤ b ≡ pos 0 → b ≡ pos 0
    zero = order 2 (λ a b. (a ≈ # (pos 0)) ∷ (a ⊟ b ≈ # (pos 0)) ∷ [] ⊢ b ≈ # (pos 0) by times 0 (# (pos 1)) ⊕ times 1 (# (negsuc 0))) tt

-- κ is not positive: at the top there are no crossings, and the cone is not negative.
pub κ_le : (P : List Vertex) → Three P → IsSimple P → κ P ≼ pos 0
κ_le P t g = at (top P t g)
  where
    at : Top P → κ P ≼ pos 0
    at r = subst (λ q. q ≼ pos 0) (r.turned.kap t g) (le (winding (r.h ∷ r.s ∷ r.m ∷ r.M) r.h) (cone (last_of r.m r.M) r.h r.s) r.no_winding (cone_nonneg (last_of r.m r.M) r.h r.s))
      where
        le : (a b : ℤ) → a ≡ pos 0 → pos 0 ≼ b → a -ℤ b ≼ pos 0
        le = order 2 (λ a b. (a ≈ # (pos 0)) ∷ (# (pos 0) ≲ b) ∷ [] ⊢ a ⊟ b ≲ # (pos 0) by hyp 1 ⊕ times 0 (# (pos 1))) tt
