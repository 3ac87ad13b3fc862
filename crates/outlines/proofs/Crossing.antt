-- The crossing of an edge with the ray from a point towards larger x, and the crossings of a triangle: one from inside, none from outside or from three points in line. Also the laws of the cross.
use mathlib.Core.Bool.{Bool, true, false, not}
use mathlib.Core.List.{[], ◌∷◌}
use mathlib.Core.Logic.{◌⊎◌, inl, inr, ⊎_elim}
use mathlib.Core.Path.{◌≡◌, refl, sym, ◌∙◌, ap, subst}
use Prim.Native.Nat.{ℕ, zero, suc}
use native.Mathlib.Omega.{arith}
use lib.Dec.{T, lt→ltb}
use lib.IntN.{ℤ, pos, negsuc, neg_ℤ, ◌+ℤ◌, ◌-ℤ◌, ◌*ℤ◌, +ℤ_idl, +ℤ_idr, +ℤ_comm}
use lib.Signed.{lt_z, le_z_yes, lt_z_yes, lt_z_no}
use Rattle.integers.proofs.Order.{≤ℤ-antisym, <ℤ-≤ℤ}
use Rattle.integers.proofs.Slack.{nonneg_pos}
use Rattle.model.specs.Content.{Vertex}
use Rattle.model.specs.Geometry.{cross}
use Rattle.outlines.proofs.Tools.{◌≼◌, ◌≺◌, Expr, #, ◌⊞◌, ◌⊟◌, ◌⊠◌, ⊖◌, ◌≲◌, ◌⋖◌, ◌≈◌, never, hyp, num, ◌⊕◌, ◌⊗◌, ◌⊢◌by◌, order, minus_lt, ring, times, le_minus}

-- The cross as an expression of the solver.
abbrev pub cross_e : Expr → Expr → Expr → Expr → Expr → Expr → Expr
cross_e px py qx qy rx ry = (qx ⊟ px) ⊠ (ry ⊟ py) ⊟ (qy ⊟ py) ⊠ (rx ⊟ px)

-- 1 if t is positive, else 0.
abbrev pub one_positive : ℤ → ℤ
one_positive (pos zero) = pos 0
one_positive (pos (suc n)) = pos 1
one_positive (negsuc n) = pos 0

-- -1 if t is negative, else 0.
abbrev pub minus_negative : ℤ → ℤ
minus_negative (pos n) = pos 0
minus_negative (negsuc n) = negsuc 0

-- The crossing, from which of the two ends lie above and from the cross.
abbrev pub edge_crossing : Bool → Bool → ℤ → ℤ
edge_crossing false false t = pos 0
edge_crossing false true t = one_positive t
edge_crossing true false t = minus_negative t
edge_crossing true true t = pos 0

-- a lies above x.
abbrev pub above : Vertex → Vertex → Bool
above x a = lt_z x.y a.y

-- The crossing of the edge a b with the ray from x towards larger x, as `crossing` of specs/Outline counts it: the lower end counts, the upper not.
unfoldable pub crossed : Vertex → Vertex → Vertex → ℤ
crossed a b x = edge_crossing (above x a) (above x b) (cross a b x)

-- The signs of a negated number.
one_positive-neg : (t : ℤ) → one_positive (neg_ℤ t) ≡ neg_ℤ (minus_negative t)
one_positive-neg (pos zero) = refl
one_positive-neg (pos (suc n)) = refl
one_positive-neg (negsuc n) = refl

minus_negative-neg : (t : ℤ) → minus_negative (neg_ℤ t) ≡ neg_ℤ (one_positive t)
minus_negative-neg (pos zero) = refl
minus_negative-neg (pos (suc n)) = refl
minus_negative-neg (negsuc n) = refl

-- The other way along an edge, the crossing changes its sign.
pub edge_crossing-anti : (u w : Bool) (t : ℤ) → edge_crossing w u (neg_ℤ t) ≡ neg_ℤ (edge_crossing u w t)
edge_crossing-anti false false t = refl
edge_crossing-anti false true t = minus_negative-neg t
edge_crossing-anti true false t = one_positive-neg t
edge_crossing-anti true true t = refl

-- So does the cross.
pub cross-anti : (a b x : Vertex) → cross b a x ≡ neg_ℤ (cross a b x)
unfolding cross
cross-anti a b x = ring 6 (λ ax ay cx cy xx xy. cross_e cx cy ax ay xx xy ≈ ⊖ cross_e ax ay cx cy xx xy) tt a.x a.y b.x b.y x.x x.y

-- The cross of three points is the same from each of them on.
pub cross-rot : (p c s : Vertex) → cross p c s ≡ cross c s p
unfolding cross
cross-rot p c s = ring 6 (λ px py cx cy sx sy. cross_e px py cx cy sx sy ≈ cross_e cx cy sx sy px py) tt p.x p.y c.x c.y s.x s.y

-- The cross is 0 where the third point is the second.
pub cross-2 : (a b : Vertex) → cross a b b ≡ pos 0
unfolding cross
cross-2 a b = ring 4 (λ ax ay cx cy. cross_e ax ay cx cy cx cy ≈ # (pos 0)) tt a.x a.y b.x b.y

-- The cross is 0 where the third point is the first.
pub cross-1 : (a b : Vertex) → cross a b a ≡ pos 0
unfolding cross
cross-1 a b = ring 4 (λ ax ay cx cy. cross_e ax ay cx cy ax ay ≈ # (pos 0)) tt a.x a.y b.x b.y

-- The other way along an edge, the crossing changes its sign.
pub crossed-anti : (a b x : Vertex) → crossed b a x ≡ neg_ℤ (crossed a b x)
unfolding crossed
crossed-anti a b x = ap (λ t. edge_crossing (above x b) (above x a) t) (cross-anti a b x) ∙ edge_crossing-anti (above x a) (above x b) (cross a b x)

-- What the outcome of a test `<` says of the difference k: it is positive or not.
abbrev pub Positive : Bool → ℤ → Type 0
Positive true k = pos 0 ≺ k
Positive false k = k ≼ pos 0

-- The test `a < b` says so of b - a.
pub positive_is : (a b : ℤ) → Positive (lt_z a b) (b -ℤ a)
positive_is a b = go (lt_z a b) (λ t. lt_z_yes t) (λ t. lt_z_no t)
  where
    go : (t : Bool) → (T t → a ≺ b) → (T (not t) → b ≼ a) → Positive t (b -ℤ a)
    go true f g = minus_lt a b (f tt)
    go false f g = le_minus b a (g tt)

-- ---- triangles

-- The crossings of the three sides of a triangle: u, w, t tell which corners lie above, P, Q, R are the crosses.
abbrev pub around_by : Bool → Bool → Bool → ℤ → ℤ → ℤ → ℤ
around_by u w t P Q R = edge_crossing u w P +ℤ edge_crossing w t Q +ℤ edge_crossing t u R

-- The signs that three crosses cannot have, where p lies below the point and c and s above, or p above and c and s below. First: not all outside.
nn_bel : (P Q R β ε δ : ℤ) → P ≼ pos 0 → R ≺ pos 0 → pos 0 ≺ β → pos 0 ≺ δ → ε ≼ pos 0 → pos 0 ≺ P +ℤ Q +ℤ R → P *ℤ β +ℤ Q *ℤ ε +ℤ R *ℤ δ ≡ pos 0 → ⊥
nn_bel = order 6 (λ P Q R β ε δ. (P ≲ # (pos 0)) ∷ (R ⋖ # (pos 0)) ∷ (# (pos 0) ⋖ β) ∷ (# (pos 0) ⋖ δ) ∷ (ε ≲ # (pos 0)) ∷ (# (pos 0) ⋖ P ⊞ Q ⊞ R) ∷ (P ⊠ β ⊞ Q ⊠ ε ⊞ R ⊠ δ ≈ # (pos 0)) ∷ [] ⊢ never
    by hyp 0 ⊗ hyp 2 ⊕ hyp 0 ⊕ hyp 1 ⊗ hyp 3 ⊕ hyp 1 ⊕ hyp 3 ⊕ (hyp 5 ⊕ hyp 0 ⊕ hyp 1 ⊕ num 2) ⊗ hyp 4 ⊕ times 6 (# (negsuc 0))) tt

nn_abo : (P Q R β ε δ : ℤ) → P ≺ pos 0 → R ≼ pos 0 → β ≼ pos 0 → δ ≼ pos 0 → pos 0 ≺ ε → pos 0 ≺ P +ℤ Q +ℤ R → P *ℤ β +ℤ Q *ℤ ε +ℤ R *ℤ δ ≡ pos 0 → ⊥
nn_abo = order 6 (λ P Q R β ε δ. (P ⋖ # (pos 0)) ∷ (R ≲ # (pos 0)) ∷ (β ≲ # (pos 0)) ∷ (δ ≲ # (pos 0)) ∷ (# (pos 0) ⋖ ε) ∷ (# (pos 0) ⋖ P ⊞ Q ⊞ R) ∷ (P ⊠ β ⊞ Q ⊠ ε ⊞ R ⊠ δ ≈ # (pos 0)) ∷ [] ⊢ never
    by (hyp 0 ⊕ num 1) ⊗ hyp 2 ⊕ hyp 1 ⊗ hyp 3 ⊕ (hyp 5 ⊕ hyp 0 ⊕ hyp 1 ⊕ num 2) ⊗ hyp 4 ⊕ hyp 5 ⊕ hyp 0 ⊕ hyp 1 ⊕ num 1 ⊕ times 6 (# (pos 1))) tt

-- Second: inside by two sides, outside by the third.
in_bel : (P Q R β ε δ : ℤ) → pos 0 ≺ P → pos 0 ≼ R → Q ≼ pos 0 → pos 0 ≺ β → pos 0 ≺ δ → ε ≼ pos 0 → P *ℤ β +ℤ Q *ℤ ε +ℤ R *ℤ δ ≡ pos 0 → ⊥
in_bel = order 6 (λ P Q R β ε δ. (# (pos 0) ⋖ P) ∷ (# (pos 0) ≲ R) ∷ (Q ≲ # (pos 0)) ∷ (# (pos 0) ⋖ β) ∷ (# (pos 0) ⋖ δ) ∷ (ε ≲ # (pos 0)) ∷ (P ⊠ β ⊞ Q ⊠ ε ⊞ R ⊠ δ ≈ # (pos 0)) ∷ [] ⊢ never
    by hyp 0 ⊗ hyp 3 ⊕ hyp 0 ⊕ hyp 3 ⊕ hyp 1 ⊗ (hyp 4 ⊕ num 1) ⊕ hyp 2 ⊗ hyp 5 ⊕ times 6 (# (pos 1))) tt

in_abo : (P Q R β ε δ : ℤ) → pos 0 ≼ P → pos 0 ≼ R → Q ≺ pos 0 → β ≼ pos 0 → δ ≼ pos 0 → pos 0 ≺ ε → P *ℤ β +ℤ Q *ℤ ε +ℤ R *ℤ δ ≡ pos 0 → ⊥
in_abo = order 6 (λ P Q R β ε δ. (# (pos 0) ≲ P) ∷ (# (pos 0) ≲ R) ∷ (Q ⋖ # (pos 0)) ∷ (β ≲ # (pos 0)) ∷ (δ ≲ # (pos 0)) ∷ (# (pos 0) ⋖ ε) ∷ (P ⊠ β ⊞ Q ⊠ ε ⊞ R ⊠ δ ≈ # (pos 0)) ∷ [] ⊢ never
    by hyp 0 ⊗ hyp 3 ⊕ hyp 1 ⊗ hyp 4 ⊕ hyp 2 ⊗ hyp 5 ⊕ hyp 2 ⊕ hyp 5 ⊕ times 6 (# (negsuc 0))) tt

-- A point inside does not lie below all corners.
all-abo : (P Q R β ε δ : ℤ) → pos 0 ≺ P → pos 0 ≺ Q → pos 0 ≺ R → pos 0 ≺ β → pos 0 ≺ δ → pos 0 ≺ ε → P *ℤ β +ℤ Q *ℤ ε +ℤ R *ℤ δ ≡ pos 0 → ⊥
all-abo = order 6 (λ P Q R β ε δ. (# (pos 0) ⋖ P) ∷ (# (pos 0) ⋖ Q) ∷ (# (pos 0) ⋖ R) ∷ (# (pos 0) ⋖ β) ∷ (# (pos 0) ⋖ δ) ∷ (# (pos 0) ⋖ ε) ∷ (P ⊠ β ⊞ Q ⊠ ε ⊞ R ⊠ δ ≈ # (pos 0)) ∷ [] ⊢ never
    by (hyp 0 ⊕ num 1) ⊗ (hyp 3 ⊕ num 1) ⊕ (hyp 1 ⊕ num 1) ⊗ (hyp 5 ⊕ num 1) ⊕ hyp 2 ⊗ hyp 4 ⊕ hyp 2 ⊕ hyp 4 ⊕ times 6 (# (pos 1))) tt

-- What holds of a point and a triangle: P, Q, R are its crosses with the sides pc, cs, sp, and β, ε, δ tell how far s, p, c lie above it. The crosses sum to the area and are the weights of the point.
pub record Tri (P Q R β ε δ : ℤ) : Type 0 where
  pub area : pos 0 ≺ P +ℤ Q +ℤ R
  pub level : P *ℤ β +ℤ Q *ℤ ε +ℤ R *ℤ δ ≡ pos 0

-- A successor is positive.
pub suc_positive : {n : ℕ} → pos 0 ≺ pos (suc n)
suc_positive {n} = lt_z_yes (lt→ltb 0 (suc n) (omega arith))

-- A negative numeral is not positive.
pub negsuc_nonpos : {n : ℕ} → negsuc n ≼ pos 0
negsuc_nonpos = le_z_yes tt

-- A negative numeral is negative.
pub negsuc_negative : {n : ℕ} → negsuc n ≺ pos 0
negsuc_negative = lt_z_yes tt

-- t is not 0.
abbrev pub NotZero : ℤ → Type 0
NotZero t = t ≡ pos 0 → ⊥

-- 1 if all three are positive, else 0.
abbrev pub inside_by : ℤ → ℤ → ℤ → ℤ
inside_by P Q R = one_positive P *ℤ one_positive Q *ℤ one_positive R

-- Products with 0.
first-factor_0 : (q r : ℤ) → pos 0 *ℤ q *ℤ r ≡ pos 0
first-factor_0 = ring 2 (λ q r. # (pos 0) ⊠ q ⊠ r ≈ # (pos 0)) tt

last_factor_0 : (q r : ℤ) → q *ℤ r *ℤ pos 0 ≡ pos 0
last_factor_0 = ring 2 (λ q r. q ⊠ r ⊠ # (pos 0) ≈ # (pos 0)) tt

-- Where p lies below the point and c and s above, the two crossings are 1 inside and 0 outside.
bel : (P Q R β ε δ : ℤ) → NotZero P → NotZero Q → NotZero R → pos 0 ≺ β → pos 0 ≺ δ → ε ≼ pos 0 → Tri P Q R β ε δ → one_positive P +ℤ minus_negative R ≡ inside_by P Q R
bel (pos zero) Q R β ε δ a b c k l m h = absurd (a refl)
bel (pos (suc n)) (pos zero) R β ε δ a b c k l m h = absurd (b refl)
bel (pos (suc n)) (pos (suc q)) (pos zero) β ε δ a b c k l m h = absurd (c refl)
bel (pos (suc n)) (pos (suc q)) (pos (suc r)) β ε δ a b c k l m h = refl
bel (pos (suc n)) (pos (suc q)) (negsuc r) β ε δ a b c k l m h = refl
bel (pos (suc n)) (negsuc q) (pos zero) β ε δ a b c k l m h = absurd (c refl)
bel (pos (suc n)) (negsuc q) (pos (suc r)) β ε δ a b c k l m h = absurd (in_bel (pos (suc n)) (negsuc q) (pos (suc r)) β ε δ suc_positive (nonneg_pos _) negsuc_nonpos k l m h.level)
bel (pos (suc n)) (negsuc q) (negsuc r) β ε δ a b c k l m h = refl
bel (negsuc n) Q (pos zero) β ε δ a b c k l m h = absurd (c refl)
bel (negsuc n) Q (pos (suc r)) β ε δ a b c k l m h = sym (first-factor_0 (one_positive Q) (pos 1))
bel (negsuc n) Q (negsuc r) β ε δ a b c k l m h = absurd (nn_bel (negsuc n) Q (negsuc r) β ε δ negsuc_nonpos negsuc_negative k l m h.area h.level)

-- Where p lies above the point and c and s below: the same.
abo : (P Q R β ε δ : ℤ) → NotZero P → NotZero Q → NotZero R → β ≼ pos 0 → δ ≼ pos 0 → pos 0 ≺ ε → Tri P Q R β ε δ → minus_negative P +ℤ one_positive R ≡ inside_by P Q R
abo P Q (pos zero) β ε δ a b c k l m h = absurd (c refl)
abo (pos zero) Q (pos (suc r)) β ε δ a b c k l m h = absurd (a refl)
abo (pos (suc n)) (pos zero) (pos (suc r)) β ε δ a b c k l m h = absurd (b refl)
abo (pos (suc n)) (pos (suc q)) (pos (suc r)) β ε δ a b c k l m h = refl
abo (pos (suc n)) (negsuc q) (pos (suc r)) β ε δ a b c k l m h = absurd (in_abo (pos (suc n)) (negsuc q) (pos (suc r)) β ε δ (nonneg_pos _) (nonneg_pos _) negsuc_negative k l m h.level)
abo (negsuc n) Q (pos (suc r)) β ε δ a b c k l m h = sym (first-factor_0 (one_positive Q) (pos 1))
abo (pos n) Q (negsuc r) β ε δ a b c k l m h = sym (last_factor_0 (one_positive (pos n)) (one_positive Q))
abo (negsuc n) Q (negsuc r) β ε δ a b c k l m h = absurd (nn_abo (negsuc n) Q (negsuc r) β ε δ negsuc_negative negsuc_nonpos k l m h.area h.level)

-- Where all corners lie on one side of the height of the point, it is not inside.
same : (P Q R : ℤ) → (pos 0 ≺ P → pos 0 ≺ Q → pos 0 ≺ R → ⊥) → pos 0 ≡ inside_by P Q R
same (pos zero) Q R h = sym (first-factor_0 (one_positive Q) (one_positive R))
same (negsuc n) Q R h = sym (first-factor_0 (one_positive Q) (one_positive R))
same (pos (suc n)) (pos zero) R h = sym (first-factor_0 (pos 1) (one_positive R))
same (pos (suc n)) (negsuc q) R h = sym (first-factor_0 (pos 1) (one_positive R))
same (pos (suc n)) (pos (suc q)) (pos zero) h = refl
same (pos (suc n)) (pos (suc q)) (negsuc r) h = refl
same (pos (suc n)) (pos (suc q)) (pos (suc r)) h = absurd (h suc_positive suc_positive suc_positive)

-- A point inside lies above some corner.
low : (P Q R β ε δ : ℤ) → pos 0 ≺ P → pos 0 ≺ Q → pos 0 ≺ R → β ≼ pos 0 → ε ≼ pos 0 → δ ≼ pos 0 → P *ℤ β +ℤ Q *ℤ ε +ℤ R *ℤ δ ≡ pos 0 → pos 0 ≼ β
low = order 6 (λ P Q R β ε δ. (# (pos 0) ⋖ P) ∷ (# (pos 0) ⋖ Q) ∷ (# (pos 0) ⋖ R) ∷ (β ≲ # (pos 0)) ∷ (ε ≲ # (pos 0)) ∷ (δ ≲ # (pos 0)) ∷ (P ⊠ β ⊞ Q ⊠ ε ⊞ R ⊠ δ ≈ # (pos 0)) ∷ [] ⊢ # (pos 0) ≲ β
    by hyp 0 ⊗ hyp 3 ⊕ (hyp 1 ⊕ num 1) ⊗ hyp 4 ⊕ (hyp 2 ⊕ num 1) ⊗ hyp 5 ⊕ times 6 (# (negsuc 0))) tt

-- The corners do not all lie at one height.
flat0 : (D β ε δ k l : ℤ) → pos 0 ≺ D → β ≡ pos 0 → ε ≡ pos 0 → δ ≡ pos 0 → D ≡ k *ℤ (β -ℤ ε) -ℤ l *ℤ (δ -ℤ ε) → ⊥
flat0 = order 6 (λ D β ε δ k l. (# (pos 0) ⋖ D) ∷ (β ≈ # (pos 0)) ∷ (ε ≈ # (pos 0)) ∷ (δ ≈ # (pos 0)) ∷ (D ≈ k ⊠ (β ⊟ ε) ⊟ l ⊠ (δ ⊟ ε)) ∷ [] ⊢ never
    by hyp 0 ⊕ times 4 (# (pos 1)) ⊕ times 1 k ⊕ times 2 (l ⊟ k) ⊕ times 3 (⊖ l)) tt

-- Three summands, turned.
pub turned-sum : (a b c : ℤ) → a +ℤ b +ℤ c ≡ b +ℤ c +ℤ a
turned-sum = ring 3 (λ a b c. a ⊞ b ⊞ c ≈ b ⊞ c ⊞ a) tt

-- A point inside does not lie above all corners.
all-bel : (P Q R β ε δ k l : ℤ) → pos 0 ≺ P → pos 0 ≺ Q → pos 0 ≺ R → β ≼ pos 0 → δ ≼ pos 0 → ε ≼ pos 0 → Tri P Q R β ε δ → P +ℤ Q +ℤ R ≡ k *ℤ (β -ℤ ε) -ℤ l *ℤ (δ -ℤ ε) → ⊥
all-bel P Q R β ε δ k l a b c hβ hδ hε t e = flat0 (P +ℤ Q +ℤ R) β ε δ k l t.area
    (≤ℤ-antisym hβ (low P Q R β ε δ a b c hβ hε hδ t.level))
    (≤ℤ-antisym hε (low Q R P ε δ β b c a hε hδ hβ (sym (turned-sum (P *ℤ β) (Q *ℤ ε) (R *ℤ δ)) ∙ t.level)))
    (≤ℤ-antisym hδ (low R P Q δ β ε c a b hδ hβ hε (turned-sum (R *ℤ δ) (P *ℤ β) (Q *ℤ ε) ∙ t.level)))
    e

-- The facts from the next side on.
Tri-turned : {P Q R β ε δ : ℤ} → Tri P Q R β ε δ → Tri Q R P ε δ β
Tri-turned {P} {Q} {R} {β} {ε} {δ} t = record { area = subst (λ z. pos 0 ≺ z) (turned-sum P Q R) t.area; level = sym (turned-sum (P *ℤ β) (Q *ℤ ε) (R *ℤ δ)) ∙ t.level }

-- Being inside, from the next side on.
inside_by-turned : (P Q R : ℤ) → inside_by Q R P ≡ inside_by P Q R
inside_by-turned P Q R = ring 3 (λ a b c. b ⊠ c ⊠ a ≈ a ⊠ b ⊠ c) tt (one_positive P) (one_positive Q) (one_positive R)

-- A sum with 0 in the middle.
pub mid_0 : (a b : ℤ) → a +ℤ pos 0 +ℤ b ≡ a +ℤ b
mid_0 a b = ap (λ t. t +ℤ b) (+ℤ_idr a)

-- A sum with 0 in front.
pub first-0 : (a b : ℤ) → pos 0 +ℤ a +ℤ b ≡ a +ℤ b
first-0 a b = ap (λ t. t +ℤ b) (+ℤ_idl a)

-- A sum with 0 at the end.
pub last_0 : (a b : ℤ) → a +ℤ b +ℤ pos 0 ≡ a +ℤ b
last_0 a b = +ℤ_idr (a +ℤ b)

-- All eight cases.
around_by-is : (u w t : Bool) (P Q R β ε δ k l : ℤ) → NotZero P → NotZero Q → NotZero R → Positive u ε → Positive w δ → Positive t β → Tri P Q R β ε δ → P +ℤ Q +ℤ R ≡ k *ℤ (β -ℤ ε) -ℤ l *ℤ (δ -ℤ ε) → around_by u w t P Q R ≡ inside_by P Q R
around_by-is true true true P Q R β ε δ k l a b c e d f h g = same P Q R (λ i j m. all-abo P Q R β ε δ i j m f d e h.level)
around_by-is false false false P Q R β ε δ k l a b c e d f h g = same P Q R (λ i j m. all-bel P Q R β ε δ k l i j m f d e h g)
around_by-is false true true P Q R β ε δ k l a b c e d f h g = mid_0 (one_positive P) (minus_negative R) ∙ bel P Q R β ε δ a b c f d e h
around_by-is true false false P Q R β ε δ k l a b c e d f h g = mid_0 (minus_negative P) (one_positive R) ∙ abo P Q R β ε δ a b c f d e h
around_by-is true false true P Q R β ε δ k l a b c e d f h g = last_0 (minus_negative P) (one_positive Q) ∙ +ℤ_comm (minus_negative P) (one_positive Q) ∙ bel Q R P ε δ β b c a e f d (Tri-turned h) ∙ inside_by-turned P Q R
around_by-is false true false P Q R β ε δ k l a b c e d f h g = last_0 (one_positive P) (minus_negative Q) ∙ +ℤ_comm (one_positive P) (minus_negative Q) ∙ abo Q R P ε δ β b c a e f d (Tri-turned h) ∙ inside_by-turned P Q R
around_by-is true true false P Q R β ε δ k l a b c e d f h g = first-0 (minus_negative Q) (one_positive R) ∙ +ℤ_comm (minus_negative Q) (one_positive R) ∙ bel R P Q δ β ε c a b d e f (Tri-turned (Tri-turned h)) ∙ sym (inside_by-turned R P Q)
around_by-is false false true P Q R β ε δ k l a b c e d f h g = first-0 (one_positive Q) (minus_negative R) ∙ +ℤ_comm (one_positive Q) (minus_negative R) ∙ abo R P Q δ β ε c a b d e f (Tri-turned (Tri-turned h)) ∙ sym (inside_by-turned R P Q)

-- The crosses of a point with the sides of a triangle sum to its doubled area.
pub sum-cross : (p c s x : Vertex) → cross p c x +ℤ cross c s x +ℤ cross s p x ≡ cross p c s
unfolding cross
sum-cross p c s x = ring 8 (λ px py cx cy sx sy xx xy. cross_e px py cx cy xx xy ⊞ cross_e cx cy sx sy xx xy ⊞ cross_e sx sy px py xx xy ≈ cross_e px py cx cy sx sy) tt p.x p.y c.x c.y s.x s.y x.x x.y

-- They are the weights of the point: its height is the mean of the heights of the corners.
pub level_cross : (p c s x : Vertex) → cross p c x *ℤ (s.y -ℤ x.y) +ℤ cross c s x *ℤ (p.y -ℤ x.y) +ℤ cross s p x *ℤ (c.y -ℤ x.y) ≡ pos 0
unfolding cross
level_cross p c s x = ring 8 (λ px py cx cy sx sy xx xy. cross_e px py cx cy xx xy ⊠ (sy ⊟ xy) ⊞ cross_e cx cy sx sy xx xy ⊠ (py ⊟ xy) ⊞ cross_e sx sy px py xx xy ⊠ (cy ⊟ xy) ≈ # (pos 0)) tt p.x p.y c.x c.y s.x s.y x.x x.y

-- The area by heights over the point.
lin_cross : (p c s x : Vertex) → cross p c x +ℤ cross c s x +ℤ cross s p x ≡ (c.x -ℤ p.x) *ℤ ((s.y -ℤ x.y) -ℤ (p.y -ℤ x.y)) -ℤ (s.x -ℤ p.x) *ℤ ((c.y -ℤ x.y) -ℤ (p.y -ℤ x.y))
unfolding cross
lin_cross p c s x = ring 8 (λ px py cx cy sx sy xx xy. cross_e px py cx cy xx xy ⊞ cross_e cx cy sx sy xx xy ⊞ cross_e sx sy px py xx xy ≈ (cx ⊟ px) ⊠ ((sy ⊟ xy) ⊟ (py ⊟ xy)) ⊟ (sx ⊟ px) ⊠ ((cy ⊟ xy) ⊟ (py ⊟ xy))) tt p.x p.y c.x c.y s.x s.y x.x x.y

-- 1 if x lies strictly inside the triangle, else 0.
unfoldable pub inside : Vertex → Vertex → Vertex → Vertex → ℤ
inside p c s x = inside_by (cross p c x) (cross c s x) (cross s p x)

-- From a point on none of the lines, a triangle is crossed once from inside and not at all from outside.
pub tri_is : (p c s x : Vertex) → pos 0 ≺ cross p c s → NotZero (cross p c x) → NotZero (cross c s x) → NotZero (cross s p x) → crossed p c x +ℤ crossed c s x +ℤ crossed s p x ≡ inside p c s x
unfolding crossed inside
tri_is p c s x h a b c' = around_by-is (above x p) (above x c) (above x s) (cross p c x) (cross c s x) (cross s p x) (s.y -ℤ x.y) (p.y -ℤ x.y) (c.y -ℤ x.y) (c.x -ℤ p.x) (s.x -ℤ p.x) a b c'
    (positive_is x.y p.y) (positive_is x.y c.y) (positive_is x.y s.y)
    (record { area = subst (λ z. pos 0 ≺ z) (sym (sum-cross p c s x)) h; level = level_cross p c s x })
    (lin_cross p c s x)

-- ---- three points in line: no crossing counts

-- What holds of a point and three points in line: the crosses sum to 0.
pub record Flat (P Q R β ε δ : ℤ) : Type 0 where
  pub area : P +ℤ Q +ℤ R ≡ pos 0
  pub level : P *ℤ β +ℤ Q *ℤ ε +ℤ R *ℤ δ ≡ pos 0

-- The signs that the crosses with three points in line cannot have.
deg1 : (P Q R β ε δ : ℤ) → P ≼ pos 0 → R ≺ pos 0 → pos 0 ≺ β → pos 0 ≺ δ → ε ≼ pos 0 → P +ℤ Q +ℤ R ≡ pos 0 → P *ℤ β +ℤ Q *ℤ ε +ℤ R *ℤ δ ≡ pos 0 → ⊥
deg1 = order 6 (λ P Q R β ε δ. (P ≲ # (pos 0)) ∷ (R ⋖ # (pos 0)) ∷ (# (pos 0) ⋖ β) ∷ (# (pos 0) ⋖ δ) ∷ (ε ≲ # (pos 0)) ∷ (P ⊞ Q ⊞ R ≈ # (pos 0)) ∷ (P ⊠ β ⊞ Q ⊠ ε ⊞ R ⊠ δ ≈ # (pos 0)) ∷ [] ⊢ never
    by hyp 0 ⊗ (hyp 2 ⊕ num 1 ⊕ hyp 4) ⊕ hyp 1 ⊗ (hyp 3 ⊕ hyp 4 ⊕ num 1) ⊕ hyp 3 ⊕ hyp 4 ⊕ times 6 (# (negsuc 0)) ⊕ times 5 ε) tt

deg2 : (P Q R β ε δ : ℤ) → pos 0 ≺ P → pos 0 ≼ R → pos 0 ≺ β → pos 0 ≺ δ → ε ≼ pos 0 → P +ℤ Q +ℤ R ≡ pos 0 → P *ℤ β +ℤ Q *ℤ ε +ℤ R *ℤ δ ≡ pos 0 → ⊥
deg2 = order 6 (λ P Q R β ε δ. (# (pos 0) ⋖ P) ∷ (# (pos 0) ≲ R) ∷ (# (pos 0) ⋖ β) ∷ (# (pos 0) ⋖ δ) ∷ (ε ≲ # (pos 0)) ∷ (P ⊞ Q ⊞ R ≈ # (pos 0)) ∷ (P ⊠ β ⊞ Q ⊠ ε ⊞ R ⊠ δ ≈ # (pos 0)) ∷ [] ⊢ never
    by hyp 0 ⊗ (hyp 2 ⊕ num 1 ⊕ hyp 4) ⊕ hyp 2 ⊕ hyp 4 ⊕ hyp 1 ⊗ (hyp 3 ⊕ hyp 4 ⊕ num 1) ⊕ times 6 (# (pos 1)) ⊕ times 5 (⊖ ε)) tt

deg3 : (P Q R β ε δ : ℤ) → P ≺ pos 0 → R ≼ pos 0 → β ≼ pos 0 → δ ≼ pos 0 → pos 0 ≺ ε → P +ℤ Q +ℤ R ≡ pos 0 → P *ℤ β +ℤ Q *ℤ ε +ℤ R *ℤ δ ≡ pos 0 → ⊥
deg3 = order 6 (λ P Q R β ε δ. (P ⋖ # (pos 0)) ∷ (R ≲ # (pos 0)) ∷ (β ≲ # (pos 0)) ∷ (δ ≲ # (pos 0)) ∷ (# (pos 0) ⋖ ε) ∷ (P ⊞ Q ⊞ R ≈ # (pos 0)) ∷ (P ⊠ β ⊞ Q ⊠ ε ⊞ R ⊠ δ ≈ # (pos 0)) ∷ [] ⊢ never
    by hyp 0 ⊗ (hyp 4 ⊕ num 1 ⊕ hyp 2) ⊕ hyp 4 ⊕ hyp 2 ⊕ hyp 1 ⊗ (hyp 4 ⊕ hyp 3 ⊕ num 1) ⊕ times 6 (# (pos 1)) ⊕ times 5 (⊖ ε)) tt

deg4 : (P Q R β ε δ : ℤ) → pos 0 ≼ P → pos 0 ≺ R → β ≼ pos 0 → δ ≼ pos 0 → pos 0 ≺ ε → P +ℤ Q +ℤ R ≡ pos 0 → P *ℤ β +ℤ Q *ℤ ε +ℤ R *ℤ δ ≡ pos 0 → ⊥
deg4 = order 6 (λ P Q R β ε δ. (# (pos 0) ≲ P) ∷ (# (pos 0) ⋖ R) ∷ (β ≲ # (pos 0)) ∷ (δ ≲ # (pos 0)) ∷ (# (pos 0) ⋖ ε) ∷ (P ⊞ Q ⊞ R ≈ # (pos 0)) ∷ (P ⊠ β ⊞ Q ⊠ ε ⊞ R ⊠ δ ≈ # (pos 0)) ∷ [] ⊢ never
    by hyp 0 ⊗ (hyp 4 ⊕ num 1 ⊕ hyp 2) ⊕ hyp 1 ⊗ (hyp 4 ⊕ hyp 3 ⊕ num 1) ⊕ hyp 4 ⊕ hyp 3 ⊕ times 6 (# (negsuc 0)) ⊕ times 5 ε) tt

-- Three points in line, p below: the two crossings cancel out.
fbel : (P Q R β ε δ : ℤ) → pos 0 ≺ β → pos 0 ≺ δ → ε ≼ pos 0 → Flat P Q R β ε δ → one_positive P +ℤ minus_negative R ≡ pos 0
fbel (pos zero) Q (pos r) β ε δ k l m h = refl
fbel (pos zero) Q (negsuc r) β ε δ k l m h = absurd (deg1 (pos zero) Q (negsuc r) β ε δ (nonneg_pos _) negsuc_negative k l m h.area h.level)
fbel (pos (suc n)) Q (pos r) β ε δ k l m h = absurd (deg2 (pos (suc n)) Q (pos r) β ε δ suc_positive (nonneg_pos _) k l m h.area h.level)
fbel (pos (suc n)) Q (negsuc r) β ε δ k l m h = refl
fbel (negsuc n) Q (pos r) β ε δ k l m h = refl
fbel (negsuc n) Q (negsuc r) β ε δ k l m h = absurd (deg1 (negsuc n) Q (negsuc r) β ε δ negsuc_nonpos negsuc_negative k l m h.area h.level)

-- Three points in line, p above.
fabo : (P Q R β ε δ : ℤ) → β ≼ pos 0 → δ ≼ pos 0 → pos 0 ≺ ε → Flat P Q R β ε δ → minus_negative P +ℤ one_positive R ≡ pos 0
fabo (pos n) Q (pos zero) β ε δ k l m h = refl
fabo (pos n) Q (negsuc r) β ε δ k l m h = refl
fabo (pos n) Q (pos (suc r)) β ε δ k l m h = absurd (deg4 (pos n) Q (pos (suc r)) β ε δ (nonneg_pos _) suc_positive k l m h.area h.level)
fabo (negsuc n) Q (pos zero) β ε δ k l m h = absurd (deg3 (negsuc n) Q (pos zero) β ε δ negsuc_negative (nonneg_pos _) k l m h.area h.level)
fabo (negsuc n) Q (pos (suc r)) β ε δ k l m h = refl
fabo (negsuc n) Q (negsuc r) β ε δ k l m h = absurd (deg3 (negsuc n) Q (negsuc r) β ε δ negsuc_negative negsuc_nonpos k l m h.area h.level)

-- The facts from the next side on.
Flat-turned : {P Q R β ε δ : ℤ} → Flat P Q R β ε δ → Flat Q R P ε δ β
Flat-turned {P} {Q} {R} {β} {ε} {δ} t = record { area = sym (turned-sum P Q R) ∙ t.area; level = sym (turned-sum (P *ℤ β) (Q *ℤ ε) (R *ℤ δ)) ∙ t.level }

-- All eight cases.
around_by-flat : (u w t : Bool) (P Q R β ε δ : ℤ) → Positive u ε → Positive w δ → Positive t β → Flat P Q R β ε δ → around_by u w t P Q R ≡ pos 0
around_by-flat true true true P Q R β ε δ e d f h = refl
around_by-flat false false false P Q R β ε δ e d f h = refl
around_by-flat false true true P Q R β ε δ e d f h = mid_0 (one_positive P) (minus_negative R) ∙ fbel P Q R β ε δ f d e h
around_by-flat true false false P Q R β ε δ e d f h = mid_0 (minus_negative P) (one_positive R) ∙ fabo P Q R β ε δ f d e h
around_by-flat true false true P Q R β ε δ e d f h = last_0 (minus_negative P) (one_positive Q) ∙ +ℤ_comm (minus_negative P) (one_positive Q) ∙ fbel Q R P ε δ β e f d (Flat-turned h)
around_by-flat false true false P Q R β ε δ e d f h = last_0 (one_positive P) (minus_negative Q) ∙ +ℤ_comm (one_positive P) (minus_negative Q) ∙ fabo Q R P ε δ β e f d (Flat-turned h)
around_by-flat true true false P Q R β ε δ e d f h = first-0 (minus_negative Q) (one_positive R) ∙ +ℤ_comm (minus_negative Q) (one_positive R) ∙ fbel R P Q δ β ε d e f (Flat-turned (Flat-turned h))
around_by-flat false false true P Q R β ε δ e d f h = first-0 (one_positive Q) (minus_negative R) ∙ +ℤ_comm (one_positive Q) (minus_negative R) ∙ fabo R P Q δ β ε d e f (Flat-turned (Flat-turned h))

-- The sides of three points in line have no crossings together.
pub tri_flat : (p c s x : Vertex) → cross p c s ≡ pos 0 → crossed p c x +ℤ crossed c s x +ℤ crossed s p x ≡ pos 0
unfolding crossed
tri_flat p c s x h = around_by-flat (above x p) (above x c) (above x s) (cross p c x) (cross c s x) (cross s p x) (s.y -ℤ x.y) (p.y -ℤ x.y) (c.y -ℤ x.y)
    (positive_is x.y p.y) (positive_is x.y c.y) (positive_is x.y s.y)
    (record { area = sum-cross p c s x ∙ h; level = level_cross p c s x })

-- ---- a point outside, on lines or not

-- A point outside: one of the crosses is negative.
abbrev pub Neg3 : ℤ → ℤ → ℤ → Type 0
Neg3 P Q R = (P ≺ pos 0) ⊎ ((Q ≺ pos 0) ⊎ (R ≺ pos 0))

-- A natural number is not negative.
no_lt : {A : Type 0} (n : ℕ) → pos n ≺ pos 0 → A
no_lt n h = absurd (order 1 (λ a. (a ⋖ # (pos 0)) ∷ (# (pos 0) ≲ a) ∷ [] ⊢ never by hyp 0 ⊕ hyp 1) tt (pos n) h (nonneg_pos _))

-- A point outside, p below: the two crossings cancel out, also on a line.
obel : (P Q R β ε δ : ℤ) → Neg3 P Q R → pos 0 ≺ β → pos 0 ≺ δ → ε ≼ pos 0 → Tri P Q R β ε δ → one_positive P +ℤ minus_negative R ≡ pos 0
obel (pos zero) Q (pos r) β ε δ o k l m h = refl
obel (pos (suc n)) Q (pos r) β ε δ o k l m h = ⊎_elim (λ i. no_lt (suc n) i) (λ i. ⊎_elim (λ j. absurd (in_bel (pos (suc n)) Q (pos r) β ε δ suc_positive (nonneg_pos _) (<ℤ-≤ℤ j) k l m h.level)) (λ j. no_lt r j) i) o
obel (negsuc n) Q (pos r) β ε δ o k l m h = refl
obel (pos zero) Q (negsuc r) β ε δ o k l m h = absurd (nn_bel (pos zero) Q (negsuc r) β ε δ (nonneg_pos _) negsuc_negative k l m h.area h.level)
obel (pos (suc n)) Q (negsuc r) β ε δ o k l m h = refl
obel (negsuc n) Q (negsuc r) β ε δ o k l m h = absurd (nn_bel (negsuc n) Q (negsuc r) β ε δ negsuc_nonpos negsuc_negative k l m h.area h.level)

-- A point outside, p above.
oabo : (P Q R β ε δ : ℤ) → Neg3 P Q R → β ≼ pos 0 → δ ≼ pos 0 → pos 0 ≺ ε → Tri P Q R β ε δ → minus_negative P +ℤ one_positive R ≡ pos 0
oabo (pos n) Q (pos zero) β ε δ o k l m h = refl
oabo (pos n) Q (pos (suc r)) β ε δ o k l m h = ⊎_elim (λ i. no_lt n i) (λ i. ⊎_elim (λ j. absurd (in_abo (pos n) Q (pos (suc r)) β ε δ (nonneg_pos _) (nonneg_pos _) j k l m h.level)) (λ j. no_lt (suc r) j) i) o
oabo (pos n) Q (negsuc r) β ε δ o k l m h = refl
oabo (negsuc n) Q (pos zero) β ε δ o k l m h = absurd (nn_abo (negsuc n) Q (pos zero) β ε δ negsuc_negative (nonneg_pos _) k l m h.area h.level)
oabo (negsuc n) Q (pos (suc r)) β ε δ o k l m h = refl
oabo (negsuc n) Q (negsuc r) β ε δ o k l m h = absurd (nn_abo (negsuc n) Q (negsuc r) β ε δ negsuc_negative negsuc_nonpos k l m h.area h.level)

-- The fact from the next side on.
Neg3-turned : {P Q R : ℤ} → Neg3 P Q R → Neg3 Q R P
Neg3-turned = ⊎_elim (λ i. inr (inr i)) (λ i. ⊎_elim (λ j. inl j) (λ j. inr (inl j)) i)

-- All eight cases.
around_by-outside : (u w t : Bool) (P Q R β ε δ : ℤ) → Neg3 P Q R → Positive u ε → Positive w δ → Positive t β → Tri P Q R β ε δ → around_by u w t P Q R ≡ pos 0
around_by-outside true true true P Q R β ε δ o e d f h = refl
around_by-outside false false false P Q R β ε δ o e d f h = refl
around_by-outside false true true P Q R β ε δ o e d f h = mid_0 (one_positive P) (minus_negative R) ∙ obel P Q R β ε δ o f d e h
around_by-outside true false false P Q R β ε δ o e d f h = mid_0 (minus_negative P) (one_positive R) ∙ oabo P Q R β ε δ o f d e h
around_by-outside true false true P Q R β ε δ o e d f h = last_0 (minus_negative P) (one_positive Q) ∙ +ℤ_comm (minus_negative P) (one_positive Q) ∙ obel Q R P ε δ β (Neg3-turned o) e f d (Tri-turned h)
around_by-outside false true false P Q R β ε δ o e d f h = last_0 (one_positive P) (minus_negative Q) ∙ +ℤ_comm (one_positive P) (minus_negative Q) ∙ oabo Q R P ε δ β (Neg3-turned o) e f d (Tri-turned h)
around_by-outside true true false P Q R β ε δ o e d f h = first-0 (minus_negative Q) (one_positive R) ∙ +ℤ_comm (minus_negative Q) (one_positive R) ∙ obel R P Q δ β ε (Neg3-turned (Neg3-turned o)) d e f (Tri-turned (Tri-turned h))
around_by-outside false false true P Q R β ε δ o e d f h = first-0 (one_positive Q) (minus_negative R) ∙ +ℤ_comm (one_positive Q) (minus_negative R) ∙ oabo R P Q δ β ε (Neg3-turned (Neg3-turned o)) d e f (Tri-turned (Tri-turned h))

-- From outside, on a line or not, a triangle has no crossings together.
pub tri_out : (p c s x : Vertex) → pos 0 ≺ cross p c s → Neg3 (cross p c x) (cross c s x) (cross s p x) → crossed p c x +ℤ crossed c s x +ℤ crossed s p x ≡ pos 0
unfolding crossed
tri_out p c s x h o = around_by-outside (above x p) (above x c) (above x s) (cross p c x) (cross c s x) (cross s p x) (s.y -ℤ x.y) (p.y -ℤ x.y) (c.y -ℤ x.y) o
    (positive_is x.y p.y) (positive_is x.y c.y) (positive_is x.y s.y)
    (record { area = subst (λ z. pos 0 ≺ z) (sym (sum-cross p c s x)) h; level = level_cross p c s x })
