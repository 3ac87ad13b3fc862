-- The cone of a corner, and how the crossings at the two ends of an edge differ by it: the first half of the corner rule.
use mathlib.Core.Bool.{Bool, true, false, not}
use mathlib.Core.List.{[], ◌∷◌}
use mathlib.Core.Logic.{⊎_elim}
use mathlib.Core.Path.{◌≡◌, refl, sym, ◌∙◌, ap, ap₂, subst}
use Prim.Native.Nat.{zero, suc}
use lib.Dec.{T}
use lib.IntN.{ℤ, pos, negsuc, neg_ℤ, ◌+ℤ◌, ◌-ℤ◌, ◌*ℤ◌, +ℤ_idl}
use lib.Signed.{lt_z, lt_z_yes, lt_z_no, clash_ℤ}
use Rattle.integers.proofs.Order.{≤ℤ-antisym, <ℤ-≤ℤ, le_or_lt}
use Rattle.integers.proofs.Slack.{le_slack, nonneg_pos}
use Rattle.model.specs.Content.{Vertex}
use Rattle.model.specs.Geometry.{cross, along_edge}
use Rattle.outlines.specs.Simple.{ShareOnly}
use Rattle.outlines.proofs.Tools.{dot, ◌≼◌, ◌≺◌, #, ◌⊞◌, ◌⊟◌, ◌⊠◌, ⊖◌, ◌≲◌, ◌⋖◌, ◌≈◌, never, hyp, sqr, num, ◌⊕◌, ◌⊗◌, ◌⊢◌by◌, order, lt_minus, ring, times, neg_zero}
use Rattle.outlines.proofs.Crossing.{cross_e, crossed, crossed-anti, cross-anti, NotZero, edge_crossing, one_positive, minus_negative, above, Positive, positive_is, suc_positive, mid_0, first-0, edge_crossing-anti, cross-rot}

-- 1 if t is negative, else 0.
abbrev pub one_negative : ℤ → ℤ
one_negative (pos n) = pos 0
one_negative (negsuc n) = pos 1

-- The half plane, from three tests: b is above a, below it, or to its left at the same height.
abbrev pub upper_by : Bool → Bool → Bool → Bool
upper_by true k t = true
upper_by false true t = false
upper_by false false t = t

-- b is in the upper half plane as seen from a, the direction of smaller x counted to it and that of larger x to the lower one.
unfoldable pub upper_half : Vertex → Vertex → Bool
upper_half a b = upper_by (lt_z a.y b.y) (lt_z b.y a.y) (lt_z b.x a.x)

-- The cone, from the half planes of the next corner and of the last one and from their cross.
abbrev pub cone_by : Bool → Bool → ℤ → ℤ
cone_by false true C = pos 1
cone_by true false C = pos 0
cone_by true true C = one_negative C
cone_by false false C = one_negative C

-- 1 for the lower half plane, 0 for the upper.
abbrev pub lower_half : Bool → ℤ
lower_half true = pos 0
lower_half false = pos 1

-- At the corner a, after p and before b: 1 if the ray towards larger x leaves inside the cone to the left of the outline, else 0.
unfoldable pub cone : Vertex → Vertex → Vertex → ℤ
cone p a b = cone_by (upper_half a b) (upper_half a p) (cross p a b)

-- The crossing of the edge a b with the ray from p towards smaller x, its upper end counted and not its lower.
unfoldable pub crossed_back : Vertex → Vertex → Vertex → ℤ
crossed_back a b p = edge_crossing (above a p) (above b p) (cross a b p)

-- What the outcome of a test `<` says of the difference k: it is negative or not.
abbrev pub Negative : Bool → ℤ → Type 0
Negative true k = k ≺ pos 0
Negative false k = pos 0 ≼ k

-- What the outcome of a test `<` says of a and b.
abbrev pub Less : Bool → ℤ → ℤ → Type 0
Less true a b = a ≺ b
Less false a b = b ≼ a

-- The test `a < b` says so of a - b.
pub negative_is : (a b : ℤ) → Negative (lt_z a b) (a -ℤ b)
negative_is a b = go (lt_z a b) (λ t. lt_z_yes t) (λ t. lt_z_no t)
  where
    go : (t : Bool) → (T t → a ≺ b) → (T (not t) → b ≼ a) → Negative t (a -ℤ b)
    go true f g = lt_minus a b (f tt)
    go false f g = le_slack (g tt)

-- The test `a < b` says so of their differences to a third number.
pub less_shifted : (c a b : ℤ) → Less (lt_z a b) (a -ℤ c) (b -ℤ c)
less_shifted c a b = go (lt_z a b) (λ t. lt_z_yes t) (λ t. lt_z_no t)
  where
    g1 : (c a b : ℤ) → a ≺ b → a -ℤ c ≺ b -ℤ c
    g1 = order 3 (λ c a b. (a ⋖ b) ∷ [] ⊢ a ⊟ c ⋖ b ⊟ c by hyp 0) tt

    g2 : (c a b : ℤ) → b ≼ a → b -ℤ c ≼ a -ℤ c
    g2 = order 3 (λ c a b. (b ≲ a) ∷ [] ⊢ b ⊟ c ≲ a ⊟ c by hyp 0) tt

    go : (t : Bool) → (T t → a ≺ b) → (T (not t) → b ≼ a) → Less t (a -ℤ c) (b -ℤ c)
    go true f g = g1 c a b (f tt)
    go false f g = g2 c a b (g tt)

-- The signs of a number cancel out.
negative_sum : (C : ℤ) → minus_negative C +ℤ one_negative C ≡ pos 0
negative_sum (pos n) = refl
negative_sum (negsuc n) = refl

-- The signs of a number that is not 0 make 1.
positive_sum : (C : ℤ) → NotZero C → one_positive C +ℤ one_negative C ≡ pos 1
positive_sum (pos zero) h = absurd (h refl)
positive_sum (pos (suc n)) h = refl
positive_sum (negsuc n) h = refl

-- No chain leads from a number to a smaller one.
pub clash3 : {A : Type 0} (a b c : ℤ) → a ≼ b → b ≼ c → c ≺ a → A
clash3 a b c h k l = absurd (order 3 (λ a b c. (a ≲ b) ∷ (b ≲ c) ∷ (c ⋖ a) ∷ [] ⊢ never by hyp 0 ⊕ hyp 1 ⊕ hyp 2) tt a b c h k l)

-- A number that is not negative has no negative part.
pub minus_negative-0 : (C : ℤ) → pos 0 ≼ C → minus_negative C ≡ pos 0
minus_negative-0 (pos n) h = refl
minus_negative-0 (negsuc n) h = absurd h.le

-- A number that is not negative counts 0.
pub one_negative-0 : (C : ℤ) → pos 0 ≼ C → one_negative C ≡ pos 0
one_negative-0 (pos n) h = refl
one_negative-0 (negsuc n) h = absurd h.le

-- A negative number counts 1.
pub one_negative-1 : (C : ℤ) → C ≺ pos 0 → one_negative C ≡ pos 1
one_negative-1 (pos n) h = clash_ℤ h (nonneg_pos _)
one_negative-1 (negsuc n) h = refl

-- A number that is not positive counts 0.
pub one_positive-0 : (C : ℤ) → C ≼ pos 0 → one_positive C ≡ pos 0
one_positive-0 (pos zero) h = refl
one_positive-0 (pos (suc n)) h = clash_ℤ suc_positive h
one_positive-0 (negsuc n) h = refl

-- The cross by differences from the corner: α and X lead to the next corner, π and Y to the one before, up and to the right.
abbrev pub cross_from : ℤ → ℤ → ℤ → ℤ → ℤ
cross_from α π X Y = π *ℤ X -ℤ Y *ℤ α

-- The inner product by differences from the corner.
abbrev dot_from : ℤ → ℤ → ℤ → ℤ → ℤ
dot_from α π X Y = Y *ℤ X +ℤ π *ℤ α

-- The first statement, in tests and numbers.
abbrev StA : Bool → Bool → Bool → Bool → Bool → Bool → Bool → ℤ → Type 0
StA ab ba bxa ap pa pxa k C = edge_crossing k ba C +ℤ edge_crossing ap k C +ℤ cone_by (upper_by ab ba bxa) (upper_by ap pa pxa) C ≡ lower_half (upper_by ab ba bxa)

-- What the signs of the differences say of the cross: it is not 0, or not negative, or not positive.
nz1 : (α π X Y : ℤ) → α ≺ pos 0 → π ≺ pos 0 → cross_from α π X Y ≡ pos 0 → dot_from α π X Y ≺ pos 0 → ⊥
nz1 = order 4 (λ α π X Y. (α ⋖ # (pos 0)) ∷ (π ⋖ # (pos 0)) ∷ (π ⊠ X ⊟ Y ⊠ α ≈ # (pos 0)) ∷ (Y ⊠ X ⊞ π ⊠ α ⋖ # (pos 0)) ∷ [] ⊢ never
    by hyp 3 ⊗ (hyp 0 ⊕ num 1) ⊗ (hyp 1 ⊕ num 1) ⊕ hyp 0 ⊗ hyp 1 ⊕ hyp 0 ⊕ hyp 1 ⊕ sqr (Y ⊠ α) ⊕ sqr (π ⊠ α) ⊕ times 2 (⊖ (Y ⊠ α))) tt

c1 : (α π X Y : ℤ) → π ≡ pos 0 → Y ≺ pos 0 → pos 0 ≺ α → pos 0 ≼ cross_from α π X Y
c1 = order 4 (λ α π X Y. (π ≈ # (pos 0)) ∷ (Y ⋖ # (pos 0)) ∷ (# (pos 0) ⋖ α) ∷ [] ⊢ # (pos 0) ≲ π ⊠ X ⊟ Y ⊠ α by (hyp 1 ⊕ num 1) ⊗ (hyp 2 ⊕ num 1) ⊕ times 0 (⊖ X)) tt

c2 : (α π X Y : ℤ) → π ≡ pos 0 → Y ≺ pos 0 → α ≺ pos 0 → cross_from α π X Y ≼ pos 0
c2 = order 4 (λ α π X Y. (π ≈ # (pos 0)) ∷ (Y ⋖ # (pos 0)) ∷ (α ⋖ # (pos 0)) ∷ [] ⊢ π ⊠ X ⊟ Y ⊠ α ≲ # (pos 0) by (hyp 1 ⊕ num 1) ⊗ (hyp 2 ⊕ num 1) ⊕ times 0 X) tt

c3 : (α π X Y : ℤ) → α ≡ pos 0 → pos 0 ≺ π → pos 0 ≼ X → pos 0 ≼ cross_from α π X Y
c3 = order 4 (λ α π X Y. (α ≈ # (pos 0)) ∷ (# (pos 0) ⋖ π) ∷ (# (pos 0) ≲ X) ∷ [] ⊢ # (pos 0) ≲ π ⊠ X ⊟ Y ⊠ α by (hyp 1 ⊕ num 1) ⊗ hyp 2 ⊕ times 0 Y) tt

y0 : (α π X Y : ℤ) → π ≡ pos 0 → α ≺ pos 0 → pos 0 ≼ Y → cross_from α π X Y ≡ pos 0 → Y ≼ pos 0
y0 = order 4 (λ α π X Y. (π ≈ # (pos 0)) ∷ (α ⋖ # (pos 0)) ∷ (# (pos 0) ≲ Y) ∷ (π ⊠ X ⊟ Y ⊠ α ≈ # (pos 0)) ∷ [] ⊢ Y ≲ # (pos 0) by hyp 1 ⊗ hyp 2 ⊕ times 3 (# (pos 1)) ⊕ times 0 (⊖ X)) tt

d0 : (α π X Y : ℤ) → π ≡ pos 0 → Y ≡ pos 0 → dot_from α π X Y ≺ pos 0 → ⊥
d0 = order 4 (λ α π X Y. (π ≈ # (pos 0)) ∷ (Y ≈ # (pos 0)) ∷ (Y ⊠ X ⊞ π ⊠ α ⋖ # (pos 0)) ∷ [] ⊢ never by hyp 2 ⊕ times 1 (⊖ X) ⊕ times 0 (⊖ α)) tt

-- With p at the height of a, on its right.
nz2 : (α π X Y : ℤ) → π ≡ pos 0 → α ≺ pos 0 → pos 0 ≼ Y → cross_from α π X Y ≡ pos 0 → dot_from α π X Y ≺ pos 0 → ⊥
nz2 α π X Y h a b c d = d0 α π X Y h (≤ℤ-antisym (y0 α π X Y h a b c) b) d

x0 : (α π X Y : ℤ) → α ≡ pos 0 → π ≺ pos 0 → pos 0 ≼ X → pos 0 ≼ cross_from α π X Y → X ≼ pos 0
x0 = order 4 (λ α π X Y. (α ≈ # (pos 0)) ∷ (π ⋖ # (pos 0)) ∷ (# (pos 0) ≲ X) ∷ (# (pos 0) ≲ π ⊠ X ⊟ Y ⊠ α) ∷ [] ⊢ X ≲ # (pos 0) by hyp 1 ⊗ hyp 2 ⊕ hyp 3 ⊕ times 0 (⊖ Y)) tt

cz : (α π X Y : ℤ) → α ≡ pos 0 → X ≡ pos 0 → cross_from α π X Y ≡ pos 0
cz = order 4 (λ α π X Y. (α ≈ # (pos 0)) ∷ (X ≈ # (pos 0)) ∷ [] ⊢ π ⊠ X ⊟ Y ⊠ α ≈ # (pos 0) by times 1 π ⊕ times 0 (⊖ Y)) tt

d1 : (α π X Y : ℤ) → α ≡ pos 0 → X ≡ pos 0 → dot_from α π X Y ≺ pos 0 → ⊥
d1 = order 4 (λ α π X Y. (α ≈ # (pos 0)) ∷ (X ≈ # (pos 0)) ∷ (Y ⊠ X ⊞ π ⊠ α ⋖ # (pos 0)) ∷ [] ⊢ never by hyp 2 ⊕ times 1 (⊖ Y) ⊕ times 0 (⊖ π)) tt

-- With b at the height of a, on its right.
c4 : (α π X Y : ℤ) → α ≡ pos 0 → π ≺ pos 0 → pos 0 ≼ X → (cross_from α π X Y ≡ pos 0 → dot_from α π X Y ≺ pos 0) → cross_from α π X Y ≺ pos 0
c4 α π X Y a b c d = ⊎_elim (λ h. absurd (d1 α π X Y a (xz h) (d (cz α π X Y a (xz h))))) (λ h. h) (le_or_lt (pos 0) (cross_from α π X Y))
  where
    xz : pos 0 ≼ cross_from α π X Y → X ≡ pos 0
    xz h = ≤ℤ-antisym (x0 α π X Y a b c h) c

cz2 : (α π X Y : ℤ) → α ≡ pos 0 → π ≡ pos 0 → cross_from α π X Y ≡ pos 0
cz2 = order 4 (λ α π X Y. (α ≈ # (pos 0)) ∷ (π ≈ # (pos 0)) ∷ [] ⊢ π ⊠ X ⊟ Y ⊠ α ≈ # (pos 0) by times 1 X ⊕ times 0 (⊖ Y)) tt

d2 : (α π X Y : ℤ) → α ≡ pos 0 → X ≺ pos 0 → Y ≺ pos 0 → dot_from α π X Y ≺ pos 0 → ⊥
d2 = order 4 (λ α π X Y. (α ≈ # (pos 0)) ∷ (X ⋖ # (pos 0)) ∷ (Y ⋖ # (pos 0)) ∷ (Y ⊠ X ⊞ π ⊠ α ⋖ # (pos 0)) ∷ [] ⊢ never by hyp 3 ⊕ (hyp 1 ⊕ num 1) ⊗ (hyp 2 ⊕ num 1) ⊕ times 0 (⊖ π)) tt

d3 : (α π X Y : ℤ) → α ≡ pos 0 → pos 0 ≼ X → pos 0 ≼ Y → dot_from α π X Y ≺ pos 0 → ⊥
d3 = order 4 (λ α π X Y. (α ≈ # (pos 0)) ∷ (# (pos 0) ≲ X) ∷ (# (pos 0) ≲ Y) ∷ (Y ⊠ X ⊞ π ⊠ α ⋖ # (pos 0)) ∷ [] ⊢ never by hyp 3 ⊕ hyp 1 ⊗ hyp 2 ⊕ times 0 (⊖ π)) tt

-- All cases of the first statement.
core_a : (ab ba ap pa k bxa pxa : Bool) (α π X Y : ℤ) → Positive ab α → Negative ba α → Positive ap π → Negative pa π → Less k α π → Negative bxa X → Negative pxa Y → (cross_from α π X Y ≡ pos 0 → dot_from α π X Y ≺ pos 0) → StA ab ba bxa ap pa pxa k (cross_from α π X Y)
core_a true true ap pa k bxa pxa α π X Y a b c d e f g h = clash_ℤ a (<ℤ-≤ℤ b)
core_a true false true true k bxa pxa α π X Y a b c d e f g h = clash_ℤ c (<ℤ-≤ℤ d)
core_a true false true false true bxa pxa α π X Y a b c d e f g h = mid_0 (minus_negative (cross_from α π X Y)) (one_negative (cross_from α π X Y)) ∙ negative_sum (cross_from α π X Y)
core_a true false true false false bxa pxa α π X Y a b c d e f g h = first-0 (minus_negative (cross_from α π X Y)) (one_negative (cross_from α π X Y)) ∙ negative_sum (cross_from α π X Y)
core_a true false false true true bxa pxa α π X Y a b c d e f g h = clash3 (pos 0) α π (<ℤ-≤ℤ a) (<ℤ-≤ℤ e) d
core_a true false false true false bxa pxa α π X Y a b c d e f g h = refl
core_a true false false false true bxa pxa α π X Y a b c d e f g h = clash3 α π (pos 0) (<ℤ-≤ℤ e) c a
core_a true false false false false bxa true α π X Y a b c d e f g h = +ℤ_idl (one_negative (cross_from α π X Y)) ∙ one_negative-0 (cross_from α π X Y) (c1 α π X Y (≤ℤ-antisym c d) g a)
core_a true false false false false bxa false α π X Y a b c d e f g h = refl
core_a false true true true k bxa pxa α π X Y a b c d e f g h = clash_ℤ c (<ℤ-≤ℤ d)
core_a false true true false true bxa pxa α π X Y a b c d e f g h = refl
core_a false true true false false bxa pxa α π X Y a b c d e f g h = clash3 (pos 0) π α (<ℤ-≤ℤ c) e b
core_a false true false true true bxa pxa α π X Y a b c d e f g h = first-0 (one_positive (cross_from α π X Y)) (one_negative (cross_from α π X Y)) ∙ positive_sum (cross_from α π X Y) (λ z. nz1 α π X Y b d z (h z))
core_a false true false true false bxa pxa α π X Y a b c d e f g h = mid_0 (one_positive (cross_from α π X Y)) (one_negative (cross_from α π X Y)) ∙ positive_sum (cross_from α π X Y) (λ z. nz1 α π X Y b d z (h z))
core_a false true false false true bxa true α π X Y a b c d e f g h = ap (λ t. pos 0 +ℤ t +ℤ pos 1) (one_positive-0 (cross_from α π X Y) (c2 α π X Y (≤ℤ-antisym c d) g b))
core_a false true false false true bxa false α π X Y a b c d e f g h = first-0 (one_positive (cross_from α π X Y)) (one_negative (cross_from α π X Y)) ∙ positive_sum (cross_from α π X Y) (λ z. nz2 α π X Y (≤ℤ-antisym c d) b g z (h z))
core_a false true false false false bxa pxa α π X Y a b c d e f g h = clash3 (pos 0) π α d e b
core_a false false true true k bxa pxa α π X Y a b c d e f g h = clash_ℤ c (<ℤ-≤ℤ d)
core_a false false true false true true pxa α π X Y a b c d e f g h = mid_0 (minus_negative (cross_from α π X Y)) (one_negative (cross_from α π X Y)) ∙ negative_sum (cross_from α π X Y)
core_a false false true false true false pxa α π X Y a b c d e f g h = ap (λ t. t +ℤ pos 0 +ℤ pos 1) (minus_negative-0 (cross_from α π X Y) (c3 α π X Y (≤ℤ-antisym a b) c f))
core_a false false true false false bxa pxa α π X Y a b c d e f g h = clash3 π α (pos 0) e a c
core_a false false false true true bxa pxa α π X Y a b c d e f g h = clash3 (pos 0) α π b (<ℤ-≤ℤ e) d
core_a false false false true false true pxa α π X Y a b c d e f g h = refl
core_a false false false true false false pxa α π X Y a b c d e f g h = +ℤ_idl (one_negative (cross_from α π X Y)) ∙ one_negative-1 (cross_from α π X Y) (c4 α π X Y (≤ℤ-antisym a b) d f h)
core_a false false false false true bxa pxa α π X Y a b c d e f g h = clash3 π (pos 0) α c b e
core_a false false false false false true true α π X Y a b c d e f g h = absurd (d2 α π X Y (≤ℤ-antisym a b) f g (h (cz2 α π X Y (≤ℤ-antisym a b) (≤ℤ-antisym c d))))
core_a false false false false false true false α π X Y a b c d e f g h = refl
core_a false false false false false false true α π X Y a b c d e f g h = refl
core_a false false false false false false false α π X Y a b c d e f g h = absurd (d3 α π X Y (≤ℤ-antisym a b) f g (h (cz2 α π X Y (≤ℤ-antisym a b) (≤ℤ-antisym c d))))

-- The cross is that of the differences.
pub cross-from : (p a b : Vertex) → cross p a b ≡ cross_from (b.y -ℤ a.y) (p.y -ℤ a.y) (b.x -ℤ a.x) (p.x -ℤ a.x)
unfolding cross
cross-from p a b = ring 6 (λ px py ax ay qx qy. cross_e px py ax ay qx qy ≈ (py ⊟ ay) ⊠ (qx ⊟ ax) ⊟ (px ⊟ ax) ⊠ (qy ⊟ ay)) tt p.x p.y a.x a.y b.x b.y

-- The cross from the next corner on.
cross-from' : (p a b : Vertex) → cross a b p ≡ cross_from (b.y -ℤ a.y) (p.y -ℤ a.y) (b.x -ℤ a.x) (p.x -ℤ a.x)
unfolding cross
cross-from' p a b = ring 6 (λ px py ax ay qx qy. cross_e ax ay qx qy px py ≈ (py ⊟ ay) ⊠ (qx ⊟ ax) ⊟ (px ⊟ ax) ⊠ (qy ⊟ ay)) tt p.x p.y a.x a.y b.x b.y

-- At the edge's first corner a, after p: the crossing of p a with the ray from b, the crossing back, and the cone.
pub corner-in : (p a b : Vertex) → ShareOnly p a b → crossed p a b +ℤ crossed_back a b p +ℤ cone p a b ≡ lower_half (upper_half a b)
unfolding crossed crossed_back cone upper_half along_edge
corner-in p a b h = ap₂ (λ s t. edge_crossing (above b p) (above b a) s +ℤ edge_crossing (above a p) (above b p) t +ℤ cone_by (upper_half a b) (upper_half a p) s) (cross-from p a b) (cross-from' p a b)
    ∙ core_a (lt_z a.y b.y) (lt_z b.y a.y) (lt_z a.y p.y) (lt_z p.y a.y) (lt_z b.y p.y) (lt_z b.x a.x) (lt_z p.x a.x)
    (b.y -ℤ a.y) (p.y -ℤ a.y) (b.x -ℤ a.x) (p.x -ℤ a.x)
    (positive_is a.y b.y) (negative_is b.y a.y) (positive_is a.y p.y) (negative_is p.y a.y) (less_shifted a.y b.y p.y) (negative_is b.x a.x) (negative_is p.x a.x)
    (λ z. h.apart (cross-from p a b ∙ z))

-- ---- the other way round
lt_both : (C : ℤ) → NotZero C → one_negative C +ℤ one_negative (neg_ℤ C) ≡ pos 1
lt_both (pos zero) h = absurd (h refl)
lt_both (pos (suc n)) h = refl
lt_both (negsuc n) h = refl

-- Further cases in which the cross is not 0.
nz3 : (α π X Y : ℤ) → pos 0 ≺ α → pos 0 ≺ π → cross_from α π X Y ≡ pos 0 → dot_from α π X Y ≺ pos 0 → ⊥
nz3 = order 4 (λ α π X Y. (# (pos 0) ⋖ α) ∷ (# (pos 0) ⋖ π) ∷ (π ⊠ X ⊟ Y ⊠ α ≈ # (pos 0)) ∷ (Y ⊠ X ⊞ π ⊠ α ⋖ # (pos 0)) ∷ [] ⊢ never
    by hyp 3 ⊗ (hyp 0 ⊕ num 1) ⊗ (hyp 1 ⊕ num 1) ⊕ hyp 0 ⊗ hyp 1 ⊕ hyp 0 ⊕ hyp 1 ⊕ sqr (Y ⊠ α) ⊕ sqr (π ⊠ α) ⊕ times 2 (⊖ (Y ⊠ α))) tt

nz4 : (α π X Y : ℤ) → π ≡ pos 0 → Y ≺ pos 0 → pos 0 ≺ α → cross_from α π X Y ≡ pos 0 → ⊥
nz4 = order 4 (λ α π X Y. (π ≈ # (pos 0)) ∷ (Y ⋖ # (pos 0)) ∷ (# (pos 0) ⋖ α) ∷ (π ⊠ X ⊟ Y ⊠ α ≈ # (pos 0)) ∷ [] ⊢ never by hyp 1 ⊗ hyp 2 ⊕ hyp 1 ⊕ hyp 2 ⊕ times 3 (# (pos 1)) ⊕ times 0 (⊖ X)) tt

nz5 : (α π X Y : ℤ) → α ≡ pos 0 → X ≺ pos 0 → pos 0 ≺ π → cross_from α π X Y ≡ pos 0 → ⊥
nz5 = order 4 (λ α π X Y. (α ≈ # (pos 0)) ∷ (X ⋖ # (pos 0)) ∷ (# (pos 0) ⋖ π) ∷ (π ⊠ X ⊟ Y ⊠ α ≈ # (pos 0)) ∷ [] ⊢ never by hyp 1 ⊗ hyp 2 ⊕ hyp 1 ⊕ hyp 2 ⊕ times 3 (# (negsuc 0)) ⊕ times 0 (⊖ Y)) tt

-- The second statement, in tests and numbers.
abbrev StC : Bool → Bool → ℤ → Type 0
StC u w C = cone_by u w C +ℤ cone_by w u (neg_ℤ C) ≡ pos 1

-- All cases of the second statement.
core_c : (ab ba ap pa bxa pxa : Bool) (α π X Y : ℤ) → Positive ab α → Negative ba α → Positive ap π → Negative pa π → Negative bxa X → Negative pxa Y → (cross_from α π X Y ≡ pos 0 → dot_from α π X Y ≺ pos 0) → StC (upper_by ab ba bxa) (upper_by ap pa pxa) (cross_from α π X Y)
core_c true true ap pa bxa pxa α π X Y a b c d f g h = clash_ℤ a (<ℤ-≤ℤ b)
core_c true false true pa bxa pxa α π X Y a b c d f g h = lt_both (cross_from α π X Y) (λ z. nz3 α π X Y a c z (h z))
core_c true false false true bxa pxa α π X Y a b c d f g h = refl
core_c true false false false bxa true α π X Y a b c d f g h = lt_both (cross_from α π X Y) (λ z. nz4 α π X Y (≤ℤ-antisym c d) g a z)
core_c true false false false bxa false α π X Y a b c d f g h = refl
core_c false true true pa bxa pxa α π X Y a b c d f g h = refl
core_c false true false true bxa pxa α π X Y a b c d f g h = lt_both (cross_from α π X Y) (λ z. nz1 α π X Y b d z (h z))
core_c false true false false bxa true α π X Y a b c d f g h = refl
core_c false true false false bxa false α π X Y a b c d f g h = lt_both (cross_from α π X Y) (λ z. nz2 α π X Y (≤ℤ-antisym c d) b g z (h z))
core_c false false true pa true pxa α π X Y a b c d f g h = lt_both (cross_from α π X Y) (λ z. nz5 α π X Y (≤ℤ-antisym a b) f c z)
core_c false false true pa false pxa α π X Y a b c d f g h = refl
core_c false false false true true pxa α π X Y a b c d f g h = refl
core_c false false false true false pxa α π X Y a b c d f g h = lt_both (cross_from α π X Y) (λ z. clash_ℤ (c4 α π X Y (≤ℤ-antisym a b) d f h) (subst (λ t. pos 0 ≼ t) (sym z) (nonneg_pos _)))
core_c false false false false true true α π X Y a b c d f g h = absurd (d2 α π X Y (≤ℤ-antisym a b) f g (h (cz2 α π X Y (≤ℤ-antisym a b) (≤ℤ-antisym c d))))
core_c false false false false true false α π X Y a b c d f g h = refl
core_c false false false false false true α π X Y a b c d f g h = refl
core_c false false false false false false α π X Y a b c d f g h = absurd (d3 α π X Y (≤ℤ-antisym a b) f g (h (cz2 α π X Y (≤ℤ-antisym a b) (≤ℤ-antisym c d))))

-- The cross of three points read back.
turned-back : (p a b : Vertex) → cross b a p ≡ neg_ℤ (cross p a b)
turned-back p a b = cross-anti a b p ∙ ap neg_ℤ (sym (cross-rot p a b))

-- The cone and the cone of the other side are 1 together.
pub both_ways : (p a b : Vertex) → ShareOnly p a b → cone p a b +ℤ cone b a p ≡ pos 1
unfolding cone upper_half along_edge
both_ways p a b h = ap (λ t. cone_by (upper_half a b) (upper_half a p) (cross p a b) +ℤ cone_by (upper_half a p) (upper_half a b) t) (turned-back p a b)
    ∙ ap (λ t. cone_by (upper_half a b) (upper_half a p) t +ℤ cone_by (upper_half a p) (upper_half a b) (neg_ℤ t)) (cross-from p a b)
    ∙ core_c (lt_z a.y b.y) (lt_z b.y a.y) (lt_z a.y p.y) (lt_z p.y a.y) (lt_z b.x a.x) (lt_z p.x a.x)
    (b.y -ℤ a.y) (p.y -ℤ a.y) (b.x -ℤ a.x) (p.x -ℤ a.x)
    (positive_is a.y b.y) (negative_is b.y a.y) (positive_is a.y p.y) (negative_is p.y a.y) (negative_is b.x a.x) (negative_is p.x a.x)
    (λ z. h.apart (cross-from p a b ∙ z))

-- Of two points that differ, each lies in the other half plane of the other.
core_d : (ab ba bxa axb : Bool) (α X : ℤ) → Positive ab α → Negative ba α → Negative bxa X → Positive axb X → (α ≡ pos 0 → X ≡ pos 0 → ⊥) → lower_half (upper_by ab ba bxa) +ℤ lower_half (upper_by ba ab axb) ≡ pos 1
core_d true true bxa axb α X a b c d h = clash_ℤ a (<ℤ-≤ℤ b)
core_d true false bxa axb α X a b c d h = refl
core_d false true bxa axb α X a b c d h = refl
core_d false false true true α X a b c d h = clash_ℤ d (<ℤ-≤ℤ c)
core_d false false true false α X a b c d h = refl
core_d false false false true α X a b c d h = refl
core_d false false false false α X a b c d h = absurd (h (≤ℤ-antisym a b) (≤ℤ-antisym d c))

-- An edge goes up one way and down the other.
pub up-down : (p a b : Vertex) → ShareOnly p a b → lower_half (upper_half a b) +ℤ lower_half (upper_half b a) ≡ pos 1
unfolding upper_half along_edge
up-down p a b h = core_d (lt_z a.y b.y) (lt_z b.y a.y) (lt_z b.x a.x) (lt_z a.x b.x) (b.y -ℤ a.y) (b.x -ℤ a.x)
    (positive_is a.y b.y) (negative_is b.y a.y) (negative_is b.x a.x) (positive_is a.x b.x)
    (λ i j. d1 (b.y -ℤ a.y) (p.y -ℤ a.y) (b.x -ℤ a.x) (p.x -ℤ a.x) i j (h.apart (cross-from p a b ∙ cz (b.y -ℤ a.y) (p.y -ℤ a.y) (b.x -ℤ a.x) (p.x -ℤ a.x) i j)))

-- The other way along an edge, the crossing back changes its sign.
pub crossed_back-anti : (a b p : Vertex) → crossed_back b a p ≡ neg_ℤ (crossed_back a b p)
unfolding crossed_back
crossed_back-anti a b p = ap (λ t. edge_crossing (above b p) (above a p) t) (cross-anti a b p) ∙ edge_crossing-anti (above a p) (above b p) (cross a b p)

-- The inner product in either order.
dot_sym : (p a b : Vertex) → dot b a p ≡ dot p a b
dot_sym p a b = ring 6 (λ px py ax ay qx qy. (qx ⊟ ax) ⊠ (px ⊟ ax) ⊞ (qy ⊟ ay) ⊠ (py ⊟ ay) ≈ (px ⊟ ax) ⊠ (qx ⊟ ax) ⊞ (py ⊟ ay) ⊠ (qy ⊟ ay)) tt p.x p.y a.x a.y b.x b.y

-- Neighbours share their corner alone, in either order.
pub share_sym : {p a b : Vertex} → ShareOnly p a b → ShareOnly b a p
unfolding along_edge
share_sym {p} {a} {b} h = record { apart = λ z. subst (λ t. t ≺ pos 0) (sym (dot_sym p a b)) (h.apart (neg_zero (cross b a p) (cross p a b) (turned-back b a p) z)) }

-- At the edge's last corner b, before q: the same.
pub corner-out : (a b q : Vertex) → ShareOnly a b q → crossed b q a +ℤ crossed_back a b q +ℤ cone a b q ≡ lower_half (upper_half a b)
corner-out a b q h = fin (crossed b q a) (crossed_back a b q) (cone a b q) (lower_half (upper_half a b)) (crossed q b a) (crossed_back b a q) (cone q b a) (lower_half (upper_half b a))
    (crossed-anti b q a) (crossed_back-anti a b q) (both_ways a b q h) (up-down q b a (share_sym h)) (corner-in q b a (share_sym h))
  where
    fin : (A B C D A' B' C' D' : ℤ) → A' ≡ neg_ℤ A → B' ≡ neg_ℤ B → C +ℤ C' ≡ pos 1 → D' +ℤ D ≡ pos 1 → A' +ℤ B' +ℤ C' ≡ D' → A +ℤ B +ℤ C ≡ D
    fin = order 8 (λ A B C D A' B' C' D'. (A' ≈ ⊖ A) ∷ (B' ≈ ⊖ B) ∷ (C ⊞ C' ≈ # (pos 1)) ∷ (D' ⊞ D ≈ # (pos 1)) ∷ (A' ⊞ B' ⊞ C' ≈ D') ∷ [] ⊢ A ⊞ B ⊞ C ≈ D
        by times 0 (# (pos 1)) ⊕ times 1 (# (pos 1)) ⊕ times 2 (# (pos 1)) ⊕ times 3 (# (negsuc 0)) ⊕ times 4 (# (negsuc 0))) tt
