-- Small facts of integers and of tests, and the solver of the crate `integers` under short names. The order is written as the geometry reads it, looser than sums.
use mathlib.Core.Bool.{Bool, true, false, ◌||◌, true≢false}
use mathlib.Core.List.{[], ◌∷◌}
use mathlib.Core.Logic.{◌⊎◌, inl, inr, ⊎_elim}
use mathlib.Core.Path.{◌≡◌, refl, sym}
use lib.IntN.{ℤ, pos, negsuc, neg_ℤ, ◌+ℤ◌, ◌-ℤ◌, ◌*ℤ◌}
use lib.Signed.{◌≤ℤ◌, ◌<ℤ◌}
pub use Rattle.integers.proofs.Certificates.{order, hyp, sqr, num, times, ◌⊕◌, ◌⊗◌, ◌⊢◌by◌}
use Rattle.integers.proofs.Order.{le_or_lt}
pub use Rattle.integers.proofs.Solver.{Expr, ring, #, ◌⊞◌, ◌⊟◌, ◌⊠◌, ⊖◌, ◌≲◌, ◌≺◌ as ◌⋖◌, ◌≈◌, never}
use Rattle.model.specs.Content.{Vertex}

infix 4 ◌≼◌ ◌≺◌
-- At most, binding looser than a sum.
abbrev pub ◌≼◌ : ℤ → ℤ → Type 0
a ≼ b = a ≤ℤ b

-- Less, binding looser than a sum.
abbrev pub ◌≺◌ : ℤ → ℤ → Type 0
a ≺ b = a <ℤ b

-- The inner product of the edges from a to p and from a to b: the model's `along_edge a p b`, written out for the solver.
abbrev pub dot : Vertex → Vertex → Vertex → ℤ
dot p a b = (p.x -ℤ a.x) *ℤ (b.x -ℤ a.x) +ℤ (p.y -ℤ a.y) *ℤ (b.y -ℤ a.y)

-- ---- small facts

-- A positive number, in two parts.
pub refilled : (N d : ℤ) → pos 0 ≺ N → pos 0 ≺ d +ℤ (N -ℤ d)
refilled = order 2 (λ N d. (# (pos 0) ⋖ N) ∷ [] ⊢ # (pos 0) ⋖ d ⊞ (N ⊟ d) by hyp 0) tt

-- Numbers that differ by 0 are equal.
pub minus_zero : (a b : ℤ) → a -ℤ b ≡ pos 0 → a ≡ b
minus_zero = order 2 (λ a b. (a ⊟ b ≈ # (pos 0)) ∷ [] ⊢ a ≈ b by times 0 (# (pos 1))) tt

-- A squared distance is the same from either end.
pub square-flip : (a b c d : ℤ) → (a -ℤ b) *ℤ (a -ℤ b) +ℤ (c -ℤ d) *ℤ (c -ℤ d) ≡ (b -ℤ a) *ℤ (b -ℤ a) +ℤ (d -ℤ c) *ℤ (d -ℤ c)
square-flip = ring 4 (λ a b c d. (a ⊟ b) ⊠ (a ⊟ b) ⊞ (c ⊟ d) ⊠ (c ⊟ d) ≈ (b ⊟ a) ⊠ (b ⊟ a) ⊞ (d ⊟ c) ⊠ (d ⊟ c)) tt

-- What is 0, negated, is 0.
pub neg_zero : (a b : ℤ) → b ≡ neg_ℤ a → a ≡ pos 0 → b ≡ pos 0
neg_zero = order 2 (λ a b. (b ≈ ⊖ a) ∷ (a ≈ # (pos 0)) ∷ [] ⊢ b ≈ # (pos 0) by times 0 (# (pos 1)) ⊕ times 1 (# (negsuc 0))) tt

-- Where two of three summands are more than the sum, the third is negative.
pub third_lt : (P Q R d : ℤ) → P +ℤ Q +ℤ R ≡ d → d ≺ Q +ℤ P → R ≺ pos 0
third_lt = order 4 (λ P Q R d. (P ⊞ Q ⊞ R ≈ d) ∷ (d ⋖ Q ⊞ P) ∷ [] ⊢ R ⋖ # (pos 0) by hyp 1 ⊕ times 0 (# (pos 1))) tt

-- The smaller less the larger is negative.
pub lt_minus : (a b : ℤ) → a ≺ b → a -ℤ b ≺ pos 0
lt_minus = order 2 (λ a b. (a ⋖ b) ∷ [] ⊢ a ⊟ b ⋖ # (pos 0) by hyp 0) tt

-- The larger less the smaller is positive.
pub minus_lt : (a b : ℤ) → a ≺ b → pos 0 ≺ b -ℤ a
minus_lt = order 2 (λ a b. (a ⋖ b) ∷ [] ⊢ # (pos 0) ⋖ b ⊟ a by hyp 0) tt

-- A summand is the sum less the other.
pub summand : (l d c : ℤ) → l ≡ d +ℤ c → c ≡ l -ℤ d
summand = order 3 (λ l d c. (l ≈ d ⊞ c) ∷ [] ⊢ c ≈ l ⊟ d by times 0 (# (negsuc 0))) tt

-- The smaller less the larger is not positive.
pub le_minus : (l d : ℤ) → l ≼ d → l -ℤ d ≼ pos 0
le_minus = order 2 (λ l d. (l ≲ d) ∷ [] ⊢ l ⊟ d ≲ # (pos 0) by hyp 0) tt

-- Positive numbers have a positive sum.
pub plus_lt : (a b : ℤ) → pos 0 ≺ a → pos 0 ≺ b → pos 0 ≺ a +ℤ b
plus_lt = order 2 (λ a b. (# (pos 0) ⋖ a) ∷ (# (pos 0) ⋖ b) ∷ [] ⊢ # (pos 0) ⋖ a ⊞ b by hyp 0 ⊕ hyp 1) tt

-- A negative number, negated, is positive.
pub neg_lt : (t : ℤ) → t ≺ pos 0 → pos 0 ≺ neg_ℤ t
neg_lt = order 1 (λ t. (t ⋖ # (pos 0)) ∷ [] ⊢ # (pos 0) ⋖ ⊖ t by hyp 0) tt

-- A product with 0 may be put in front.
pub zero_first : (m n d : ℤ) → n *ℤ d ≡ m *ℤ pos 0 +ℤ n *ℤ d
zero_first = ring 3 (λ m n d. n ⊠ d ≈ m ⊠ # (pos 0) ⊞ n ⊠ d) tt

-- What cannot be negative is not.
pub nonneg_by : (t : ℤ) → (t ≺ pos 0 → ⊥) → pos 0 ≼ t
nonneg_by t h = ⊎_elim (λ i. i) (λ i. absurd (h i)) (le_or_lt (pos 0) t)

-- What cannot be positive is not.
pub nonpos_by : (t : ℤ) → (pos 0 ≺ t → ⊥) → t ≼ pos 0
nonpos_by t h = ⊎_elim (λ i. i) (λ i. absurd (h i)) (le_or_lt t (pos 0))

-- What cannot be 0 or less is positive.
pub pos_by : (t : ℤ) → (t ≼ pos 0 → ⊥) → pos 0 ≺ t
pos_by t h = ⊎_elim (λ i. absurd (h i)) (λ i. i) (le_or_lt t (pos 0))

-- ---- tests

-- One of two tests holds, so that their disjunction does.
pub or_l : (a b : Bool) → a ≡ true → (a || b) ≡ true
or_l true b h = refl
or_l false b h = absurd (true≢false (sym h))

-- The other one holds.
pub or_r : (a b : Bool) → b ≡ true → (a || b) ≡ true
or_r true b h = refl
or_r false b h = h

-- Of a disjunction one test holds.
pub or_case : (a b : Bool) → (a || b) ≡ true → (a ≡ true) ⊎ (b ≡ true)
or_case true b e = inl refl
or_case false b e = inr e
