-- Worked examples to copy from: an equation, inequalities, a contradiction, a goal for `omega`, sizes. Assumes nothing.
use mathlib.Core.Path.{◌≡◌}
use mathlib.Core.List.{[], ◌∷◌}
use Prim.Native.Nat.{◌≤◌}
use native.Mathlib.Omega.{arith}
use lib.ListN.{get_or}
use lib.IntN.{ℤ, pos, nat_abs, ◌+ℤ◌, ◌-ℤ◌, ◌*ℤ◌}
use lib.Signed.{◌≤ℤ◌, ◌<ℤ◌}
use mir.Syntax.{w16, w32, w64}
use mir.Val.{SFits}
use Rattle.integers.proofs.Solver.{Expr, ring, #, ◌⊞◌, ◌⊟◌, ◌⊠◌, ◌≈◌, ◌≲◌, ◌≺◌, never}
use Rattle.integers.proofs.Certificates.{order, ◌⊢◌by◌, hyp, sqr, times, ◌⊕◌, ◌⊗◌}
use Rattle.integers.proofs.Linear.{linear, ◌⊩◌, integers, parts-+ℤ}
use Rattle.integers.proofs.Sizes.{sized, sizes, bounded}

-- ---- equations

-- Lagrange's identity: the squares of cross and dot product sum to the product of the squared lengths
pub lagrange : (a b c d : ℤ) → (a *ℤ d -ℤ b *ℤ c) *ℤ (a *ℤ d -ℤ b *ℤ c) +ℤ (a *ℤ c +ℤ b *ℤ d) *ℤ (a *ℤ c +ℤ b *ℤ d) ≡ (a *ℤ a +ℤ b *ℤ b) *ℤ (c *ℤ c +ℤ d *ℤ d)
lagrange =
    ring 4 (λ a b c d. (a ⊠ d ⊟ b ⊠ c) ⊠ (a ⊠ d ⊟ b ⊠ c) ⊞ (a ⊠ c ⊞ b ⊠ d) ⊠ (a ⊠ c ⊞ b ⊠ d) ≈ (a ⊠ a ⊞ b ⊠ b) ⊠ (c ⊠ c ⊞ d ⊠ d)) tt

-- twice the signed area of the triangle p, q, r, by the points' coordinates
abbrev pub area : ℤ → ℤ → ℤ → ℤ → ℤ → ℤ → ℤ
area px py qx qy rx ry = (qx -ℤ px) *ℤ (ry -ℤ py) -ℤ (qy -ℤ py) *ℤ (rx -ℤ px)

-- the same as an expression: a definition that is cited often has such a twin
abbrev area_e : Expr → Expr → Expr → Expr → Expr → Expr → Expr
area_e px py qx qy rx ry = (qx ⊟ px) ⊠ (ry ⊟ py) ⊟ (qy ⊟ py) ⊠ (rx ⊟ px)

-- a triangle is the sum of the three that a point s makes with its sides
pub area_split : (px py qx qy rx ry sx sy : ℤ) → area px py qx qy rx ry ≡ area px py qx qy sx sy +ℤ area qx qy rx ry sx sy +ℤ area rx ry px py sx sy
area_split =
    ring 8 (λ px py qx qy rx ry sx sy. area_e px py qx qy rx ry ≈ area_e px py qx qy sx sy ⊞ area_e qx qy rx ry sx sy ⊞ area_e rx ry px py sx sy) tt

-- from equations: each is taken times a factor
pub by_equations : (a b c d : ℤ) → a ≡ b +ℤ c → b ≡ d *ℤ c → a ≡ (d +ℤ pos 1) *ℤ c
by_equations =
    order 4 (λ a b c d. (a ≈ b ⊞ c) ∷ (b ≈ d ⊠ c) ∷ [] ⊢ a ≈ (d ⊞ # (pos 1)) ⊠ c by times 0 (# (pos 1)) ⊕ times 1 (# (pos 1))) tt

-- ---- inequalities

-- Cauchy–Schwarz: what is left over is the square of the cross product
pub cauchy_schwarz : (a b c d : ℤ) → ((a *ℤ c +ℤ b *ℤ d) *ℤ (a *ℤ c +ℤ b *ℤ d)) ≤ℤ ((a *ℤ a +ℤ b *ℤ b) *ℤ (c *ℤ c +ℤ d *ℤ d))
cauchy_schwarz =
    order 4 (λ a b c d. [] ⊢ (a ⊠ c ⊞ b ⊠ d) ⊠ (a ⊠ c ⊞ b ⊠ d) ≲ (a ⊠ a ⊞ b ⊠ b) ⊠ (c ⊠ c ⊞ d ⊠ d) by sqr (a ⊠ d ⊟ b ⊠ c)) tt

-- a positive factor keeps a strict order: a hypothesis x ≺ y counts as y − x − 1 ≥ 0, so the product of the two is not all
pub times-positive : (a b c : ℤ) → a <ℤ b → pos 0 <ℤ c → (a *ℤ c) <ℤ (b *ℤ c)
times-positive = order 3 (λ a b c. (a ≺ b) ∷ (# (pos 0) ≺ c) ∷ [] ⊢ a ⊠ c ≺ b ⊠ c by hyp 0 ⊗ hyp 1 ⊕ hyp 0 ⊕ hyp 1) tt

-- a contradiction: no integer lies between two neighbours
pub no_between : (x y : ℤ) → x <ℤ y → y <ℤ (x +ℤ pos 1) → ⊥
no_between = order 2 (λ x y. (x ≺ y) ∷ (y ≺ x ⊞ # (pos 1)) ∷ [] ⊢ never by hyp 0 ⊕ hyp 1) tt

-- ---- a linear goal through `omega`

-- the goal of the parts is `omega`'s; the hypotheses stay arguments
pub chain : (x y z : ℤ) → (x +ℤ pos 3) ≤ℤ y → y <ℤ z → (x +ℤ pos 4) ≤ℤ z
chain x y z = linear 3 (λ x y z. (x ⊞ # (pos 3) ≲ y) ∷ (y ≺ z) ∷ [] ⊩ x ⊞ # (pos 4) ≲ z) x y z (omega arith)

-- in place, from facts in reach: of a sum the relation of its parts is listed
pub chain-in_place : (x y z : ℤ) → x ≤ℤ y → y <ℤ z → (x +ℤ pos 1) ≤ℤ z
chain-in_place x y z h k = omega (integers, parts-+ℤ x (pos 1))

-- ---- sizes

-- operands of 16 bits, a result of 64
pub dot_fits : (a b c d : ℤ) → SFits w16 a → SFits w16 b → SFits w16 c → SFits w16 d → SFits w64 (a *ℤ c +ℤ b *ℤ d)
dot_fits = sized w16 w64 4 (λ a b c d. a ⊠ c ⊞ b ⊠ d) tt

-- operands of several widths: variable i has the width at place i
pub mixed_fits : (a b : ℤ) → SFits w32 a → SFits w16 b → SFits w64 (a *ℤ b -ℤ a)
mixed_fits = sizes (λ i. get_or (w32 ∷ w16 ∷ []) i w16) w64 2 (λ a b. a ⊠ b ⊟ a) tt

-- operands with bounds of their own
pub small-square : (x y : ℤ) → nat_abs x ≤ 1000 → nat_abs y ≤ 20 → nat_abs ((x -ℤ y) *ℤ (x -ℤ y)) ≤ 1040400
small-square = bounded (1000 ∷ 20 ∷ []) 2 (λ x y. (x ⊟ y) ⊠ (x ⊟ y))
