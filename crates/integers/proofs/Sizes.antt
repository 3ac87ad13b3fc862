-- Sizes of expressions: from bounds of the operands, a bound of the result, computed.
-- `sized w16 w64 4 (λ a b c d. a ⊠ b ⊞ c ⊠ d) tt` proves (a b c d : ℤ) → SFits w16 a → SFits w16 b → SFits w16 c → SFits w16 d → SFits w64 (a *ℤ b +ℤ c *ℤ d).
-- Assumes nothing.
use mathlib.Core.List.{List, [], ◌∷◌}
use Prim.Native.Nat.{ℕ, zero, suc, ◌+◌, ◌*◌, ◌^◌, ◌≤◌, ◌<◌, zero-le}
use native.Mathlib.Nat.{le_refl, le_trans, le_of_eq, lt_trans, lt-suc_self, lt_of_le_of_lt, add-le-add, mul-le-mul}
use lib.Dec.{T, ltb, ltb→lt, lit<}
use lib.ListN.{get_or}
use lib.IntN.{ℤ, pos, negsuc, neg_ℤ, nat_abs}
use lib.Signed.{nat_abs-le, ◌≤ℤ◌, ◌<ℤ◌}
use mir.Syntax.{Width, w64}
use mir.Val.{SFits, hbits}
use Rattle.integers.proofs.Solver.{Expr, v, #, ◌⊞◌, ◌⊠◌, ⊖◌, Env, lookup, eval, ◌≲◌, Fun, from, All, all_of}
use Rattle.integers.proofs.Slack.{nonneg_pos}
use Rattle.integers.proofs.Certificates.{order, ◌⊢◌by◌, hyp, ◌⊕◌}
use Rattle.integers.proofs.Order.{pos-≤ℤ, ≤ℤ-pos, pos_<ℤ, <ℤ-pos, negℤ_mono}
use Rattle.integers.proofs.Absolute.{nat_abs-+ℤ, nat_abs-negℤ, nat_abs-*ℤ}

-- ---- absolute values

-- a bound of an expression's absolute value; B bounds the variables, by their numbers
abbrev pub bound : (ℕ → ℕ) → Expr → ℕ
bound B (v i) = B i
bound B (# z) = nat_abs z
bound B (a ⊞ b) = bound B a + bound B b
bound B (a ⊠ b) = bound B a * bound B b
bound B (⊖ a) = bound B a

module _ (n : ℕ) (ρ : Env n) (B : ℕ → ℕ) (h : (i : ℕ) → nat_abs (lookup n ρ i) ≤ B i) where
  -- the computed bound bounds the expression's value
  bound-is : (e : Expr) → nat_abs (eval n ρ e) ≤ bound B e
  bound-is (v i) = h i
  bound-is (# z) = le_refl (nat_abs z)
  bound-is (a ⊞ b) = le_trans (nat_abs-+ℤ (eval n ρ a) (eval n ρ b)) (add-le-add (bound-is a) (bound-is b))
  bound-is (a ⊠ b) = le_trans (le_of_eq (nat_abs-*ℤ (eval n ρ a) (eval n ρ b))) (mul-le-mul (bound-is a) (bound-is b))
  bound-is (⊖ a) = le_trans (le_of_eq (nat_abs-negℤ (eval n ρ a))) (bound-is a)

-- each of n variables satisfies P of its number: the arguments before X
abbrev pub Given : (ℕ → ℤ → Type 0) → (n : ℕ) → Env n → Type 0 → Type 0
Given P zero ρ X = X
Given P (suc n) ρ X = P 0 ρ.0 → Given (λ i. P (suc i)) n ρ.1 X

-- a bound of the first variable, and bounds of the others
extend : (n : ℕ) (ρ : Env (suc n)) (B : ℕ → ℕ) → nat_abs ρ.0 ≤ B 0 → ((i : ℕ) → nat_abs (lookup n ρ.1 i) ≤ B (suc i)) → (i : ℕ) → nat_abs (lookup (suc n) ρ i) ≤ B i
extend n ρ B h k zero = h
extend n ρ B h k (suc i) = k i

-- where P bounds a variable by B, what follows from the bounds follows from P of each
given : (n : ℕ) (ρ : Env n) (P : ℕ → ℤ → Type 0) (B : ℕ → ℕ) → ((i : ℕ) (z : ℤ) → P i z → nat_abs z ≤ B i)
    → (X : Type 0) → (((i : ℕ) → nat_abs (lookup n ρ i) ≤ B i) → X) → Given P n ρ X
given zero ρ P B g X f = f (λ i. zero-le)
given (suc n) ρ P B g X f =
    λ p. given n ρ.1 (λ i. P (suc i)) (λ i. B (suc i)) (λ i. g (suc i)) X (λ h. f (extend n ρ B (g 0 ρ.0 p) h))

-- from |x| ≤ b of each variable, a bound of the expression's absolute value
pub bounded : (bs : List ℕ) (n : ℕ) (f : Fun n Expr)
    → All n (λ ρ. Given (λ i z. nat_abs z ≤ get_or bs i 0) n ρ (nat_abs (eval n ρ (from n 0 f)) ≤ bound (λ i. get_or bs i 0) (from n 0 f)))
bounded bs n f =
    all_of n _ (λ ρ. given n ρ (λ i z. nat_abs z ≤ get_or bs i 0) (λ i. get_or bs i 0) (λ i z h. h) _ (λ h. bound-is n ρ (λ i. get_or bs i 0) h (from n 0 f)))

-- ---- widths

-- z fits a signed width if |z| is below half its range
pub fits_nat_abs : (w : Width) (z : ℤ) → nat_abs z < 2 ^ hbits w → SFits w z
fits_nat_abs w (pos n) h = record { sfits = h }
fits_nat_abs w (negsuc n) h = record { sfits = lt_trans (lt-suc_self n) h }

-- a number of w bits is at most half the width's range
pub size_of : (w : Width) (z : ℤ) → SFits w z → nat_abs z ≤ 2 ^ hbits w
size_of w z h = nat_abs-le z h.sfits

-- what is at most 2 ^ 62 fits 64 bits
pub fits-64 : (z : ℤ) → nat_abs z ≤ 2 ^ 62 → SFits w64 z
fits-64 z h = fits_nat_abs w64 z (lt_of_le_of_lt h (lit< tt))

-- the width of each variable is W of its number
pub sizes : (W : ℕ → Width) (w : Width) (n : ℕ) (f : Fun n Expr) → T (ltb (bound (λ i. 2 ^ hbits (W i)) (from n 0 f)) (2 ^ hbits w))
    → All n (λ ρ. Given (λ i. SFits (W i)) n ρ (SFits w (eval n ρ (from n 0 f))))
sizes W w n f t =
    all_of n _ (λ ρ. given n ρ (λ i. SFits (W i)) (λ i. 2 ^ hbits (W i)) (λ i z h. nat_abs-le z h.sfits) _
    (λ h. fits_nat_abs w (eval n ρ (from n 0 f))
    (lt_of_le_of_lt (bound-is n ρ (λ i. 2 ^ hbits (W i)) h (from n 0 f)) (ltb→lt (bound (λ i. 2 ^ hbits (W i)) (from n 0 f)) (2 ^ hbits w) t))))

-- operands that all fit the width w, so an expression that fits w': the test computes, `tt`
pub sized : (w w' : Width) (n : ℕ) (f : Fun n Expr) → T (ltb (bound (λ i. 2 ^ hbits w) (from n 0 f)) (2 ^ hbits w'))
    → All n (λ ρ. Given (λ i. SFits w) n ρ (SFits w' (eval n ρ (from n 0 f))))
sized w w' n f t = sizes (λ i. w) w' n f t

-- ---- a width is a range

-- what fits is below half of the range
pub fits-upper : (w : Width) (z : ℤ) → SFits w z → z <ℤ pos (2 ^ hbits w)
fits-upper w (pos n) h = pos_<ℤ h.sfits
fits-upper w (negsuc n) h = record { lt = tt }

-- and not below minus that
pub fits-lower : (w : Width) (z : ℤ) → SFits w z → neg_ℤ (pos (2 ^ hbits w)) ≤ℤ z
fits-lower w (pos n) h =
    order 2 (λ m n. (# (pos 0) ≲ m) ∷ (# (pos 0) ≲ n) ∷ [] ⊢ ⊖ m ≲ n by hyp 0 ⊕ hyp 1) tt (pos (2 ^ hbits w)) (pos n) (nonneg_pos (2 ^ hbits w)) (nonneg_pos n)
fits-lower w (negsuc n) h = negℤ_mono (pos-≤ℤ h.sfits)

-- and what lies between the two fits
pub fits-between : (w : Width) (z : ℤ) → neg_ℤ (pos (2 ^ hbits w)) ≤ℤ z → z <ℤ pos (2 ^ hbits w) → SFits w z
fits-between w (pos n) h k = record { sfits = <ℤ-pos k }
fits-between w (negsuc n) h k =
    record { sfits = ≤ℤ-pos (order 2 (λ m n. (⊖ m ≲ ⊖ n) ∷ [] ⊢ n ≲ m by hyp 0) tt (pos (2 ^ hbits w)) (pos (suc n)) h) }
