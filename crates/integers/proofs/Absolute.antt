-- The absolute value: |z| is z or −z, and the triangle inequality; in ℕ by `nat_abs`, in ℤ by `abs_z`. Assumes nothing.
use mathlib.Core.Path.{◌≡◌, refl, ap, subst}
use mathlib.Core.List.{[], ◌∷◌}
use mathlib.Core.Bool.{Bool, true, false, not, cond}
use mathlib.Core.Logic.{◌⊎◌, inl, inr}
use Prim.Native.Nat.{ℕ, zero, suc, ◌+◌, ◌-◌, ◌*◌, ◌≤◌, ◌<◌}
use native.Mathlib.Nat.{le_refl}
use native.Mathlib.Omega.{arith}
use lib.Dec.{T, ltb, ltb→lt, nltb→le}
use lib.IntN.{ℤ, pos, negsuc, neg_ℤ, sub_ℕ, nat_abs, ◌+ℤ◌, ◌-ℤ◌, ◌*ℤ◌}
use lib.Signed.{◌≤ℤ◌, ◌<ℤ◌, ≤ℤ_refl}
use Rattle.integers.specs.Absolute.{abs_z}
use Rattle.integers.proofs.Solver.{#, ◌⊟◌, ⊖◌, ◌≲◌}
use Rattle.integers.proofs.Slack.{nonneg_pos}
use Rattle.integers.proofs.Certificates.{order, ◌⊢◌by◌, hyp, ◌⊕◌}
use Rattle.integers.proofs.Order.{pos-≤ℤ, ≤ℤ-pos, ≤ℤ-trans}

-- ---- in ℕ

-- a difference of two naturals is at most their sum
nat_abs-subℕ : (a b : ℕ) → nat_abs (sub_ℕ a b) ≤ a + b
nat_abs-subℕ a b = go (ltb a b) (ltb→lt a b) (nltb→le a b)
  where
    go : (t : Bool) → (T t → a < b) → (T (not t) → b ≤ a) → nat_abs (cond t (negsuc (b - suc a)) (pos (a - b))) ≤ a + b
    go true f g = let h = f tt in omega arith
    go false f g = let h = g tt in omega arith

-- |a + b| ≤ |a| + |b|
pub nat_abs-+ℤ : (a b : ℤ) → nat_abs (a +ℤ b) ≤ nat_abs a + nat_abs b
nat_abs-+ℤ (pos a) (pos b) = le_refl (a + b)
nat_abs-+ℤ (pos a) (negsuc b) = nat_abs-subℕ a (suc b)
nat_abs-+ℤ (negsuc a) (pos b) = let h = nat_abs-subℕ b (suc a) in omega arith
nat_abs-+ℤ (negsuc a) (negsuc b) = omega arith

-- |−a| = |a|
pub nat_abs-negℤ : (a : ℤ) → nat_abs (neg_ℤ a) ≡ nat_abs a
nat_abs-negℤ (pos zero) = refl
nat_abs-negℤ (pos (suc a)) = refl
nat_abs-negℤ (negsuc a) = refl

-- |a · b| = |a| · |b|
pub nat_abs-*ℤ : (a b : ℤ) → nat_abs (a *ℤ b) ≡ nat_abs a * nat_abs b
nat_abs-*ℤ (pos a) (pos b) = refl
nat_abs-*ℤ (pos a) (negsuc b) = nat_abs-negℤ (pos (a * suc b))
nat_abs-*ℤ (negsuc a) (pos b) = nat_abs-negℤ (pos (suc a * b))
nat_abs-*ℤ (negsuc a) (negsuc b) = refl

-- ---- in ℤ

-- z is not negative and |z| is z, or z is negative and |z| is −z
pub abs_z-cases : (z : ℤ) → ((pos 0 ≤ℤ z) × (abs_z z ≡ z)) ⊎ ((z <ℤ pos 0) × (abs_z z ≡ neg_ℤ z))
abs_z-cases (pos n) = inl (nonneg_pos n, refl)
abs_z-cases (negsuc n) = inr (record { lt = tt }, refl)

-- 0 ≤ |z|
pub abs_z-nonneg : (z : ℤ) → pos 0 ≤ℤ abs_z z
abs_z-nonneg z = nonneg_pos (nat_abs z)

-- |−z| = |z|
pub abs_z-negℤ : (z : ℤ) → abs_z (neg_ℤ z) ≡ abs_z z
abs_z-negℤ z = ap pos (nat_abs-negℤ z)

-- the triangle inequality
pub abs_z-+ℤ : (a b : ℤ) → abs_z (a +ℤ b) ≤ℤ (abs_z a +ℤ abs_z b)
abs_z-+ℤ a b = pos-≤ℤ (nat_abs-+ℤ a b)

-- |a · b| = |a| · |b|
pub abs_z-*ℤ : (a b : ℤ) → abs_z (a *ℤ b) ≡ abs_z a *ℤ abs_z b
abs_z-*ℤ a b = ap pos (nat_abs-*ℤ a b)

-- |z| is at least z and at least −z
pub abs_z-upper : (z : ℤ) → z ≤ℤ abs_z z
abs_z-upper (pos n) = ≤ℤ_refl (pos n)
abs_z-upper (negsuc n) = record { le = tt }

-- −z ≤ |z|
pub abs_z-upper_negℤ : (z : ℤ) → neg_ℤ z ≤ℤ abs_z z
abs_z-upper_negℤ z = subst (λ s. neg_ℤ z ≤ℤ s) (abs_z-negℤ z) (abs_z-upper (neg_ℤ z))

-- and the least such number
pub abs_z-least : (z c : ℤ) → z ≤ℤ c → neg_ℤ z ≤ℤ c → abs_z z ≤ℤ c
abs_z-least (pos n) c h k = h
abs_z-least (negsuc n) c h k = k

-- ---- a bound of |z| is a range of z

-- |z| ≤ n bounds z from above
pub nat_abs-upper : (z : ℤ) (n : ℕ) → nat_abs z ≤ n → z ≤ℤ pos n
nat_abs-upper z n h = ≤ℤ-trans (abs_z-upper z) (pos-≤ℤ h)

-- and from below
pub nat_abs-lower : (z : ℤ) (n : ℕ) → nat_abs z ≤ n → neg_ℤ (pos n) ≤ℤ z
nat_abs-lower z n h =
    order 3 (λ z n a. (⊖ z ≲ a) ∷ (a ≲ n) ∷ [] ⊢ ⊖ n ≲ z by hyp 0 ⊕ hyp 1) tt z (pos n) (abs_z z) (abs_z-upper_negℤ z) (pos-≤ℤ h)

-- and is what the two bounds say
pub nat_abs-between : (z : ℤ) (n : ℕ) → neg_ℤ (pos n) ≤ℤ z → z ≤ℤ pos n → nat_abs z ≤ n
nat_abs-between z n h k =
    ≤ℤ-pos (abs_z-least z (pos n) k (order 2 (λ z n. (⊖ n ≲ z) ∷ [] ⊢ ⊖ z ≲ n by hyp 0) tt z (pos n) h))

-- two numbers from 0 to n differ by at most n
pub nat_abs-less : (a b n : ℕ) → a ≤ n → b ≤ n → nat_abs (pos a -ℤ pos b) ≤ n
nat_abs-less a b n h k =
    nat_abs-between (pos a -ℤ pos b) n
    (order 3 (λ a b n. (# (pos 0) ≲ a) ∷ (b ≲ n) ∷ [] ⊢ ⊖ n ≲ a ⊟ b by hyp 0 ⊕ hyp 1) tt (pos a) (pos b) (pos n) (nonneg_pos a) (pos-≤ℤ k))
    (order 3 (λ a b n. (# (pos 0) ≲ b) ∷ (a ≲ n) ∷ [] ⊢ a ⊟ b ≲ n by hyp 0 ⊕ hyp 1) tt (pos a) (pos b) (pos n) (nonneg_pos b) (pos-≤ℤ h))
