-- An order of two integers is a sign of their difference: a ≤ b exactly if 0 ≤ b − a, and a < b exactly if 0 ≤ b − a − 1.
-- And what is not negative stays so under sums and products. Assumes nothing.
use mathlib.Core.Path.{◌≡◌, refl, sym, ◌∙◌, ap, subst}
use Prim.Native.Nat.{ℕ, zero, suc, ◌+◌, ◌*◌}
use lib.Dec.{T, leb-zero, leb-suc-zero, leb-suc-suc}
use lib.IntN.{ℤ, pos, negsuc, suc_ℤ, pred_ℤ, ◌+ℤ◌, ◌-ℤ◌, ◌*ℤ◌, suc-pred, suc_ℤ-+ℤ, pred_ℤ-+ℤ, +ℤ_idl, +ℤ_idr, +ℤ_one}
use lib.Signed.{le_z, lt_z, ◌≤ℤ◌, ◌<ℤ◌}
use Rattle.integers.proofs.Ring.{ind}
use Rattle.integers.proofs.Solver.{ring, ◌⊞◌, ◌⊟◌, ◌≈◌, #}

-- the test does not change when both numbers grow by one
le_z_suc : (a b : ℤ) → le_z (suc_ℤ a) (suc_ℤ b) ≡ le_z a b
le_z_suc (pos a) (pos b) = leb-suc-suc a b
le_z_suc (pos a) (negsuc zero) = leb-suc-zero a
le_z_suc (pos a) (negsuc (suc b)) = refl
le_z_suc (negsuc zero) (pos b) = leb-zero (suc b)
le_z_suc (negsuc zero) (negsuc zero) = refl
le_z_suc (negsuc zero) (negsuc (suc b)) = sym (leb-suc-zero b)
le_z_suc (negsuc (suc a)) (pos b) = refl
le_z_suc (negsuc (suc a)) (negsuc zero) = sym (leb-zero (suc a))
le_z_suc (negsuc (suc a)) (negsuc (suc b)) = sym (leb-suc-suc b a)

-- nor when both fall by one
le_z_pred : (a b : ℤ) → le_z (pred_ℤ a) (pred_ℤ b) ≡ le_z a b
le_z_pred a b =
    sym (le_z_suc (pred_ℤ a) (pred_ℤ b)) ∙ ap (λ s. le_z s (suc_ℤ (pred_ℤ b))) (suc-pred a) ∙ ap (λ s. le_z a s) (suc-pred b)

-- nor when both grow by c
le_z_shift : (c a b : ℤ) → le_z (c +ℤ a) (c +ℤ b) ≡ le_z a b
le_z_shift c a b = ind (λ c. le_z (c +ℤ a) (c +ℤ b) ≡ le_z a b) base up down c
  where
    base : le_z (pos 0 +ℤ a) (pos 0 +ℤ b) ≡ le_z a b
    base = ap (λ s. le_z s (pos 0 +ℤ b)) (+ℤ_idl a) ∙ ap (λ s. le_z a s) (+ℤ_idl b)

    up : (k : ℤ) → le_z (k +ℤ a) (k +ℤ b) ≡ le_z a b → le_z (suc_ℤ k +ℤ a) (suc_ℤ k +ℤ b) ≡ le_z a b
    up k h =
        ap (λ s. le_z s (suc_ℤ k +ℤ b)) (suc_ℤ-+ℤ k a) ∙ ap (λ s. le_z (suc_ℤ (k +ℤ a)) s) (suc_ℤ-+ℤ k b) ∙ le_z_suc (k +ℤ a) (k +ℤ b) ∙ h

    down : (k : ℤ) → le_z (k +ℤ a) (k +ℤ b) ≡ le_z a b → le_z (pred_ℤ k +ℤ a) (pred_ℤ k +ℤ b) ≡ le_z a b
    down k h =
        ap (λ s. le_z s (pred_ℤ k +ℤ b)) (pred_ℤ-+ℤ k a) ∙ ap (λ s. le_z (pred_ℤ (k +ℤ a)) s) (pred_ℤ-+ℤ k b) ∙ le_z_pred (k +ℤ a) (k +ℤ b) ∙ h

-- the test of a ≤ b is that of 0 ≤ b − a
le_z_slack : (a b : ℤ) → le_z (pos 0) (b -ℤ a) ≡ le_z a b
le_z_slack a b =
    sym (le_z_shift a (pos 0) (b -ℤ a)) ∙ ap (λ s. le_z s (a +ℤ (b -ℤ a))) (+ℤ_idr a)
    ∙ ap (λ s. le_z a s) (ring 2 (λ a b. a ⊞ (b ⊟ a) ≈ b) tt a b)

-- less is: one more is at most
lt_z_le_z : (a b : ℤ) → lt_z a b ≡ le_z (suc_ℤ a) b
lt_z_le_z (pos a) (pos b) = refl
lt_z_le_z (pos a) (negsuc b) = refl
lt_z_le_z (negsuc zero) (pos b) = sym (leb-zero b)
lt_z_le_z (negsuc (suc a)) (pos b) = refl
lt_z_le_z (negsuc zero) (negsuc b) = leb-suc-zero b
lt_z_le_z (negsuc (suc a)) (negsuc b) = leb-suc-suc b a

-- the test of a < b is that of 0 ≤ b − a − 1
lt_z_slack : (a b : ℤ) → le_z (pos 0) (b -ℤ a -ℤ pos 1) ≡ lt_z a b
lt_z_slack a b =
    ap (λ s. le_z (pos 0) s) (ring 2 (λ a b. b ⊟ a ⊟ # (pos 1) ≈ b ⊟ (a ⊞ # (pos 1))) tt a b)
    ∙ le_z_slack (a +ℤ pos 1) b ∙ ap (λ s. le_z s b) (+ℤ_one a) ∙ sym (lt_z_le_z a b)

-- a ≤ b gives 0 ≤ b − a
pub le_slack : {a b : ℤ} → a ≤ℤ b → pos 0 ≤ℤ (b -ℤ a)
le_slack {a} {b} h = record { le = subst T (sym (le_z_slack a b)) h.le }

-- and back
pub slack_le : (a b : ℤ) → pos 0 ≤ℤ (b -ℤ a) → a ≤ℤ b
slack_le a b h = record { le = subst T (le_z_slack a b) h.le }

-- a < b gives 0 ≤ b − a − 1
pub lt_slack : {a b : ℤ} → a <ℤ b → pos 0 ≤ℤ (b -ℤ a -ℤ pos 1)
lt_slack {a} {b} h = record { le = subst T (sym (lt_z_slack a b)) h.lt }

-- and back
pub slack_lt : (a b : ℤ) → pos 0 ≤ℤ (b -ℤ a -ℤ pos 1) → a <ℤ b
slack_lt a b h = record { lt = subst T (lt_z_slack a b) h.le }

-- a natural number is not negative
pub nonneg_pos : (n : ℕ) → pos 0 ≤ℤ pos n
nonneg_pos n = record { le = subst T (sym (leb-zero n)) tt }

-- a sum of two such is such
pub nonneg-+ℤ : (a b : ℤ) → pos 0 ≤ℤ a → pos 0 ≤ℤ b → pos 0 ≤ℤ (a +ℤ b)
nonneg-+ℤ (pos a) (pos b) h k = nonneg_pos (a + b)
nonneg-+ℤ (pos a) (negsuc b) h k = absurd k.le
nonneg-+ℤ (negsuc a) b h k = absurd h.le

-- so is a product
pub nonneg_*ℤ : (a b : ℤ) → pos 0 ≤ℤ a → pos 0 ≤ℤ b → pos 0 ≤ℤ (a *ℤ b)
nonneg_*ℤ (pos a) (pos b) h k = nonneg_pos (a * b)
nonneg_*ℤ (pos a) (negsuc b) h k = absurd k.le
nonneg_*ℤ (negsuc a) b h k = absurd h.le

-- a square is not negative
pub nonneg_square : (a : ℤ) → pos 0 ≤ℤ (a *ℤ a)
nonneg_square (pos a) = nonneg_pos (a * a)
nonneg_square (negsuc a) = nonneg_pos (suc a * suc a)
