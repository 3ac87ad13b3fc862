-- ℤ is a commutative ring: the laws that the kit's `lib.IntN` does not state. Assumes nothing.
use mathlib.Core.Path.{◌≡◌, sym, ◌∙◌, ap}
use Prim.Native.Nat.{zero, suc}
use lib.IntN.{ℤ, pos, negsuc, suc_ℤ, pred_ℤ, neg_ℤ, ◌+ℤ◌, ◌-ℤ◌, ◌*ℤ◌, +ℤ_idl, +ℤ_comm, +ℤ_assoc, suc_ℤ-+ℤ, pred_ℤ-+ℤ, neg_ℤ-+ℤ, neg_ℤ-suc_ℤ, neg_ℤ-pred_ℤ, neg_ℤ-neg_ℤ, zero-*ℤ, *ℤ_comm, suc_ℤ-*ℤ, pred_ℤ-*ℤ}

-- induction: every integer is reached from 0 by adding and taking away one
pub ind {ℓ} : (P : ℤ → Type ℓ) → P (pos 0) → ((k : ℤ) → P k → P (suc_ℤ k)) → ((k : ℤ) → P k → P (pred_ℤ k)) → (k : ℤ) → P k
ind P z s p (pos zero) = z
ind P z s p (pos (suc n)) = s (pos n) (ind P z s p (pos n))
ind P z s p (negsuc zero) = p (pos zero) z
ind P z s p (negsuc (suc n)) = p (negsuc n) (ind P z s p (negsuc n))

-- the last two summands change places
pub swap_last : (a b c : ℤ) → a +ℤ b +ℤ c ≡ a +ℤ c +ℤ b
swap_last a b c = +ℤ_assoc a b c ∙ ap (λ x. a +ℤ x) (+ℤ_comm b c) ∙ sym (+ℤ_assoc a c b)

-- the middle two of four summands change places
pub swap_middle : (a b c d : ℤ) → (a +ℤ b) +ℤ (c +ℤ d) ≡ (a +ℤ c) +ℤ (b +ℤ d)
swap_middle a b c d =
    sym (+ℤ_assoc (a +ℤ b) c d) ∙ ap (λ x. x +ℤ d) (swap_last a b c) ∙ +ℤ_assoc (a +ℤ c) b d

-- (a + b) · c = a · c + b · c
pub +ℤ-*ℤ : (a b c : ℤ) → (a +ℤ b) *ℤ c ≡ a *ℤ c +ℤ b *ℤ c
+ℤ-*ℤ a b c = ind (λ a. (a +ℤ b) *ℤ c ≡ a *ℤ c +ℤ b *ℤ c) base up down a
  where
    base : (pos 0 +ℤ b) *ℤ c ≡ pos 0 *ℤ c +ℤ b *ℤ c
    base = ap (λ x. x *ℤ c) (+ℤ_idl b) ∙ sym (ap (λ x. x +ℤ b *ℤ c) (zero-*ℤ c) ∙ +ℤ_idl (b *ℤ c))

    up : (k : ℤ) → (k +ℤ b) *ℤ c ≡ k *ℤ c +ℤ b *ℤ c → (suc_ℤ k +ℤ b) *ℤ c ≡ suc_ℤ k *ℤ c +ℤ b *ℤ c
    up k h =
        ap (λ x. x *ℤ c) (suc_ℤ-+ℤ k b) ∙ suc_ℤ-*ℤ (k +ℤ b) c ∙ ap (λ x. x +ℤ c) h
        ∙ swap_last (k *ℤ c) (b *ℤ c) c ∙ ap (λ x. x +ℤ b *ℤ c) (sym (suc_ℤ-*ℤ k c))

    down : (k : ℤ) → (k +ℤ b) *ℤ c ≡ k *ℤ c +ℤ b *ℤ c → (pred_ℤ k +ℤ b) *ℤ c ≡ pred_ℤ k *ℤ c +ℤ b *ℤ c
    down k h =
        ap (λ x. x *ℤ c) (pred_ℤ-+ℤ k b) ∙ pred_ℤ-*ℤ (k +ℤ b) c ∙ ap (λ x. x -ℤ c) h
        ∙ swap_last (k *ℤ c) (b *ℤ c) (neg_ℤ c) ∙ ap (λ x. x +ℤ b *ℤ c) (sym (pred_ℤ-*ℤ k c))

-- a · (b + c) = a · b + a · c
pub *ℤ-+ℤ : (a b c : ℤ) → a *ℤ (b +ℤ c) ≡ a *ℤ b +ℤ a *ℤ c
*ℤ-+ℤ a b c = *ℤ_comm a (b +ℤ c) ∙ +ℤ-*ℤ b c a ∙ ap (λ x. x +ℤ c *ℤ a) (*ℤ_comm b a) ∙ ap (λ x. a *ℤ b +ℤ x) (*ℤ_comm c a)

-- (−a) · c = −(a · c)
pub negℤ_*ℤ : (a c : ℤ) → neg_ℤ a *ℤ c ≡ neg_ℤ (a *ℤ c)
negℤ_*ℤ a c = ind (λ a. neg_ℤ a *ℤ c ≡ neg_ℤ (a *ℤ c)) (zero-*ℤ c ∙ sym (ap neg_ℤ (zero-*ℤ c))) up down a
  where
    up : (k : ℤ) → neg_ℤ k *ℤ c ≡ neg_ℤ (k *ℤ c) → neg_ℤ (suc_ℤ k) *ℤ c ≡ neg_ℤ (suc_ℤ k *ℤ c)
    up k h =
        ap (λ x. x *ℤ c) (neg_ℤ-suc_ℤ k) ∙ pred_ℤ-*ℤ (neg_ℤ k) c ∙ ap (λ x. x -ℤ c) h
        ∙ sym (ap neg_ℤ (suc_ℤ-*ℤ k c) ∙ neg_ℤ-+ℤ (k *ℤ c) c)

    down : (k : ℤ) → neg_ℤ k *ℤ c ≡ neg_ℤ (k *ℤ c) → neg_ℤ (pred_ℤ k) *ℤ c ≡ neg_ℤ (pred_ℤ k *ℤ c)
    down k h =
        ap (λ x. x *ℤ c) (neg_ℤ-pred_ℤ k) ∙ suc_ℤ-*ℤ (neg_ℤ k) c ∙ ap (λ x. x +ℤ c) h
        ∙ sym (ap neg_ℤ (pred_ℤ-*ℤ k c) ∙ neg_ℤ-+ℤ (k *ℤ c) (neg_ℤ c) ∙ ap (λ x. neg_ℤ (k *ℤ c) +ℤ x) (neg_ℤ-neg_ℤ c))

-- (a · b) · c = a · (b · c)
pub *ℤ-assoc : (a b c : ℤ) → (a *ℤ b) *ℤ c ≡ a *ℤ (b *ℤ c)
*ℤ-assoc a b c = ind (λ a. (a *ℤ b) *ℤ c ≡ a *ℤ (b *ℤ c)) base up down a
  where
    base : (pos 0 *ℤ b) *ℤ c ≡ pos 0 *ℤ (b *ℤ c)
    base = ap (λ x. x *ℤ c) (zero-*ℤ b) ∙ zero-*ℤ c ∙ sym (zero-*ℤ (b *ℤ c))

    up : (k : ℤ) → (k *ℤ b) *ℤ c ≡ k *ℤ (b *ℤ c) → (suc_ℤ k *ℤ b) *ℤ c ≡ suc_ℤ k *ℤ (b *ℤ c)
    up k h =
        ap (λ x. x *ℤ c) (suc_ℤ-*ℤ k b) ∙ +ℤ-*ℤ (k *ℤ b) b c ∙ ap (λ x. x +ℤ b *ℤ c) h ∙ sym (suc_ℤ-*ℤ k (b *ℤ c))

    down : (k : ℤ) → (k *ℤ b) *ℤ c ≡ k *ℤ (b *ℤ c) → (pred_ℤ k *ℤ b) *ℤ c ≡ pred_ℤ k *ℤ (b *ℤ c)
    down k h =
        ap (λ x. x *ℤ c) (pred_ℤ-*ℤ k b) ∙ +ℤ-*ℤ (k *ℤ b) (neg_ℤ b) c
        ∙ ap (λ x. (k *ℤ b) *ℤ c +ℤ x) (negℤ_*ℤ b c) ∙ ap (λ x. x -ℤ b *ℤ c) h ∙ sym (pred_ℤ-*ℤ k (b *ℤ c))

-- 1 · a = a
pub one_*ℤ : (a : ℤ) → pos 1 *ℤ a ≡ a
one_*ℤ a = suc_ℤ-*ℤ (pos 0) a ∙ ap (λ x. x +ℤ a) (zero-*ℤ a) ∙ +ℤ_idl a

-- (−1) · a = −a
pub minus_one_*ℤ : (a : ℤ) → negsuc 0 *ℤ a ≡ neg_ℤ a
minus_one_*ℤ a = negℤ_*ℤ (pos 1) a ∙ ap neg_ℤ (one_*ℤ a)
