-- The larger and the smaller of two integers: bounds, least and greatest, one of the two, commutative, under negation and under a shift.
-- The laws of the smaller come from those of the larger, since the two sum to a + b. Assumes nothing.
use mathlib.Core.Path.{◌≡◌, refl, sym, ◌∙◌, ap}
use mathlib.Core.Bool.{Bool, true, false, cond}
use mathlib.Core.List.{[], ◌∷◌}
use mathlib.Core.Logic.{◌⊎◌, inl, inr, ⊎_elim}
use lib.IntN.{ℤ, pos, negsuc, neg_ℤ, ◌+ℤ◌, +ℤ_comm, neg_ℤ-neg_ℤ}
use lib.Signed.{le_z, ◌≤ℤ◌, ◌<ℤ◌, ≤ℤ_refl}
use Rattle.integers.specs.Extrema.{max_z, min_z}
use Rattle.integers.proofs.Solver.{#, ◌⊞◌, ◌≈◌, ◌≲◌}
use Rattle.integers.proofs.Certificates.{order, ◌⊢◌by◌, hyp, times, ◌⊕◌}
use Rattle.integers.proofs.Order.{le_le_z, lt_le_z, le_or_lt, ≤ℤ-antisym, <ℤ-≤ℤ, +ℤ-mono, negℤ_mono}

-- ---- the larger

-- the larger is the second, where the first is at most that
pub max_right : (a b : ℤ) → a ≤ℤ b → max_z a b ≡ b
unfolding max_z
max_right a b h = rw (le_le_z a b h)

-- the larger is the first, where the second is at most that
pub max_left : (a b : ℤ) → b ≤ℤ a → max_z a b ≡ a
unfolding max_z
max_left a b h = ⊎_elim (λ k. rw (le_le_z a b k) (≤ℤ-antisym h k)) (λ k. rw (lt_le_z a b k)) (le_or_lt a b)

-- the larger is one of the two
pub max_one : (a b : ℤ) → (max_z a b ≡ a) ⊎ (max_z a b ≡ b)
max_one a b = ⊎_elim (λ h. inr (max_right a b h)) (λ h. inl (max_left a b (<ℤ-≤ℤ h))) (le_or_lt a b)

-- it is at least the second
pub max_upper_right : (a b : ℤ) → b ≤ℤ max_z a b
max_upper_right a b =
    ⊎_elim (λ h. rw (max_right a b h) (≤ℤ_refl b)) (λ h. rw (max_left a b (<ℤ-≤ℤ h)) (<ℤ-≤ℤ h)) (le_or_lt a b)

-- and at least the first
pub max_upper_left : (a b : ℤ) → a ≤ℤ max_z a b
max_upper_left a b =
    ⊎_elim (λ h. rw (max_right a b h) h) (λ h. rw (max_left a b (<ℤ-≤ℤ h)) (≤ℤ_refl a)) (le_or_lt a b)

-- what holds of both holds of the larger
pub max_both : (P : ℤ → Type 0) (a b : ℤ) → P a → P b → P (max_z a b)
max_both P a b h k = ⊎_elim (λ e. rw e h) (λ e. rw e k) (max_one a b)

-- the larger is the least number that is at least both
pub max_least : (a b c : ℤ) → a ≤ℤ c → b ≤ℤ c → max_z a b ≤ℤ c
max_least a b c = max_both (λ s. s ≤ℤ c) a b

-- it is below what both are below
pub max_least-< : (a b c : ℤ) → a <ℤ c → b <ℤ c → max_z a b <ℤ c
max_least-< a b c = max_both (λ s. s <ℤ c) a b

-- the order of the two does not matter
pub max_comm : (a b : ℤ) → max_z a b ≡ max_z b a
max_comm a b =
    ≤ℤ-antisym (max_least a b (max_z b a) (max_upper_right b a) (max_upper_left b a))
    (max_least b a (max_z a b) (max_upper_right a b) (max_upper_left a b))

-- a constant added to both moves out
pub max-+ℤ : (a b c : ℤ) → max_z (a +ℤ c) (b +ℤ c) ≡ max_z a b +ℤ c
max-+ℤ a b c =
    ⊎_elim (λ h. max_right (a +ℤ c) (b +ℤ c) (+ℤ-mono h (≤ℤ_refl c)) ∙ ap (λ s. s +ℤ c) (sym (max_right a b h)))
    (λ h. max_left (a +ℤ c) (b +ℤ c) (+ℤ-mono (<ℤ-≤ℤ h) (≤ℤ_refl c)) ∙ ap (λ s. s +ℤ c) (sym (max_left a b (<ℤ-≤ℤ h)))) (le_or_lt a b)

-- ---- the smaller

-- the two sum to a + b
pub min_max : (a b : ℤ) → min_z a b +ℤ max_z a b ≡ a +ℤ b
unfolding min_z max_z
min_max a b = go (le_z a b)
  where
    go : (t : Bool) → cond t a b +ℤ cond t b a ≡ a +ℤ b
    go true = refl
    go false = +ℤ_comm b a

-- where the larger is one of the two, the smaller is the other
other-right : (a b : ℤ) → max_z a b ≡ a → min_z a b ≡ b
other-right a b e =
    order 4 (λ a b m M. (m ⊞ M ≈ a ⊞ b) ∷ (M ≈ a) ∷ [] ⊢ m ≈ b by times 0 (# (pos 1)) ⊕ times 1 (# (negsuc 0))) tt a b (min_z a b) (max_z a b) (min_max a b) e

-- the same with the two exchanged
other-left : (a b : ℤ) → max_z a b ≡ b → min_z a b ≡ a
other-left a b e =
    order 4 (λ a b m M. (m ⊞ M ≈ a ⊞ b) ∷ (M ≈ b) ∷ [] ⊢ m ≈ a by times 0 (# (pos 1)) ⊕ times 1 (# (negsuc 0))) tt a b (min_z a b) (max_z a b) (min_max a b) e

-- the smaller is the first, where that is at most the second
pub min_left : (a b : ℤ) → a ≤ℤ b → min_z a b ≡ a
min_left a b h = other-left a b (max_right a b h)

-- the smaller is the second, where that is at most the first
pub min_right : (a b : ℤ) → b ≤ℤ a → min_z a b ≡ b
min_right a b h = other-right a b (max_left a b h)

-- the smaller is one of the two
pub min_one : (a b : ℤ) → (min_z a b ≡ a) ⊎ (min_z a b ≡ b)
min_one a b = ⊎_elim (λ e. inr (other-right a b e)) (λ e. inl (other-left a b e)) (max_one a b)

-- it is at most the first
pub min_lower-left : (a b : ℤ) → min_z a b ≤ℤ a
min_lower-left a b =
    order 4 (λ a b m M. (m ⊞ M ≈ a ⊞ b) ∷ (b ≲ M) ∷ [] ⊢ m ≲ a by hyp 0 ⊕ hyp 1) tt a b (min_z a b) (max_z a b) (min_max a b) (max_upper_right a b)

-- and at most the second
pub min_lower-right : (a b : ℤ) → min_z a b ≤ℤ b
min_lower-right a b =
    order 4 (λ a b m M. (m ⊞ M ≈ a ⊞ b) ∷ (a ≲ M) ∷ [] ⊢ m ≲ b by hyp 0 ⊕ hyp 1) tt a b (min_z a b) (max_z a b) (min_max a b) (max_upper_left a b)

-- what holds of both holds of the smaller
pub min_both : (P : ℤ → Type 0) (a b : ℤ) → P a → P b → P (min_z a b)
min_both P a b h k = ⊎_elim (λ e. rw e h) (λ e. rw e k) (min_one a b)

-- the smaller is the greatest number that is at most both
pub min_greatest : (a b c : ℤ) → c ≤ℤ a → c ≤ℤ b → c ≤ℤ min_z a b
min_greatest a b c = min_both (λ s. c ≤ℤ s) a b

-- it is above what both are above
pub min_greatest_< : (a b c : ℤ) → c <ℤ a → c <ℤ b → c <ℤ min_z a b
min_greatest_< a b c = min_both (λ s. c <ℤ s) a b

-- the order of the two does not matter
pub min_comm : (a b : ℤ) → min_z a b ≡ min_z b a
min_comm a b =
    order 6 (λ a b m n M N. (m ⊞ M ≈ a ⊞ b) ∷ (n ⊞ N ≈ b ⊞ a) ∷ (M ≈ N) ∷ [] ⊢ m ≈ n by times 0 (# (pos 1)) ⊕ times 1 (# (negsuc 0)) ⊕ times 2 (# (negsuc 0))) tt
    a b (min_z a b) (min_z b a) (max_z a b) (max_z b a) (min_max a b) (min_max b a) (max_comm a b)

-- a constant added to both moves out
pub min-+ℤ : (a b c : ℤ) → min_z (a +ℤ c) (b +ℤ c) ≡ min_z a b +ℤ c
min-+ℤ a b c =
    order 7 (λ a b c m n M N. (m ⊞ M ≈ a ⊞ b) ∷ (n ⊞ N ≈ (a ⊞ c) ⊞ (b ⊞ c)) ∷ (N ≈ M ⊞ c) ∷ [] ⊢ n ≈ m ⊞ c by times 1 (# (pos 1)) ⊕ times 0 (# (negsuc 0)) ⊕ times 2 (# (negsuc 0))) tt
    a b c (min_z a b) (min_z (a +ℤ c) (b +ℤ c)) (max_z a b) (max_z (a +ℤ c) (b +ℤ c)) (min_max a b) (min_max (a +ℤ c) (b +ℤ c)) (max-+ℤ a b c)

-- ---- negation turns one into the other

-- the negated larger is the smaller of the negated
pub negℤ_max : (a b : ℤ) → neg_ℤ (max_z a b) ≡ min_z (neg_ℤ a) (neg_ℤ b)
negℤ_max a b =
    ⊎_elim (λ h. ap neg_ℤ (max_right a b h) ∙ sym (min_right (neg_ℤ a) (neg_ℤ b) (negℤ_mono h)))
    (λ h. ap neg_ℤ (max_left a b (<ℤ-≤ℤ h)) ∙ sym (min_left (neg_ℤ a) (neg_ℤ b) (negℤ_mono (<ℤ-≤ℤ h)))) (le_or_lt a b)

-- the negated smaller is the larger of the negated
pub negℤ_min : (a b : ℤ) → neg_ℤ (min_z a b) ≡ max_z (neg_ℤ a) (neg_ℤ b)
negℤ_min a b = ap neg_ℤ (sym (negℤ_max (neg_ℤ a) (neg_ℤ b) ∙ twice)) ∙ neg_ℤ-neg_ℤ (max_z (neg_ℤ a) (neg_ℤ b))
  where
    twice : min_z (neg_ℤ (neg_ℤ a)) (neg_ℤ (neg_ℤ b)) ≡ min_z a b
    twice = ap (λ s. min_z s (neg_ℤ (neg_ℤ b))) (neg_ℤ-neg_ℤ a) ∙ ap (λ s. min_z a s) (neg_ℤ-neg_ℤ b)
