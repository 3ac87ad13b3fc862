-- The order of the integers: its laws, and the tests `le_z` and `lt_z` as equations. Reflexivity and irreflexivity are `≤ℤ_refl` and `<ℤ_irrefl` of `lib.Signed`.
-- Assumes nothing.
use mathlib.Core.Path.{◌≡◌, refl, sym, ap, subst}
use mathlib.Core.Bool.{Bool, true, false, not}
use mathlib.Core.List.{[], ◌∷◌}
use mathlib.Core.Logic.{◌⊎◌, inl, inr, ⊎_elim}
use Prim.Native.Nat.{ℕ, ◌≤◌, ◌<◌}
use native.Mathlib.Nat.{le_antisymm}
use lib.Dec.{T, leb→le, le→leb, ltb→lt, lt→ltb}
use lib.IntN.{ℤ, pos, negsuc, neg_ℤ, ◌+ℤ◌, ◌*ℤ◌}
use lib.Signed.{le_z, lt_z, ◌≤ℤ◌, ◌<ℤ◌, lt_z_no}
use Rattle.integers.proofs.Solver.{#, ◌⊞◌, ◌⊠◌, ⊖◌, ◌≈◌, ◌≲◌, ◌≺◌, never}
use Rattle.integers.proofs.Slack.{nonneg_square}
use Rattle.integers.proofs.Certificates.{order, ◌⊢◌by◌, hyp, ◌⊕◌, ◌⊗◌}

-- ---- chains

-- a ≤ b ≤ c
pub ≤ℤ-trans : {a b c : ℤ} → a ≤ℤ b → b ≤ℤ c → a ≤ℤ c
≤ℤ-trans {a} {b} {c} = order 3 (λ a b c. (a ≲ b) ∷ (b ≲ c) ∷ [] ⊢ a ≲ c by hyp 0 ⊕ hyp 1) tt a b c

-- a < b < c
pub <ℤ-trans : {a b c : ℤ} → a <ℤ b → b <ℤ c → a <ℤ c
<ℤ-trans {a} {b} {c} = order 3 (λ a b c. (a ≺ b) ∷ (b ≺ c) ∷ [] ⊢ a ≺ c by hyp 0 ⊕ hyp 1) tt a b c

-- a ≤ b < c; the other mixed chain is `<ℤ-≤ℤ_trans` of `lib.Signed`
pub ≤ℤ-<ℤ_trans : {a b c : ℤ} → a ≤ℤ b → b <ℤ c → a <ℤ c
≤ℤ-<ℤ_trans {a} {b} {c} = order 3 (λ a b c. (a ≲ b) ∷ (b ≺ c) ∷ [] ⊢ a ≺ c by hyp 0 ⊕ hyp 1) tt a b c

-- an equal is at most, a lesser is at most, and one more than a lesser is at most
pub ≡-≤ℤ : {a b : ℤ} → a ≡ b → a ≤ℤ b
≡-≤ℤ {a} {b} = order 2 (λ a b. (a ≈ b) ∷ [] ⊢ a ≲ b by hyp 0) tt a b

-- less is at most
pub <ℤ-≤ℤ : {a b : ℤ} → a <ℤ b → a ≤ℤ b
<ℤ-≤ℤ {a} {b} = order 2 (λ a b. (a ≺ b) ∷ [] ⊢ a ≲ b by hyp 0) tt a b

-- less is: one more is at most
pub <ℤ-suc : {a b : ℤ} → a <ℤ b → (a +ℤ pos 1) ≤ℤ b
<ℤ-suc {a} {b} = order 2 (λ a b. (a ≺ b) ∷ [] ⊢ a ⊞ # (pos 1) ≲ b by hyp 0) tt a b

-- and back
pub suc_<ℤ : {a b : ℤ} → (a +ℤ pos 1) ≤ℤ b → a <ℤ b
suc_<ℤ {a} {b} = order 2 (λ a b. (a ⊞ # (pos 1) ≲ b) ∷ [] ⊢ a ≺ b by hyp 0) tt a b

-- ---- the tests, as equations

-- a test that passes is true
is_true : (t : Bool) → T t → t ≡ true
is_true true h = refl
is_true false h = absurd h

-- a test that cannot pass is false
is_false : (t : Bool) → (T t → ⊥) → t ≡ false
is_false true h = absurd (h tt)
is_false false h = refl

-- a test ≤ that is true
pub le_z_true : (a b : ℤ) → le_z a b ≡ true → a ≤ℤ b
le_z_true a b e = record { le = subst T (sym e) tt }

-- a test < that is true
pub lt_z_true : (a b : ℤ) → lt_z a b ≡ true → a <ℤ b
lt_z_true a b e = record { lt = subst T (sym e) tt }

-- a test < that is false
pub lt_z_false : (a b : ℤ) → lt_z a b ≡ false → b ≤ℤ a
lt_z_false a b e = lt_z_no (subst (λ t. T (not t)) (sym e) tt)

-- of two numbers the first is at most the second, or the second is less
pub le_or_lt : (a b : ℤ) → (a ≤ℤ b) ⊎ (b <ℤ a)
le_or_lt a b = go (lt_z b a) refl
  where
    go : (t : Bool) → lt_z b a ≡ t → (a ≤ℤ b) ⊎ (b <ℤ a)
    go true e = inr (lt_z_true b a e)
    go false e = inl (lt_z_false b a e)

-- and not both
pub clash : {a b : ℤ} → a ≤ℤ b → b <ℤ a → ⊥
clash {a} {b} = order 2 (λ a b. (a ≲ b) ∷ (b ≺ a) ∷ [] ⊢ never by hyp 0 ⊕ hyp 1) tt a b

-- a test ≤ that is false
pub le_z_false : (a b : ℤ) → le_z a b ≡ false → b <ℤ a
le_z_false a b e = ⊎_elim (λ h. absurd (subst T e h.le)) (λ h. h) (le_or_lt a b)

-- the value of a test ≤, from the order
pub le_le_z : (a b : ℤ) → a ≤ℤ b → le_z a b ≡ true
le_le_z a b h = is_true (le_z a b) h.le

-- its other value
pub lt_le_z : (a b : ℤ) → b <ℤ a → le_z a b ≡ false
lt_le_z a b h = is_false (le_z a b) (λ t. clash (record { le = t }) h)

-- the value of a test <, from the order
pub lt_lt_z : (a b : ℤ) → a <ℤ b → lt_z a b ≡ true
lt_lt_z a b h = is_true (lt_z a b) h.lt

-- its other value
pub le_lt_z : (a b : ℤ) → b ≤ℤ a → lt_z a b ≡ false
le_lt_z a b h = is_false (lt_z a b) (λ t. clash h (record { lt = t }))

-- ---- totality and antisymmetry

-- any two numbers are in order, one way or the other
pub ≤ℤ-total : (a b : ℤ) → (a ≤ℤ b) ⊎ (b ≤ℤ a)
≤ℤ-total a b = ⊎_elim inl (λ h. inr (<ℤ-≤ℤ h)) (le_or_lt a b)

-- in order both ways, they are equal
pub ≤ℤ-antisym : {a b : ℤ} → a ≤ℤ b → b ≤ℤ a → a ≡ b
≤ℤ-antisym {a = pos a} {b = pos b} h k = ap pos (le_antisymm (leb→le a b h.le) (leb→le b a k.le))
≤ℤ-antisym {a = pos a} {b = negsuc b} h k = absurd h.le
≤ℤ-antisym {a = negsuc a} {b = pos b} h k = absurd k.le
≤ℤ-antisym {a = negsuc a} {b = negsuc b} h k = ap negsuc (le_antisymm (leb→le a b k.le) (leb→le b a h.le))

-- what is at most is less or equal
pub lt_or_eq : {a b : ℤ} → a ≤ℤ b → (a <ℤ b) ⊎ (a ≡ b)
lt_or_eq {a} {b} h = ⊎_elim (λ k. inr (≤ℤ-antisym h k)) inl (le_or_lt b a)

-- ---- sums, negations and products

-- sums keep the order
pub +ℤ-mono : {a b c d : ℤ} → a ≤ℤ b → c ≤ℤ d → (a +ℤ c) ≤ℤ (b +ℤ d)
+ℤ-mono {a} {b} {c} {d} = order 4 (λ a b c d. (a ≲ b) ∷ (c ≲ d) ∷ [] ⊢ a ⊞ c ≲ b ⊞ d by hyp 0 ⊕ hyp 1) tt a b c d

-- strictly, where one side is strict
pub +ℤ-mono_< : {a b c d : ℤ} → a <ℤ b → c ≤ℤ d → (a +ℤ c) <ℤ (b +ℤ d)
+ℤ-mono_< {a} {b} {c} {d} = order 4 (λ a b c d. (a ≺ b) ∷ (c ≲ d) ∷ [] ⊢ a ⊞ c ≺ b ⊞ d by hyp 0 ⊕ hyp 1) tt a b c d

-- a common summand cancels
pub +ℤ-cancel-≤ : (a b c : ℤ) → (a +ℤ c) ≤ℤ (b +ℤ c) → a ≤ℤ b
+ℤ-cancel-≤ = order 3 (λ a b c. (a ⊞ c ≲ b ⊞ c) ∷ [] ⊢ a ≲ b by hyp 0) tt

-- in a strict order too
pub +ℤ-cancel_< : (a b c : ℤ) → (a +ℤ c) <ℤ (b +ℤ c) → a <ℤ b
+ℤ-cancel_< = order 3 (λ a b c. (a ⊞ c ≺ b ⊞ c) ∷ [] ⊢ a ≺ b by hyp 0) tt

-- negation turns the order round
pub negℤ_mono : {a b : ℤ} → a ≤ℤ b → neg_ℤ b ≤ℤ neg_ℤ a
negℤ_mono {a} {b} = order 2 (λ a b. (a ≲ b) ∷ [] ⊢ ⊖ b ≲ ⊖ a by hyp 0) tt a b

-- the strict order too
pub negℤ_mono_< : {a b : ℤ} → a <ℤ b → neg_ℤ b <ℤ neg_ℤ a
negℤ_mono_< {a} {b} = order 2 (λ a b. (a ≺ b) ∷ [] ⊢ ⊖ b ≺ ⊖ a by hyp 0) tt a b

-- a factor that is not negative keeps the order
pub *ℤ-mono : {a b c : ℤ} → a ≤ℤ b → pos 0 ≤ℤ c → (a *ℤ c) ≤ℤ (b *ℤ c)
*ℤ-mono {a} {b} {c} = order 3 (λ a b c. (a ≲ b) ∷ (# (pos 0) ≲ c) ∷ [] ⊢ a ⊠ c ≲ b ⊠ c by hyp 0 ⊗ hyp 1) tt a b c

-- a positive factor keeps the strict order
pub *ℤ-mono_< : {a b c : ℤ} → a <ℤ b → pos 0 <ℤ c → (a *ℤ c) <ℤ (b *ℤ c)
*ℤ-mono_< {a} {b} {c} =
    order 3 (λ a b c. (a ≺ b) ∷ (# (pos 0) ≺ c) ∷ [] ⊢ a ⊠ c ≺ b ⊠ c by hyp 0 ⊗ hyp 1 ⊕ hyp 0 ⊕ hyp 1) tt a b c

-- a positive factor cancels
pub *ℤ-cancel-≤ : (a b c : ℤ) → pos 0 <ℤ c → (a *ℤ c) ≤ℤ (b *ℤ c) → a ≤ℤ b
*ℤ-cancel-≤ a b c p h = ⊎_elim (λ k. k) (λ k. absurd (clash h (*ℤ-mono_< k p))) (le_or_lt a b)

-- in a strict order too
pub *ℤ-cancel_< : (a b c : ℤ) → pos 0 <ℤ c → (a *ℤ c) <ℤ (b *ℤ c) → a <ℤ b
*ℤ-cancel_< a b c p h = ⊎_elim (λ k. absurd (clash (*ℤ-mono k (<ℤ-≤ℤ p)) h)) (λ k. k) (le_or_lt b a)

-- and in an equation
pub *ℤ-cancel : (a b c : ℤ) → pos 0 <ℤ c → a *ℤ c ≡ b *ℤ c → a ≡ b
*ℤ-cancel a b c p e = ≤ℤ-antisym (*ℤ-cancel-≤ a b c p (≡-≤ℤ e)) (*ℤ-cancel-≤ b a c p (≡-≤ℤ (sym e)))

-- a square is not negative
pub square-nonneg : (a : ℤ) → pos 0 ≤ℤ (a *ℤ a)
square-nonneg = nonneg_square

-- ---- natural numbers among the integers

-- the order of naturals is that of their integers
pub pos-≤ℤ : {m n : ℕ} → m ≤ n → pos m ≤ℤ pos n
pos-≤ℤ {m} {n} h = record { le = le→leb m n h }

-- and back
pub ≤ℤ-pos : {m n : ℕ} → pos m ≤ℤ pos n → m ≤ n
≤ℤ-pos {m} {n} h = leb→le m n h.le

-- the strict order too
pub pos_<ℤ : {m n : ℕ} → m < n → pos m <ℤ pos n
pos_<ℤ {m} {n} h = record { lt = lt→ltb m n h }

-- and back
pub <ℤ-pos : {m n : ℕ} → pos m <ℤ pos n → m < n
<ℤ-pos {m} {n} h = ltb→lt m n h.lt
