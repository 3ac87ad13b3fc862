-- Words built by a test of their bits' numbers (`words::bits::word_of`), and words whose bits are tested one by one
-- (`words::bits::keep`).
use mathlib.Core.Bool.{Bool, true, false, ◌&&◌}
use mathlib.Core.Logic.{◌⊎◌, inl, inr}
use mathlib.Core.Path.{◌≡◌, refl, sym, ap, ◌∙◌, subst}
use Prim.Native.Nat.{ℕ, ◌+◌, ◌%◌, ◌^◌, ◌≤◌, ◌<◌}
use native.Mathlib.Nat.{mod-eq_of_lt}
use native.Mathlib.Omega.{arith}
use lib.Pow.{pow_pos}
use Rattle.std.proofs.lemmas.Bool.{true≢false}
use Rattle.words.specs.Bits.{test_bit, bits_where, without_bit, assigned_bit}
use Rattle.words.specs.Sets.{first_from}
use Rattle.words.proofs.Cases.{eq_or_ne, le_or_lt}
use Rattle.words.proofs.Bit.{bits-same, bits_where-lt, test_bit-above, test_bit-bits_where, test_bit-none}
use Rattle.words.proofs.Bit.{test_bit-with_same, test_bit-with_other, test_bit-without_same, test_bit-without_other}
use Rattle.words.proofs.First.{lowest}

-- ---- one bit assigned: that bit, and every other

pub assigned_same : (on : Bool) (w i : ℕ) → test_bit (assigned_bit on w i) i ≡ on
assigned_same true w i = test_bit-with_same w i
assigned_same false w i = test_bit-without_same w i

pub assigned_other : (on : Bool) (w i k : ℕ) → (i ≡ k → ⊥) → test_bit (assigned_bit on w i) k ≡ test_bit w k
assigned_other true w i k h = test_bit-with_other w i k h
assigned_other false w i k h = test_bit-without_other w i k h

-- A bit is not both set and clear.
not_both : {b : Bool} → b ≡ true → b ≡ false → ⊥
not_both p q = true≢false (sym p ∙ q)

-- ---- a word from a test, where P k b says that b may be said of k

-- One bit more is told.
pub told-more : (P : ℕ → Bool → Type 0) (i w v : ℕ) (on : Bool) → i < 64 → v ≡ assigned_bit on w (i % 64)
    → ((k : ℕ) → k < i → P k (test_bit w k)) → P i on → (k : ℕ) → k < i + 1 → P k (test_bit v k)
told-more P i w v on l e told p k h = subst (λ (b : Bool). P k b) (sym (ap (λ (x : ℕ). test_bit x k) assigned))
    (go (eq_or_ne i k))
  where
    assigned : v ≡ assigned_bit on w i
    assigned = e ∙ ap (assigned_bit on w) (mod-eq_of_lt l)

    go : (i ≡ k) ⊎ (i ≡ k → ⊥) → P k (test_bit (assigned_bit on w i) k)
    go (inl q) = subst (λ (k : ℕ). P k (test_bit (assigned_bit on w i) k)) q
        (subst (λ (b : Bool). P i b) (sym (assigned_same on w i)) p)
    go (inr q) = subst (λ (b : Bool). P k b) (sym (assigned_other on w i k q)) (told k (omega arith))

-- A bit that is set is one of the 64.
pub bit_below : (w i : ℕ) → w < 2 ^ 64 → test_bit w i ≡ true → i < 64
bit_below w i h e = go (le_or_lt 64 i)
  where
    go : (64 ≤ i) ⊎ (i < 64) → i < 64
    go (inl l) = absurd (not_both e (test_bit-above w 64 i h l))
    go (inr l) = l

-- A word whose bits are what p says is the word of p.
pub told-is : (p : ℕ → Bool) (w : ℕ) → w < 2 ^ 64 → ((i : ℕ) → i < 64 → test_bit w i ≡ p i) → w ≡ bits_where 64 p
told-is p w h told =
    bits-same 64 w (bits_where 64 p) h (bits_where-lt 64 p) (λ i l. told i l ∙ sym (test_bit-bits_where 64 p i l))

-- ---- a word whose bits are tested, where P i b says that b may be said of i

-- Of the bits of w, those still in `left` are untested, and the others are told; what is no bit of w is none.
pub record Kept (P : ℕ → Bool → Type 0) (w left kept : ℕ) : Type 0 where
  pub small : left < 2 ^ 64
  pub among : (i : ℕ) → test_bit left i ≡ true → test_bit w i ≡ true
  pub tested : (i : ℕ) → test_bit w i ≡ true → test_bit left i ≡ false → P i (test_bit kept i)
  pub untested : (i : ℕ) → test_bit w i ≡ false → test_bit kept i ≡ false

-- At the beginning no bit is tested.
pub kept-begin : (P : ℕ → Bool → Type 0) (w : ℕ) → w < 2 ^ 64 → Kept P w w w
kept-begin P w h = record { small = h; among = λ i e. e; tested = λ i e q. absurd (not_both e q); untested = λ i e. e }

-- At the end all are.
pub kept-end : (P : ℕ → Bool → Type 0) (w left kept : ℕ) → Kept P w left kept → left ≡ 0 → (i : ℕ)
    → test_bit w i ≡ true → P i (test_bit kept i)
kept-end P w left kept r z i e = r.tested i e (ap (λ (x : ℕ). test_bit x i) z ∙ test_bit-none i)

-- The lowest bit that is left is one of the 64.
pub lowest-left : (left b : ℕ) → left < 2 ^ 64 → (left ≡ 0 → ⊥) → b ≡ first_from (test_bit left) 64 0
    → (b < 64) × (test_bit left b ≡ true)
lowest-left left b h q e =
    let f = lowest 64 left h q in
    let same : b ≡ f.0 = e ∙ f.1 in
    (omega (arith, f.2), subst (λ (i : ℕ). test_bit left i ≡ true) (sym same) f.4)

-- A word without one of its bits is smaller.
pub without_smaller : (left b rest : ℕ) → b < 64 → test_bit left b ≡ true → rest ≡ without_bit left (b % 64)
    → rest < left
unfolding without_bit
without_smaller left b rest l e r = rw (r, mod-eq_of_lt l, e) (omega (arith, pow_pos b, positive (eq_or_ne left 0)))
  where
    positive : (left ≡ 0) ⊎ (left ≡ 0 → ⊥) → 0 < left
    positive (inl p) = absurd (not_both (sym (ap (λ (x : ℕ). test_bit x b) p) ∙ e) (test_bit-none b))
    positive (inr p) = omega arith

-- One bit more is tested.
pub kept-next : (P : ℕ → Bool → Type 0) (w left kept b : ℕ) (on : Bool) (rest next : ℕ) → Kept P w left kept → b < 64
    → test_bit left b ≡ true → P b on
    → rest ≡ without_bit left (b % 64) → next ≡ assigned_bit on kept (b % 64) → Kept P w rest next
kept-next P w left kept b on rest next r l e p without assigned =
    record {
      small = omega (arith, r.small, without_smaller left b rest l e without);
      among = λ i q. among i q (eq_or_ne b i);
      tested = λ i q z. tested i q z (eq_or_ne b i);
      untested = λ i z. untested i z (eq_or_ne b i);
    }
  where
    rest-is : rest ≡ without_bit left b
    rest-is = without ∙ ap (without_bit left) (mod-eq_of_lt l)

    next-is : next ≡ assigned_bit on kept b
    next-is = assigned ∙ ap (assigned_bit on kept) (mod-eq_of_lt l)

    rest_other : (i : ℕ) → (b ≡ i → ⊥) → test_bit rest i ≡ test_bit left i
    rest_other i q = ap (λ (x : ℕ). test_bit x i) rest-is ∙ test_bit-without_other left b i q

    next_other : (i : ℕ) → (b ≡ i → ⊥) → test_bit next i ≡ test_bit kept i
    next_other i q = ap (λ (x : ℕ). test_bit x i) next-is ∙ assigned_other on kept b i q

    among : (i : ℕ) → test_bit rest i ≡ true → (b ≡ i) ⊎ (b ≡ i → ⊥) → test_bit w i ≡ true
    among i q (inl s) = ap (test_bit w) (sym s) ∙ r.among b e
    among i q (inr s) = r.among i (sym (rest_other i s) ∙ q)

    tested : (i : ℕ) → test_bit w i ≡ true → test_bit rest i ≡ false → (b ≡ i) ⊎ (b ≡ i → ⊥) → P i (test_bit next i)
    tested i q z (inl s) =
        subst (λ (k : ℕ). P k (test_bit next k)) s
        (subst (λ (x : Bool). P b x) (sym (ap (λ (x : ℕ). test_bit x b) next-is ∙ assigned_same on kept b)) p)
    tested i q z (inr s) =
        subst (λ (x : Bool). P i x) (sym (next_other i s)) (r.tested i q (sym (rest_other i s) ∙ z))

    untested : (i : ℕ) → test_bit w i ≡ false → (b ≡ i) ⊎ (b ≡ i → ⊥) → test_bit next i ≡ false
    untested i z (inl s) = absurd (not_both (r.among b e) (ap (test_bit w) s ∙ z))
    untested i z (inr s) = next_other i s ∙ r.untested i z

-- Where the test says what p does of the bits that are set, they are kept by p.
pub kept-is : (p : ℕ → Bool) (w v : ℕ) → ((i : ℕ) → i < 64 → test_bit w i ≡ true → test_bit v i ≡ p i)
    → ((i : ℕ) → test_bit w i ≡ false → test_bit v i ≡ false)
    → w < 2 ^ 64 → (i : ℕ) → test_bit v i ≡ (test_bit w i && p i)
kept-is p w v set clear h i = go (test_bit w i) refl
  where
    go : (b : Bool) → test_bit w i ≡ b → test_bit v i ≡ (b && p i)
    go true e = set i (bit_below w i h e) e
    go false e = clear i e
