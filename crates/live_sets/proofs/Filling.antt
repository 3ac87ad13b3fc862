-- A set written word by word: what one word more changes.
use mathlib.Core.Bool.{Bool, true, ◌&&◌}
use mathlib.Core.List.{List, ◌++◌}
use mathlib.Core.Logic.{◌⊎◌, inl, inr}
use mathlib.Core.Path.{◌≡◌, refl, sym, ap, ◌∙◌, subst}
use Prim.Native.Nat.{ℕ, ◌+◌, ◌*◌, ◌%◌, ◌-◌, ◌^◌, ◌≤◌, ◌<◌}
use native.Mathlib.Omega.{arith}
use lib.ListN.{length, take, drop, length-append}
use lib.Seq.{drop_at, drop-drop, length-take-le}
use Rattle.words.specs.Bits.{test_bit, bits_where}
use Rattle.words.specs.Bytes.{AreBytes}
use Rattle.words.specs.Number.{bytes, number_at, with_number}
use Rattle.words.specs.Sets.{member, word_offset}
use Rattle.words.proofs.Bit.{test_bit-above, test_bit-bits_where}
use Rattle.words.proofs.Cases.{le_or_lt}
use Rattle.words.proofs.Member.{member-word, word_lt}
use Rattle.words.proofs.Place.{number_at-written, number_at-other}
use Rattle.words.proofs.Value.{length-bytes}
use Rattle.model.proofs.Lists.{not_both}
use Rattle.model.specs.Problem.{Problem}
use Rattle.live_sets.specs.Narrowing.{stays, BitsAdmitted, Filled, Narrowable}

module _ (s : List ℕ) (k v : ℕ) (fits : k * 8 + 8 ≤ length s) (small : v < 2 ^ 64) where
  -- The members of a word written, and of every other.
  pub member-written : (i : ℕ) → i < 64 → member (with_number 8 s (k * 8) v) (k * 64 + i) ≡ test_bit v i
  member-written i l = member-word (with_number 8 s (k * 8) v) k i l ∙ ap (λ (w : ℕ). test_bit w i) (number_at-written 8 s (k * 8) v fits small)

  pub member-unwritten : (m : ℕ) → (m < k * 64) ⊎ ((k + 1) * 64 ≤ m) → member (with_number 8 s (k * 8) v) m ≡ member s m
  unfolding member
  member-unwritten m (inl l) = ap (λ (w : ℕ). test_bit w (m % 64)) (number_at-other 8 s (k * 8) v fits 8 (word_offset m) (inl (omega arith)))
  member-unwritten m (inr l) = ap (λ (w : ℕ). test_bit w (m % 64)) (number_at-other 8 s (k * 8) v fits 8 (word_offset m) (inr (omega arith)))

  -- The bytes behind it.
  pub drop-written : drop ((k + 1) * 8) (with_number 8 s (k * 8) v) ≡ drop ((k + 1) * 8) s
  unfolding with_number
  drop-written =
      let e : (k + 1) * 8 ≡ k * 8 + 8 = omega arith in
      let l : length (take (k * 8) s ++ bytes 8 v) ≡ k * 8 + 8 = rw (length-append, length-take-le (k * 8) s (omega arith), length-bytes) in
      rw e (drop_at (take (k * 8) s ++ bytes 8 v) (drop (k * 8 + 8) s) (k * 8 + 8) l)

-- No word is written at the beginning.
pub filled-begin : (to : ℕ) (test : ℕ → Bool) (work : List ℕ) → Filled to 0 test work work
filled-begin to test work = record { inside = λ m l. absurd (omega arith); outside = λ m l. refl; behind = refl }

-- What is the same from one byte on is the same from every later byte on.
pub drop-later : (a b : ℕ) (s t : List ℕ) → a ≤ b → drop a s ≡ drop a t → drop b s ≡ drop b t
drop-later a b s t l e =
    let q : a + (b - a) ≡ b = omega arith in
    subst (λ (n : ℕ). drop n s ≡ drop n t) q (sym (drop-drop (b - a) a s) ∙ ap (drop (b - a)) e ∙ drop-drop (b - a) a t)

-- One word more.
pub filled_next : (to k : ℕ) (test : ℕ → Bool) (work₀ work : List ℕ) (v : ℕ) → Filled to k test work₀ work → (to + k) * 8 + 8 ≤ length work → v < 2 ^ 64
    → ((i : ℕ) → i < 64 → test_bit v i ≡ test (k * 64 + i)) → Filled to (k + 1) test work₀ (with_number 8 work ((to + k) * 8) v)
filled_next to k test work₀ work v f fits small bits = record { inside = inside; outside = outside; behind = behind }
  where
    inside : (m : ℕ) → m < (k + 1) * 64 → member (with_number 8 work ((to + k) * 8) v) (to * 64 + m) ≡ test m
    inside m l = go (le_or_lt (k * 64) m)
      where
        go : (k * 64 ≤ m) ⊎ (m < k * 64) → member (with_number 8 work ((to + k) * 8) v) (to * 64 + m) ≡ test m
        go (inl p) =
            let e : to * 64 + m ≡ (to + k) * 64 + (m - k * 64) = omega arith in
            let q : k * 64 + (m - k * 64) ≡ m = omega arith in
            rw e (member-written work (to + k) v fits small (m - k * 64) (omega arith) ∙ bits (m - k * 64) (omega arith) ∙ ap test q)
        go (inr p) = member-unwritten work (to + k) v fits small (to * 64 + m) (inl (omega arith)) ∙ f.inside m p

    outside : (m : ℕ) → (m < to * 64) ⊎ ((to + (k + 1)) * 64 ≤ m) → member (with_number 8 work ((to + k) * 8) v) m ≡ member work₀ m
    outside m (inl l) = member-unwritten work (to + k) v fits small m (inl (omega arith)) ∙ f.outside m (inl l)
    outside m (inr l) = member-unwritten work (to + k) v fits small m (inr (omega arith)) ∙ f.outside m (inr (omega arith))

    behind : drop ((to + (k + 1)) * 8) (with_number 8 work ((to + k) * 8) v) ≡ drop ((to + (k + 1)) * 8) work₀
    behind =
        let e : (to + (k + 1)) * 8 ≡ (to + k + 1) * 8 = omega arith in
        rw e (drop-written work (to + k) v fits small ∙ drop-later ((to + k) * 8) ((to + k + 1) * 8) work work₀ (omega arith) f.behind)

-- The bits of a word within a list of bytes are members.
pub bit_member : (s : List ℕ) (k i : ℕ) → AreBytes s → test_bit (number_at 8 s (k * 8)) i ≡ true → (i < 64) × (member s (k * 64 + i) ≡ true)
bit_member s k i h e = go (le_or_lt 64 i)
  where
    go : (64 ≤ i) ⊎ (i < 64) → (i < 64) × (member s (k * 64 + i) ≡ true)
    go (inl l) = absurd (not_both e (test_bit-above (number_at 8 s (k * 8)) 64 i (word_lt s (k * 8) h) l))
    go (inr l) = (l, member-word s k i l ∙ e)

-- The bits of the word k of a set.
pub bits-where : (p : ℕ → Bool) (first v : ℕ) → v ≡ bits_where 64 (λ i. p (first + i)) → (i : ℕ) → i < 64 → test_bit v i ≡ p (first + i)
bits-where p first v e i l = ap (λ (w : ℕ). test_bit w i) e ∙ test_bit-bits_where 64 (λ i. p (first + i)) i l

-- ---- A set made from the one of the level before

module _ (j : Problem) (t n u from to words : ℕ) (work₀ work : List ℕ) (r : Narrowable j t n u from to words work₀) (k : ℕ) (h : k < words)
    (f : Filled to k (λ m. member work₀ (from * 64 + m) && stays j t n u m) work₀ work) where
  -- A word of the first set has the members that it had at the beginning.
  word_same : (i : ℕ) → i < 64 → member work ((from + k) * 64 + i) ≡ member work₀ (from * 64 + (k * 64 + i))
  word_same i l =
      let e : (from + k) * 64 + i ≡ from * 64 + (k * 64 + i) = omega arith in
      f.outside ((from + k) * 64 + i) (inl (omega (arith, r.behind))) ∙ ap (member work₀) e

  module _ (w : ℕ) (e : w ≡ number_at 8 work ((from + k) * 8)) where
    -- Its bits are those of candidates.
    pub word_admitted : AreBytes work → BitsAdmitted j u (k * 64) w
    word_admitted a i q =
        let b = bit_member work (from + k) i a (ap (λ (x : ℕ). test_bit x i) (sym e) ∙ q) in
        r.admitted (k * 64 + i) (omega (arith, b.0)) (sym (word_same i b.0) ∙ b.1)

    -- The word that stays of it is the next of the second set.
    pub word_narrowed : (v : ℕ) → ((i : ℕ) → test_bit v i ≡ (test_bit w i && stays j t n u (k * 64 + i))) → v < 2 ^ 64 → length work ≡ length work₀
        → Filled to (k + 1) (λ m. member work₀ (from * 64 + m) && stays j t n u m) work₀ (with_number 8 work ((to + k) * 8) v)
    word_narrowed v bits small l =
        filled_next to k (λ m. member work₀ (from * 64 + m) && stays j t n u m) work₀ work v f (omega (arith, r.fits, l)) small
        (λ i q. bits i
        ∙ ap (λ (b : Bool). b && stays j t n u (k * 64 + i)) (ap (λ (x : ℕ). test_bit x i) e ∙ sym (member-word work (from + k) i q) ∙ word_same i q))
