-- Sets of numbers in words: one law for every change of one bit, and the members and the count after each.
use mathlib.Core.Path.{◌≡◌, refl, sym, ap, ap₂, ◌∙◌}
use mathlib.Core.Bool.{Bool, true, false, not, ◌&&◌, ◌||◌, and-true, and-false, or-true, or-false}
use mathlib.Core.List.{List, ◌++◌}
use mathlib.Core.Logic.{◌⊎◌, inl, inr}
use Prim.Native.Nat.{ℕ, ◌+◌, ◌-◌, ◌*◌, ◌/◌, ◌%◌, ◌^◌, ◌≤◌, ◌<◌}
use native.Mathlib.Nat.{mod-eq_of_lt, lt_of_le_of_lt}
use native.Mathlib.Omega.{arith}
use lib.Count.{ones, ones-le}
use lib.Dec.{eqb}
use lib.ListN.{length, take, drop, replicate, length-replicate, get_or-replicate}
use lib.Seq.{length-take-le}
use borrow.Author.Tests.{eq-eqb, ne_eqb}
use Rattle.words.specs.Bytes.{AreBytes}
use Rattle.words.specs.Number.{number_at, with_number, filled}
use Rattle.words.specs.Bits.{test_bit, with_bit, without_bit}
use Rattle.words.specs.Sets.{word_offset, member, changed, with_member, without_member, how_many, count_members, cleared_words}
use Rattle.words.proofs.Cases.{eq_or_ne, le_or_lt}
use Rattle.words.proofs.Place.{number_at-drop, number_at-take, length-with_number, with_number-bytes, with_number-number_at, number_at-lt, number_at-same, number_at-other}
use Rattle.words.proofs.Row.{bytes_of-zeros, length-filled, filled-bytes, number_at-filled, number_at-behind-filled}
use Rattle.words.proofs.Bit.{test_bit-none, test_bit-with, test_bit-without, with_bit-lt, without_bit-le}
use Rattle.words.proofs.HowMany.{how_many-cong, how_many-add, how_many-none, how_many-more, how_many-bits}

-- A word of a list of bytes fits 64 bits.
pub word_lt : (s : List ℕ) (i : ℕ) → AreBytes s → number_at 8 s i < 2 ^ 64
word_lt s i h = number_at-lt 8 s i h

-- Of two numbers of one word, the bits are the same exactly if the numbers are.
same_bit : (n m : ℕ) → n / 64 ≡ m / 64 → eqb (n % 64) (m % 64) ≡ eqb n m
same_bit n m e = go (eq_or_ne n m)
  where
    go : (n ≡ m) ⊎ (n ≡ m → ⊥) → eqb (n % 64) (m % 64) ≡ eqb n m
    go (inl q) = eq-eqb (n % 64) (m % 64) (omega arith) ∙ sym (eq-eqb n m q)
    go (inr q) = ne_eqb (n % 64) (m % 64) (λ (r : n % 64 ≡ m % 64). q (omega arith)) ∙ sym (ne_eqb n m q)

-- Two words share no byte.
apart : (n m : ℕ) → (n / 64 ≡ m / 64 → ⊥) → (word_offset m + 8 ≤ word_offset n) ⊎ (word_offset n + 8 ≤ word_offset m)
apart n m e = go (le_or_lt (n / 64) (m / 64))
  where
    go : (n / 64 ≤ m / 64) ⊎ (m / 64 < n / 64) → (word_offset m + 8 ≤ word_offset n) ⊎ (word_offset n + 8 ≤ word_offset m)
    go (inl l) = inr (omega arith)
    go (inr l) = inl (omega arith)

-- After a change of one bit the bytes stay as many, and stay bytes.
module _ (f : ℕ → ℕ → ℕ) (s : List ℕ) (n : ℕ) (fits : word_offset n + 8 ≤ length s) where
  pub length-changed : length (changed f s n) ≡ length s
  unfolding changed
  length-changed = length-with_number 8 s (word_offset n) (f (number_at 8 s (word_offset n)) (n % 64)) fits

  pub bytes-changed : AreBytes s → AreBytes (changed f s n)
  unfolding changed
  bytes-changed = with_number-bytes 8 s (word_offset n) (f (number_at 8 s (word_offset n)) (n % 64)) fits

  -- A change that leaves the word as it is leaves the bytes as they are.
  unchanged : AreBytes s → f (number_at 8 s (word_offset n)) (n % 64) ≡ number_at 8 s (word_offset n) → changed f s n ≡ s
  unfolding changed
  unchanged h e = ap (with_number 8 s (word_offset n)) e ∙ with_number-number_at 8 s (word_offset n) h fits

-- A change f of bit n of its word, where g says what f does to the test of a bit.
module _ (f : ℕ → ℕ → ℕ) (g : Bool → Bool → Bool)
    (bit : (w i j : ℕ) → test_bit (f w i) j ≡ g (test_bit w j) (eqb i j))
    (keeps : (b : Bool) → g b false ≡ b)
    (below : (w i : ℕ) → w < 2 ^ 64 → i < 64 → f w i < 2 ^ 64)
    (s : List ℕ) (n m : ℕ) (h : AreBytes s) (fits : word_offset n + 8 ≤ length s) where
  member-changed : member (changed f s n) m ≡ g (member s m) (eqb n m)
  unfolding member changed
  member-changed = go (eq_or_ne (n / 64) (m / 64))
    where
      v : ℕ
      v = f (number_at 8 s (word_offset n)) (n % 64)

      written : number_at 8 (with_number 8 s (word_offset n) v) (word_offset n) ≡ v
      written =
          number_at-same 8 s (word_offset n) v fits
          ∙ mod-eq_of_lt (below (number_at 8 s (word_offset n)) (n % 64) (word_lt s (word_offset n) h) (omega arith))

      go : (n / 64 ≡ m / 64) ⊎ (n / 64 ≡ m / 64 → ⊥)
          → test_bit (number_at 8 (with_number 8 s (word_offset n) v) (word_offset m)) (m % 64) ≡ g (test_bit (number_at 8 s (word_offset m)) (m % 64)) (eqb n m)
      go (inl e) = rw (← e, written) (bit (number_at 8 s (word_offset n)) (n % 64) (m % 64) ∙ ap (g (test_bit (number_at 8 s (word_offset n)) (m % 64))) (same_bit n m e))
      go (inr e) =
          rw (number_at-other 8 s (word_offset n) v fits 8 (word_offset m) (apart n m e), ne_eqb n m (λ (q : n ≡ m). e (omega arith)))
          (sym (keeps (test_bit (number_at 8 s (word_offset m)) (m % 64))))

-- ---- the members after a change

module _ (s : List ℕ) (n : ℕ) (h : AreBytes s) (fits : word_offset n + 8 ≤ length s) where
  -- n is a member, and every other number is as before.
  pub member-with : (m : ℕ) → member (with_member s n) m ≡ member s m || eqb n m
  member-with m = member-changed with_bit ◌||◌ test_bit-with or-false (with_bit-lt 64) s n m h fits

  -- n is no member, and every other number is as before.
  pub member-without : (m : ℕ) → member (without_member s n) m ≡ member s m && not (eqb n m)
  member-without m =
      member-changed without_bit (λ a b. a && not b) test_bit-without and-true (λ w i k l. lt_of_le_of_lt (without_bit-le w i) k) s n m h fits

  pub member-with_same : member (with_member s n) n ≡ true
  member-with_same = rw (member-with, eq-eqb n n refl) (or-true (member s n))

  pub member-with_other : (m : ℕ) → (n ≡ m → ⊥) → member (with_member s n) m ≡ member s m
  member-with_other m q = rw (member-with, ne_eqb n m q) (or-false (member s m))

  pub member-without_same : member (without_member s n) n ≡ false
  member-without_same = rw (member-without, eq-eqb n n refl) (and-false (member s n))

  pub member-without_other : (m : ℕ) → (n ≡ m → ⊥) → member (without_member s n) m ≡ member s m
  member-without_other m q = rw (member-without, ne_eqb n m q) (and-true (member s m))

  -- A member made a member, or no member made none: the bytes are as they were.
  pub with_member_lem : member s n ≡ true → with_member s n ≡ s
  unfolding member with_bit
  with_member_lem e = unchanged with_bit s n fits h (rw e)

  pub without_member_lem : member s n ≡ false → without_member s n ≡ s
  unfolding member without_bit
  without_member_lem e = unchanged without_bit s n fits h (rw e)

  -- A new member counts one more, and one taken away one less.
  pub count-with : (k : ℕ) → n < k → member s n ≡ false → count_members k (with_member s n) ≡ count_members k s + 1
  unfolding count_members
  count-with k l e =
      how_many-more k n (member s) (member (with_member s n)) l (λ i q. member-with_other i (λ (r : n ≡ i). q (sym r))) e member-with_same

  pub count-without : (k : ℕ) → n < k → member s n ≡ true → count_members k s ≡ count_members k (without_member s n) + 1
  unfolding count_members
  count-without k l e =
      how_many-more k n (member (without_member s n)) (member s) l (λ i q. sym (member-without_other i (λ (r : n ≡ i). q (sym r)))) member-without_same e

-- ---- the count

-- It is 0 where no number is a member.
pub count_none : (k : ℕ) (s : List ℕ) → ((i : ℕ) → i < k → member s i ≡ false) → count_members k s ≡ 0
unfolding count_members
count_none k s h = how_many-none k (member s) h

-- Number i of word k is bit i of that word.
pub member-word : (s : List ℕ) (k i : ℕ) → i < 64 → member s (k * 64 + i) ≡ test_bit (number_at 8 s (k * 8)) i
unfolding member
member-word s k i l =
    let q : (k * 64 + i) / 64 ≡ k = omega arith in
    let r : (k * 64 + i) % 64 ≡ i = omega arith in
    rw (q, r)

-- No word has no member.
pub count-no_words : (s : List ℕ) → count_members (0 * 64) s ≡ 0
unfolding count_members how_many
count-no_words s = refl

-- One word more counts the bits set in it: the law of a loop that counts.
pub count_word : (s : List ℕ) (k : ℕ) → AreBytes s → count_members ((k + 1) * 64) s ≡ count_members (k * 64) s + ones (number_at 8 s (k * 8))
unfolding count_members
count_word s k h =
    let next : (k + 1) * 64 ≡ k * 64 + 64 = omega arith in
    ap (λ (n : ℕ). how_many n (member s)) next ∙ how_many-add (k * 64) 64 (member s)
    ∙ ap (λ (x : ℕ). how_many (k * 64) (member s) + x)
    (how_many-cong 64 (λ i. member s (k * 64 + i)) (test_bit (number_at 8 s (k * 8))) (member-word s k)
    ∙ how_many-bits 64 (number_at 8 s (k * 8)) (word_lt s (k * 8) h))

-- A word that is 0 counts none.
pub count-empty : (s : List ℕ) (k : ℕ) → AreBytes s → number_at 8 s (k * 8) ≡ 0 → count_members ((k + 1) * 64) s ≡ count_members (k * 64) s
count-empty s k h e = omega (arith, count_word s k h, ap ones e, ones-le 0 0 (omega arith))

-- More words have no fewer members.
pub count-le : (s : List ℕ) (k words : ℕ) → k ≤ words → count_members (k * 64) s ≤ count_members (words * 64) s
unfolding count_members
count-le s k words l =
    let e : words * 64 ≡ k * 64 + (words - k) * 64 = omega arith in
    rw e (omega (arith, how_many-add (k * 64) ((words - k) * 64) (member s)))

-- ---- words that became zero

-- Zeros in the place of their bytes (`s[..words * 8].fill(0)` in code).
pub cleared-is : (words : ℕ) (s zeros : List ℕ) → words * 8 ≤ length s
    → zeros ≡ replicate (length (take (words * 8) s)) 0
    → zeros ++ drop (words * 8) s ≡ cleared_words words s
unfolding cleared_words filled
cleared-is words s zeros fits e =
    ap₂ ◌++◌ (e ∙ ap (λ (n : ℕ). replicate n 0) (length-take-le (words * 8) s fits) ∙ sym (bytes_of-zeros 8 words))
    (ap (λ (n : ℕ). drop (n * 8) s) (sym (length-replicate words 0)))

module _ (words : ℕ) (s : List ℕ) (fits : words * 8 ≤ length s) where
  room : length {A = ℕ} (replicate words 0) * 8 ≤ length s
  room = rw length-replicate fits

  -- The bytes stay as many.
  pub length-cleared : length (cleared_words words s) ≡ length s
  unfolding cleared_words
  length-cleared = length-filled 8 (replicate words 0) s room

  pub bytes-cleared : AreBytes s → AreBytes (cleared_words words s)
  unfolding cleared_words
  bytes-cleared = filled-bytes 8 (replicate words 0) s

  -- No number of theirs is a member.
  pub member-cleared : (n : ℕ) → n < words * 64 → member (cleared_words words s) n ≡ false
  unfolding member cleared_words
  member-cleared n l =
      let zero_word : number_at 8 (filled 8 (replicate words 0) s) (n / 64 * 8) ≡ 0 =
      number_at-filled 8 (replicate words 0) s room (n / 64) (rw length-replicate (omega arith))
      ∙ ap (λ (x : ℕ). x % 256 ^ 8) (get_or-replicate words (n / 64) 0 0 (omega arith)) in
      rw zero_word (test_bit-none (n % 64))

  -- Every other number is a member as before.
  pub member-behind-cleared : (n : ℕ) → words * 64 ≤ n → member (cleared_words words s) n ≡ member s n
  unfolding member cleared_words
  member-behind-cleared n l =
      rw (number_at-behind-filled 8 (replicate words 0) s room 8 (n / 64 * 8) (rw length-replicate (omega arith)))

  pub count-cleared : count_members (words * 64) (cleared_words words s) ≡ 0
  count-cleared = count_none (words * 64) (cleared_words words s) member-cleared

-- ---- a set that is a part of a list

-- The set of the words behind the first.
pub member-drop : (words : ℕ) (s : List ℕ) (n : ℕ) → member (drop (words * 8) s) n ≡ member s (words * 64 + n)
unfolding member
member-drop words s n =
    let place : words * 8 + n / 64 * 8 ≡ (words * 64 + n) / 64 * 8 = omega arith in
    let bit : n % 64 ≡ (words * 64 + n) % 64 = omega arith in
    rw (number_at-drop, place) (ap (test_bit (number_at 8 s ((words * 64 + n) / 64 * 8))) bit)

-- The set of the words within the first n bytes.
pub member-take : (m : ℕ) (s : List ℕ) (n : ℕ) → word_offset n + 8 ≤ m → member (take m s) n ≡ member s n
unfolding member
member-take m s n l = rw (number_at-take 8 m s (word_offset n) l)
