-- A number of k bytes read and written at a place of a list of bytes, at every k.
use mathlib.Core.Path.{◌≡◌, refl, sym, ap, ◌∙◌, subst}
use mathlib.Core.Logic.{◌⊎◌, inl, inr}
use mathlib.Core.List.{List, [], ◌∷◌, ◌++◌, append_assoc, append-nil}
use Prim.Native.Nat.{ℕ, zero, suc, ◌+◌, ◌-◌, ◌*◌, ◌/◌, ◌%◌, ◌^◌, ◌≤◌, ◌<◌}
use native.Mathlib.Nat.{one-mul, mul_assoc, add_assoc, zero-add, add-sub_of_le, pow-succ', add-zero, suc-add, add-suc, mod-eq_of_lt}
use native.Mathlib.Omega.{arith}
use lib.ListN.{length, get_or, set, take, drop, length-append, length-drop, length-set, take-append-drop}
use lib.Seq.{take_all, take-add, take_at, drop_at, length-take-le, drop-drop, get_or-take, get_or-drop, sets, sets-eq, take-nil}
use Rattle.words.specs.Number.{value, bytes, number_at, with_number}
use Rattle.words.specs.Bytes.{AreBytes}
use Rattle.words.proofs.Cases.{le_or_lt}
use Rattle.words.proofs.Lists.{bytes_take, bytes_drop, get_or-behind, get_or-within}
use Rattle.words.proofs.Value.{bytes-value, bytes-mod, bytes-add, length-bytes, bytes-are, value-bytes}

-- ---- reading

-- The number of no bytes is 0.
pub number_at-zero : (s : List ℕ) (i : ℕ) → number_at 0 s i ≡ 0
unfolding number_at value
number_at-zero s i = refl

-- A number of k + 1 bytes is its first byte and the number of k bytes after that one.
pub number_at-suc : (k : ℕ) (s : List ℕ) (i : ℕ) → number_at (suc k) s i ≡ get_or s i 0 + 256 * number_at k s (suc i)
unfolding number_at value
number_at-suc k [] zero = rw take-nil
number_at-suc k [] (suc i) = rw take-nil
number_at-suc k (b ∷ s) zero = refl
number_at-suc k (b ∷ s) (suc i) = number_at-suc k s i

-- A number of k bytes fits k bytes.
pub number_at-lt : (k : ℕ) (s : List ℕ) (i : ℕ) → AreBytes s → number_at k s i < 256 ^ k
number_at-lt zero s i h = rw number_at-zero (omega arith)
number_at-lt (suc k) s i h = rw (number_at-suc, pow-succ' 256 k) (omega (arith, h i, number_at-lt k s (suc i) h))

-- A number of j + k bytes is the number of j bytes and, above it, the number of the k bytes behind them.
pub number_at-add : (j k : ℕ) (s : List ℕ) (i : ℕ) → number_at (j + k) s i ≡ number_at j s i + 256 ^ j * number_at k s (i + j)
number_at-add zero k s i = rw (zero-add, number_at-zero, one-mul, zero-add, add-zero)
number_at-add (suc j) k s i =
    rw (suc-add, number_at-suc (j + k), number_at-add j k s (suc i), number_at-suc j, pow-succ' 256 j, mul_assoc 256, add-suc, suc-add)
    (omega arith)

-- A number of eight bytes, two bytes at a time.
pub number_at-four : (s : List ℕ) (i : ℕ)
    → number_at 8 s i ≡ number_at 2 s i + 65536 * (number_at 2 s (i + 2) + 65536 * (number_at 2 s (i + 4) + 65536 * number_at 2 s (i + 6)))
number_at-four s i =
    let third : i + 2 + 2 ≡ i + 4 = omega arith in
    let fourth : i + 4 + 2 ≡ i + 6 = omega arith in
    rw (number_at-add 2 6 s i, number_at-add 2 4 s (i + 2), third, number_at-add 2 2 s (i + 4), fourth)

-- A list of k bytes is one number.
pub number_at-whole : (k : ℕ) (s : List ℕ) → length s ≡ k → number_at k s 0 ≡ value s
unfolding number_at
number_at-whole k s e = ap value (take_all k s (omega arith))

-- Where the bytes of two lists are the same at k places, so are the numbers there.
pub number_at-cong : (k : ℕ) (s t : List ℕ) (i j : ℕ) → ((m : ℕ) → m < k → get_or s (i + m) 0 ≡ get_or t (j + m) 0) → number_at k s i ≡ number_at k t j
number_at-cong zero s t i j h = number_at-zero s i ∙ sym (number_at-zero t j)
number_at-cong (suc k) s t i j h =
    let first : get_or s i 0 ≡ get_or t j 0 = simp add-zero at (h 0 (omega arith)) in
    let rest : number_at k s (suc i) ≡ number_at k t (suc j) =
    number_at-cong k s t (suc i) (suc j) (λ m l. simp (suc-add) (simp add-suc at (h (suc m) (omega arith)))) in
    rw (number_at-suc, number_at-suc, first, rest)

-- ---- reading in a part

-- Behind the first j bytes.
pub number_at-drop : (k j : ℕ) (s : List ℕ) (i : ℕ) → number_at k (drop j s) i ≡ number_at k s (j + i)
number_at-drop k j s i = number_at-cong k (drop j s) s i (j + i) (λ m l. get_or-drop j s (i + m) 0 ∙ rw add_assoc)

-- Within the first n bytes.
pub number_at-take : (k n : ℕ) (s : List ℕ) (i : ℕ) → i + k ≤ n → number_at k (take n s) i ≡ number_at k s i
number_at-take k n s i h = number_at-cong k (take n s) s i i (λ m l. get_or-take n s (i + m) 0 (omega arith))

-- In the first of two lists, one after the other, and in the second.
pub number_at-first : (k : ℕ) (p q : List ℕ) (i : ℕ) → i + k ≤ length p → number_at k (p ++ q) i ≡ number_at k p i
number_at-first k p q i h = number_at-cong k (p ++ q) p i i (λ m l. get_or-within p q (length p) (i + m) refl (omega arith))

pub number_at-second : (k : ℕ) (p q : List ℕ) (i : ℕ) → number_at k (p ++ q) (length p + i) ≡ number_at k q i
number_at-second k p q i = number_at-cong k (p ++ q) q (length p + i) i (λ m l. rw add_assoc (get_or-behind p q (length p) (i + m) refl))

-- ---- writing, into bytes that are all there

module _ (k : ℕ) (s : List ℕ) (i n : ℕ) (fits : i + k ≤ length s) where
  front_length : length (take i s) ≡ i
  front_length = length-take-le i s (omega arith)

  head_length : length (take i s ++ bytes k n) ≡ i + k
  head_length = rw (length-append, front_length, length-bytes)

  -- The bytes stay as many.
  pub length-with_number : length (with_number k s i n) ≡ length s
  unfolding with_number
  length-with_number = rw (length-append (take i s ++ bytes k n), head_length, length-drop) (omega arith)

  -- A write is one store a byte.
  pub with_number-sets : with_number k s i n ≡ sets s i (bytes k n)
  unfolding with_number
  with_number-sets = sym (rw length-bytes at (sets-eq (bytes k n) s i (rw length-bytes fits)))

  -- A write of k bytes, and then one of j bytes behind them, leave this.
  two_writes : (j m : ℕ) → with_number j (with_number k s i n) (i + k) m ≡ take i s ++ bytes k n ++ bytes j m ++ drop (i + k + j) s
  unfolding with_number
  two_writes j m =
      let front : take (i + k) (take i s ++ bytes k n ++ drop (i + k) s) ≡ take i s ++ bytes k n =
      take_at (take i s ++ bytes k n) (drop (i + k) s) (i + k) head_length in
      let back : drop (i + k + j) (take i s ++ bytes k n ++ drop (i + k) s) ≡ drop (i + k + j) s =
      sym (drop-drop j (i + k) (take i s ++ bytes k n ++ drop (i + k) s))
      ∙ ap (drop j) (drop_at (take i s ++ bytes k n) (drop (i + k) s) (i + k) head_length)
      ∙ drop-drop j (i + k) s in
      rw (front, back)

  -- The bytes before are unchanged.
  pub byte_before : (j : ℕ) → j < i → get_or (with_number k s i n) j 0 ≡ get_or s j 0
  unfolding with_number
  byte_before j h =
      get_or-within (take i s ++ bytes k n) (drop (i + k) s) (i + k) j head_length (omega arith)
      ∙ get_or-within (take i s) (bytes k n) i j front_length h
      ∙ get_or-take i s j 0 h

  -- The bytes written are those of the number.
  pub byte_in : (j : ℕ) → j < k → get_or (with_number k s i n) (i + j) 0 ≡ get_or (bytes k n) j 0
  unfolding with_number
  byte_in j h =
      get_or-within (take i s ++ bytes k n) (drop (i + k) s) (i + k) (i + j) head_length (omega arith)
      ∙ get_or-behind (take i s) (bytes k n) i j front_length

  -- The bytes after are unchanged.
  pub byte_after : (j : ℕ) → i + k ≤ j → get_or (with_number k s i n) j 0 ≡ get_or s j 0
  unfolding with_number
  byte_after j h =
      subst (λ (m : ℕ). get_or (with_number k s i n) m 0 ≡ get_or s m 0) (add-sub_of_le h)
      (get_or-behind (take i s ++ bytes k n) (drop (i + k) s) (i + k) (j - (i + k)) head_length ∙ get_or-drop (i + k) s (j - (i + k)) 0)

  -- The number that was written stands there.
  pub number_at-same : number_at k (with_number k s i n) i ≡ n % 256 ^ k
  number_at-same =
      number_at-cong k (with_number k s i n) (bytes k n) i 0 (λ m h. byte_in m h ∙ rw zero-add)
      ∙ number_at-whole k (bytes k n) (length-bytes k n) ∙ value-bytes k n

  -- It is the number itself where that fits k bytes.
  pub number_at-written : n < 256 ^ k → number_at k (with_number k s i n) i ≡ n
  number_at-written h = number_at-same ∙ mod-eq_of_lt h

  -- Every number of any width that shares no byte with it stands as it did.
  pub number_at-other : (m j : ℕ) → (j + m ≤ i) ⊎ (i + k ≤ j) → number_at m (with_number k s i n) j ≡ number_at m s j
  number_at-other m j (inl h) = number_at-cong m (with_number k s i n) s j j (λ x l. byte_before (j + x) (omega arith))
  number_at-other m j (inr h) = number_at-cong m (with_number k s i n) s j j (λ x l. byte_after (j + x) (omega arith))

  -- Bytes stay bytes.
  pub with_number-bytes : AreBytes s → AreBytes (with_number k s i n)
  with_number-bytes h j = go (le_or_lt i j) (le_or_lt (i + k) j)
    where
      go : (i ≤ j) ⊎ (j < i) → (i + k ≤ j) ⊎ (j < i + k) → get_or (with_number k s i n) j 0 < 256
      go (inr a) b = rw (byte_before j a) (h j)
      go (inl a) (inl b) = rw (byte_after j b) (h j)
      go (inl a) (inr b) =
          subst (λ (m : ℕ). get_or (with_number k s i n) m 0 < 256) (add-sub_of_le a)
          (rw (byte_in (j - i) (omega arith)) (bytes-are k n (j - i)))

-- A write of j + k bytes is a write of the j low ones and then one of the k high ones behind them.
pub with_number-add : (j k : ℕ) (s : List ℕ) (i n : ℕ) → i + j ≤ length s → with_number (j + k) s i n ≡ with_number k (with_number j s i (n % 256 ^ j)) (i + j) (n / 256 ^ j)
unfolding with_number
with_number-add j k s i n fits =
    rw (two_writes j s i (n % 256 ^ j) fits, bytes-mod, bytes-add, ← add_assoc) (simp append_assoc)

-- A write of no bytes changes nothing.
pub with_number-none : (s : List ℕ) (i n : ℕ) → with_number 0 s i n ≡ s
unfolding with_number bytes
with_number-none s i n = rw (add-zero, append-nil) (take-append-drop i s)

-- What is left of a write of m bytes after the first k is byte k and what is left then: the law of a loop that writes.
pub with_number-next : (m k : ℕ) (s : List ℕ) (i n : ℕ) → k < m → i + m ≤ length s
    → with_number (m - k) s (i + k) n ≡ with_number (m - (k + 1)) (set s (i + k) (n % 256)) (i + (k + 1)) (n / 256)
unfolding bytes
with_number-next m k s i n h fits =
    let left : m - k ≡ suc (m - (k + 1)) = omega arith in
    let next : suc (i + k) ≡ i + (k + 1) = omega arith in
    ap (λ (j : ℕ). with_number j s (i + k) n) left
    ∙ with_number-sets (suc (m - (k + 1))) s (i + k) n (omega arith)
    ∙ ap (λ (j : ℕ). sets (set s (i + k) (n % 256)) j (bytes (m - (k + 1)) (n / 256))) next
    ∙ sym (with_number-sets (m - (k + 1)) (set s (i + k) (n % 256)) (i + (k + 1)) (n / 256) (rw length-set (omega arith)))

-- A write of k bytes sees no more of the number than k bytes hold.
pub with_number-mod : (k : ℕ) (s : List ℕ) (i n : ℕ) → with_number k s i (n % 256 ^ k) ≡ with_number k s i n
unfolding with_number
with_number-mod k s i n = rw bytes-mod

-- The bytes of the number that stands there are those that stand there.
pub bytes-number_at : (k : ℕ) (s : List ℕ) (i : ℕ) → AreBytes s → i + k ≤ length s → bytes k (number_at k s i) ≡ take k (drop i s)
unfolding number_at
bytes-number_at k s i h fits =
    let xs : List ℕ = take k (drop i s) in
    let long : length xs ≡ k = length-take-le k (drop i s) (rw length-drop (omega arith)) in
    subst (λ (n : ℕ). bytes n (value xs) ≡ xs) long (bytes-value xs (bytes_take k (drop i s) (bytes_drop i s h)))

-- A write of the number that stands there changes nothing.
pub with_number-number_at : (k : ℕ) (s : List ℕ) (i : ℕ) → AreBytes s → i + k ≤ length s → with_number k s i (number_at k s i) ≡ s
unfolding with_number
with_number-number_at k s i h fits = rw (bytes-number_at k s i h fits, ← take-add) (take-append-drop (i + k) s)
