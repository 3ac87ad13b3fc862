-- The first number that meets a condition: the lowest bit of a word, and the next member of a set.
use mathlib.Core.Path.{◌≡◌, refl, sym, ap, ◌∙◌, subst}
use mathlib.Core.Bool.{Bool, true, false}
use mathlib.Core.List.{List}
use mathlib.Core.Logic.{◌⊎◌, inl, inr}
use Prim.Native.Nat.{ℕ, zero, suc, ◌+◌, ◌-◌, ◌*◌, ◌/◌, ◌%◌, ◌^◌, ◌≤◌, ◌<◌}
use native.Mathlib.Nat.{add-zero, suc-add, add-suc, zero-add}
use native.Mathlib.Omega.{arith}
use lib.Count.{count_trailing_zeros, under}
use lib.Dec.{eqb}
use lib.Pow.{shr_lt}
use Rattle.words.specs.Bytes.{AreBytes}
use Rattle.words.specs.Number.{number_at}
use Rattle.words.specs.Bits.{test_bit}
use Rattle.words.specs.Sets.{member, first_from, next_member}
use Rattle.words.proofs.Cases.{le_or_lt}
use Rattle.words.proofs.Bit.{bits-same, test_bit-none, test_bit-first, test_bit-next, test_bit-shift}
use Rattle.words.proofs.Member.{word_lt, member-word}

-- ---- the definition's two steps

first-here : (p : ℕ → Bool) (n i : ℕ) → p i ≡ true → first_from p (suc n) i ≡ i
unfolding first_from
first-here p n i e = rw (e, first_from)

first-later : (p : ℕ → Bool) (n i : ℕ) → p i ≡ false → first_from p (suc n) i ≡ first_from p n (suc i)
unfolding first_from
first-later p n i e = rw (e, first_from)

first-none : (p : ℕ → Bool) (i : ℕ) → first_from p 0 i ≡ i
unfolding first_from
first-none p i = refl

-- ---- what is found

-- Numbers that do not meet the condition are passed over.
pub first-skip : (p : ℕ → Bool) (m n i : ℕ) → ((j : ℕ) → j < m → p (i + j) ≡ false) → first_from p (m + n) i ≡ first_from p n (i + m)
first-skip p zero n i h = rw (zero-add, add-zero)
first-skip p (suc m) n i h =
    rw (suc-add, first-later p (m + n) i (rw add-zero at (h 0 (omega arith))), add-suc, ← suc-add)
    (first-skip p m n (suc i) (λ j l. rw (suc-add, ← add-suc) (h (suc j) (omega arith))))

-- A number that is met, with none met before it, is the first.
pub first-is : (p : ℕ → Bool) (m n i : ℕ) → m < n → ((j : ℕ) → j < m → p (i + j) ≡ false) → p (i + m) ≡ true → first_from p n i ≡ i + m
first-is p m n i l h e =
    let rest : n ≡ m + suc (n - suc m) = omega arith in
    rw (rest, first-skip p m (suc (n - suc m)) i h) (first-here p (n - suc m) (i + m) e)

-- What is found is met, or it is the number behind the last, and none before it is met.
pub record Found (p : ℕ → Bool) (n i m : ℕ) : Type 0 where
  pub place : first_from p n i ≡ i + m
  pub within : m ≤ n
  pub before : (j : ℕ) → j < m → p (i + j) ≡ false
  pub met : m < n → p (i + m) ≡ true

earlier : (p : ℕ → Bool) (i m : ℕ) → ((j : ℕ) → j < m → p (suc i + j) ≡ false) → p i ≡ false → (j : ℕ) → j < suc m → p (i + j) ≡ false
earlier p i m h e zero l = rw add-zero e
earlier p i m h e (suc j) l = rw (add-suc, ← suc-add) (h j (omega arith))

pub found : (p : ℕ → Bool) (n i : ℕ) → (m : ℕ) × Found p n i m
found p zero i = (0, record { place = first-none p i ∙ sym (add-zero i); within = omega arith; before = λ j l. absurd (omega arith); met = λ l. absurd (omega arith) })
found p (suc n) i = go (p i) refl (found p n (suc i))
  where
    go : (b : Bool) → p i ≡ b → (m : ℕ) × Found p n (suc i) m → (m : ℕ) × Found p (suc n) i m
    go true e rest = (0, record { place = first-here p n i e ∙ sym (add-zero i); within = omega arith; before = λ j l. absurd (omega arith); met = λ l. rw add-zero e })
    go false e rest =
        let m : ℕ = rest.0 in
        let f : Found p n (suc i) m = rest.1 in (
          suc m,
          record {
            place = first-later p n i e ∙ f.place ∙ suc-add i m ∙ sym (add-suc i m);
            within = omega (arith, f.within);
            before = earlier p i m f.before e;
            met = λ l. rw (add-suc, ← suc-add) (f.met (omega arith));
          },
        )

-- ---- the lowest bit

-- A condition read one place further on.
first_next : (p q : ℕ → Bool) → ((j : ℕ) → p (suc j) ≡ q j) → (n i : ℕ) → first_from p n (suc i) ≡ suc (first_from q n i)
first_next p q h zero i = first-none p (suc i) ∙ ap suc (sym (first-none q i))
first_next p q h (suc n) i = go (q i) refl (first_next p q h n (suc i))
  where
    go : (b : Bool) → q i ≡ b → first_from p n (suc (suc i)) ≡ suc (first_from q n (suc i)) → first_from p (suc n) (suc i) ≡ suc (first_from q (suc n) i)
    go true e rest = first-here p n (suc i) (h i ∙ e) ∙ ap suc (sym (first-here q n i e))
    go false e rest = first-later p n (suc i) (h i ∙ e) ∙ rest ∙ ap suc (sym (first-later q n i e))

-- The zeros below the lowest bit set are as many as its place.
pub trailing_first : (n w : ℕ) → count_trailing_zeros n w ≡ first_from (test_bit w) n 0
unfolding count_trailing_zeros
trailing_first zero w = sym (first-none (test_bit w) 0)
trailing_first (suc n) w = go (w % 2) refl (omega arith) (trailing_first n (w / 2))
  where
    go : (x : ℕ) → w % 2 ≡ x → x < 2 → count_trailing_zeros n (w / 2) ≡ first_from (test_bit (w / 2)) n 0 → under x (count_trailing_zeros n (w / 2)) ≡ first_from (test_bit w) (suc n) 0
    go zero e l rest =
        sym (first-later (test_bit w) n 0 (test_bit-first w ∙ ap (λ (x : ℕ). eqb x 1) e)
        ∙ first_next (test_bit w) (test_bit (w / 2)) (test_bit-next w) n 0 ∙ ap suc (sym rest))
    go (suc zero) e l rest = sym (first-here (test_bit w) n 0 (test_bit-first w ∙ ap (λ (x : ℕ). eqb x 1) e))
    go (suc (suc x)) e l rest = absurd (omega arith)

-- A word that is not 0 has a lowest bit.
pub lowest : (n w : ℕ) → w < 2 ^ n → (w ≡ 0 → ⊥) → (m : ℕ) × (first_from (test_bit w) n 0 ≡ m) × (m < n) × ((j : ℕ) → j < m → test_bit w j ≡ false) × (test_bit w m ≡ true)
lowest n w h q =
    let m : ℕ = (found (test_bit w) n 0).0 in
    let f : Found (test_bit w) n 0 m = (found (test_bit w) n 0).1 in
    let none : (j : ℕ) → j < m → test_bit w j ≡ false = λ j l. rw zero-add at (f.before j l) in
    let some : m < n = go m f.within none (le_or_lt n m) in
    (m, f.place ∙ zero-add m, some, none, rw zero-add at (f.met some))
  where
    go : (m : ℕ) → m ≤ n → ((j : ℕ) → j < m → test_bit w j ≡ false) → (n ≤ m) ⊎ (m < n) → m < n
    go m k none (inr l) = l
    go m k none (inl l) = absurd (q (bits-same n w 0 h (omega arith) (λ j b. none j (omega arith) ∙ sym (test_bit-none j))))

-- ---- the next member

-- The numbers from i on to the end of its word are the bits of the word, shifted.
pub member-shifted : (s : List ℕ) (i j : ℕ) → i % 64 + j < 64 → member s (i + j) ≡ test_bit (number_at 8 s (i / 64 * 8) / 2 ^ (i % 64)) j
member-shifted s i j l =
    let place : i + j ≡ i / 64 * 64 + (i % 64 + j) = omega arith in
    rw place (member-word s (i / 64) (i % 64 + j) l ∙ test_bit-shift (number_at 8 s (i / 64 * 8)) (i % 64) j)

module _ (s : List ℕ) (limit i : ℕ) where
  -- Past the limit.
  pub next_none : limit ≤ i → next_member limit s i ≡ i
  unfolding next_member
  next_none l =
      let none : limit - i ≡ 0 = omega arith in
      rw none (first-none (member s) i)

  -- The rest of the word is 0: on to the next word.
  pub next_word : (words : ℕ) → limit ≡ words * 64 → i < limit → number_at 8 s (i / 64 * 8) / 2 ^ (i % 64) ≡ 0 → next_member limit s i ≡ next_member limit s ((i / 64 + 1) * 64)
  unfolding next_member
  next_word words e l z =
      let m : ℕ = 64 - i % 64 in
      let split : limit - i ≡ m + (limit - (i / 64 + 1) * 64) = omega arith in
      let place : i + m ≡ (i / 64 + 1) * 64 = omega arith in
      rw split
      (first-skip (member s) m (limit - (i / 64 + 1) * 64) i (λ j b. member-shifted s i j (omega arith) ∙ ap (λ (w : ℕ). test_bit w j) z ∙ test_bit-none j)
      ∙ ap (first_from (member s) (limit - (i / 64 + 1) * 64)) place)

  -- The rest of the word is not 0: its lowest bit.
  pub next_here : (words : ℕ) → AreBytes s → limit ≡ words * 64 → i < limit → (number_at 8 s (i / 64 * 8) / 2 ^ (i % 64) ≡ 0 → ⊥)
      → next_member limit s i ≡ i + first_from (test_bit (number_at 8 s (i / 64 * 8) / 2 ^ (i % 64))) 64 0
  unfolding next_member
  next_here words h e l q =
      let r : ℕ = i % 64 in
      let word : ℕ = number_at 8 s (i / 64 * 8) in
      let width : 64 ≡ 64 - r + r = omega arith in
      let below : word < 2 ^ (64 - r + r) = subst (λ (n : ℕ). word < 2 ^ n) width (word_lt s (i / 64 * 8) h) in
      let f = lowest (64 - r) (word / 2 ^ r) (shr_lt (64 - r) r below) q in
      let m : ℕ = f.0 in
      let near : m < 64 - r = f.2 in
      first-is (member s) m (limit - i) i (omega arith)
      (λ j b. member-shifted s i j (omega arith) ∙ f.3 j b)
      (member-shifted s i m (omega arith) ∙ f.4)
      ∙ ap (λ (k : ℕ). i + k)
      (sym (first-is (test_bit (word / 2 ^ r)) m 64 0 (omega arith) (λ j b. rw zero-add (f.3 j b)) (rw zero-add f.4) ∙ zero-add m))
