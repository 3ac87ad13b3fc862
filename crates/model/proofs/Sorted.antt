-- Membership, counts and order of lists of numbers.
use mathlib.Core.Bool.{Bool, true, false, cond}
use mathlib.Core.List.Memᴰ
use mathlib.Core.List.{List, [], ◌∷◌, ◌++◌, map, Memᴰ}
use mathlib.Core.Logic.{◌⊎◌, inl, inr, ⊎_elim}
use mathlib.Core.Path.{◌≡◌, refl, sym, ap₂, ◌∙◌, subst}
use Prim.Native.Nat.{ℕ, zero, suc, ◌+◌, ◌≤◌, ◌<◌}
use native.Mathlib.Nat.{not-suc-le-zero, le_antisymm}
use native.Mathlib.Omega.{arith}
use borrow.Author.Tests.{eqb-true, eqb-false, eq-eqb, ne_eqb}
use lib.Dec.{eqb}
use lib.ListN.{length, replicate, length-append, length-replicate}
use Rattle.model.specs.Lists.{keep, count_of, concat, sum, rising}
use Rattle.words.proofs.Cases.{true_or_false}
use Rattle.model.proofs.Lists.{not_both}

-- ---- Strictly and weakly rising lists

-- The number is below each of these.
abbrev pub Above : ℕ → List ℕ → Type 0
Above n ms = (m : ℕ) → Memᴰ m ms → n < m

-- Each number is below all after it.
abbrev pub Rising : List ℕ → Type 0
Rising [] = Unit {0}
Rising (n ∷ ns) = Above n ns × Rising ns

-- The number is at most each of these.
abbrev pub NotBelow : ℕ → List ℕ → Type 0
NotBelow n ms = (m : ℕ) → Memᴰ m ms → n ≤ m

-- Each number is at most all after it.
abbrev pub Ascending : List ℕ → Type 0
Ascending [] = Unit {0}
Ascending (n ∷ ns) = NotBelow n ns × Ascending ns

-- The numbers that rise by one from i on: which they are, and that they rise.
pub mem_rising : (i k m : ℕ) → Memᴰ m (rising i k) → (i ≤ m) × (m < i + k)
unfolding rising
mem_rising i zero m h = absurd (Memᴰ.not-nil h)
mem_rising i (suc k) m h = ⊎_elim (λ e. omega arith) (λ d. let r = mem_rising (suc i) k m d in omega arith) (Memᴰ.cases_cons h)

-- And each such number is among them.
pub rising-mem : (i k m : ℕ) → i ≤ m → m < i + k → Memᴰ m (rising i k)
unfolding rising
rising-mem i zero m l h = absurd (omega arith)
rising-mem i (suc k) m l h = go (true_or_false (eqb m i)) (rising-mem (suc i) k m)
  where
    go : (eqb m i ≡ true) ⊎ (eqb m i ≡ false) → (suc i ≤ m → m < suc i + k → Memᴰ m (rising (suc i) k)) → Memᴰ m (i ∷ rising (suc i) k)
    go (inl e) r = Memᴰ.head (eqb-true m i e)
    go (inr e) r = let n : m ≡ i → ⊥ = eqb-false m i e in Memᴰ.tail (r (omega arith) (omega arith))

module _ {A : Type 0} (p : A → Bool) where
  -- What is kept: the elements of which the test holds.
  pub mem_keep : (xs : List A) (a : A) → Memᴰ a (keep p xs) → Memᴰ a xs × (p a ≡ true)
  unfolding keep
  mem_keep [] a h = absurd (Memᴰ.not-nil h)
  mem_keep (x ∷ xs) a h = go (p x) refl h (mem_keep xs a)
    where
      go : (b : Bool) → p x ≡ b → Memᴰ a (cond b (x ∷ keep p xs) (keep p xs)) → (Memᴰ a (keep p xs) → Memᴰ a xs × (p a ≡ true))
          → Memᴰ a (x ∷ xs) × (p a ≡ true)
      go true e h r = ⊎_elim (λ d. (Memᴰ.head d, rw d e)) (λ d. (Memᴰ.tail (r d).0, (r d).1)) (Memᴰ.cases_cons h)
      go false e h r = (Memᴰ.tail (r h).0, (r h).1)

  -- An element of which the test holds is kept.
  pub keep-mem : (xs : List A) (a : A) → Memᴰ a xs → p a ≡ true → Memᴰ a (keep p xs)
  unfolding keep
  keep-mem (x ∷ xs) a h e = go (p x) refl (Memᴰ.cases_cons h) (λ d. keep-mem xs a d e)
    where
      go : (b : Bool) → p x ≡ b → (a ≡ x) ⊎ Memᴰ a xs → (Memᴰ a xs → Memᴰ a (keep p xs)) → Memᴰ a (cond b (x ∷ keep p xs) (keep p xs))
      go true q (inl d) r = Memᴰ.head d
      go true q (inr d) r = Memᴰ.tail (r d)
      go false q (inl d) r = absurd (not_both (rw d at e) q)
      go false q (inr d) r = r d
  keep-mem [] a h e = elim h [ ]

-- What is kept of rising numbers rises.
pub keep-rises : (p : ℕ → Bool) (i k : ℕ) → Rising (keep p (rising i k))
unfolding keep rising
keep-rises p i zero = tt
keep-rises p i (suc k) = go (p i) (keep-rises p (suc i) k)
  where
    go : (b : Bool) → Rising (keep p (rising (suc i) k)) → Rising (cond b (i ∷ keep p (rising (suc i) k)) (keep p (rising (suc i) k)))
    go true r = ((λ m h. (mem_rising (suc i) k m (mem_keep p (rising (suc i) k) m h).0).0), r)
    go false r = r

-- ---- Counts

-- Equality is tested alike both ways round.
pub eqb_comm : (a b : ℕ) → eqb a b ≡ eqb b a
eqb_comm a b = go (true_or_false (eqb b a))
  where
    go : (eqb b a ≡ true) ⊎ (eqb b a ≡ false) → eqb a b ≡ eqb b a
    go (inl e) = eq-eqb a b (sym (eqb-true b a e)) ∙ sym e
    go (inr e) = ne_eqb a b (λ q. eqb-false b a e (sym q)) ∙ sym e

module _ {A : Type 0} where
  -- Counts of two lists, one after the other.
  pub count_of-append : (p : A → Bool) (xs ys : List A) → count_of p (xs ++ ys) ≡ count_of p xs + count_of p ys
  unfolding count_of
  count_of-append p [] ys = omega arith
  count_of-append p (x ∷ xs) ys = rw (count_of-append p xs ys) (omega arith)

  -- A test that holds of no element counts none.
  pub count_of-none : (p : A → Bool) (xs : List A) → ((a : A) → Memᴰ a xs → p a ≡ false) → count_of p xs ≡ 0
  unfolding count_of
  count_of-none p [] f = refl
  count_of-none p (x ∷ xs) f = rw (f x (Memᴰ.head refl), count_of-none p xs (λ a d. f a (Memᴰ.tail d)))

-- A number that is counted is there.
pub counted_mem : (t : ℕ) (ns : List ℕ) → 0 < count_of (eqb t) ns → Memᴰ t ns
unfolding count_of
counted_mem t [] h = absurd (not-suc-le-zero h)
counted_mem t (n ∷ ns) h = go (eqb t n) refl h (counted_mem t ns)
  where
    go : (b : Bool) → eqb t n ≡ b → 0 < cond b 1 0 + count_of (eqb t) ns → (0 < count_of (eqb t) ns → Memᴰ t ns) → Memᴰ t (n ∷ ns)
    go true e h r = Memᴰ.head (eqb-true t n e)
    go false e h r = Memᴰ.tail (r (omega arith))

-- The count of the first number is not 0.
counted_first : (n : ℕ) (ns : List ℕ) → 0 < count_of (eqb n) (n ∷ ns)
unfolding count_of
counted_first n ns = rw (eq-eqb n n refl) (omega arith)

-- Equal counts with the same number in front are equal counts.
count-tail : (n : ℕ) (ns ms : List ℕ) (t : ℕ) → count_of (eqb t) (n ∷ ns) ≡ count_of (eqb t) (n ∷ ms) → count_of (eqb t) ns ≡ count_of (eqb t) ms
unfolding count_of
count-tail n ns ms t e = omega arith

-- Two ascending lists with equal counts of every number are equal.
pub ascending_same : (ns ms : List ℕ) → Ascending ns → Ascending ms → ((t : ℕ) → count_of (eqb t) ns ≡ count_of (eqb t) ms) → ns ≡ ms
ascending_same [] [] p q f = refl
ascending_same [] (m ∷ ms) p q f = absurd (Memᴰ.not-nil (counted_mem m [] (rw (f m) (counted_first m ms))))
ascending_same (n ∷ ns) [] p q f = absurd (Memᴰ.not-nil (counted_mem n [] (rw (f n) at (counted_first n ns))))
ascending_same (n ∷ ns) (m ∷ ms) p q f = go (ascending_same ns ms p.1 q.1)
  where
    at_least : (a b : ℕ) (bs : List ℕ) → NotBelow b bs → Memᴰ a (b ∷ bs) → b ≤ a
    at_least a b bs l h = ⊎_elim (λ e. omega arith) (λ d. l a d) (Memᴰ.cases_cons h)

    same : n ≡ m
    same =
        le_antisymm (at_least m n ns p.0 (counted_mem m (n ∷ ns) (rw (f m) (counted_first m ms))))
        (at_least n m ms q.0 (counted_mem n (m ∷ ms) (rw (f n) at (counted_first n ns))))

    go : (((t : ℕ) → count_of (eqb t) ns ≡ count_of (eqb t) ms) → ns ≡ ms) → n ∷ ns ≡ m ∷ ms
    go r =
        ap₂ {C = List ℕ} (λ (x : ℕ) (xs : List ℕ). x ∷ xs) same
        (r (λ t. count-tail n ns ms t (subst (λ (x : ℕ). count_of (eqb t) (n ∷ ns) ≡ count_of (eqb t) (x ∷ ms)) (sym same) (f t))))

-- ---- Blocks of equal numbers

-- Each of the numbers as often as d says: k numbers from i on.
abbrev pub blocks : (ℕ → ℕ) → ℕ → ℕ → List ℕ
blocks d i k = concat (map (λ t. replicate (d t) t) (rising i k))

-- What is in n times a number is that number.
mem_replicate : (n a m : ℕ) → Memᴰ m (replicate n a) → m ≡ a
mem_replicate zero a m h = absurd (Memᴰ.not-nil h)
mem_replicate (suc n) a m h = ⊎_elim (λ e. e) (λ d. mem_replicate n a m d) (Memᴰ.cases_cons h)

-- Each number of the blocks is one of the k from i on.
pub mem_blocks : (d : ℕ → ℕ) (i k m : ℕ) → Memᴰ m (blocks d i k) → (i ≤ m) × (m < i + k)
unfolding concat rising
mem_blocks d i zero m h = absurd (Memᴰ.not-nil h)
mem_blocks d i (suc k) m h =
    ⊎_elim (λ e. let q : m ≡ i = mem_replicate (d i) i m e in omega arith) (λ e. let r = mem_blocks d (suc i) k m e in omega arith)
    (Memᴰ.append_cases (replicate (d i) i) h)

-- Ascending numbers behind equal ones that none is below.
replicate-ascends : (n a : ℕ) (ms : List ℕ) → NotBelow a ms → Ascending ms → Ascending (replicate n a ++ ms)
replicate-ascends zero a ms l r = r
replicate-ascends (suc n) a ms l r =
    ((λ m h. ⊎_elim (λ e. let q : m ≡ a = mem_replicate n a m e in omega arith) (λ e. l m e) (Memᴰ.append_cases (replicate n a) h)), replicate-ascends n a ms l r)

-- The blocks ascend.
pub blocks_ascend : (d : ℕ → ℕ) (i k : ℕ) → Ascending (blocks d i k)
unfolding concat rising
blocks_ascend d i zero = tt
blocks_ascend d i (suc k) =
    replicate-ascends (d i) i (blocks d (suc i) k) (λ m h. let r = mem_blocks d (suc i) k m h in omega arith) (blocks_ascend d (suc i) k)

-- The count of a number in n times that number.
count-replicate : (n a : ℕ) → count_of (eqb a) (replicate n a) ≡ n
unfolding count_of
count-replicate zero a = refl
count-replicate (suc n) a = rw (eq-eqb a a refl, count-replicate n a) (omega arith)

-- And of another number.
count-other : (n a t : ℕ) → (t ≡ a → ⊥) → count_of (eqb t) (replicate n a) ≡ 0
count-other n a t f = count_of-none (eqb t) (replicate n a) (λ m h. ne_eqb t m (λ e. f (e ∙ mem_replicate n a m h)))

-- The count of each of the numbers is what d says.
pub count-blocks : (d : ℕ → ℕ) (i k t : ℕ) → i ≤ t → t < i + k → count_of (eqb t) (blocks d i k) ≡ d t
unfolding concat rising
count-blocks d i zero t l h = absurd (omega arith)
count-blocks d i (suc k) t l h = go (true_or_false (eqb t i)) (count-blocks d (suc i) k t)
  where
    go : (eqb t i ≡ true) ⊎ (eqb t i ≡ false) → (suc i ≤ t → t < suc i + k → count_of (eqb t) (blocks d (suc i) k) ≡ d t)
        → count_of (eqb t) (replicate (d i) i ++ blocks d (suc i) k) ≡ d t
    go (inl e) r =
        let q : t ≡ i = eqb-true t i e in
        rw (
          q,
          count_of-append (eqb i) (replicate (d i) i) (blocks d (suc i) k),
          count-replicate (d i) i,
          count_of-none (eqb i) (blocks d (suc i) k) (λ m h. ne_eqb i m (λ e. let r = mem_blocks d (suc i) k m h in omega arith)),
        )
        (omega arith)
    go (inr e) r =
        let f : t ≡ i → ⊥ = eqb-false t i e in
        rw (count_of-append (eqb t) (replicate (d i) i) (blocks d (suc i) k), count-other (d i) i t f, r (omega arith) (omega arith)) (omega arith)

-- How many numbers the blocks have in all.
pub length-blocks : (d : ℕ → ℕ) (i k : ℕ) → length (blocks d i k) ≡ sum (map d (rising i k))
unfolding concat rising sum
length-blocks d i zero = refl
length-blocks d i (suc k) = rw (length-append, length-replicate, length-blocks d (suc i) k)
