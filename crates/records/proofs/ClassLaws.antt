-- Laws of the loops over the class list, and of the class that an id finds.
use mathlib.Core.Bool.{Bool, true, false, not, cond, ◌&&◌, ◌||◌}
use mathlib.Core.List.{List, [], ◌∷◌, ◌++◌, map}
use mathlib.Core.Path.{◌≡◌, refl, sym, ap, ap₂, ◌∙◌}
use Prim.Native.Nat.{ℕ, zero, suc, ◌+◌, ◌*◌, ◌<◌, ◌≤◌}
use native.Mathlib.Numerals.{add-one}
use native.Mathlib.Omega.{arith}
use lib.ListN.{length}
use borrow.Author.Tests.{lt-ltb, le-ltb, ltb-true, ltb-false, eqb-true, eq-eqb, ne_eqb, not-true}
use lib.Dec.{eqb, ltb}
use Rattle.std.specs.List.{position_or_len, range_with_len}
use Rattle.std.specs.Prelude.{Option, Some, None, unwrap_or}
use Rattle.model.specs.Content.{SpacingClass}
use Rattle.model.specs.Format.{class_from, class_in_range, distinct}
use Rattle.model.specs.Lists.{all, any, keep, concat, rising, below}
use Rattle.model.proofs.Folds.{map-below-more, concat-more, keep-none, all_same}
use Rattle.model.proofs.Lists.{and_left, and_right}
use Rattle.model.proofs.Permuted.{eqb_comm}
use Rattle.model.proofs.Tests.{all_map}
use Rattle.records.specs.Classes.{classes_from, entry_at, all_in_range, distinct_column, first_from, has_id, index_of, classes_of_id, risen_below}

-- The record of class j is in range.
abbrev pub in_range_at : List ℕ → ℕ → ℕ → Bool
in_range_at s o j = class_in_range (class_from s (o + j * 3))

pub range_all : (s : List ℕ) (o n : ℕ) → all (in_range_at s o) (below n) ≡ all_in_range s o n
unfolding all_in_range
range_all s o n = sym (all_map class_in_range (λ i. class_from s (o + i * 3)) (below n))

-- ---- Columns

swapped : (x y z : Bool) → (x && (y && z)) ≡ (y && (x && z))
swapped true y z = refl
swapped false true z = refl
swapped false false z = refl

-- One number more, a: i has its value, or m is the first of it behind i.
later-one : (b same rest firsts : Bool) (i a m : ℕ) → i < a → rest ≡ (not same && firsts)
    → (eqb (cond b i m) a && rest) ≡ (not (b || same) && (eqb m a && firsts))
later-one true same rest firsts i a m h e = ap (λ x. x && rest) (ne_eqb i a (λ q. omega arith))
later-one false same rest firsts i a m h e = ap (λ x. eqb m a && x) e ∙ swapped (eqb m a) (not same) firsts

module _ (s : List ℕ) (o : ℕ) where
  -- Of the numbers from a on, behind i: each is the first of its value from i on exactly if none has that of i, and
  -- each is it behind i.
  later : (f : ℕ → ℕ) (i a k : ℕ) → i < a
      → all (λ j. eqb (cond (has_id s o (entry_at s o j) i) i (f j)) j) (rising a k)
      ≡ (not (any (eqb (entry_at s o i)) (map (entry_at s o) (rising a k))) && all (λ j. eqb (f j) j) (rising a k))
  unfolding all any rising has_id
  later f i a zero h = refl
  later f i a (suc k) h = later-one (eqb (entry_at s o i) (entry_at s o a)) _ _ _ i a (f a) h (later f i (suc a) k
      (omega arith))

  -- No entry occurs twice exactly if each is the first of its value.
  distinct_from : (i k : ℕ) → distinct (map (entry_at s o) (rising i k)) ≡ all
      (λ j. eqb (first_from (has_id s o (entry_at s o j)) i k) j) (rising i k)
  unfolding distinct all rising first_from has_id
  distinct_from i zero = refl
  distinct_from i (suc k) =
      let f : ℕ → ℕ = λ j. first_from (has_id s o (entry_at s o j)) (suc i) k in
      let rest = all (λ j. eqb (cond (has_id s o (entry_at s o j) i) i (f j)) j) (rising (suc i) k) in
      ap (λ d. not (any (eqb (entry_at s o i)) (map (entry_at s o) (rising (suc i) k))) && d) (distinct_from (suc i) k)
      ∙ sym (later f i (suc i) k (omega arith))
      ∙ sym (ap (λ b. eqb (cond b i (f i)) i && rest) (eq-eqb (entry_at s o i) (entry_at s o i) refl)
      ∙ ap (λ b. b && rest) (eq-eqb i i refl))

  -- Entry j of n is the first of its value.
  abbrev pub is_first : ℕ → ℕ → Bool
  is_first n j = eqb (index_of s o n (entry_at s o j)) j

  -- The first of its value is found, and is entry j.
  abbrev pub finds : ℕ → ℕ → Bool
  finds n j = cond (ltb (index_of s o n (entry_at s o j)) n) (eqb (index_of s o n (entry_at s o j)) j) false

  finds-first : (i n j : ℕ) → j < n → (b : Bool) → ltb i n ≡ b → cond b (eqb i j) false ≡ eqb i j
  finds-first i n j h true e = refl
  finds-first i n j h false e = let l = ltb-false i n e in sym (ne_eqb i j (λ q. omega arith))

  pub all-firsts : (n : ℕ) → all (finds n) (below n) ≡ all (is_first n) (below n)
  all-firsts n = all_same (finds n) (is_first n) n (λ j h. finds-first (index_of s o n (entry_at s o j)) n j h _ refl)

  pub distinct-firsts : (n : ℕ) → all (is_first n) (below n) ≡ distinct_column s o n
  unfolding index_of distinct_column below
  distinct-firsts n = sym (distinct_from 0 n)

-- ---- By rising id

pub risen_more : (cs : List SpacingClass) (i : ℕ) → risen_below (i + 1) cs ≡ risen_below i cs ++ classes_of_id i cs
risen_more cs i =
    ap concat (map-below-more (λ i. classes_of_id i cs) i) ∙ concat-more (map (λ i. classes_of_id i cs) (below i))
    (classes_of_id i cs)

-- ---- The first of an id

-- The first of the numbers from i on of which the test holds, as the place of it among them.
first-place : (p : ℕ → Bool) (i k : ℕ) → first_from p i k ≡ i + position_or_len p (range_with_len i k)
unfolding first_from
first-place p i zero = omega arith
first-place p i (suc k) = go (p i) (ap (λ m. first_from p m k) (sym (add-one i)) ∙ first-place p (i + 1) k)
  where
    go : (b : Bool) → first_from p (suc i) k ≡ i + 1 + position_or_len p (range_with_len (i + 1) k)
        → cond b i (first_from p (suc i) k) ≡ i + cond (not b) (1 + position_or_len p (range_with_len (i + 1) k)) 0
    go true e = omega arith
    go false e = omega arith

length-range : (i k : ℕ) → length (range_with_len i k) ≡ k
length-range i zero = refl
length-range i (suc k) = ap suc (length-range (i + 1) k)

pub position-first : (s : List ℕ) (o n value : ℕ)
    → cond (ltb (position_or_len (has_id s o value) (range_with_len 0 n)) (length (range_with_len 0 n)))
    (Some (position_or_len (has_id s o value) (range_with_len 0 n))) None
    ≡ cond (ltb (index_of s o n value) n) (Some (index_of s o n value)) None
unfolding index_of
position-first s o n value =
    let e : position_or_len (has_id s o value) (range_with_len 0 n) ≡ first_from (has_id s o value) 0 n =
    (omega arith) ∙ sym (first-place (has_id s o value) 0 n) in
    ap₂ (λ i m. cond (ltb i m) (Some i) None) e (length-range 0 n)

-- What `find` answers: the first entry of the value, if it is one of the n.
pub some-found : (i n j : ℕ) (r : Option ℕ) → r ≡ cond (ltb i n) (Some i) None → r ≡ Some j → (j ≡ i) × (i < n)
some-found i n j r e f = go (ltb i n) refl (sym e ∙ f)
  where
    go : (b : Bool) → ltb i n ≡ b → cond b (Some i) None ≡ Some j → (j ≡ i) × (i < n)
    go true q h = ((cc), ltb-true i n q)
    go false q h = (cc)

pub none-found : (i n : ℕ) (r : Option ℕ) → r ≡ cond (ltb i n) (Some i) None → r ≡ None → n ≤ i
none-found i n r e f = go (ltb i n) refl (sym e ∙ f)
  where
    go : (b : Bool) → ltb i n ≡ b → cond b (Some i) None ≡ None → n ≤ i
    go true q h = (cc)
    go false q h = ltb-false i n q

first-within : (p : ℕ → Bool) (i k : ℕ) → first_from p i k ≤ i + k
unfolding first_from
first-within p i zero = omega arith
first-within p i (suc k) = go (p i) (first-within p (suc i) k)
  where
    go : (b : Bool) → first_from p (suc i) k ≤ suc i + k → cond b i (first_from p (suc i) k) ≤ i + suc k
    go true h = omega arith
    go false h = omega arith

-- With n in place of none it is the index of the first.
pub found-or : (s : List ℕ) (o n value : ℕ) (r : Option ℕ)
    → r ≡ cond (ltb (index_of s o n value) n) (Some (index_of s o n value)) None → unwrap_or r n ≡ index_of s o n value
unfolding index_of
found-or s o n value r e =
    let l : index_of s o n value ≤ n = omega (arith, first-within (has_id s o value) 0 n) in
    ap (λ r. unwrap_or r n) e ∙ go (index_of s o n value) l (ltb (index_of s o n value) n) refl
  where
    go : (i : ℕ) → i ≤ n → (b : Bool) → ltb i n ≡ b → unwrap_or (cond b (Some i) None) n ≡ i
    go i l true q = refl
    go i l false q = let m = ltb-false i n q in omega arith

-- ---- The class of an id, where no id occurs twice

module _ (s : List ℕ) (o i : ℕ) where
  any-id : (xs : List ℕ) → any (λ c. eqb c.id i) (map (λ m. class_from s (o + m * 3)) xs) ≡ any (eqb i)
      (map (entry_at s o) xs)
  unfolding any
  any-id [] = refl
  any-id (x ∷ xs) = ap₂ (λ a b. a || b) (eqb_comm (entry_at s o x) i) (any-id xs)

  found_from : (j k : ℕ) → distinct (map (entry_at s o) (rising j k)) ≡ true
      → keep (λ c. eqb c.id i) (map (λ m. class_from s (o + m * 3)) (rising j k))
      ≡ cond (ltb (first_from (has_id s o i) j k) (j + k)) (class_from s (o + first_from (has_id s o i) j k * 3) ∷ [])
      []
  unfolding keep distinct rising first_from has_id
  found_from j zero d = rw (le-ltb j (j + 0) (omega arith))
  found_from j (suc k) d =
      go (found_from (suc j) k (and_right (not (any (eqb (entry_at s o j)) (map (entry_at s o) (rising (suc j) k)))) _
      d))
      (not-true _ (and_left _ _ d)) (eqb (entry_at s o j) i) refl
    where
      go : keep (λ c. eqb c.id i) (map (λ m. class_from s (o + m * 3)) (rising (suc j) k))
          ≡ cond (ltb (first_from (has_id s o i) (suc j) k) (suc j + k)) (class_from s (o + first_from (has_id s o i)
          (suc j) k * 3) ∷ []) []
          → any (eqb (entry_at s o j)) (map (entry_at s o) (rising (suc j) k)) ≡ false
          → (b : Bool) → eqb (entry_at s o j) i ≡ b
          → cond b (class_from s (o + j * 3) ∷ keep (λ c. eqb c.id i) (map (λ m. class_from s (o + m * 3))
          (rising (suc j) k)))
          (keep (λ c. eqb c.id i) (map (λ m. class_from s (o + m * 3)) (rising (suc j) k)))
          ≡ cond (ltb (cond b j (first_from (has_id s o i) (suc j) k)) (j + suc k))
          (class_from s (o + cond b j (first_from (has_id s o i) (suc j) k) * 3) ∷ [])
          []
      go ih l true e =
          let q : any (eqb i) (map (entry_at s o) (rising (suc j) k)) ≡ false = rw (eqb-true (entry_at s o j) i e) at l
          in
          let z : keep (λ c. eqb c.id i) (map (λ m. class_from s (o + m * 3)) (rising (suc j) k)) ≡ [] =
          keep-none (λ c. eqb c.id i) _ (any-id (rising (suc j) k) ∙ q) in
          rw (z, lt-ltb j (j + suc k) (omega arith))
      go ih l false e =
          let q : suc j + k ≡ j + suc k = omega arith in
          ih ∙ ap (λ m. cond (ltb (first_from (has_id s o i) (suc j) k) m) (class_from s (o + first_from (has_id s o i)
          (suc j) k * 3) ∷ []) []) q

  -- Where no id occurs twice, the classes of an id are the one that is found, or none.
  pub found : (n : ℕ) → distinct_column s o n ≡ true
      → keep (λ c. eqb c.id i) (classes_from s o n)
      ≡ cond (ltb (index_of s o n i) n) (class_from s (o + index_of s o n i * 3) ∷ []) []
  unfolding distinct_column index_of below
  found n d =
      found_from 0 n d
      ∙ ap (λ m. cond (ltb (first_from (has_id s o i) 0 n) m) (class_from s (o + first_from (has_id s o i) 0 n * 3) ∷
      []) []) (omega arith)

  -- Its id is the one looked for.
  first-is : (j k : ℕ) → first_from (has_id s o i) j k < j + k → entry_at s o (first_from (has_id s o i) j k) ≡ i
  unfolding first_from has_id
  first-is j zero h = absurd (omega arith)
  first-is j (suc k) h = go (first-is (suc j) k) (eqb (entry_at s o j) i) refl h
    where
      go : (first_from (has_id s o i) (suc j) k < suc j + k → entry_at s o (first_from (has_id s o i) (suc j) k) ≡ i)
          → (b : Bool) → eqb (entry_at s o j) i ≡ b → cond b j (first_from (has_id s o i) (suc j) k) < j + suc k
          → entry_at s o (cond b j (first_from (has_id s o i) (suc j) k)) ≡ i
      go ih true e h = eqb-true _ _ e
      go ih false e h = ih (omega arith)

  pub found-is : (n : ℕ) → index_of s o n i < n → entry_at s o (index_of s o n i) ≡ i
  unfolding index_of
  found-is n h = first-is 0 n (omega arith)
