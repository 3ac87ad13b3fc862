-- The best-ranked class, id by id, is the model's, where no id occurs twice; the largest gap is the model's, in
-- whichever order the classes stand; and two kinds share a common cut exactly where what is kept of them says so.
use mathlib.Core.Bool.{Bool, true, false, not, cond, ◌&&◌, and-true, and-false}
use mathlib.Core.List.{List, [], ◌∷◌, ◌++◌, map, map-map}
use mathlib.Core.Option as M
use mathlib.Core.Path.{◌≡◌, refl, sym, ap, ◌∙◌}
use Prim.Native.Nat.{ℕ, zero, suc, ◌+◌, ◌*◌, ◌<◌, ◌≤◌, max}
use native.Mathlib.Numerals.{add-one}
use native.Mathlib.Omega.{arith}
use borrow.Author.Tests.{ltb-true, lt-ltb, le-ltb}
use lib.Dec.{eqb, ltb}
use Rattle.std.specs.Bool.{then_some}
use Rattle.std.specs.List.{reduce, fold, range_with_len}
use Rattle.std.specs.Prelude.{None}
use Rattle.std.specs.Option.{unwrap_or}
use Rattle.words.specs.Bits.{test_bit}
use Rattle.model.specs.Content.{SpacingClass, Kind}
use Rattle.model.specs.Format.{byte_at, marks_cut, gap_meant, class_from, by_rising_id}
use Rattle.model.specs.Gap.{names, outranks, better, best_from, best_ranked, best_class}
use Rattle.model.specs.Gap.{largest_gap, gap_or, same_marked, share_cut}
use Rattle.model.specs.Lists.{keep, concat, largest, rising, below}
use Rattle.model.proofs.Folds.{keep_append}
use Rattle.model.proofs.Permuted.{map-permuted, largest-permuted}
use Rattle.model.proofs.Saving.Kept.{risen_permuted}
use Rattle.records.specs.Classes.{classes_from, index_of, all_in_range, distinct_column}
use Rattle.job.specs.Gaps.{class_rank, class_cut, same_cut, best_of, no_best}
use Rattle.job.specs.Gaps.{best_at, no_worse, offered, offered_id, best_below}
use Rattle.job.specs.declared.gaps.Best.{Best}
use Rattle.model.proofs.Ranges.{numbers_below}
use Rattle.records.proofs.ClassLaws.{risen_more, found, found-is}

-- ---- Classes offered one after the other

-- What is kept of a class.
abbrev pub kept_of : SpacingClass → Best
kept_of c = best_of c.rank c.gap (then_some c.common_cut c.id)

-- The same if there is one; of none there is no rank, and the gap is the default of a type in no class.
unfoldable pub kept : ℕ → M.Option SpacingClass → Best
kept default M.none = no_best default
kept default (M.some c) = kept_of c

offers : Best → List SpacingClass → Best
offers b [] = b
offers b (c ∷ cs) = offers (offered b (kept_of c)) cs

offers_append : (b : Best) (xs ys : List SpacingClass) → offers b (xs ++ ys) ≡ offers (offers b xs) ys
unfolding offers
offers_append b [] ys = refl
offers_append b (c ∷ xs) ys = offers_append (offered b (kept_of c)) xs ys

offers_best : (c : SpacingClass) (cs : List SpacingClass)
    → offers (kept_of c) cs ≡ kept_of (best_from c cs)
unfolding offers offered no_worse best_from better outranks
offers_best c [] = refl
offers_best c (d ∷ cs) = go (ltb d.rank c.rank) (offers_best c cs) (offers_best d cs)
  where
    go : (b : Bool) → offers (kept_of c) cs ≡ kept_of (best_from c cs)
        → offers (kept_of d) cs ≡ kept_of (best_from d cs)
        → offers (cond (not b) (kept_of c) (kept_of d)) cs ≡ kept_of (best_from (cond b d c) cs)
    go true p q = q
    go false p q = p

offers_ranked : (default : ℕ) (cs : List SpacingClass) → offers (no_best default) cs ≡ kept default (best_ranked cs)
unfolding offers offered no_worse kept best_ranked
offers_ranked default [] = refl
offers_ranked default (c ∷ cs) = offers_best c cs

one_offered : (k : Kind) (b : Best) (c : SpacingClass)
    → offers b (keep (names k) (c ∷ [])) ≡ cond (test_bit k.classes c.id) (offered b (kept_of c)) b
unfolding offers keep names
one_offered k b c = go (test_bit k.classes c.id)
  where
    go : (t : Bool) → offers b (cond t (c ∷ []) []) ≡ cond t (offered b (kept_of c)) b
    go true = refl
    go false = refl

module _ (s : List ℕ) (o n : ℕ) (k : Kind) (d : distinct_column s o n ≡ true) where
  -- One id more.
  offer_found : (i : ℕ) (b : Best) (t : Bool) → ltb (index_of s o n i) n ≡ t
      → offers b (keep (names k) (cond t (class_from s (o + index_of s o n i * 3) ∷ []) [])) ≡ cond (t && test_bit k.classes i) (offered b (best_at s (o + index_of s o n i * 3) i)) b
  unfolding keep offers best_at
  offer_found i b true e =
      let x = o + index_of s o n i * 3 in
      one_offered k b (class_from s x)
      ∙ ap (λ m. cond (test_bit k.classes m)
      (offered b (best_of (byte_at s (x + 1)) (gap_meant (byte_at s (x + 2)))
      (then_some (marks_cut (byte_at s (x + 2))) m))) b) (found-is s o i n (ltb-true _ _ e))
  offer_found i b false e = refl

  offer_one : (i : ℕ) (b : Best)
      → offers b (keep (names k) (keep (λ c. eqb c.id i) (classes_from s o n))) ≡ offered_id s o n k.classes i b
  unfolding offered_id
  offer_one i b = rw (found s o i n d) (offer_found i b (ltb (index_of s o n i) n) refl)

  -- The classes with an id below i, by rising id.
  abbrev risen : ℕ → List SpacingClass
  risen i = concat (map (λ i. keep (λ c. eqb c.id i) (classes_from s o n)) (below i))

  risen_suc : (i : ℕ) → risen (suc i) ≡ risen i ++ keep (λ c. eqb c.id i) (classes_from s o n)
  risen_suc i = ap risen (sym (add-one i)) ∙ risen_more (classes_from s o n) i

  offered-below : (default i : ℕ)
      → best_below s o n default k.classes i ≡ offers (no_best default) (keep (names k) (risen i))
  unfolding best_below below rising concat keep offers
  offered-below default zero = refl
  offered-below default (suc i) =
      let before = no_best default in
      ap (offered_id s o n k.classes i) (offered-below default i)
      ∙ sym (offer_one i (offers before (keep (names k) (risen i))))
      ∙ sym (offers_append before (keep (names k) (risen i))
      (keep (names k) (keep (λ c. eqb c.id i) (classes_from s o n))))
      ∙ ap (offers before) (sym (keep_append (names k) (risen i) (keep (λ c. eqb c.id i) (classes_from s o n))))
      ∙ ap (λ l. offers before (keep (names k) l)) (sym (risen_suc i))

  -- What is kept is that of the kind's best-ranked class.
  pub best-is : (default : ℕ)
      → best_below s o n default k.classes 8 ≡ kept default (best_class (by_rising_id (classes_from s o n)) k)
  unfolding by_rising_id best_class
  best-is default = offered-below default 8 ∙ offers_ranked default (keep (names k) (risen 8))

-- Its gap and its id; and it has a rank exactly where there is a class.
pub kept-gap : (default : ℕ) (b : M.Option SpacingClass) → (kept default b).gap ≡ gap_or default b
unfolding kept gap_or
kept-gap default M.none = refl
kept-gap default (M.some c) = refl

pub kept-cut : (default : ℕ) (b : M.Option SpacingClass) → (kept default b).cut ≡ class_cut b
unfolding kept class_cut
kept-cut default M.none = refl
kept-cut default (M.some c) = refl

pub kept-rank : (default : ℕ) (b : M.Option SpacingClass) → (kept default b).rank ≡ class_rank b
unfolding kept class_rank
kept-rank default M.none = refl
kept-rank default (M.some c) = refl

-- ---- The largest gap

-- The fold that the code makes of the gaps.
largest_folded : (x : ℕ) (xs : List ℕ) → fold max x xs ≡ max x (largest xs)
unfolding largest
largest_folded x [] = omega arith
largest_folded x (y ∷ ys) = largest_folded (max x y) ys ∙ omega arith

largest_reduced : (xs : List ℕ) → unwrap_or (reduce max xs) 0 ≡ largest xs
unfolding largest
largest_reduced [] = refl
largest_reduced (x ∷ xs) = largest_folded x xs

pub largest_along : (s : List ℕ) (o n : ℕ)
    → unwrap_or (reduce max (map (λ i. gap_meant (byte_at s (o + i * 3 + 2))) (range_with_len 0 n))) 0
    ≡ largest_gap (classes_from s o n)
unfolding largest_gap
largest_along s o n =
    largest_reduced (map (λ i. gap_meant (byte_at s (o + i * 3 + 2))) (range_with_len 0 n))
    ∙ ap (λ is. largest (map (λ i. gap_meant (byte_at s (o + i * 3 + 2))) is)) (numbers_below n)
    ∙ ap largest (sym (map-map (λ c. c.gap) (λ i. class_from s (o + i * 3)) (below n)))

-- In the order of the file it is the largest by rising id.
pub largest-risen : (s : List ℕ) (o n : ℕ) → all_in_range s o n ≡ true → largest_gap (classes_from s o n) ≡ largest_gap (by_rising_id (classes_from s o n))
unfolding largest_gap all_in_range
largest-risen s o n e = largest-permuted (map-permuted (λ c. c.gap) (risen_permuted (classes_from s o n) e))

-- ---- One id in the code

module _ (s : List ℕ) (o n mask id : ℕ) (b : Best) where
  pub offered-yes : (j : ℕ) (c d : Best) → (j ≡ index_of s o n id) × (index_of s o n id < n) → test_bit mask id ≡ true
      → d ≡ best_at s (o + j * 3) id → c ≡ offered b d → c ≡ offered_id s o n mask id b
  unfolding offered_id
  offered-yes j c d f e ed ec =
      ec ∙ ap (offered b) (ed ∙ ap (λ j. best_at s (o + j * 3) id) f.0) ∙ rw (lt-ltb (index_of s o n id) n f.1, e)

  pub offered-unnamed : test_bit mask id ≡ false → b ≡ offered_id s o n mask id b
  unfolding offered_id
  offered-unnamed e = rw (e, and-false)

  pub offered-absent : n ≤ index_of s o n id → b ≡ offered_id s o n mask id b
  unfolding offered_id
  offered-absent h = rw (le-ltb (index_of s o n id) n h)

pub best-more : (s : List ℕ) (o n default mask i : ℕ)
    → best_below s o n default mask (i + 1) ≡ offered_id s o n mask i (best_below s o n default mask i)
unfolding best_below
best-more s o n default mask i = ap (best_below s o n default mask) (add-one i)

pub best_none : (s : List ℕ) (o n default mask : ℕ) → no_best default ≡ best_below s o n default mask 0
unfolding best_below
best_none s o n default mask = refl

-- ---- Two kinds

then_none : (a : Bool) (i : ℕ) → same_cut (then_some a i) None ≡ false
unfolding same_cut
then_none true i = refl
then_none false i = refl

same-marked : (a b : M.Option SpacingClass) → same_cut (class_cut a) (class_cut b) ≡ same_marked a b
unfolding same_cut class_cut same_marked
same-marked M.none b = refl
same-marked (M.some c) M.none = then_none c.common_cut c.id
same-marked (M.some c) (M.some d) = go c.common_cut d.common_cut
  where
    ids : Bool
    ids = eqb c.id d.id

    go : (a b : Bool) → same_cut (then_some a c.id) (then_some b d.id) ≡ (ids && a && b)
    go true true = sym (and-true (ids && true) ∙ and-true ids)
    go true false = sym (and-false (ids && true))
    go false b = sym (ap (λ t. t && b) (and-false ids))

-- What is kept of two kinds says whether they share a common cut.
pub shared-cut : (cs : List SpacingClass) (k m : Kind)
    → same_cut (class_cut (best_class cs k)) (class_cut (best_class cs m)) ≡ share_cut cs k m
unfolding share_cut
shared-cut cs k m = same-marked (best_class cs k) (best_class cs m)
