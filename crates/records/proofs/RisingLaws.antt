-- Laws of the loop that finds the classes by rising id.
use mathlib.Core.Bool.{Bool, true, false, not, cond, ◌||◌}
use mathlib.Core.List.{List, [], ◌∷◌, ◌++◌, append-nil}
use mathlib.Core.Logic.{⊎_elim}
use mathlib.Core.Path.{◌≡◌, refl, sym, ap, ap₂, subst, ◌∙◌}
use Prim.Native.Nat.{ℕ, ◌+◌, ◌*◌, ◌<◌, ◌≤◌}
use native.Mathlib.Nat.{add-zero, not-suc-le-zero}
use native.Mathlib.Omega.{arith}
use borrow.Author.Tests.{ltb-true, ltb-false, not-false}
use lib.Dec.{ltb}
use lib.ListN.{length, get_or, set, take, length-map, length-set}
use lib.Seq.{get_or-take, get_or-set_same, get_or-set_other}
use mir.Val.{bool_byte}
use Rattle.words.proofs.Cases.{le_or_lt, at_most_one}
use Rattle.model.specs.Content.{SpacingClass}
use Rattle.model.specs.Format.{by_rising_id, class_from}
use Rattle.model.specs.Lists.{concat, below, rising}
use Rattle.model.proofs.Folds.{map-below-more, map-below-same}
use Rattle.model.proofs.Lists.{length-below, or_left, or_right}
use Rattle.model.proofs.Saving.Kept.{risen_permuted}
use Rattle.model.proofs.Saving.Order.{length-permuted}
use Rattle.records.specs.Classes.{classes_from, classes_of_id, risen_below, index_of, all_in_range, distinct_column, classes_unfit}
use Rattle.records.specs.Rising.{classes_at_first, Inside, ByRisingId}
use Rattle.records.proofs.ClassLaws.{risen_more, found}

-- How many classes there are from byte o on.
length_from : (s : List ℕ) (o n : ℕ) → length (classes_from s o n) ≡ n
length_from s o n = length-map (below n) (λ i. class_from s (o + i * 3)) ∙ length-below n

pub length-first : (s places : List ℕ) (k : ℕ) → length (classes_at_first s places k) ≡ k
length-first s places k = length-map (below k) (λ i. class_from s (get_or places i 0)) ∙ length-below k

-- The first n places alone tell the same.
pub first-taken : (s places : List ℕ) (n : ℕ) → classes_at_first s (take n places) n ≡ classes_at_first s places n
first-taken s places n =
    map-below-same (λ i. class_from s (get_or (take n places) i 0)) (λ i. class_from s (get_or places i 0)) n (λ i h. ap (class_from s) (get_or-take n places i 0 h))

pub inside-taken : (s places : List ℕ) (n : ℕ) → Inside s places n → Inside s (take n places) n
inside-taken s places n f i h = subst (λ o. o + 3 ≤ length s) (sym (get_or-take n places i 0 h)) (f i h)

-- ---- Classes that give no cause 5

module _ (s : List ℕ) (o n : ℕ) (fit : classes_unfit s o n ≡ false) where
  abbrev few-and_ranged : Bool
  few-and_ranged = ltb 8 n || not (all_in_range s o n)

  pub at_most-eight : n ≤ 8
  unfolding classes_unfit
  at_most-eight = ltb-false 8 n (or_left _ _ (or_left few-and_ranged _ (or_left (few-and_ranged || not (distinct_column
      s o n)) _ fit)))

  pub ranged : all_in_range s o n ≡ true
  unfolding classes_unfit
  ranged = not-false _ (or_right (ltb 8 n) _ (or_left few-and_ranged _ (or_left (few-and_ranged || not (distinct_column
      s o n)) _ fit)))

  pub ids_distinct : distinct_column s o n ≡ true
  unfolding classes_unfit
  ids_distinct = not-false _ (or_right few-and_ranged _ (or_left (few-and_ranged || not (distinct_column s o n)) _ fit))

-- ---- The loop

-- As far as the loop has come: the first `done` places are those of the classes with an id below `id`.
pub record RisenTo (s : List ℕ) (o n id done : ℕ) (places : List ℕ) : Type 0 where
  pub classes : classes_at_first s places done ≡ risen_below id (classes_from s o n)
  pub inside : Inside s places done
  pub size : length places ≡ 8
  pub few : done ≤ id

module _ (s : List ℕ) (o n : ℕ) where
  abbrev cs : List SpacingClass
  cs = classes_from s o n

  pub risen_begin : (places : List ℕ) → length places ≡ 8 → RisenTo s o n 0 0 places
  unfolding concat below rising
  risen_begin places e = record {
    classes = refl;
    inside = λ i h. absurd (not-suc-le-zero h);
    size = e;
    few = omega
        arith;
  }

  module _ (id done j : ℕ) (places : List ℕ) (r : RisenTo s o n id done places) (fit : classes_unfit s o n ≡ false)
      (e : j ≡ index_of s o n id) (more : id < 8) (fits : o + n * 3 ≤ length s) where
    abbrev next : List ℕ
    next = set places done (o + j * 3)

    -- The places before stay.
    kept : (i : ℕ) → i < done → get_or next i 0 ≡ get_or places i 0
    kept i h = get_or-set_other places done i (o + j * 3) 0 (λ q. omega arith)

    here : get_or next done 0 ≡ o + j * 3
    here = get_or-set_same places done (o + j * 3) 0 (omega (arith, r.few, r.size))

    first-kept : classes_at_first s next done ≡ risen_below id cs
    first-kept =
        map-below-same (λ i. class_from s (get_or next i 0)) (λ i. class_from s (get_or places i 0)) done
        (λ i h. ap (class_from s) (kept i h))
        ∙ r.classes

    of_id_lem : (t : Bool) → ltb j n ≡ t → classes_of_id id cs ≡ cond t (class_from s (o + j * 3) ∷ []) []
    of_id_lem t q =
        found s o id n (ids_distinct s o n fit)
        ∙ ap (λ m. cond (ltb m n) (class_from s (o + m * 3) ∷ []) []) (sym e)
        ∙ ap (λ t. cond t (class_from s (o + j * 3) ∷ []) []) q

    classes-next : (t : Bool) → ltb j n ≡ t → classes_at_first s next (done + bool_byte t) ≡ risen_below (id + 1) cs
    classes-next true q =
        map-below-more (λ i. class_from s (get_or next i 0)) done
        ∙ ap₂ (λ l c. l ++ (c ∷ [])) first-kept (ap (class_from s) here)
        ∙ ap (λ l. risen_below id cs ++ l) (sym (of_id_lem true q)) ∙ sym (risen_more cs id)
    classes-next false q =
        ap (classes_at_first s next) (add-zero done) ∙ first-kept ∙ sym (append-nil (risen_below id cs))
        ∙ ap (λ l. risen_below id cs ++ l) (sym (of_id_lem false q)) ∙ sym (risen_more cs id)

    inside-next : (t : Bool) → ltb j n ≡ t → Inside s next (done + bool_byte t)
    inside-next true q i h = ⊎_elim (λ l. at (omega arith)) before (le_or_lt done i)
      where
        found_in : j < n
        found_in = ltb-true j n q

        at : i ≡ done → get_or next i 0 + 3 ≤ length s
        at m = rw (m, here) (omega (arith, found_in))

        before : i < done → get_or next i 0 + 3 ≤ length s
        before l = rw (kept i l) (r.inside i l)
    inside-next false q i h = let l : i < done = omega arith in rw (kept i l) (r.inside i l)

    -- The place of an id that no class has is the next to be overwritten.
    pub risen_next : RisenTo s o n (id + 1) (done + bool_byte (ltb j n)) next
    risen_next =
        record {
          classes = classes-next (ltb j n) refl;
          inside = inside-next (ltb j n) refl;
          size = length-set places done (o + j * 3) ∙ r.size;
          few = omega (arith, r.few, at_most_one (ltb j n));
        }

  pub risen_end : (id done : ℕ) (places : List ℕ) → id ≡ 8 → classes_unfit s o n ≡ false → RisenTo s o n id done places
      → ByRisingId s o n places
  unfolding by_rising_id all_in_range
  risen_end id done places e fit r =
      let all_there : classes_at_first s places done ≡ by_rising_id cs = r.classes ∙ ap (λ i. risen_below i cs) e in
      let count : done ≡ n =
      sym (length-first s places done) ∙ ap length all_there ∙ sym (length-permuted (risen_permuted cs (ranged s o n
      fit))) ∙ length_from s o n in
      record {
        classes = ap (classes_at_first s places) (sym count) ∙ all_there;
        inside = λ i h. r.inside i (omega arith);
        size = r.size;
      }
