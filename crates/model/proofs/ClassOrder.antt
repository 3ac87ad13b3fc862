-- Demand 2: "The order of the classes in a job changes no result." Bytes that differ only in the order of the class records are refused
-- by the same number, have the same content, and get the same answers and buffers from every service.
use mathlib.Core.Bool.{Bool, true, false, not, cond, ◌||◌}
use mathlib.Core.List.{List, map}
use mathlib.Core.Logic.{inl, inr, ⊎_elim}
use mathlib.Core.Path.{◌≡◌, refl, sym, ap, ◌∙◌, fun_ext}
use Prim.Native.Nat.{ℕ, ◌+◌, ◌*◌, ◌≤◌, ◌<◌, min, max}
use native.Mathlib.Omega.{arith}
use borrow.Author.Tests.{leb-true, ltb-false, not-false}
use lib.Dec.{ltb, eqb}
use lib.ListN.{take, drop, length-take, length-drop}
use lib.Seq.{ext_get_or, get_or-take, get_or-drop}
use Rattle.words.proofs.Cases.{le_or_lt}
use Rattle.words.proofs.Place.{number_at-cong}
use Rattle.words.specs.Bits.{test_bit}
use Rattle.model.specs.ClassOrder.{Permuted, SameButClassOrder}
use Rattle.model.specs.Content.{Kind, SpacingClass}
use Rattle.model.specs.Format.{Got, bad, got, byte_at, word_at, trailer_at, board_at, classes_at, kinds_at, kinds_length, classes_stated, kinds_stated, length_stated, marked, board_section, classes_section, kinds_section, in_place, share_byte, board_of, classes_of, by_rising_id, kind_bytes, kinds_got, content, cause1, cause2, cause3, cause4, cause5, cause6, cause7, class_in_range, distinct, names_present, kinds_unfit, refusal}
use Rattle.model.specs.Lists.{all, below}
use Rattle.model.specs.SameAnswers.{SameAnswers}
use Rattle.model.proofs.Causes.{no_cause}
use Rattle.model.proofs.Lists.{or_left, or_right}
use Rattle.model.proofs.Permuted.{any-permuted, all-permuted, map-permuted, distinct-permuted, keep-permuted}
use Rattle.model.proofs.SameAnswers.{same-answers}

-- A class id is named by a type and present, whatever the order of the classes.
pub names-permuted : {cs ds : List SpacingClass} → Permuted cs ds → names_present cs ≡ names_present ds
unfolding names_present
names-permuted r =
    fun_ext
    (λ k. ap (λ f. all f (below 8)) (fun_ext (λ i. ap (λ b. not (test_bit k.classes i) || b) (any-permuted (λ c. eqb c.id i) r))))

unfit_permuted : {cs ds : List SpacingClass} → Permuted cs ds → (n : ℕ) (g : Got (List Kind)) → kinds_unfit cs n g ≡ kinds_unfit ds n g
unfolding kinds_unfit
unfit_permuted r n bad = refl
unfit_permuted r n (got ks m) = rw (names-permuted r)

-- None of six tests holds, so not the fourth and not the last.
none-of_six : (a b c d e f : Bool) → (a || b || c || d || e || f) ≡ false → (d ≡ false) × (f ≡ false)
none-of_six a b c d e f h = (or_right (a || b || c) d (or_left _ e (or_left _ f h)), or_right (a || b || c || d || e) f h)

-- What is looked at only where a test fails need only agree there.
guarded : {A : Type 0} (c : Bool) (k : A) {x y : A} → (c ≡ false → x ≡ y) → cond c k x ≡ cond c k y
guarded true k f = refl
guarded false k f = f refl

module _ (s t : List ℕ) (same : SameButClassOrder s t) where
  -- ---- The trailer
  trailer : trailer_at s ≡ trailer_at t
  unfolding trailer_at
  trailer = rw same.same_length

  list_end : classes_at s + classes_stated s * 3 ≤ trailer_at s
  unfolding in_place classes_section
  list_end = leb-true _ _ same.list_in_place

  tail_byte : (i : ℕ) → trailer_at s ≤ i → byte_at s i ≡ byte_at t i
  tail_byte i h = same.same-outside i (inr (omega (arith, list_end)))

  word : (i : ℕ) → ((m : ℕ) → m < 2 → byte_at s (i + m) ≡ byte_at t (i + m)) → word_at s i ≡ word_at t i
  unfolding word_at byte_at
  word i h = number_at-cong 2 s t i i h

  byte_field : (k : ℕ) → byte_at s (trailer_at s + k) ≡ byte_at t (trailer_at t + k)
  byte_field k = tail_byte (trailer_at s + k) (omega arith) ∙ ap (λ i. byte_at t (i + k)) trailer

  word_field : (k : ℕ) → word_at s (trailer_at s + k) ≡ word_at t (trailer_at t + k)
  word_field k = word (trailer_at s + k) (λ m h. tail_byte _ (omega arith)) ∙ ap (λ i. word_at t (i + k)) trailer

  board-at : board_at s ≡ board_at t
  unfolding board_at
  board-at = word (trailer_at s) (λ m h. tail_byte _ (omega arith)) ∙ ap (word_at t) trailer

  classes-at : classes_at s ≡ classes_at t
  unfolding classes_at
  classes-at = word_field 2

  kinds-at : kinds_at s ≡ kinds_at t
  unfolding kinds_at
  kinds-at = word_field 4

  kinds-length : kinds_length s ≡ kinds_length t
  unfolding kinds_length
  kinds-length = word_field 6

  classes-stated : classes_stated s ≡ classes_stated t
  unfolding classes_stated
  classes-stated = byte_field 8

  kinds-stated : kinds_stated s ≡ kinds_stated t
  unfolding kinds_stated
  kinds-stated = byte_field 9

  -- ---- Causes 1 to 3
  cause1-same : cause1 s ≡ cause1 t
  unfolding cause1
  cause1-same = rw same.same_length

  cause2-same : cause2 s ≡ cause2 t
  unfolding cause2 marked length_stated
  cause2-same = rw (byte_field 12, byte_field 13, word_field 10, same.same_length)

  cause3-same : cause3 s ≡ cause3 t
  unfolding cause3 board_section classes_section kinds_section in_place
  cause3-same = rw (board-at, classes-at, kinds-at, kinds-length, classes-stated, trailer)

  -- ---- Bytes of a section that shares none with the class list
  apart-bytes : (o n : ℕ) → min (o + n) (classes_at s + classes_stated s * 3) ≤ max o (classes_at s)
      → (i : ℕ) → o ≤ i → i < o + n → byte_at s i ≡ byte_at t i
  apart-bytes o n h i l u =
      same.same-outside i
      (⊎_elim (λ (a : classes_at s ≤ i). inr (⊎_elim (λ b. b) (λ b. absurd (omega arith)) (le_or_lt (classes_at s + classes_stated s * 3) i))) (λ b. inl b)
      (le_or_lt (classes_at s) i))

  part_same : (o n : ℕ) → ((i : ℕ) → o ≤ i → i < o + n → byte_at s i ≡ byte_at t i) → take n (drop o s) ≡ take n (drop o t)
  unfolding byte_at
  part_same o n h =
      ext_get_or 0 (take n (drop o s)) (take n (drop o t)) (simp (length-take, length-drop, same.same_length))
      (λ i l.
      let k : i < n = omega (arith, simp (length-take, length-drop) at l) in
      get_or-take n (drop o s) i 0 k ∙ get_or-drop o s i 0 ∙ h (o + i) (omega arith) (omega arith)
      ∙ sym (get_or-drop o t i 0) ∙ sym (get_or-take n (drop o t) i 0 k))

  module _ (fit : cause3 s ≡ false) where
    board-apart : min (board_at s + 6) (classes_at s + classes_stated s * 3) ≤ max (board_at s) (classes_at s)
    unfolding cause3 share_byte board_section classes_section
    board-apart =
        ltb-false _ _
        (none-of_six (not (in_place s (board_section s))) (not (in_place s (classes_section s))) (not (in_place s (kinds_section s)))
        (share_byte (board_section s) (classes_section s)) (share_byte (board_section s) (kinds_section s)) _ fit).0

    kinds-apart : min (kinds_at s + kinds_length s) (classes_at s + classes_stated s * 3) ≤ max (kinds_at s) (classes_at s)
    unfolding cause3 share_byte kinds_section classes_section
    kinds-apart =
        let h : min (classes_at s + classes_stated s * 3) (kinds_at s + kinds_length s) ≤ max (classes_at s) (kinds_at s)
        = ltb-false _ _ (none-of_six (not (in_place s (board_section s))) (not (in_place s (classes_section s))) (not (in_place s (kinds_section s))) _ (share_byte (board_section s) (kinds_section s)) (share_byte (classes_section s) (kinds_section s)) fit).1 in
        omega arith

    board-word : (k : ℕ) → k ≤ 4 → word_at s (board_at s + k) ≡ word_at t (board_at t + k)
    board-word k h =
        word (board_at s + k) (λ m l. apart-bytes (board_at s) 6 board-apart _ (omega arith) (omega arith))
        ∙ ap (λ o. word_at t (o + k)) board-at

    board-same : board_of s ≡ board_of t
    unfolding board_of
    board-same =
        let first : word_at s (board_at s) ≡ word_at t (board_at t)
        = word (board_at s) (λ m l. apart-bytes (board_at s) 6 board-apart _ (omega arith) (omega arith)) ∙ ap (word_at t) board-at in
        λ i. record { W = first i; L = board-word 2 (omega arith) i; g = board-word 4 (omega arith) i }

    kind-bytes : kind_bytes s ≡ kind_bytes t
    unfolding kind_bytes
    kind-bytes =
        part_same (kinds_at s) (kinds_length s) (apart-bytes (kinds_at s) (kinds_length s) kinds-apart)
        ∙ rw (kinds-at, kinds-length)

    kinds-got : kinds_got s ≡ kinds_got t
    unfolding kinds_got
    kinds-got = rw (kinds-stated, kind-bytes)

    -- ---- Causes 4 to 7
    cause4-same : cause4 s ≡ cause4 t
    unfolding cause4
    cause4-same = rw board-same

    cause6-same : cause6 s ≡ cause6 t
    unfolding cause6
    cause6-same = rw (kinds-stated, kinds-length, kinds-got, unfit_permuted same.reordered)

    cause7-same : cause7 s ≡ cause7 t
    unfolding cause7
    cause7-same = rw kinds-got

  cause5-same : cause5 s ≡ cause5 t
  unfolding cause5
  cause5-same =
      rw (
        classes-stated,
        all-permuted _ same.reordered,
        distinct-permuted (map-permuted (λ c. c.id) same.reordered),
        distinct-permuted (map-permuted (λ c. c.rank) same.reordered),
      )

  -- ---- The same refusal
  pub refusal-same : refusal s ≡ refusal t
  unfolding refusal
  refusal-same =
      rw (cause1-same, cause2-same, cause3-same, cause5-same)
      (guarded (cause1 t) 1
      (λ _. guarded (cause2 t) 2
      (λ _. guarded (cause3 t) 3
      (λ h. let fit : cause3 s ≡ false = cause3-same ∙ h in rw (cause4-same fit, cause6-same fit, cause7-same fit)))))

  -- ---- The same content
  pub content-same : refusal s ≡ 0 → content s ≡ content t
  unfolding content by_rising_id cause5
  content-same accepted =
      let causes = no_cause s accepted in
      let ids : distinct (map (λ c. c.id) (classes_of s)) ≡ true
      = not-false _ (or_right (ltb 8 (classes_stated s) || not (all class_in_range (classes_of s))) _
      (or_left _ (not (distinct (map (λ c. c.rank) (classes_of s)))) causes.no5)) in
      rw (board-same causes.no3, kinds-got causes.no3, fun_ext (λ i. keep-permuted (λ c. c.id) i same.reordered ids))

  -- ---- The same answers and buffers
  pub order_changes_nothing : SameAnswers s t
  order_changes_nothing = same-answers s t refusal-same content-same
