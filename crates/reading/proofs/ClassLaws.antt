-- Laws of the loop that writes the classes by rising id.
use mathlib.Core.Bool.{Bool, true, false, cond}
use mathlib.Core.List.{List, [], ◌∷◌, ◌++◌}
use mathlib.Core.Path.{◌≡◌, refl, sym, ap, ap₂, ◌∙◌}
use Prim.Native.Nat.{ℕ, ◌+◌, ◌*◌}
use native.Mathlib.Nat.{add-zero}
use native.Mathlib.Omega.{arith}
use lib.ListN.{length, get_or, take}
use mir.Val.{bool_byte}
use Rattle.model.specs.Content.{SpacingClass}
use Rattle.model.specs.Format.{byte_at, marks_cut, gap_meant, class_from, by_rising_id}
use Rattle.model.specs.Lists.{concat, below, rising}
use Rattle.model.specs.Services.{class_numbers}
use Rattle.model.proofs.Folds.{concat-below-more}
use Rattle.records.specs.Classes.{classes_from}
use Rattle.records.specs.Rising.{classes_at_first, ByRisingId}
use Rattle.reading.specs.Write.{gap_numbers, classes_numbers}
use Rattle.writing.specs.Numbers.{with_numbers_at, as_number, bytes_from}
use Rattle.records.proofs.RisingLaws.{length-first, first-taken}
use Rattle.writing.proofs.NumberLaws.{numbers_none, numbers_then, length-row, numbers_length}

-- ---- Gap and mark

pub gap-written : (at b g m : ℕ) (t : Bool) (a u v : List ℕ) → g ≡ gap_meant b → m ≡ bool_byte t → t ≡ marks_cut b
    → u ≡ with_numbers_at at (g ∷ []) a
    → v ≡ with_numbers_at (at + 1) (m ∷ []) u → v ≡ with_numbers_at at (gap_numbers b) a
gap-written at b g m t a u v eg em et eu ev =
    numbers_then at (at + 1) (g ∷ []) (m ∷ []) a u v refl eu ev
    ∙ ap₂ (λ x y. with_numbers_at at (x ∷ y ∷ []) a) eg (em ∙ mark t ∙ ap (λ t. cond t 1 0) et)
  where
    mark : (t : Bool) → bool_byte t ≡ cond t 1 0
    mark true = refl
    mark false = refl

-- ---- A class

-- Id and rank are plain bytes, and gap and mark are in the third.
class-bytes : (s : List ℕ) (o : ℕ) → bytes_from false o 2 s ++ gap_numbers (byte_at s (o + 2)) ≡ class_numbers (class_from s o)
unfolding as_number below rising class_numbers
class-bytes s o = rw (add-zero o)

pub class-written : (s : List ℕ) (o at b : ℕ) (a u v : List ℕ) → b ≡ byte_at s (o + 2) → u ≡ with_numbers_at at (bytes_from false o 2 s) a
    → v ≡ with_numbers_at (at + 2) (gap_numbers b) u → v ≡ with_numbers_at at (class_numbers (class_from s o)) a
class-written s o at b a u v eb eu ev =
    numbers_then at (at + 2) (bytes_from false o 2 s) (gap_numbers b) a u v (ap (λ k. at + k) (sym (length-row (λ i. as_number false (byte_at s (o + i))) 2))) eu ev
    ∙ ap (λ x. with_numbers_at at (bytes_from false o 2 s ++ gap_numbers x) a) eb
    ∙ ap (λ r. with_numbers_at at r a) (class-bytes s o)

-- ---- One after the other

pub length-classes : (cs : List SpacingClass) → length (classes_numbers cs) ≡ length cs * 4
unfolding class_numbers
length-classes cs = numbers_length class_numbers 4 (λ c. refl) cs

module _ (s places : List ℕ) where
  abbrev numbers_to : ℕ → List ℕ
  numbers_to k = classes_numbers (classes_at_first s places k)

  pub classes-none : (at : ℕ) (a : List ℕ) → a ≡ with_numbers_at at (numbers_to 0) a
  unfolding concat below rising
  classes-none at a = sym (numbers_none at a)

  pub classes-more : (at k : ℕ) (a u v : List ℕ) → u ≡ with_numbers_at at (numbers_to k) a
      → v ≡ with_numbers_at (at + k * 4) (class_numbers (class_from s (get_or places k 0))) u → v ≡ with_numbers_at at (numbers_to (k + 1)) a
  classes-more at k a u v eu ev =
      let l = length-classes (classes_at_first s places k) in
      let m = length-first s places k in
      numbers_then at (at + k * 4) (numbers_to k) (class_numbers (class_from s (get_or places k 0))) a u v (omega arith) eu ev
      ∙ ap (λ r. with_numbers_at at r a) (sym (concat-below-more (λ i. class_from s (get_or places i 0)) class_numbers k))

  pub classes-all : (all : List ℕ) (at o n k : ℕ) (a u : List ℕ) → k ≡ n → places ≡ take n all → ByRisingId s o n all
      → u ≡ with_numbers_at at (numbers_to k) a
      → u ≡ with_numbers_at at (classes_numbers (by_rising_id (classes_from s o n))) a
  classes-all all at o n k a u e t r eu =
      eu ∙ ap (λ m. with_numbers_at at (numbers_to m) a) e
      ∙ ap (λ ps. with_numbers_at at (classes_numbers (classes_at_first s ps n)) a) t
      ∙ ap (λ cs. with_numbers_at at (classes_numbers cs) a) (first-taken s all n ∙ r.classes)
