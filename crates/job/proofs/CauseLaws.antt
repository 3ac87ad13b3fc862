-- The causes as the code finds them are those of the model.
use mathlib.Core.Bool.{Bool, true, false, not, cond, ◌||◌}
use mathlib.Core.List.{List, map, map-map}
use mathlib.Core.Path.{◌≡◌, refl, ap, ap₂, ◌∙◌}
use Prim.Native.Nat.{ℕ, ◌+◌, ◌*◌, ◌-◌, ◌≤◌}
use native.Mathlib.Omega.{arith}
use lib.ListN.{length, take, drop, length-drop}
use lib.Seq.{length-take-le}
use Rattle.model.specs.Format.{byte_at, board_at, classes_at, classes_stated, kinds_at, kinds_length, kinds_stated, board_from, board_of, class_from, class_at, classes_of, kind_bytes, kinds_got, cause4, cause5, cause6}
use Rattle.model.specs.Lists.{between, below}
use Rattle.model.proofs.Folds.{map_same}
use Rattle.frame.specs.Board.{unfit_board}
use Rattle.records.specs.Classes.{classes_from, entry_at, all_in_range, distinct_column, classes_unfit}
use Rattle.records.specs.Kinds.{list_unfit}

pub board-cause : (s : List ℕ) (o : ℕ) → o ≡ board_at s → unfit_board (board_from s o) ≡ cause4 s
unfolding unfit_board cause4 board_of
board-cause s o e = rw e

pub classes-are : (s : List ℕ) → classes_of s ≡ classes_from s (classes_at s) (classes_stated s)
unfolding classes_of class_at
classes-are s = refl

pub ids_are : (s : List ℕ) (o n : ℕ) → map (λ c. c.id) (classes_from s o n) ≡ map (entry_at s o) (below n)
ids_are s o n = map-map (λ c. c.id) (λ i. class_from s (o + i * 3)) (below n)

ranks-are : (s : List ℕ) (o n : ℕ) → map (λ c. c.rank) (classes_from s o n) ≡ map (entry_at s (o + 1)) (below n)
ranks-are s o n =
    map-map (λ c. c.rank) (λ i. class_from s (o + i * 3)) (below n)
    ∙ map_same (λ i. byte_at s (o + i * 3 + 1)) (entry_at s (o + 1)) (below n) (λ i. ap (byte_at s) (omega arith))

pub classes-cause : (s : List ℕ) (o n : ℕ) → o ≡ classes_at s → n ≡ classes_stated s → classes_unfit s o n ≡ cause5 s
unfolding classes_unfit cause5 all_in_range distinct_column
classes-cause s o n eo en = rw (classes-are s, ids_are s (classes_at s) (classes_stated s), ranks-are s (classes_at s) (classes_stated s), eo, en)

-- The bytes of the type list.
module _ (s : List ℕ) (base size : ℕ) (eb : base ≡ kinds_at s) (es : size ≡ kinds_length s) where
  pub list_is : take (base + size - base) (drop base s) ≡ kind_bytes s
  unfolding kind_bytes
  list_is = let q : base + size - base ≡ kinds_length s = omega arith in ap₂ (λ a b. take a (drop b s)) q eb

  pub list_length : kinds_at s + kinds_length s ≤ length s → length (kind_bytes s) ≡ kinds_length s
  unfolding kind_bytes
  list_length h = length-take-le (kinds_length s) (drop (kinds_at s) s) (rw length-drop (omega arith))

  pub kinds-cause : (b : Bool) (o n m : ℕ) (u : Bool) → kinds_at s + kinds_length s + 14 ≤ length s → o ≡ classes_at s → n ≡ classes_stated s → m ≡ kinds_stated s
      → b ≡ between 1 8 m → u ≡ list_unfit (classes_from s o n) (take (base + size - base) (drop base s)) m → (not b || u) ≡ cause6 s
  unfolding cause6 kinds_got list_unfit
  kinds-cause b o n m u h eo en em e1 e2 =
      rw (e1, e2, list_is, list_length (omega arith), eo, en, em, classes-are s)

-- A cause in front of those that follow: it holds, or it does not.
pub stopped : (a : Bool) (n m : ℕ) → a ≡ true → n ≡ cond a n m
stopped a n m e = rw e

pub passed : (a : Bool) (n m r : ℕ) → a ≡ false → r ≡ m → r ≡ cond a n m
passed a n m r e q = rw e q
