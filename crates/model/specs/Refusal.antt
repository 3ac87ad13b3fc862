-- The number of each refusal, and the refusal of each number.
use Rattle.std.specs.Prelude.{ℕ, cond, eqb, Result, Ok, Err}
use Rattle.model.specs.declared.Refusal.{Refusal}
use Rattle.model.specs.declared.Refusal.TheVariants as R

-- "A refusal returns its number."
abbrev pub number : Refusal → ℕ
number R.Size = 1
number R.Mark = 2
number R.Sections = 3
number R.Board = 4
number R.Classes = 5
number R.Kinds = 6
number R.Parts = 7
number R.Work = 8
number R.Answer = 9
number R.Layout = 11
number R.Candidate = 12
number R.Margin = 13
number R.Outline = 14

-- The refusal of a number. (Of any other number it is one whose number that is not.)
unfoldable pub numbered : ℕ → Refusal
numbered n =
    cond (eqb n 1) R.Size (
    cond (eqb n 2) R.Mark (
    cond (eqb n 3) R.Sections (
    cond (eqb n 4) R.Board (
    cond (eqb n 5) R.Classes (
    cond (eqb n 6) R.Kinds (
    cond (eqb n 7) R.Parts (
    cond (eqb n 8) R.Work (
    cond (eqb n 9) R.Answer (
    cond (eqb n 11) R.Layout (
    cond (eqb n 12) R.Candidate (
    cond (eqb n 13) R.Margin (
    R.Outline))))))))))))

-- By which number a call is refused, 0 if by none.
abbrev pub refused_by : {A : Type 0} → Result A Refusal → ℕ
refused_by (Ok a) = 0
refused_by (Err r) = number r
