-- Document 01, "Services" and "Who can cause a refusal": what each service answers, and what it leaves in every buffer handed in.
-- "They are tested as 1 to 7, then 12, 11, 8, 9, then 10, each only after those before it." Document 02: "13 .., tested after 7".
-- So the order is 1 to 7, 13, 12, 11, 8, 9, 10, as far as a service has them. (Cut, which is handed no job, stands with its 14 and 9 in the crate `outlines`.) "Saving, like every later service that is handed a job, refuses it by 1 to 7 as read does."
use Rattle.std.specs.Prelude.{Bool, true, false, not, ◌&&◌, ◌||◌, cond, List, [], ◌∷◌, ◌++◌, map, ℕ, ◌+◌, ◌*◌, ◌-◌, ltb, eqb, ℤ, pos, negsuc, length, drop, replicate, Result, Ok, Err, Some, None}
use Rattle.std.specs.Prelude as Std
use Rattle.std.proofs.Math.Option.{Option, none, some}
use Rattle.words.specs.Bits.{bits_where}
use Rattle.words.specs.Number.{number_at, count, filled}
use Rattle.model.specs.Candidate.{is_candidate}
use Rattle.model.specs.Content.{Vertex, Part, Kind, SpacingClass, Job, piece_count, kind_count}
use Rattle.model.specs.Format.{refusal, content}
use Rattle.model.specs.Grid.{placement, set_words}
use Rattle.model.specs.Layout.{Entry, Layout, entry, entry_of, conflict, passes, layout_length}
use Rattle.model.specs.Lists.{concat, below}
use Rattle.model.specs.Problem.{Problem, under, cause13}
use Rattle.model.specs.Refusal.{numbered}
use Rattle.model.specs.Saving.{written}
use Rattle.model.specs.Search.{is_stopped, steps_taken, held}
use Rattle.model.specs.declared.Outcome.{Outcome}
use Rattle.model.specs.declared.Outcome.TheVariants as O
use Rattle.model.specs.declared.Refusal.{Refusal}
use Rattle.model.specs.declared.Refusal.TheVariants as R

-- "a layout or answer number 2 [bytes], .. an incomplete last one does not count"
unfoldable pub numbers_in : List ℕ → ℕ
numbers_in s = count 2 s

-- "a work or row word is 8 bytes, .. an incomplete last one does not count"
unfoldable pub words_in : List ℕ → ℕ
words_in s = count 8 s

-- The buffer with these as its first numbers, and "numbers beyond the needed ones" as they were.
unfoldable pub with_numbers : List ℕ → List ℕ → List ℕ
with_numbers ns s = filled 2 ns s

-- The buffer with these as its first words, and the words beyond as they were.
unfoldable pub with_words : List ℕ → List ℕ → List ℕ
with_words ws s = filled 8 ws s

-- ---- Read

-- A coordinate as a two-byte number, "a negative one written as 65,536 plus it".
unfoldable pub coordinate : ℤ → ℕ
coordinate (pos n) = n
coordinate (negsuc n) = 65535 - n

-- x and y of a corner.
unfoldable pub vertex_numbers : Vertex → List ℕ
vertex_numbers v = coordinate v.x ∷ coordinate v.y ∷ []

-- The number of corners, then x and y of each.
unfoldable pub part_numbers : Part → List ℕ
part_numbers P = length P ∷ concat (map vertex_numbers P)

-- Demand, turn mask, class mask, number of parts, then each part.
unfoldable pub kind_numbers : Kind → List ℕ
kind_numbers k = k.demand ∷ k.rotations ∷ k.classes ∷ length k.parts ∷ concat (map part_numbers k.parts)

-- Id, rank, gap and, behind it, the mark of common cut: 1 where the class has it, 0 where it has not.
unfoldable pub class_numbers : SpacingClass → List ℕ
class_numbers c = c.id ∷ c.rank ∷ c.gap ∷ cond c.common_cut 1 0 ∷ []

-- "Read gives W, L, g, the classes by rising id, the types and N", each list behind its count.
unfoldable pub content_numbers : Job → List ℕ
content_numbers j =
    (j.sheet.W ∷ j.sheet.L ∷ j.sheet.g ∷ length j.classes ∷ concat (map class_numbers j.classes))
    ++ (kind_count j.kinds ∷ concat (map kind_numbers j.kinds))
    ++ (piece_count j.kinds ∷ [])

-- What a service that writes into one buffer answers and leaves in it.
pub record WriteOutcome : Type 0 where
  pub answer : Result ℕ Refusal
  pub buffer : List ℕ

abbrev pub write_outcome : Result ℕ Refusal → List ℕ → WriteOutcome
write_outcome a s = record { answer = a; buffer = s }

-- Read, of an accepted job. "9: answer .. words too few."
unfoldable pub read_content : Job → List ℕ → WriteOutcome
read_content j out =
    cond (ltb (numbers_in out) (length (content_numbers j))) (write_outcome (Err R.Answer) out)
    (write_outcome (Ok (length (content_numbers j))) (with_numbers (content_numbers j) out))

-- The read service. "A refusal returns its number .. and changes no buffer."
unfoldable pub read : List ℕ → List ℕ → WriteOutcome
read s out =
    elim (eqb (refusal s) 0) [
      | false ↦ write_outcome (Err (numbered (refusal s))) out
      | true ↦ read_content (content s) out
    ]

-- ---- Save: document 02, "4/13 Saving a job"

-- The buffer with these as its first bytes: "bytes past the job stay unchanged".
unfoldable pub with_bytes : List ℕ → List ℕ → List ℕ
with_bytes bs s = bs ++ drop (length bs) s

-- Saving, of an accepted job. "Writing needs enough answer bytes, else 9, and tells how many it wrote."
unfoldable pub save_content : Job → List ℕ → WriteOutcome
save_content j out =
    cond (ltb (length out) (length (written j))) (write_outcome (Err R.Answer) out)
    (write_outcome (Ok (length (written j))) (with_bytes (written j) out))

-- The save service. "Saving .. refuses it by 1 to 7 as read does."
unfoldable pub save : List ℕ → List ℕ → WriteOutcome
save s out =
    elim (eqb (refusal s) 0) [
      | false ↦ write_outcome (Err (numbered (refusal s))) out
      | true ↦ save_content (content s) out
    ]

-- ---- What row, check and run are given besides the job: the margin

-- "13, margin above 63, tested after 7": by which number a job is refused under a margin, 0 if by none of 1 to 7 and 13.
unfoldable pub refusal_under : ℕ → List ℕ → ℕ
refusal_under m s =
    elim (eqb (refusal s) 0) [
      | false ↦ refusal s
      | true ↦ cond (cause13 m) 13 0
    ]

-- ---- Conflict row

-- "12: the row's candidate or type does not exist."
unfoldable pub cause12 : Problem → ℕ → ℕ → ℕ → Bool
cause12 j t n u = not (ltb t (kind_count j.kinds) && is_candidate j t n && ltb u (kind_count j.kinds))

-- "a bit is set where that type's candidate of that number exists and is in conflict"
unfoldable pub row_bit : Problem → ℕ → ℕ → ℕ → ℕ → Bool
row_bit j t n u k =
    elim (is_candidate j u k) [
      | false ↦ false
      | true ↦ conflict j (entry_of j t n) (entry_of j u k)
    ]

-- "fills ceil(D / 16) words": "candidate n is bit n mod 64 of word n div 64".
unfoldable pub row_words : Problem → ℕ → ℕ → ℕ → List ℕ
row_words j t n u = map (λ w. bits_where 64 (λ i. row_bit j t n u (w * 64 + i))) (below (set_words j.sheet))

-- Conflict row, of an accepted job and margin. "9: .. row words too few."
unfoldable pub row_content : Problem → ℕ → ℕ → ℕ → List ℕ → WriteOutcome
row_content j t n u out =
    elim (cause12 j t n u) [
      | true ↦ write_outcome (Err R.Candidate) out
      | false ↦
          elim (ltb (words_in out) (set_words j.sheet)) [
            | true ↦ write_outcome (Err R.Answer) out
            | false ↦ write_outcome (Ok (set_words j.sheet)) (with_words (row_words j t n u) out)
          ]
    ]

-- "Conflict row takes a candidate, given as its type and its number, and a second type."
unfoldable pub conflict_row : List ℕ → ℕ → ℕ → ℕ → ℕ → List ℕ → WriteOutcome
conflict_row s m t n u out =
    elim (eqb (refusal_under m s) 0) [
      | false ↦ write_outcome (Err (numbered (refusal_under m s))) out
      | true ↦ row_content (under m (content s)) t n u out
    ]

-- ---- Check

-- "each four 16-bit numbers: type (from 0), column, row, turn": entry i of a layout that is handed in.
unfoldable pub entry_in : List ℕ → ℕ → Entry
entry_in s i =
    entry (number_at 2 s (i * 8)) (placement (number_at 2 s (i * 8 + 2)) (number_at 2 s (i * 8 + 4)) (number_at 2 s (i * 8 + 6)))

-- The N entries of a layout that is handed in.
unfoldable pub layout_in : Problem → List ℕ → Layout
layout_in j s = map (entry_in s) (below (piece_count j.kinds))

-- "11: the layout handed in has another count of numbers, is out of order, or does not pass."
unfoldable pub cause11 : Problem → List ℕ → Bool
cause11 j s = not (eqb (numbers_in s) (4 * piece_count j.kinds)) || not (passes j (layout_in j s))

-- Check, of an accepted job and margin. "Check gives a layout's length."
unfoldable pub check_content : Problem → List ℕ → Result ℕ Refusal
check_content j layout = cond (cause11 j layout) (Err R.Layout) (Ok (layout_length j (layout_in j layout)))

-- The check service. It changes no buffer.
unfoldable pub check : List ℕ → ℕ → List ℕ → Result ℕ Refusal
check s m layout =
    elim (eqb (refusal_under m s) 0) [
      | false ↦ Err (numbered (refusal_under m s))
      | true ↦ check_content (under m (content s)) layout
    ]

-- ---- Run

-- Document 02, 6/13: "A run may be given a layout to begin from ..; a buffer of no bytes gives none."
unfoldable pub given_layout : Problem → List ℕ → Option Layout
given_layout j [] = none
given_layout j (b ∷ bs) = some (layout_in j (b ∷ bs))

-- "A given layout is checked under the present rules and refused by 11 if it does not pass."
unfoldable pub given_unfit : Problem → List ℕ → Bool
given_unfit j [] = false
given_unfit j (b ∷ bs) = cause11 j (b ∷ bs)

-- What a run answers and what it leaves in the work words and in the answer numbers.
pub record RunOutcome : Type 0 where
  pub answer : Result Outcome Refusal
  pub work : List ℕ
  pub out : List ℕ

abbrev pub run_outcome : Result Outcome Refusal → List ℕ → List ℕ → RunOutcome
run_outcome a w o = record { answer = a; work = w; out = o }

-- "T × N × ceil(D / 16) work words (T types)"
unfoldable pub work_words : Problem → ℕ
work_words j = kind_count j.kinds * piece_count j.kinds * set_words j.sheet

-- "afterwards those work words are zero"
unfoldable pub cleared : Problem → List ℕ → List ℕ
cleared j work = with_words (replicate (work_words j) 0) work

-- Type, column, row and turn.
unfoldable pub entry_numbers : Entry → List ℕ
entry_numbers e = e.kind ∷ e.place.column ∷ e.place.row ∷ e.place.rotation ∷ []

-- "each four 16-bit numbers", entry by entry: 4 × N numbers.
unfoldable pub layout_numbers : Layout → List ℕ
layout_numbers es = concat (map entry_numbers es)

-- "The layout a run holds is what the first 4 × N answer numbers contain after it." Without one they are unchanged.
unfoldable pub with_layout : Option Layout → List ℕ → List ℕ
with_layout none out = out
with_layout (some es) out = with_numbers (layout_numbers es) out

-- "A stopped run says whether it holds a layout, and that layout's length."
unfoldable pub held_as : Problem → Option Layout → Std.Option ℕ
held_as j none = None
held_as j (some es) = Some (layout_length j es)

-- A run that ended: "shortest" with the layout that it holds, or "10 ..: none; no layout passes".
unfoldable pub finished_as : Problem → Option Layout → ℕ → Outcome
finished_as j none steps = O.Infeasible steps
finished_as j (some es) steps = O.Shortest (layout_length j es) steps

-- "The steps reported are the ones that walk took": "as many as it needs, or the whole budget if that is less".
unfoldable pub step_count : Problem → Option Layout → ℕ → ℕ
step_count j begin budget = length (steps_taken j begin budget)

-- What the walk answers under a budget: stopped or not, with the best layout of the steps taken and their number. "The walk then begins at step 0 with
-- that layout as best."
unfoldable pub verdict : Problem → Option Layout → ℕ → Outcome
verdict j begin budget =
    cond (is_stopped j begin budget) (O.Stopped (held_as j (held j begin budget)) (step_count j begin budget))
    (finished_as j (held j begin budget) (step_count j begin budget))

-- What it answers and leaves: the needed work words zero, and the layout held in the answer numbers.
abbrev pub walked : Problem → Option Layout → ℕ → List ℕ → List ℕ → RunOutcome
walked j begin budget work out = run_outcome (Ok (verdict j begin budget)) (cleared j work) (with_layout (held j begin budget) out)

-- Run, with this layout as best to begin with, or with none. "8: work words too few. 9: answer .. words too few."
unfoldable pub run_from : Problem → Option Layout → ℕ → List ℕ → List ℕ → RunOutcome
run_from j begin budget work out =
    elim (ltb (words_in work) (work_words j)) [
      | true ↦ run_outcome (Err R.Work) work out
      | false ↦
          elim (ltb (numbers_in out) (4 * piece_count j.kinds)) [
            | true ↦ run_outcome (Err R.Answer) work out
            | false ↦ walked j begin budget work out
          ]
    ]

-- Run, of an accepted job and margin. "11: the layout handed in ..", before 8 and 9.
unfoldable pub run_content : Problem → ℕ → List ℕ → List ℕ → List ℕ → RunOutcome
run_content j budget given work out =
    elim (given_unfit j given) [
      | true ↦ run_outcome (Err R.Layout) work out
      | false ↦ run_from j (given_layout j given) budget work out
    ]

-- The run service. It does not change the buffer of the given layout.
unfoldable pub run : List ℕ → ℕ → ℕ → List ℕ → List ℕ → List ℕ → RunOutcome
run s m budget given work out =
    elim (eqb (refusal_under m s) 0) [
      | false ↦ run_outcome (Err (numbered (refusal_under m s))) work out
      | true ↦ run_content (under m (content s)) budget given work out
    ]
