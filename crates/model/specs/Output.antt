-- Document 01, "Services": what the command program prints.
use Rattle.std.specs.Prelude.{true, false, List, [], ◌∷◌, ◌++◌, map, ℕ, zero, suc, ◌+◌, ◌*◌, ◌/◌, ◌%◌, eqb, replicate, Result, Ok, Err, Option, Some, None}
use Rattle.model.specs.Content.{piece_count}
use Rattle.model.specs.Format.{content}
use Rattle.model.specs.Layout as L
use Rattle.model.specs.Lists.{concat}
use Rattle.model.specs.Problem.{Problem, under}
use Rattle.model.specs.Refusal.{number}
use Rattle.model.specs.Services.{RunOutcome, run, layout_in, entry_numbers, work_words}
use Rattle.model.specs.declared.Outcome.{Outcome}
use Rattle.model.specs.declared.Outcome.TheVariants.{Shortest, Stopped, Infeasible}
use Rattle.model.specs.declared.Refusal.{Refusal}

-- The digits of n in front of some bytes, by at most so many divisions by ten. "Numbers are written in base ten."
unfoldable pub digits_before : ℕ → ℕ → List ℕ → List ℕ
digits_before zero n behind = behind
digits_before (suc more) n behind =
    elim (eqb (n / 10) 0) [
      | true ↦ (48 + n % 10) ∷ behind
      | false ↦ digits_before more (n / 10) ((48 + n % 10) ∷ behind)
    ]

-- n in base ten. (It has no more than n + 1 digits.)
unfoldable pub decimal : ℕ → List ℕ
decimal n = digits_before (suc n) n []

-- Words with a space between them, and the end of the line.
unfoldable pub line : List (List ℕ) → List ℕ
line [] = 10 ∷ []
line (w ∷ []) = w ++ 10 ∷ []
line (w ∷ v ∷ ws) = w ++ 32 ∷ line (v ∷ ws)

-- `shortest`
unfoldable pub shortest_word : List ℕ
shortest_word = 115 ∷ 104 ∷ 111 ∷ 114 ∷ 116 ∷ 101 ∷ 115 ∷ 116 ∷ []

-- `stopped`
unfoldable pub stopped_word : List ℕ
stopped_word = 115 ∷ 116 ∷ 111 ∷ 112 ∷ 112 ∷ 101 ∷ 100 ∷ []

-- `none`
unfoldable pub none_word : List ℕ
none_word = 110 ∷ 111 ∷ 110 ∷ 101 ∷ []

-- `refused`
unfoldable pub refused_word : List ℕ
refused_word = 114 ∷ 101 ∷ 102 ∷ 117 ∷ 115 ∷ 101 ∷ 100 ∷ []

-- "length or `-`"
unfoldable pub held_word : Option ℕ → List ℕ
held_word (Some len) = decimal len
held_word None = 45 ∷ []

-- "The first line is `shortest`, length, steps; or `stopped`, length or `-`, steps; or `none`, steps; or `refused`, number."
unfoldable pub first_line : Result Outcome Refusal → List ℕ
first_line (Err r) = line (refused_word ∷ decimal (number r) ∷ [])
first_line (Ok (Shortest len steps)) = line (shortest_word ∷ decimal len ∷ decimal steps ∷ [])
first_line (Ok (Stopped h steps)) = line (stopped_word ∷ held_word h ∷ decimal steps ∷ [])
first_line (Ok (Infeasible steps)) = line (none_word ∷ decimal steps ∷ [])

-- "an entry per line: type, column, row, turn"
unfoldable pub entry_line : L.Entry → List ℕ
entry_line e = line (map decimal (entry_numbers e))

-- The lines of a layout.
unfoldable pub entry_lines : L.Layout → List ℕ
entry_lines es = concat (map entry_line es)

-- The lines of a stopped run's layout, if it holds one.
unfoldable pub held_lines : Option ℕ → L.Layout → List ℕ
held_lines (Some len) es = entry_lines es
held_lines None es = []

-- "A layout follows", where one is held.
unfoldable pub layout_lines : Result Outcome Refusal → L.Layout → List ℕ
layout_lines (Err r) es = []
layout_lines (Ok (Shortest len steps)) es = entry_lines es
layout_lines (Ok (Stopped h steps)) es = held_lines h es
layout_lines (Ok (Infeasible steps)) es = []

-- What is printed of a run: its first line, and the layout that the answer numbers hold.
unfoldable pub printed : Problem → RunOutcome → List ℕ
printed j r = first_line r.answer ++ layout_lines r.answer (layout_in j r.out)

-- "The command program reads a job from standard input, gives run a budget of 1,000,000 and prints." Its buffers are long enough. Document 02:
-- "m = 0, which the command program passes". It gives no layout to begin from.
unfoldable pub program : List ℕ → List ℕ
program s =
    printed (under 0 (content s))
    (run s 0 1000000 [] (replicate (work_words (under 0 (content s)) * 8) 0) (replicate (piece_count (content s).kinds * 8) 0))
