-- Laws of the lines: the first, and those of the entries that a buffer of numbers holds.
use mathlib.Core.List.{List, [], ◌∷◌, ◌++◌, map, append_assoc, append-nil}
use mathlib.Core.Path.{◌≡◌, refl, sym, ap, ◌∙◌}
use Prim.Native.Nat.{ℕ, suc, ◌+◌, ◌*◌}
use native.Mathlib.Numerals.{add-one}
use Rattle.std.specs.Prelude.{Result, Ok, Err, Some, None}
use Rattle.words.specs.Number.{number_at}
use Rattle.model.specs.Content.{piece_count}
use Rattle.model.specs.Lists.{concat, rising, below}
use Rattle.model.specs.Output.{shortest_word, stopped_word, none_word, refused_word, held_word}
use Rattle.model.specs.Output.{first_line, entry_line, entry_lines, held_lines, layout_lines, printed}
use Rattle.model.specs.Problem.{Problem}
use Rattle.model.specs.Refusal.{number}
use Rattle.model.specs.Services.{RunOutcome, entry_in, layout_in}
use Rattle.model.specs.declared.Outcome.{Outcome}
use Rattle.model.specs.declared.Outcome.TheVariants.{Shortest, Stopped, Infeasible}
use Rattle.model.specs.declared.Refusal.{Refusal}
use Rattle.model.proofs.Printing.{below_last, map-append, lines_append, lines_one, line-two, line-three, entry-line}
use Rattle.report.specs.Text.{number_then, lines_in, shown_count, rendered, refused_line, first_by, rendered_by}

-- ---- The first line, as the bytes and numbers that are put one behind the other

pub line-refused : (n : ℕ) → refused_line n ≡ (refused_word ++ 32 ∷ []) ++ number_then n 10
unfolding refused_line number_then
line-refused n = line-two _ _

pub first-refused : (r : Refusal) → first_line (Err r) ≡ (refused_word ++ 32 ∷ []) ++ number_then (number r) 10
unfolding first_line refused_line
first-refused r = line-refused (number r)

pub first-shortest : (len steps : ℕ)
    → first_line (Ok (Shortest len steps)) ≡ (shortest_word ++ 32 ∷ []) ++ number_then len 32 ++ number_then steps 10
unfolding first_line number_then
first-shortest len steps = line-three _ _ _

pub first-held : (len steps : ℕ)
    → first_line (Ok (Stopped (Some len) steps))
    ≡ (stopped_word ++ 32 ∷ []) ++ number_then len 32 ++ number_then steps 10
unfolding first_line held_word number_then
first-held len steps = line-three _ _ _

pub first-nothing : (steps : ℕ)
    → first_line (Ok (Stopped None steps)) ≡ (stopped_word ++ 32 ∷ []) ++ (45 ∷ 32 ∷ []) ++ number_then steps 10
unfolding first_line held_word number_then
first-nothing steps = line-three _ _ _

pub first-none : (steps : ℕ) → first_line (Ok (Infeasible steps)) ≡ (none_word ++ 32 ∷ []) ++ number_then steps 10
unfolding first_line number_then
first-none steps = line-two _ _

-- ---- The lines of the entries

-- An entry's line is its four numbers, here behind what was put before it.
pub entry-numbers : (before s : List ℕ) (i : ℕ) → before ++ entry_line (entry_in s i)
    ≡ before
    ++ number_then (number_at 2 s (i * 8)) 32
    ++ number_then (number_at 2 s (i * 8 + 2)) 32
    ++ number_then (number_at 2 s (i * 8 + 4)) 32
    ++ number_then (number_at 2 s (i * 8 + 6)) 10
unfolding entry_in number_then
entry-numbers before s i = rw (entry-line (entry_in s i)) (simp append_assoc)

-- No entry has no line, and one entry more has its line at the end.
pub lines_none : (s : List ℕ) → lines_in s 0 ≡ []
unfolding lines_in below rising entry_lines concat
lines_none s = refl

pub lines_more : (s : List ℕ) (k : ℕ) → lines_in s (suc k) ≡ lines_in s k ++ entry_line (entry_in s k)
unfolding lines_in
lines_more s k =
    rw (below_last k, map-append (entry_in s) (below k) (k ∷ []), lines_append)
    (ap (λ (t : List ℕ). entry_lines (map (entry_in s) (below k)) ++ t) (lines_one (entry_in s k)))

-- Behind a first line there is none at first, and then one more.
pub lines_begun : (first s : List ℕ) → first ≡ first ++ lines_in s 0
lines_begun first s = rw (lines_none s) (sym (append-nil first))

pub lines_grown : (first s : List ℕ) (k : ℕ)
    → (first ++ lines_in s k) ++ entry_line (entry_in s k) ≡ first ++ lines_in s (k + 1)
lines_grown first s k =
    append_assoc first (lines_in s k) (entry_line (entry_in s k))
    ∙ ap (λ (t : List ℕ). first ++ t) (sym (lines_more s k) ∙ ap (lines_in s) (sym (add-one k)))

-- The lines that follow the first are those of as many entries as are shown.
pub shown_lines : (a : Result Outcome Refusal) (s : List ℕ) (pieces : ℕ)
    → lines_in s (shown_count a pieces) ≡ layout_lines a (map (entry_in s) (below pieces))
unfolding layout_lines held_lines lines_in
shown_lines (Err r) s pieces = lines_none s
shown_lines (Ok (Shortest len steps)) s pieces = refl
shown_lines (Ok (Stopped (Some len) steps)) s pieces = refl
shown_lines (Ok (Stopped None steps)) s pieces = lines_none s
shown_lines (Ok (Infeasible steps)) s pieces = lines_none s

-- The first line and those lines are the whole text.
pub whole_text : (a : Result Outcome Refusal) (s text : List ℕ) (pieces i shown : ℕ)
    → text ≡ first_line a ++ lines_in s i → i ≡ shown
    → shown ≡ shown_count a pieces → text ≡ rendered a s pieces
unfolding rendered
whole_text a s text pieces i shown put all count =
    put ∙ ap (λ k. first_line a ++ lines_in s k) (all ∙ count)
    ∙ ap (λ (t : List ℕ). first_line a ++ t) (shown_lines a s pieces)

-- The same of an answer whose refusals have any type.
pub whole_text_by : {E : Type 0} (code : E → ℕ) (a : Result Outcome E) (s text : List ℕ) (pieces i shown : ℕ)
    → text ≡ first_by code a ++ lines_in s i → i ≡ shown
    → shown ≡ shown_count a pieces → text ≡ rendered_by code a s pieces
unfolding rendered_by
whole_text_by code (Ok (Shortest len steps)) s text pieces i shown =
    whole_text (Ok (Shortest len steps)) s text pieces i shown
whole_text_by code (Ok (Stopped h steps)) s text pieces i shown =
    whole_text (Ok (Stopped h steps)) s text pieces i shown
whole_text_by code (Ok (Infeasible steps)) s text pieces i shown =
    whole_text (Ok (Infeasible steps)) s text pieces i shown
whole_text_by code (Err e) s text pieces i shown =
    λ put all count. put ∙ ap (λ k. refused_line (code e) ++ lines_in s k) (all ∙ count)
    ∙ sym (lines_begun (refused_line (code e)) s)

-- Of a `Refusal` it is the definition's text.
pub rendered_same : (a : Result Outcome Refusal) (s : List ℕ) (pieces : ℕ)
    → rendered_by number a s pieces ≡ rendered a s pieces
unfolding rendered_by rendered refused_line first_line layout_lines
rendered_same (Ok o) s pieces = refl
rendered_same (Err r) s pieces = sym (append-nil _)

-- What is rendered of a run of a job is what the definition of the program's output says is printed of it.
pub rendered-printed : (j : Problem) (r : RunOutcome) → rendered r.answer r.out (piece_count j.kinds) ≡ printed j r
unfolding rendered printed layout_in
rendered-printed j r = refl
