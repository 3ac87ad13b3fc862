-- The text that this crate puts into a buffer, by the words of document 01's output.
use Rattle.std.specs.Prelude.{List, [], ◌∷◌, ◌++◌, map, ℕ, Result, Ok, Err, Option, Some, None}
use Rattle.answers.specs.Refused.{unless_refused}
use Rattle.model.specs.Lists.{below}
use Rattle.model.specs.Output.{decimal, line, refused_word, first_line, entry_lines, layout_lines}
use Rattle.model.specs.Services.{entry_in}
use Rattle.model.specs.declared.Outcome.{Outcome}
use Rattle.model.specs.declared.Outcome.TheVariants.{Shortest, Stopped, Infeasible}
use Rattle.model.specs.declared.Refusal.{Refusal}

-- A number in base ten, and the byte that ends it: a space, or the end of the line.
unfoldable pub number_then : ℕ → ℕ → List ℕ
number_then n mark = decimal n ++ mark ∷ []

-- The lines of the first k entries that a buffer of numbers holds.
unfoldable pub lines_in : List ℕ → ℕ → List ℕ
lines_in s k = entry_lines (map (entry_in s) (below k))

-- How many of so many entries follow a stopped run's first line: all, or none where nothing is held.
abbrev pub held_count : Option ℕ → ℕ → ℕ
held_count (Some len) pieces = pieces
held_count None pieces = 0

-- How many of so many entries follow the first line.
abbrev pub shown_count : {E : Type 0} → Result Outcome E → ℕ → ℕ
shown_count (Err r) pieces = 0
shown_count (Ok (Shortest len steps)) pieces = pieces
shown_count (Ok (Stopped h steps)) pieces = held_count h pieces
shown_count (Ok (Infeasible steps)) pieces = 0

-- The whole text of an answer, whose layout has so many entries and is read from these bytes.
unfoldable pub rendered : Result Outcome Refusal → List ℕ → ℕ → List ℕ
rendered a numbers pieces = first_line a ++ layout_lines a (map (entry_in numbers) (below pieces))

-- ---- Of a refusal of any type that has a number

-- The line of a call that is refused by a number.
unfoldable pub refused_line : ℕ → List ℕ
refused_line n = line (refused_word ∷ decimal n ∷ [])

-- The first line.
abbrev pub first_by : {E : Type 0} → (E → ℕ) → Result Outcome E → List ℕ
first_by code a = unless_refused first_line (λ e. refused_line (code e)) a

-- The whole text: of a refusal it is the first line.
unfoldable pub rendered_by : {E : Type 0} → (E → ℕ) → Result Outcome E → List ℕ → ℕ → List ℕ
rendered_by code a numbers pieces = unless_refused (λ b. rendered b numbers pieces) (λ e. refused_line (code e)) a
