-- The third demand, sentence by sentence, as one record over a problem, the layout that a run is given to begin from, if it is given one, a budget and what
-- the run leaves behind. The theorem `demand3` (proofs/Search/Demand3) says that what `run` leaves behind meets it, for every accepted job, every margin of 0
-- to 63, every given layout that passes or none, every budget and long enough buffers, whatever these hold.
use Rattle.std.specs.Prelude.{false, ◌↔◌, ◌⊎◌, ◌≡◌, ℕ, ◌*◌, ◌≤◌, ◌<◌, min, length, Result, Ok, Err, Some, None}
use mathlib.Core.List.{List, Memᴰ}
use Rattle.std.proofs.Math.Option.{Option, none, some}
use Rattle.model.specs.Answers.{run_length, run_steps}
use Rattle.model.specs.Content.{piece_count}
use Rattle.model.specs.Format.{refusal, content}
use Rattle.model.specs.Layout.{Layout, layout_length, Passes, FirstOfShortest}
use Rattle.model.specs.Problem.{Problem, under}
use Rattle.model.specs.Search.{Step, steps_needed, steps_taken}
use Rattle.model.specs.Services.{RunOutcome, numbers_in, words_in, work_words, layout_in, given_unfit}
use Rattle.model.specs.declared.Outcome.{Outcome}
use Rattle.model.specs.declared.Outcome.TheVariants as O
use Rattle.model.specs.declared.Refusal.{Refusal}

-- ---- What a run answers

-- It answers "stopped".
abbrev pub SaysStopped : Result Outcome Refusal → Type 0
SaysStopped (Err r) = ⊥
SaysStopped (Ok (O.Shortest len steps)) = ⊥
SaysStopped (Ok (O.Stopped h steps)) = Unit {0}
SaysStopped (Ok (O.Infeasible steps)) = ⊥

-- It answers "shortest".
abbrev pub SaysShortest : Result Outcome Refusal → Type 0
SaysShortest (Err r) = ⊥
SaysShortest (Ok (O.Shortest len steps)) = Unit {0}
SaysShortest (Ok (O.Stopped h steps)) = ⊥
SaysShortest (Ok (O.Infeasible steps)) = ⊥

-- It answers "none".
abbrev pub SaysNone : Result Outcome Refusal → Type 0
SaysNone (Err r) = ⊥
SaysNone (Ok (O.Shortest len steps)) = ⊥
SaysNone (Ok (O.Stopped h steps)) = ⊥
SaysNone (Ok (O.Infeasible steps)) = Unit {0}

-- It says that it holds a layout: "shortest", or "stopped" with one.
abbrev pub SaysHeld : Result Outcome Refusal → Type 0
SaysHeld (Err r) = ⊥
SaysHeld (Ok (O.Shortest len steps)) = Unit {0}
SaysHeld (Ok (O.Stopped (Some len) steps)) = Unit {0}
SaysHeld (Ok (O.Stopped None steps)) = ⊥
SaysHeld (Ok (O.Infeasible steps)) = ⊥

-- ---- The best of steps

-- One of the steps completes the layout.
abbrev pub Completed : List Step → Layout → Type 0
Completed ss es = (s : Step) × Memᴰ s ss × (s.completes ≡ some es)

-- The layouts of the steps. Document 02, 6/13: "a given layout counts with those of the steps taken."
abbrev pub Counts : Option Layout → List Step → Layout → Type 0
Counts none ss es = Completed ss es
Counts (some given) ss es = (es ≡ given) ⊎ Completed ss es

-- "The best layout of the steps taken is the shortest that they completed."
pub record BestOf (j : Problem) (begin : Option Layout) (ss : List Step) (es : Layout) : Type 0 where
  pub counts : Counts begin ss es
  pub shortest : (fs : Layout) → Counts begin ss fs → layout_length j es ≤ layout_length j fs

-- ---- The first of the shortest

-- A layout that passes is shorter than the given one: "if something shorter exists".
abbrev pub SomethingShorter : Problem → Layout → Type 0
SomethingShorter j given = (fs : Layout) × Passes j fs × (layout_length j fs < layout_length j given)

-- "the first of the shortest in document 01's order". Document 02, 6/13: "A finished run returns the first of the shortest if something shorter exists, and
-- otherwise the given layout; in demand 3 that one then stands for the first of the shortest."
abbrev pub StandsFirst : Problem → Option Layout → Layout → Type 0
StandsFirst j none es = FirstOfShortest j es
StandsFirst j (some given) es = (SomethingShorter j given → FirstOfShortest j es) × ((SomethingShorter j given → ⊥) → es ≡ given)

-- ---- The demand

-- "accepted job" and "long enough buffers": as many work words and answer numbers as document 01 says that run needs. A margin of 0 to 63: "demand 3
-- leaves out a run with" a margin above 63, and "demand 3 leaves out a run that gives cause for 11".
pub record Fit (s : List ℕ) (m : ℕ) (given work out : List ℕ) : Type 0 where
  pub accepted : refusal s ≡ 0
  pub margin-allowed : m ≤ 63
  pub given_passes : given_unfit (under m (content s)) given ≡ false
  pub work-long_enough : work_words (under m (content s)) ≤ words_in work
  pub out-long_enough : 4 * piece_count (content s).kinds ≤ numbers_in out

-- "The layout a run holds is what the first 4 × N answer numbers contain after it."
abbrev pub held_in : Problem → RunOutcome → Layout
held_in j r = layout_in j r.out

-- "For every accepted job, every budget and long enough buffers, whatever these hold, .."
pub record Demand3 (j : Problem) (begin : Option Layout) (budget : ℕ) (r : RunOutcome) : Type 0 where
  -- "a run answers 'stopped' exactly when the walk defined in document 01 needs more steps than the budget."
  pub stopped : SaysStopped r.answer ↔ (budget < steps_needed j begin)
  -- "Otherwise it answers 'shortest' if some layout passes, .."
  pub otherwise_shortest : (SaysStopped r.answer → ⊥) → (es : Layout) → Passes j es → SaysShortest r.answer
  -- ".. and 'none' if no layout does."
  pub otherwise_none : (SaysStopped r.answer → ⊥) → ((es : Layout) → Passes j es → ⊥) → SaysNone r.answer
  -- "Over 'shortest' it holds a layout that passes, .."
  pub holds-passing : SaysShortest r.answer → Passes j (held_in j r)
  -- ".. no passing layout is shorter, .."
  pub holds-shortest : SaysShortest r.answer → (fs : Layout) → Passes j fs
      → layout_length j (held_in j r) ≤ layout_length j fs
  -- ".. and it is the first of the shortest in document 01's order."
  pub holds-first : SaysShortest r.answer → StandsFirst j begin (held_in j r)
  -- "Over 'stopped' it holds the best layout of the steps taken, if there is one, .."
  pub stopped-holds-best : SaysStopped r.answer → (es : Layout) → Counts begin (steps_taken j begin budget) es
      → SaysHeld r.answer × BestOf j begin (steps_taken j begin budget) (held_in j r)
  -- ".. and otherwise says that it holds none."
  pub stopped-holds-none : SaysStopped r.answer → ((es : Layout) → Counts begin (steps_taken j begin budget) es → ⊥)
      → SaysHeld r.answer → ⊥
  -- "A length told with a layout is that layout's."
  pub length-told : SaysHeld r.answer → run_length r.answer ≡ layout_length j (held_in j r)
  -- "The steps reported are the ones that walk took: .."
  pub steps-told : run_steps r.answer ≡ length (steps_taken j begin budget)
  -- ".. as many as it needs, or the whole budget if that is less."
  pub steps-least : run_steps r.answer ≡ min (steps_needed j begin) budget
