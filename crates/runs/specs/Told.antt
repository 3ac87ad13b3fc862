-- How far the walk has come at each turn, and what is told of it.
use Rattle.std.specs.Prelude.{Bool, true, false, ℕ, ◌-◌, Some, None}
use Rattle.model.specs.declared.Outcome.{Outcome}
use Rattle.model.specs.declared.Outcome.TheVariants as O
use Rattle.runs.specs.declared.progress.Progress.{Progress}

-- The whole budget is left, an end has to stay below the bound, and a layout is held or not.
abbrev pub begun : ℕ → ℕ → Bool → ℕ → Progress
begun budget bound found span = record { left = budget; bound = bound; span = span; found = found; stopped = false }

-- One step less of the budget.
abbrev pub stepped : Progress → Progress
stepped st = record { left = st.left - 1; bound = st.bound; span = st.span; found = st.found; stopped = false }

-- Stopped, with the budget spent.
abbrev pub halted : Progress → Progress
halted st = record { left = 0; bound = st.bound; span = st.span; found = st.found; stopped = true }

-- A layout with this largest end is held.
abbrev pub completed : Progress → ℕ → ℕ → Progress
completed st end span = record { left = st.left; bound = end; span = span; found = true; stopped = false }

-- The answer by whether the walk stopped, whether a layout is held, that layout's length and the steps.
abbrev pub told : Bool → Bool → ℕ → ℕ → Outcome
told true true len steps = O.Stopped (Some len) steps
told true false len steps = O.Stopped None steps
told false true len steps = O.Shortest len steps
told false false len steps = O.Infeasible steps
