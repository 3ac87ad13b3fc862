-- A layout that is handed in for a prepared job, and the problem it is handed in for.
use Rattle.std.specs.Prelude.{Bool, true, ◌≡◌, ℕ}
use Rattle.model.specs.Layout.{Layout, is_entry, conflict}
use Rattle.model.specs.Lists.{all}
use Rattle.model.specs.Problem.{Problem}
use Rattle.model.specs.Services.{entry_in, layout_in}
use Rattle.candidates.specs.Prepared.{problem_in}
use Rattle.layouts.specs.declared.handed.Handed.{Handed}

abbrev pub problem_for : Handed → Problem
problem_for h = problem_in h.prepared.now

abbrev pub layout_for : Handed → Layout
layout_for h = layout_in (problem_for h) h.layout.now

-- Each of its entries is a candidate.
abbrev pub Admitted : Handed → Type 0
Admitted h = all (is_entry (problem_for h)) (layout_for h) ≡ true

-- Its entries i and k are in conflict.
abbrev pub conflict_in : Handed → ℕ → ℕ → Bool
conflict_in h i k = conflict (problem_for h) (entry_in h.layout.now i) (entry_in h.layout.now k)
