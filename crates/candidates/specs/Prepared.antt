-- The problem that a prepared job shows: the job's content under the view's margin.
use Rattle.std.specs.Prelude.{Bool, true, ◌≡◌, ℕ}
use Rattle.model.specs.Layout.{entry, is_entry, conflict}
use Rattle.model.specs.Problem.{Problem}
use Rattle.job.specs.View.{problem_of}
use Rattle.candidates.specs.declared.prepared.PreparedJob.{PreparedJob}
use Rattle.candidates.specs.Conflicts.{placement_at}
use Rattle.candidates.specs.declared.conflicts.Placed.{Placed}

abbrev pub problem_in : PreparedJob → Problem
problem_in p = problem_of p.job.now p.view

-- A kind may stand at a place.
abbrev pub Stands : PreparedJob → ℕ → Placed → Type 0
Stands p t a = is_entry (problem_in p) (entry t (placement_at a)) ≡ true

-- Two kinds, each at a place, are in conflict.
abbrev pub conflict_in : PreparedJob → ℕ → Placed → ℕ → Placed → Bool
conflict_in p t a u c = conflict (problem_in p) (entry t (placement_at a)) (entry u (placement_at c))
