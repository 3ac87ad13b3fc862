-- What holds for a whole run: the plan of the job and the tables, which are computed once.
use Rattle.std.specs.Prelude.{List, ◌≡◌, ℕ, ℤ}
use Rattle.candidates.specs.Conflicts.{placed_of}
use Rattle.shapes.specs.Turned.{TurnedOf}
use Rattle.nofit.specs.Patterns.{NofitOf}
use Rattle.nofit.specs.declared.places.Nofit.{Nofit}
use Rattle.model.specs.Problem.{Problem}
use Rattle.plans.specs.Planned.{PlanOf, planned}
use Rattle.plans.specs.declared.plan.Plan.{Plan}
use Rattle.live_sets.specs.declared.placing.Fixed.{Fixed}
use Rattle.live_sets.specs.declared.placing.Latest.{Latest}

-- The job is accepted, and the plan and the tables are its own.
pub record Known (s : List ℕ) (p : Plan) (w : Nofit) (turned : List ℤ) (strings : List ℕ) : Type 0 where
  pub plan : PlanOf s p
  pub table : TurnedOf s turned
  pub nofit : NofitOf s w strings

-- The problem that they are of.
abbrev pub problem : Fixed → Problem
problem f = planned f.job.now f.plan

-- The same of what the steps of a run are told.
abbrev pub KnownOf : Fixed → Type 0
KnownOf f = Known f.job.now f.plan f.nofit f.turned.now f.strings.now

-- And the latest piece stands where its number says, on the plan's board.
abbrev pub Standing : Fixed → Latest → Type 0
Standing f l = KnownOf f × (l.place ≡ placed_of f.plan.rows l.number)
