-- `plans::plan::planned_kinds` meets its contract. The invariant: the kinds passed are as they are looked up.
use mathlib.Core.Path.{◌≡◌}
use Prim.Native.Nat.{ℕ, ◌<◌}
use lib.ListN.{length, get_or}
use Rattle.plans.specs.Planned.{no_kind, PlannedAs}
use Rattle.plans.proofs.plan.planned_kinds.Given as goal

abbrev pub invariant-loop-t : goal.invariant-loop-t
invariant-loop-t l = (length l.all ≡ 8) × ((t : ℕ) → t < l.t → PlannedAs l.job l.boxes t (get_or l.all t no_kind))
