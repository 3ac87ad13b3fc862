-- `bounding::trimming::trim` meets its contract. The invariant: the sets passed are trimmed, and the others are as they were.
use Rattle.plans.specs.Planned.{planned}
use Rattle.bounding.specs.Trimmed.{Trimmed}
use Rattle.bounding.proofs.trimming.trim.Given as goal

abbrev pub invariant-loop-i : goal.invariant-loop-i
invariant-loop-i l = Trimmed (planned l.job l.plan) l.bound l.span l.i l.initial.work l.work
