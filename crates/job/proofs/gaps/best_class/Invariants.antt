use mathlib.Core.Path.{◌≡◌}
use Rattle.job.specs.Gaps.{best_below}
use Rattle.job.proofs.gaps.best_class.Given as goal

abbrev pub invariant-loop-id : goal.invariant-loop-id
invariant-loop-id l = l.best ≡ best_below l.job l.at l.n l.default l.mask l.id
