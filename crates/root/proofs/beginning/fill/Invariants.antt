-- `root::beginning::fill` meets its contract. The invariant: the words passed are made, and nothing else changed.
use Rattle.model.specs.Candidate.{is_candidate}
use Rattle.job.specs.View.{problem_of}
use Rattle.live_sets.specs.Narrowing.{Filled}
use Rattle.root.proofs.beginning.fill.Given as goal

abbrev pub invariant-loop-k : goal.invariant-loop-k
invariant-loop-k l = Filled l.to l.k (is_candidate (problem_of l.job l.view) l.u) l.initial.work l.work
