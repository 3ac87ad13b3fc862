-- `bounding::shrinking::shrink` meets its contract. The invariant: the words behind those left are zero.
use Rattle.bounding.specs.Trimmed.{Shrunk}
use Rattle.bounding.proofs.shrinking.shrink.Given as goal

abbrev pub invariant-loop-k : goal.invariant-loop-k
invariant-loop-k l = Shrunk l.plan.types l.plan.words l.span l.work l.k
