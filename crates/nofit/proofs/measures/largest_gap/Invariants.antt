-- `nofit::measures::largest_gap` meets its contract. Assumes nothing.
use Prim.Native.Nat.{◌≤◌}
use Rattle.job.specs.View.{gap_of}
use Rattle.nofit.specs.Measures.{NoLarger}
use Rattle.nofit.proofs.measures.largest_gap.Given as goal

abbrev pub invariant-loop-t : goal.invariant-loop-t
invariant-loop-t l = (l.largest ≤ 63) × NoLarger (gap_of l.view) l.t l.largest
