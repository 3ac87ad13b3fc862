-- `boards::read_full` never reads past its buffer.
use Rattle.boards.proofs.read_full.Given as goal
use Rattle.std.proofs.Common.{length, ◌≤◌, ◌-◌}

abbrev pub invariant-loop-len : goal.invariant-loop-len
invariant-loop-len g l = l.len ≤ length l.buffer

abbrev pub decreases-loop-len : goal.decreases-loop-len
decreases-loop-len g l = length l.buffer - l.len
