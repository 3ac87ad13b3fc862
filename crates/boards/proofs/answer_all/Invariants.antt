-- `boards::answer_all` is safe and ends: each turn passes over a line.
use Rattle.std.proofs.Common.{length}
use Rattle.boards.proofs.answer_all.Given as goal

abbrev pub decreases-loop-letter : goal.decreases-loop-letter
decreases-loop-letter g l = length l.rest
