-- `words::bits::keep` meets its contract. The invariant: the bits passed are told, the others are as they were.
use Rattle.words.proofs.Tested.{Kept}
use Rattle.words.proofs.bits.keep.Given as goal

abbrev pub invariant-loop-left : goal.invariant-loop-left
invariant-loop-left g l = Kept (goal.F-post g l.test) l.w l.left l.kept

abbrev pub decreases-loop-left : goal.decreases-loop-left
decreases-loop-left g l = l.left
