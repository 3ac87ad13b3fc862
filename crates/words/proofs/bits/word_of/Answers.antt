-- `words::bits::word_of` meets its contract.
use native.Mathlib.Omega.{arith}
use Rattle.words.proofs.Tested.{told-more}
use Rattle.words.proofs.bits.word_of.Goals as goal

pub loop-i-preserved : goal.loop-i-preserved
loop-i-preserved g c =
    told-more (goal.F-post g c.args.test) c.loop-i.i c.loop-i.word _ c.test.result (omega arith)
    c.assign_bit-word.ensures c.loop-i.invariant
    c.test.ensures
