-- `words::bits::word_of` meets its contract. The invariant: the bits passed are told.
use Prim.Native.Nat.{ℕ, ◌<◌}
use Rattle.words.specs.Bits.{test_bit}
use Rattle.words.proofs.bits.word_of.Given as goal

abbrev pub invariant-loop-i : goal.invariant-loop-i
invariant-loop-i g l = (k : ℕ) → k < l.i → goal.F-post g l.test k (test_bit l.word k)
