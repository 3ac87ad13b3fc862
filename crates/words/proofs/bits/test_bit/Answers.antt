-- `words::bits::test_bit` meets its contract.
use Prim.Native.Nat.{◌%◌}
use Rattle.words.proofs.Bit.{shifted_test}
use Rattle.words.proofs.bits.test_bit.Goals as goal

pub returns : goal.returns
returns c = shifted_test c.args.w (c.args.i % 64)
