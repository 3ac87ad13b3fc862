-- `words::bits::set_bit` meets its contract.
use Prim.Native.Nat.{◌%◌}
use Rattle.words.proofs.Bit.{or_pow}
use Rattle.words.proofs.bits.set_bit.Goals as goal

pub returns : goal.returns
returns c = rw c.one_bit.ensures (or_pow c.args.w (c.args.i % 64))
