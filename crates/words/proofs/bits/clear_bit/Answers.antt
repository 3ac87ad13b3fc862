-- `words::bits::clear_bit` meets its contract.
use Prim.Native.Nat.{◌%◌}
use native.Mathlib.Omega.{arith}
use Rattle.words.proofs.Bit.{and_not_pow}
use Rattle.words.proofs.bits.clear_bit.Goals as goal

pub returns : goal.returns
returns c = rw c.one_bit.ensures (and_not_pow 64 c.args.w (c.args.i % 64) c.ranges.w.fits (omega arith))
