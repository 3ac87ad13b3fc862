-- `words::bits::lowest_bit` meets its contract.
use lib.Count.{trailing_le}
use Rattle.words.proofs.First.{trailing_first}
use Rattle.words.proofs.bits.lowest_bit.Goals as goal

pub returns : goal.returns
returns c = (trailing_first 64 c.args.w, trailing_le 64 c.args.w)
