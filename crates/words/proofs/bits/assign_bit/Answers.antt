-- `words::bits::assign_bit` meets its contract.
use Rattle.words.proofs.bits.assign_bit.Goals as goal

pub returns-then-on : goal.returns-then-on
returns-then-on c = rw c.if-on.true c.set_bit.ensures

pub returns-else-on : goal.returns-else-on
returns-else-on c = rw c.if-on.false c.clear_bit.ensures
