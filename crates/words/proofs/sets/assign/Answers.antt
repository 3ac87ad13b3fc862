-- `words::sets::assign` meets its contract.
use Rattle.words.specs.Sets.{changed}
use Rattle.words.proofs.sets.assign.Goals as goal

pub returns : goal.returns
unfolding changed
returns c = rw (c.put_u64.ensures, c.assign_bit.ensures, c.get_u64-w.ensures)
