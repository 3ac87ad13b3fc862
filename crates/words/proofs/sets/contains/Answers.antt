-- `words::sets::contains` meets its contract.
use Rattle.words.specs.Sets.{member}
use Rattle.words.proofs.sets.contains.Goals as goal

pub returns : goal.returns
unfolding member
returns c = rw (c.test_bit.ensures, c.get_u64.ensures)
