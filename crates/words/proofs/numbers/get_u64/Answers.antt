-- `words::numbers::get_u64` meets its contract.
use Rattle.words.proofs.Library.{read-is}
use Rattle.words.proofs.numbers.get_u64.Goals as goal

pub returns : goal.returns
returns c = read-is 7 c.args.s.now c.args.i c.unwrap.result _ (rw c.unwrap.ensures at c.try_into.ensures.1)
    c.from_le_bytes.ensures
