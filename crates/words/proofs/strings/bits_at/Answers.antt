-- `words::strings::bits_at` meets its contract.
use Rattle.words.proofs.StringLaws.{bits-joined}
use Rattle.words.proofs.strings.bits_at.Goals as goal

pub returns : goal.returns
returns c = bits-joined c.args.s.now c.args.at c.get_u64-low.result c.get_u64-high.result (λ i. (c.type_inv.s i).fits)
    c.get_u64-low.ensures c.get_u64-high.ensures
