-- `words::sets::clear` meets its contract.
use Rattle.words.proofs.Member.{cleared-is}
use Rattle.words.proofs.sets.clear.Goals as goal

pub returns : goal.returns
returns c = cleared-is c.args.words c.args.s.now c.fill.new.self c.requires (c.fill.ensures.after (λ y e. e))
