use Rattle.model.specs.Format.{byte_at}
use borrow.Author.Rules.{rules}
use Rattle.frame.proofs.fields.byte.Goals as goal

pub returns : goal.returns
unfolding byte_at
returns c = search rules
