use borrow.Author.Rules.{rules}
use Rattle.model.specs.Lists.{between}
use Rattle.frame.proofs.fields.in_range.Goals as goal

pub returns : goal.returns
unfolding between
returns c = search rules
