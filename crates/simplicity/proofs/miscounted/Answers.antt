use borrow.Author.Rules.{rules}
use Rattle.model.specs.Lists.{between}
use Rattle.outlines.specs.Outline.{count_unfit, odd_byte}
use Rattle.simplicity.proofs.miscounted.Goals as goal

pub returns : goal.returns
unfolding count_unfit odd_byte between
returns c = search rules
