use Rattle.model.specs.Format.{word_at}
use borrow.Author.Rules.{rules}
use Rattle.frame.proofs.fields.word.Goals as goal

pub returns : goal.returns
unfolding word_at
returns c = search rules
