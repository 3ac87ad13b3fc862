use borrow.Author.Rules.{rules}
use Rattle.words.proofs.Tested.{told-is}
use Rattle.rows.proofs.asked.Asked.word.Goals as goal

pub returns : goal.returns
returns c = told-is _ c.word_of.result (search rules) (λ i l. search (rules, c.word_of.ensures i l))
