-- `bounding::trimming::trim_word` meets its contract.
use borrow.Author.Rules.{rules}
use Rattle.words.proofs.Tested.{kept-is}
use Rattle.bounding.proofs.trimming.trim_word.Goals as goal

pub returns : goal.returns
returns c = kept-is _ _ _ (λ i l e. search (rules, c.keep.ensures.tested i l e)) c.keep.ensures.untested (search rules)
