use borrow.Author.Rules.{rules}
use Prim.Native.Nat.{◌+◌, ◌*◌}
use Rattle.model.specs.Format.{word_at}
use Rattle.writing.proofs.put_words.Goals as goal

pub returns : goal.returns
unfolding word_at
returns c = c.put_numbers.ensures (λ i. word_at c.args.s.now (c.args.from + i * 2)) (λ k x l e. search (rules, e))
