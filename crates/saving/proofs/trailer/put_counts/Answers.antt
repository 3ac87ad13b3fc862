use Rattle.saving.proofs.SavingLaws.{counts-written}
use Rattle.saving.proofs.trailer.put_counts.Goals as goal

pub returns : goal.returns
returns c = counts-written c.args.at c.args.classes c.args.kinds c.args.whole c.args.answer.now _ _ _ _ _ c.put_byte.ensures c.put_byte-2.ensures c.put_word.ensures c.put_byte-3.ensures c.put_byte-4.ensures
