use Rattle.saving.proofs.SavingLaws.{offsets_written}
use Rattle.saving.proofs.trailer.put_offsets.Goals as goal

pub returns : goal.returns
returns c = offsets_written c.args.at c.args.kinds c.args.size c.args.answer.now _ _ _ _ c.put_word.ensures c.put_word-2.ensures c.put_word-3.ensures c.put_word-4.ensures
