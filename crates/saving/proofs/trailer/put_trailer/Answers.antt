use Rattle.saving.proofs.SavingLaws.{trailer_written}
use Rattle.saving.proofs.trailer.put_trailer.Goals as goal

pub returns : goal.returns
returns c = trailer_written c.args.classes c.args.kinds c.args.size c.args.answer.now _ _ c.put_offsets.ensures c.put_counts.ensures
