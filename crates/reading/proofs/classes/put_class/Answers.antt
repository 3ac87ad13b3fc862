use Rattle.reading.proofs.ClassLaws.{class-written}
use Rattle.reading.proofs.classes.put_class.Goals as goal

pub returns : goal.returns
returns c = class-written c.args.job.now c.args.o c.args.at _ c.args.answer.now _ _ c.byte.ensures.0 c.put_bytes.ensures c.put_gap.ensures
