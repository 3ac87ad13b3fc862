use Rattle.job.proofs.ViewLaws.{part-judged}
use Rattle.job.proofs.accepted.part_refused.Goals as goal

pub returns : goal.returns
returns c = part-judged c.args.job.now _ _ _ c.byte-n.ensures.0 c.unfit.ensures
