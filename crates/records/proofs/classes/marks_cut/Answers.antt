use Rattle.model.specs.Format.{marks_cut}
use Rattle.records.proofs.classes.marks_cut.Goals as goal

pub returns : goal.returns
unfolding marks_cut
returns c = c.in_range.ensures
