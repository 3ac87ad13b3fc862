use Rattle.layouts.proofs.StatedLaws.{entry_stands}
use Rattle.layouts.proofs.handed.Handed.end_of.Goals as goal

pub extent-requires : goal.extent-requires
extent-requires c = entry_stands c.args.self.now c.requires.admitted c.args.i _ c.requires.entry c.entry-e.ensures
