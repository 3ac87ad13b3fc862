use Rattle.layouts.proofs.StatedLaws.{entry_stands}
use Rattle.layouts.proofs.handed.Handed.in_conflict.Goals as goal

pub in_conflict-requires : goal.in_conflict-requires
in_conflict-requires c = record {
  first = entry_stands c.args.self.now c.requires.admitted c.args.i _ c.requires.first c.entry-e.ensures;
  second = entry_stands c.args.self.now c.requires.admitted c.args.k _ c.requires.second c.entry-f.ensures;
}
