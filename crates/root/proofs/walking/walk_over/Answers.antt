-- `root::walking::walk_over` meets its contract.
use Rattle.model.proofs.Accepted.{accepted-sensible}
use Rattle.root.proofs.walking.walk_over.Goals as goal

pub make_nofit-requires : goal.make_nofit-requires
make_nofit-requires c = record {
  viewed = (c.requires.computed.viewed, c.requires.computed.table, c.requires.computed.boxed);
  measures_of = (c.requires.computed.measures, c.requires.strings_in_bounds);
}

pub try_piece-requires : goal.try_piece-requires
try_piece-requires c = record {
  known = (record { plan = c.requires.computed.plan; table = c.requires.computed.table; nofit = c.make_nofit.ensures }, (accepted-sensible c.args.prepared.now.job.now c.args.plan.margin c.requires.computed.viewed.accepted).pieced);
  ready = c.requires.ready;
}

pub returns : goal.returns
returns c = c.try_piece.ensures
