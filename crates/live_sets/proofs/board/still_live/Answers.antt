-- `live_sets::board::still_live` meets its contract.
use mathlib.Core.Bool.{not}
use mathlib.Core.Path.{ap, ◌∙◌}
use Rattle.plans.proofs.PlanLaws.{some-row}
use Rattle.live_sets.specs.Known.{problem}
use Rattle.live_sets.proofs.Meeting.{stays-not_above, stays-conflict}
use Rattle.live_sets.proofs.board.still_live.Goals as goal

pub returns-then-latest-u : goal.returns-then-latest-u
returns-then-latest-u c = stays-not_above (problem c.args.fixed.now) c.args.latest.now.kind c.args.latest.now.number c.args.u c.args.m
    c.if-latest-u.true

pub placed_of-place-requires : goal.placed_of-place-requires
placed_of-place-requires c = some-row c.args.fixed.now.job.now c.args.fixed.now.plan c.requires.known.0.plan

pub in_conflict-requires : goal.in_conflict-requires
in_conflict-requires c = record {
  known = c.requires.known;
  are_candidates = c.requires.are_candidates;
  stands = c.placed_of-place.ensures;
}

pub returns : goal.returns
returns c =
    ap not c.in_conflict.ensures
    ∙ stays-conflict (problem c.args.fixed.now) c.args.latest.now.kind c.args.latest.now.number c.args.u c.args.m c.if-latest-u.false
