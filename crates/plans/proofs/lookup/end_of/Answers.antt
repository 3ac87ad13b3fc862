-- `plans::lookup::end_of` meets its contract.
use Rattle.plans.proofs.PlanLaws.{some-row}
use Rattle.plans.proofs.lookup.end_of.Goals as goal

pub placed_of-requires : goal.placed_of-requires
placed_of-requires c = some-row c.args.job.now c.args.plan.now c.requires.0
