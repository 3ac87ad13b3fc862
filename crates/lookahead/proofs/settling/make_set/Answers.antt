-- `lookahead::settling::make_set` meets its contract.
use mathlib.Core.Path.{refl}
use native.Mathlib.Omega.{arith}
use Rattle.stepping.proofs.Limits.{few_words}
use Rattle.live_sets.specs.Known.{problem}
use Rattle.lookahead.proofs.Making.{set-narrowable, made_next}
use Rattle.lookahead.proofs.settling.make_set.Goals as goal

pub overflow_sub-branch : goal.overflow_sub-branch
overflow_sub-branch c = omega (arith, c.requires.placeable.later)

pub set_start-from-requires : goal.set_start-from-requires
set_start-from-requires c = (c.requires.known.plan, omega (arith, c.requires.placeable.within), c.requires.u_bound.0)

pub narrow-requires : goal.narrow-requires
narrow-requires c = record {
  known = (c.requires.known, c.requires.latest.placed);
  narrowable = rw c.requires.latest.number (set-narrowable (problem c.args.fixed.now) c.args.branch.now.numbers c.args.branch.now.level c.args.state.bound c.args.state.span c.args.u c.args.to c.set_start-from.result c.args.state.span _ c.args.work.now c.requires.placeable c.requires.u_bound.0 c.requires.u_bound.1 refl c.requires.u_bound.2 c.set_start-from.ensures c.requires.latest.kind (few_words c.args.fixed.now.job.now c.requires.known.plan.accepted));
}

pub returns : goal.returns
returns c = made_next (problem c.args.fixed.now) c.args.branch.now.numbers c.args.branch.now.level c.args.state.bound c.args.state.span c.args.u c.args.to c.set_start-from.result c.args.state.span _ c.args.work.now c.requires.placeable c.requires.u_bound.0 c.requires.u_bound.1 refl c.requires.u_bound.2 c.set_start-from.ensures c.requires.latest.kind _ (rw c.requires.latest.number at c.narrow.ensures)
