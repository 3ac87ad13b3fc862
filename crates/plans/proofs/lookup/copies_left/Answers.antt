use native.Mathlib.Omega.{arith}
use Rattle.stepping.proofs.Limits.{few-pieces}
use Rattle.plans.proofs.lookup.copies_left.Goals as goal

pub offset_bounds-plan-level : goal.offset_bounds-plan-level
offset_bounds-plan-level c = omega (arith, few-pieces c.args.job.now c.requires.0.accepted)

pub bounds-plan-level : goal.bounds-plan-level
bounds-plan-level c = omega (arith, few-pieces c.args.job.now c.requires.0.accepted)
