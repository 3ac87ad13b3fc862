use native.Mathlib.Omega.{arith}
use Rattle.candidates.proofs.PreparedLaws.{bounded}
use Rattle.plans.proofs.plan.planned_kind.Goals as goal

pub overflow_cast-result : goal.overflow_cast-result
overflow_cast-result c = omega (arith, c.requires.0.view.kinds, (bounded c.args.job.now c.args.view c.requires.0).gaps c.args.t (omega (arith, c.requires.0.view.kinds)))
