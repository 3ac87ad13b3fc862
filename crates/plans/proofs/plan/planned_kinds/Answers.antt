use native.Mathlib.Omega.{arith}
use borrow.Author.Count.{below_more}
use lib.ListN.{length-set}
use lib.Seq.{get_or-set_same, get_or-set_other}
use Rattle.shapes.proofs.ViewLaws.{few-kinds}
use Rattle.plans.specs.Planned.{no_kind}
use Rattle.plans.proofs.plan.planned_kinds.Goals as goal

pub offset_bounds-all-t : goal.offset_bounds-all-t
offset_bounds-all-t c = omega (arith, few-kinds c.args.job.now c.args.view c.requires, c.requires.view.kinds)

pub bounds-all-t : goal.bounds-all-t
bounds-all-t c = omega (arith, c.loop-t.invariant.0, few-kinds c.args.job.now c.args.view c.requires, c.requires.view.kinds)

pub loop-t-preserved : goal.loop-t-preserved
loop-t-preserved c = (
  simp length-set c.loop-t.invariant.0,
  below_more _ c.loop-t.t
      (λ t h. rw (get_or-set_other c.loop-t.all c.loop-t.t t c.planned_kind.result no_kind (λ e. omega arith)) (c.loop-t.invariant.1 t h))
      (rw (get_or-set_same c.loop-t.all c.loop-t.t c.planned_kind.result no_kind (omega (arith, c.loop-t.invariant.0, few-kinds c.args.job.now c.args.view c.requires, c.requires.view.kinds))) c.planned_kind.ensures),
)
