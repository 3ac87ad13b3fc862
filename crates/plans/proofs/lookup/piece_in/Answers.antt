use mathlib.Core.Path.{◌∙◌}
use Prim.Native.Nat.{◌≤◌}
use native.Mathlib.Omega.{arith}
use Rattle.shapes.proofs.PieceLaws.{piece_is}
use Rattle.shapes.proofs.ViewLaws.{kind-in}
use Rattle.plans.proofs.PlanLaws.{plan-viewed, kinds-few}
use Rattle.plans.proofs.lookup.piece_in.Goals as goal
use Rattle.plans.proofs.lookup.piece_in.Goals.{In-loop-i}

-- A kind has six parts at most.
few_parts : (c : In-loop-i) → c.from-count.result ≤ 6
few_parts c =
    let k = c.requires.0.kind c.args.kind c.requires.1 in
    omega (arith, c.from-count.ensures, k.parts, (kind-in c.args.job.now c.requires.0.view (plan-viewed c.args.job.now c.args.plan.now c.requires.0) c.args.kind c.requires.1).few_parts)

pub offset_bounds-plan-kind : goal.offset_bounds-plan-kind
offset_bounds-plan-kind c = omega (arith, kinds-few c.args.job.now c.args.plan.now c.requires.0)

pub overflow_mul-result : goal.overflow_mul-result
overflow_mul-result c = omega (arith, kinds-few c.args.job.now c.args.plan.now c.requires.0)

pub bounds-plan-kind : goal.bounds-plan-kind
bounds-plan-kind c = omega (arith, kinds-few c.args.job.now c.args.plan.now c.requires.0)

pub returns : goal.returns
returns c =
    let k = c.requires.0.kind c.args.kind c.requires.1 in
    piece_is c.args.job.now c.requires.0.view (plan-viewed c.args.job.now c.args.plan.now c.requires.0) c.args.kind c.requires.1 _ _ (c.from-count.ensures ∙ k.parts)
    (λ i h. c.loop-i.invariant.1 i (omega arith))
