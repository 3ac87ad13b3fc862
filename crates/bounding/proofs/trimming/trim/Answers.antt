use mathlib.Core.Path.{◌≡◌, ap₂, subst}
use Prim.Native.Nat.{ℕ, ◌*◌, ◌≤◌, ◌<◌}
use native.Mathlib.Nat.{mul-le-mul}
use native.Mathlib.Omega.{arith}
use Rattle.model.specs.Content.{kind_count, piece_count}
use Rattle.model.specs.Format.{content}
use Rattle.plans.proofs.PlanLaws.{kinds-few}
use Rattle.plans.specs.Planned.{planned}
use Rattle.stepping.proofs.Limits.{few-pieces, few_words}
use Rattle.bounding.specs.Trimmed.{Trimmed}
use Rattle.bounding.proofs.Bounds.{next_trimmable, trimmed-none, trimmed-more}
use Rattle.bounding.proofs.trimming.trim.Goals as goal
use Rattle.bounding.proofs.trimming.trim.Goals.{Start}

-- So many sets there are, which is few.
sets-are : (c : Start) → (c.args.plan.now.pieces * c.args.plan.now.types ≡ piece_count (content c.args.job.now).kinds * kind_count
    (content c.args.job.now).kinds) × (c.args.plan.now.pieces * c.args.plan.now.types ≤ 96)
sets-are c =
    let e = ap₂ ◌*◌ c.requires.plan_of.0.pieces c.requires.plan_of.0.types in
    (e, omega (arith, e, mul-le-mul (few-pieces _ c.requires.plan_of.0.accepted) (kinds-few _ _ c.requires.plan_of.0)))

pub overflow_mul-sets : goal.overflow_mul-sets
overflow_mul-sets c = omega (arith, (sets-are (goal.at.overflow_mul-sets c).Start).1)

pub loop-i-init : goal.loop-i-init
loop-i-init c = trimmed-none _ _ _ _

pub trim_next-requires : goal.trim_next-requires
trim_next-requires c =
    let h : c.loop-i.i < piece_count (content c.args.job.now).kinds * kind_count (content c.args.job.now).kinds =
    omega (arith, sets-are (goal.at.trim_next-requires c).Start) in record {
      plan_of = (c.requires.plan_of.0, c.requires.plan_of.1, h);
      work_in_bounds = omega (arith, c.loop-i.auto.work, c.requires.admitted.0);
      trimmable = next_trimmable (planned c.args.job.now c.args.plan.now) c.loop-i.i h c.args.bound c.args.span
          c.requires.plan_of.1 c.args.work.now c.loop-i.work c.loop-i.invariant (few_words c.args.job.now
          c.requires.plan_of.0.accepted) (omega (arith, c.loop-i.auto.work, c.requires.admitted.0))
          c.requires.admitted.1;
    }

pub loop-i-preserved : goal.loop-i-preserved
loop-i-preserved c =
    let h : c.loop-i.i < piece_count (content c.args.job.now).kinds * kind_count (content c.args.job.now).kinds =
    omega (arith, sets-are (goal.at.loop-i-preserved c).Start) in
    trimmed-more (planned c.args.job.now c.args.plan.now) c.loop-i.i h c.args.bound c.args.span c.requires.plan_of.1
    c.args.work.now c.loop-i.work c.loop-i.invariant _ c.trim_next.ensures

pub returns : goal.returns
returns c =
    let e : c.loop-i.i ≡ piece_count (content c.args.job.now).kinds * kind_count (content c.args.job.now).kinds =
    omega (arith, sets-are (goal.at.returns c).Start) in
    subst (λ (i : ℕ). Trimmed (planned c.args.job.now c.args.plan.now) c.args.bound c.args.span i c.args.work.now c.loop-i.work)
    e c.loop-i.invariant
