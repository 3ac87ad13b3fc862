-- `plans::lookup::pair_gap` meets its contract.
use mathlib.Core.Path.{ap, ◌∙◌}
use Prim.Native.Nat.{◌+◌, ◌*◌, ◌<◌}
use native.Mathlib.Nat.{mod-eq_of_lt}
use native.Mathlib.Omega.{arith}
use Rattle.words.specs.Bits.{test_bit}
use Rattle.model.specs.Content.{kind_at}
use Rattle.model.specs.Format.{content}
use Rattle.candidates.proofs.PreparedLaws.{gap-of_pair}
use Rattle.plans.proofs.PlanLaws.{kinds-few, gap-small}
use Rattle.plans.proofs.lookup.pair_gap.Goals as goal

pub overflow_mul-t : goal.overflow_mul-t
overflow_mul-t c = omega (arith, kinds-few c.args.job.now c.args.plan.now c.requires.0)

pub overflow_add-t : goal.overflow_add-t
overflow_add-t c = omega (arith, kinds-few c.args.job.now c.args.plan.now c.requires.0)

pub offset_bounds-plan-t : goal.offset_bounds-plan-t
offset_bounds-plan-t c = omega (arith, kinds-few c.args.job.now c.args.plan.now c.requires.0)

pub bounds-plan-t : goal.bounds-plan-t
bounds-plan-t c = omega (arith, kinds-few c.args.job.now c.args.plan.now c.requires.0)

pub offset_bounds-plan-u : goal.offset_bounds-plan-u
offset_bounds-plan-u c = omega (arith, kinds-few c.args.job.now c.args.plan.now c.requires.0)

pub bounds-plan-u : goal.bounds-plan-u
bounds-plan-u c = omega (arith, kinds-few c.args.job.now c.args.plan.now c.requires.0)

pub gap_between-requires : goal.gap_between-requires
gap_between-requires c =
    let small = gap-small c.args.job.now c.args.plan.now c.requires.0 in
    (omega (arith, c.from.ensures, small c.args.t c.requires.1), omega (arith, c.from-2.ensures, small c.args.u c.requires.2))

pub returns : goal.returns
returns c =
    let j = content c.args.job.now in
    let o = c.requires.0 in
    let t = c.args.t in
    let u = c.args.u in
    let bit : t * 8 + u < 64 = omega (arith, kinds-few c.args.job.now c.args.plan.now o) in
    c.gap_between.ensures
    ∙ gap-of_pair j.classes (kind_at j.kinds t) (kind_at j.kinds u) _ _ _ (c.from.ensures ∙ (o.kind t c.requires.1).gap) (c.from-2.ensures ∙ (o.kind u c.requires.2).gap)
    (c.test_bit-shared.ensures ∙ ap (test_bit c.args.plan.now.shared) (mod-eq_of_lt bit) ∙ o.shared t u c.requires.1 c.requires.2)
