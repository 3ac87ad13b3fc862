use mathlib.Core.Path.{◌≡◌, refl}
use Prim.Native.Nat.{◌-◌, ◌<◌}
use native.Mathlib.Omega.{arith}
use Rattle.model.specs.Content.{kind_count}
use Rattle.model.specs.Format.{content}
use Rattle.plans.proofs.PlanLaws.{some-row}
use Rattle.live_sets.specs.Known.{problem}
use Rattle.stepping.proofs.Limits.{few-pieces}
use Rattle.lookahead.proofs.Making.{settling_begin, settling_next, settled_all, settled_few, placeable-still}
use Rattle.lookahead.proofs.settling.settle.Goals as goal
use Rattle.lookahead.proofs.settling.settle.Goals.{Start}

-- The level before a later one is one of twelve.
before-few : (c : Start) → c.args.branch.now.level - 1 < 12
before-few c = omega (arith, c.requires.placeable.within, few-pieces _ c.requires.known.plan.accepted)

pub overflow_sub-before : goal.overflow_sub-before
overflow_sub-before c = omega (arith, c.requires.placeable.later)

pub offset_bounds-branch-before : goal.offset_bounds-branch-before
offset_bounds-branch-before c = omega (arith, before-few (goal.at.offset_bounds-branch-before c).Start)

pub bounds-branch-before : goal.bounds-branch-before
bounds-branch-before c = omega (arith, before-few (goal.at.bounds-branch-before c).Start)

pub bounds-fixed-before : goal.bounds-fixed-before
bounds-fixed-before c = omega (arith, before-few (goal.at.bounds-fixed-before c).Start)

pub placed_of-requires : goal.placed_of-requires
placed_of-requires c = some-row _ _ c.requires.known.plan

pub loop-u-init : goal.loop-u-init
loop-u-init c = settling_begin _ _ _ _ _ _

pub settle_kind-requires : goal.settle_kind-requires
settle_kind-requires c = record {
  known = c.requires.known;
  placeable = placeable-still (problem c.args.fixed.now) _ _ _ _ c.args.work.now c.loop-u.work c.requires.placeable
      c.loop-u.invariant.frame c.loop-u.auto.work;
  u_bound = omega (arith, c.requires.known.plan.types);
  latest = record {
    kind = c.requires.known.plan.kinds (c.args.branch.now.level - 1) (omega (arith, c.requires.placeable.within));
    number = refl;
    placed = c.placed_of.ensures;
  };
}

pub returns-then-not-settle_kind : goal.returns-then-not-settle_kind
returns-then-not-settle_kind c =
    settled_few (problem c.args.fixed.now) _ _ _ _ c.loop-u.u c.args.work.now c.loop-u.work _ c.settle_kind.result
    c.if-not-settle_kind.true (omega (arith, c.requires.known.plan.types)) c.loop-u.invariant c.settle_kind.ensures

pub loop-u-preserved : goal.loop-u-preserved
loop-u-preserved c =
    settling_next (problem c.args.fixed.now) _ _ _ _ c.loop-u.u c.args.work.now c.loop-u.work _ c.settle_kind.result
    c.if-not-settle_kind.false c.requires.placeable.spans.within c.loop-u.invariant c.settle_kind.ensures

pub returns : goal.returns
returns c =
    let e : c.loop-u.u ≡ kind_count (content c.args.fixed.now.job.now).kinds = omega (arith, c.requires.known.plan.types) in
    settled_all _ _ _ _ _ _ _ (rw e at c.loop-u.invariant)
