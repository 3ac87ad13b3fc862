-- `lookahead::settling::settle_kind` meets its contract.
use mathlib.Core.Path.{◌≡◌, refl, sym, ◌∙◌}
use native.Mathlib.Omega.{arith}
use lib.ListN.{length}
use Rattle.stepping.proofs.Limits.{few_words}
use Rattle.plans.proofs.PlanLaws.{kinds-few}
use Rattle.live_sets.specs.Known.{problem}
use Rattle.lookahead.proofs.Making.{kind-none, kind-made}
use Rattle.lookahead.proofs.settling.settle_kind.Goals as goal

pub copies_left-copies-requires : goal.copies_left-copies-requires
copies_left-copies-requires c = (
  c.requires.known.plan,
  c.requires.placeable.within,
  omega (arith, c.requires.u_bound, kinds-few _ _ c.requires.known.plan),
)

pub returns-then-copies-eq0 : goal.returns-then-copies-eq0
returns-then-copies-eq0 c = kind-none (problem c.args.fixed.now) _ _ _ _ _ _ (sym c.copies_left-copies.ensures ∙ c.if-copies-eq0.true)

pub set_start-at-requires : goal.set_start-at-requires
set_start-at-requires c = (c.requires.known.plan, c.requires.placeable.within, c.requires.u_bound)

pub make_set-requires : goal.make_set-requires
make_set-requires c = record {
  known = c.requires.known;
  placeable = c.requires.placeable;
  u_bound = (
    c.requires.u_bound,
    omega (arith, c.if-copies-eq0.false, c.copies_left-copies.ensures),
    c.set_start-at.ensures,
  );
  latest = c.requires.latest;
}

pub has_members-requires : goal.has_members-requires
has_members-requires c =
    let e : length c.make_set.new.work ≡ length c.args.work.now = c.make_set.auto.work in (
      omega (arith, c.requires.placeable.spans.within, few_words _ c.requires.known.plan.accepted),
      c.set_start-at.ensures.few,
      omega (arith, e, c.requires.placeable.spans.within, c.set_start-at.ensures.within, c.requires.placeable.fits),
    )

pub shape_of-work : goal.shape_of-work
shape_of-work c = c.make_set.auto.work

pub returns : goal.returns
returns c =
    kind-made (problem c.args.fixed.now) _ _ _ _ _ _ _ _ _ _ _ c.set_start-at.ensures.place refl
    c.requires.placeable.spans c.copies_left-copies.ensures c.make_set.ensures c.has_members.ensures
