-- `root::beginning::fill_below` meets its contract.
use mathlib.Core.Path.{◌≡◌, sym, ◌∙◌, subst}
use Prim.Native.Nat.{ℕ}
use native.Mathlib.Omega.{arith}
use lib.ListN.{length}
use Rattle.model.specs.Candidate.{is_candidate}
use Rattle.model.specs.Format.{content}
use Rattle.model.specs.Problem.{under}
use Rattle.plans.specs.Planned.{planned}
use Rattle.live_sets.specs.Narrowing.{Filled}
use Rattle.root.proofs.FirstMembers.{filled-all, trimmable, filled-trimmed}
use Rattle.root.proofs.beginning.fill_below.Goals as goal
use Rattle.root.proofs.beginning.fill_below.Goals.{After-fill}

-- The set filled with the candidates of the plan's problem, which is the prepared job's.
filled : (c : After-fill) → Filled c.args.to c.args.plan.words (is_candidate (planned c.args.job.now c.args.plan) c.args.u)
    c.args.work.now c.fill.new.work
filled c =
    subst (λ (m : ℕ). Filled c.args.to c.args.plan.words (is_candidate (under m (content c.args.job.now)) c.args.u)
    c.args.work.now c.fill.new.work) (sym c.requires.viewed.1) c.fill.ensures

pub fill-requires : goal.fill-requires
fill-requires c = record {
  viewed = (c.requires.viewed.0.0, c.requires.viewed.0.1);
  fillable = record { kind = c.requires.fillable.kind; few = c.requires.fillable.few; fits = c.requires.fillable.fits };
}

pub trim_set-requires : goal.trim_set-requires
trim_set-requires c =
    let k : length c.fill.new.work ≡ length c.args.work.now = c.fill.auto.work in (
      c.requires.viewed.0.2,
      trimmable _ c.args.bound c.args.u c.args.to c.args.plan.words _ _ (filled (goal.at.trim_set-requires c).After-fill)
          c.requires.fillable.few (omega (arith, k, c.requires.fillable.fits)),
    )

pub shape_of-work-then-bound-view : goal.shape_of-work-then-bound-view
shape_of-work-then-bound-view c = c.trim_set.auto.work ∙ c.fill.auto.work

pub returns-then-bound-view : goal.returns-then-bound-view
returns-then-bound-view c =
    filled-trimmed _ c.args.bound c.args.u c.args.to c.args.plan.words _ _
    (filled (goal.at.returns-then-bound-view c).After-fill) _ c.trim_set.ensures

pub shape_of-work-else-bound-view : goal.shape_of-work-else-bound-view
shape_of-work-else-bound-view c = c.fill.auto.work

pub returns-else-bound-view : goal.returns-else-bound-view
returns-else-bound-view c =
    filled-all _ c.args.bound c.args.u c.args.to c.args.plan.words _ _
    (filled (goal.at.returns-else-bound-view c).After-fill)
    (omega (arith, c.if-bound-view.false, c.requires.viewed.0.0.view.len))
