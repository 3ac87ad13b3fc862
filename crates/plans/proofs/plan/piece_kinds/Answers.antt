use mathlib.Core.List.{List}
use mathlib.Core.Path.{◌≡◌, refl, ap, ◌∙◌}
use Prim.Native.Nat.{ℕ, ◌+◌, ◌-◌, ◌≤◌, ◌<◌}
use native.Mathlib.Omega.{arith}
use borrow.Author.Rules.{rules}
use lib.ListN.{length, replicate, length-replicate}
use Rattle.model.specs.Content.{Kind, kind_at, kind_count}
use Rattle.model.specs.Format.{content}
use Rattle.job.specs.View.{demand_of, Viewed}
use Rattle.job.specs.declared.View.{View}
use Rattle.shapes.proofs.ViewLaws.{few-kinds, kind-in}
use Rattle.stepping.proofs.Limits.{few-pieces}
use Rattle.plans.proofs.PieceLists.{Before, room, all_told, before-next, before-none, filled-length}
use Rattle.plans.proofs.plan.piece_kinds.Goals as goal

-- The turn's kind exists and has its demand in the view, and there is room for its pieces.
record Turn (ks : List Kind) (t l demand : ℕ) : Type 0 where
  exists : t < kind_count ks
  low : t < 8
  demanded : demand ≡ (kind_at ks t).demand
  room : l + demand ≤ 12

turn : (s : List ℕ) (v : View) (x : Viewed s v) (kinds : List ℕ) (l t : ℕ) → t < v.kinds → (length kinds ≡ 12) × (l ≤ 12) × Before (content s).kinds kinds l t
    → Turn (content s).kinds t l (demand_of v t)
turn s v x kinds l t h b =
    let k : t < kind_count (content s).kinds = omega (arith, x.view.kinds) in
    let d = (kind-in s v x t k).demand in
    record {
      exists = k;
      low = omega (arith, few-kinds s v x);
      demanded = d;
      room = omega (arith, d, few-pieces s x.accepted, room (content s).kinds kinds l t (omega (arith, b)) k b.2);
    }

pub loop-t-init : goal.loop-t-init
loop-t-init c = (refl, omega arith, before-none _ (replicate 12 0))

pub offset_bounds-view-t : goal.offset_bounds-view-t
offset_bounds-view-t c = omega (arith, few-kinds c.args.job.now c.args.view c.requires, c.requires.view.kinds)

pub bounds-view-t : goal.bounds-view-t
bounds-view-t c = omega (arith, few-kinds c.args.job.now c.args.view c.requires, c.requires.view.kinds)

pub overflow_add-end : goal.overflow_add-end
overflow_add-end c = omega (arith, turn c.args.job.now c.args.view c.requires c.loop-t.kinds c.loop-t.l c.loop-t.t c.loop-t-test.true c.loop-t.invariant)

pub slice_bounds-kinds-end : goal.slice_bounds-kinds-end
slice_bounds-kinds-end c = omega (arith, c.loop-t.invariant.0, turn c.args.job.now c.args.view c.requires c.loop-t.kinds c.loop-t.l c.loop-t.t c.loop-t-test.true c.loop-t.invariant)

pub overflow_cast-t : goal.overflow_cast-t
overflow_cast-t c = omega (arith, few-kinds c.args.job.now c.args.view c.requires, c.requires.view.kinds)

pub loop-t-preserved : goal.loop-t-preserved
loop-t-preserved c =
    let x = turn c.args.job.now c.args.view c.requires c.loop-t.kinds c.loop-t.l c.loop-t.t c.loop-t-test.true c.loop-t.invariant in
    let demand = demand_of c.args.view c.loop-t.t in
    let filled : c.fill.new.self ≡ replicate (kind_at (content c.args.job.now).kinds c.loop-t.t).demand c.loop-t.t = search rules in (
      filled-length c.loop-t.kinds c.fill.new.self c.loop-t.l demand (c.loop-t.l + demand - c.loop-t.l) (omega (arith, x, c.loop-t.invariant.0)) (omega arith) (omega (arith, x.demanded, ap length filled, length-replicate {A = ℕ})) ∙ c.loop-t.invariant.0,
      x.room,
      before-next (content c.args.job.now).kinds c.loop-t.kinds c.fill.new.self c.loop-t.l c.loop-t.t _ _ (omega (arith, c.loop-t.invariant.0)) x.exists x.demanded filled c.loop-t.invariant.2,
    )

pub returns : goal.returns
returns c = all_told (content c.args.job.now).kinds c.loop-t.kinds c.loop-t.l c.loop-t.t (omega (arith, c.loop-t.invariant)) (omega (arith, c.requires.view.kinds)) c.loop-t.invariant.2
