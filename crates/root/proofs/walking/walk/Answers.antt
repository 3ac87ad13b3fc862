-- `root::walking::walk` meets its contract.
use mathlib.Core.Bool.{Bool}
use mathlib.Core.List.{List}
use mathlib.Core.Path.{◌≡◌, refl, ◌∙◌}
use Prim.Native.Nat.{ℕ, ◌<◌}
use native.Mathlib.Omega.{arith}
use Rattle.model.specs.Content.{piece_count}
use Rattle.model.specs.Format.{content, refusal}
use Rattle.model.specs.Problem.{under}
use Rattle.model.proofs.Accepted.{accepted-sensible}
use Rattle.stepping.proofs.Limits.{demanded}
use Rattle.walks.specs.Walk.{held_of}
use Rattle.runs.specs.declared.progress.Progress.{Progress}
use Rattle.root.specs.Walked.{RoomFor, Begun, Walked}
use Rattle.root.proofs.Rooted.{begin_back, begin_deep, begin_walks}
use Rattle.root.proofs.walking.walk.Goals as goal

-- The plan's margin is the view's: what is said at the one is said at the other, of a bound and of whether a layout is held.
module _ (s : List ℕ) (m n : ℕ) (e : m ≡ n) where
  room_at : (work out : List ℕ) → RoomFor (under n (content s)) work out → RoomFor (under m (content s)) work out
  room_at work out r = rw e r

  begun_at : (a b : ℕ) (f g : Bool) (out : List ℕ) → a ≡ b → f ≡ g → Begun (under n (content s)) b g out → Begun (under m (content s)) a f out
  begun_at a b f g out p q r = rw (e, p, q) r

  walked_at : (f g : Bool) → f ≡ g → (answer : List ℕ) (budget : ℕ) (work out work' out' : List ℕ) (st : Progress)
      → Walked (under m (content s)) (held_of (under m (content s)) f answer) budget work out work' out' st
      → Walked (under n (content s)) (held_of (under n (content s)) g answer) budget work out work' out' st
  walked_at f g q answer budget work out work' out' st w = rw (← e, ← q) w

-- A job accepted has a piece.
some_piece : (s : List ℕ) → refusal s ≡ 0 → 0 < piece_count (content s).kinds
some_piece s e = (accepted-sensible s 0 e).pieced

pub make_plan-plan-requires : goal.make_plan-plan-requires
make_plan-plan-requires c = (c.args.prepared.now.prepared.viewed, c.args.prepared.now.prepared.boxes)

pub settle_first-requires : goal.settle_first-requires
settle_first-requires c = record {
  viewed = ((c.args.prepared.now.prepared.viewed, c.args.prepared.now.prepared.boxes, c.make_plan-plan.ensures.0), c.make_plan-plan.ensures.1);
  work_in_bounds = (room_at _ _ _ c.make_plan-plan.ensures.1 _ _ c.requires.room_for.0).work-fits;
}

pub shape_of-work-then-not-settle_first : goal.shape_of-work-then-not-settle_first
shape_of-work-then-not-settle_first c = c.settle_first.auto.work

pub returns-then-not-settle_first : goal.returns-then-not-settle_first
returns-then-not-settle_first c =
    let m = c.make_plan-plan.ensures.1 in
    walked_at _ _ _ m _ _ c.is_some-found.ensures _ _ _ _ _ _ _
    (begin_back _ _ _ _ _ _ _ _ (some_piece _ c.args.prepared.now.prepared.viewed.accepted)
    (begun_at _ _ _ m _ _ _ _ _ c.unwrap_or-bound.ensures c.is_some-found.ensures c.requires.room_for.1)
    c.make_plan-plan.ensures.0.words refl (room_at _ _ _ m _ _ c.requires.room_for.0) _ c.settle_first.result
    c.settle_first.ensures c.begin.result c.begin.ensures c.if-not-settle_first.true)

pub shrink-span-requires : goal.shrink-span-requires
shrink-span-requires c = (
  c.make_plan-plan.ensures.0,
  omega (arith, c.make_plan-plan.ensures.0.words),
  omega (
    arith,
    c.settle_first.auto.work,
    (room_at _ _ _ c.make_plan-plan.ensures.1 _ _ c.requires.room_for.0).work-fits,
  ),
)

pub nofit_of-nofit-requires : goal.nofit_of-nofit-requires
nofit_of-nofit-requires c = (c.args.prepared.now.prepared.viewed, c.args.prepared.now.prepared.boxes)

pub walk_with_table-requires : goal.walk_with_table-requires
walk_with_table-requires c =
    let m = c.make_plan-plan.ensures.1 in
    let p = c.args.prepared.now.prepared in record {
      computed = (
        record {
          viewed = p.viewed;
          table = p.turned;
          boxed = p.boxes;
          plan = c.make_plan-plan.ensures.0;
          measures = c.nofit_of-nofit.ensures.0;
        },
        omega (arith, c.nofit_of-nofit.ensures.1, c.nofit_of-nofit.ensures.0.small, c.room_for.ensures),
      );
      ready = begin_deep _ _ _ _ _ _ _ _ (some_piece _ p.viewed.accepted)
          (begun_at _ _ _ m _ _ _ _ _ c.unwrap_or-bound.ensures c.is_some-found.ensures c.requires.room_for.1)
          c.make_plan-plan.ensures.0.words refl (room_at _ _ _ m _ _ c.requires.room_for.0) _ c.settle_first.result
          c.settle_first.ensures (demanded _ p.viewed.accepted) c.if-not-settle_first.false c.shrink-span.result
          (rw (← c.make_plan-plan.ensures.0.types) c.shrink-span.ensures) c.begin-start.result c.begin-start.ensures
          c.settle_first.auto.work;
    }

pub shape_of-work : goal.shape_of-work
shape_of-work c = c.walk_with_table.auto.work ∙ c.settle_first.auto.work

pub shape_of-answer : goal.shape_of-answer
shape_of-answer c = c.walk_with_table.auto.answer

pub returns : goal.returns
returns c =
    let m = c.make_plan-plan.ensures.1 in
    let p = c.args.prepared.now.prepared in
    walked_at _ _ _ m _ _ c.is_some-found.ensures _ _ _ _ _ _ _
    (begin_walks _ _ _ _ _ _ _ _ (some_piece _ p.viewed.accepted)
    (begun_at _ _ _ m _ _ _ _ _ c.unwrap_or-bound.ensures c.is_some-found.ensures c.requires.room_for.1)
    c.make_plan-plan.ensures.0.words refl (room_at _ _ _ m _ _ c.requires.room_for.0) _ c.settle_first.result
    c.settle_first.ensures (demanded _ p.viewed.accepted) c.if-not-settle_first.false c.shrink-span.result
    (rw (← c.make_plan-plan.ensures.0.types) c.shrink-span.ensures) c.begin-start.result c.begin-start.ensures
    _ _ c.walk_with_table.result c.walk_with_table.ensures)
