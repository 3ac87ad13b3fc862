use mathlib.Core.List.{List}
use mathlib.Core.Path.{◌≡◌}
use Prim.Native.Nat.{ℕ, ◌<◌}
use native.Mathlib.Omega.{arith}
use lib.ListN.{replicate}
use Rattle.model.specs.Content.{kind_count, piece_count}
use Rattle.model.specs.Format.{content, refusal}
use Rattle.model.specs.Grid.{set_words}
use Rattle.model.proofs.Accepted.{accepted-sensible}
use Rattle.plans.proofs.PlanLaws.{kinds-few, words-few}
use Rattle.plans.specs.Planned.{planned}
use Rattle.stepping.proofs.Kept.{spans_all}
use Rattle.lookahead.specs.Settled.{KindSettled}
use Rattle.lookahead.proofs.Making.{made_first, kind-made, settling_begin, settling_next, settled_all, settled_few}
use Rattle.root.proofs.beginning.settle_first.Goals as goal
use Rattle.root.proofs.beginning.settle_first.Goals.{After-has_members}

-- A job accepted has a piece.
some_piece : (s : List ℕ) → refusal s ≡ 0 → 0 < piece_count (content s).kinds
some_piece s e = (accepted-sensible s 0 e).pieced

-- The kind is settled.
settled : (c : After-has_members) → KindSettled (planned c.args.job.now c.args.plan) (replicate 12 0) 0 c.args.bound
    (set_words (content c.args.job.now).sheet) c.loop-u.u c.loop-u.work c.fill_below.new.work c.has_members.result
settled c =
    kind-made (planned c.args.job.now c.args.plan) (replicate 12 0) 0 _ _ _ _ _ _ _ _ _ c.set_start-to.ensures.place
    c.requires.viewed.0.2.words (spans_all _ _) c.copies_left.ensures
    (made_first (planned c.args.job.now c.args.plan) (replicate 12 0) _ _ _ _ _ _ c.set_start-to.ensures.place
    c.requires.viewed.0.2.words (some_piece _ c.requires.viewed.0.2.accepted) (omega (arith, c.requires.viewed.0.2.types))
    c.fill_below.ensures)
    c.has_members.ensures

pub loop-u-init : goal.loop-u-init
loop-u-init c = settling_begin _ _ _ _ _ _

pub set_start-to-requires : goal.set_start-to-requires
set_start-to-requires c = (
  c.requires.viewed.0.2,
  some_piece _ c.requires.viewed.0.2.accepted,
  omega (arith, c.requires.viewed.0.2.types),
)

pub fill_below-requires : goal.fill_below-requires
fill_below-requires c = record {
  viewed = c.requires.viewed;
  fillable = record {
    kind = omega (arith, c.requires.viewed.0.2.types);
    few = words-few _ _ c.requires.viewed.0.2;
    fits = omega (
      arith,
      c.requires.viewed.0.2.words,
      c.set_start-to.ensures.within,
      c.requires.work_in_bounds,
      c.loop-u.auto.work,
    );
  };
}

pub copies_left-requires : goal.copies_left-requires
copies_left-requires c = (
  c.requires.viewed.0.2,
  some_piece _ c.requires.viewed.0.2.accepted,
  omega (arith, c.requires.viewed.0.2.types, kinds-few _ _ c.requires.viewed.0.2),
)

pub has_members-requires : goal.has_members-requires
has_members-requires c = (
  words-few _ _ c.requires.viewed.0.2,
  c.set_start-to.ensures.few,
  omega (
    arith,
    c.requires.viewed.0.2.words,
    c.set_start-to.ensures.within,
    c.requires.work_in_bounds,
    c.fill_below.auto.work,
    c.loop-u.auto.work,
  ),
)

pub returns-then-not-has_members : goal.returns-then-not-has_members
returns-then-not-has_members c =
    settled_few (planned c.args.job.now c.args.plan) _ _ _ _ c.loop-u.u c.args.work.now c.loop-u.work _
    c.has_members.result c.if-not-has_members.true (omega (arith, c.requires.viewed.0.2.types)) c.loop-u.invariant
    (settled (goal.at.returns-then-not-has_members c).After-has_members)

pub loop-u-preserved : goal.loop-u-preserved
loop-u-preserved c =
    settling_next (planned c.args.job.now c.args.plan) _ _ _ _ c.loop-u.u c.args.work.now c.loop-u.work _
    c.has_members.result c.if-not-has_members.false (omega arith) c.loop-u.invariant
    (settled (goal.at.loop-u-preserved c).After-has_members)

pub returns : goal.returns
returns c =
    let e : c.loop-u.u ≡ kind_count (content c.args.job.now).kinds = omega (arith, c.requires.viewed.0.2.types) in
    settled_all _ _ _ _ _ _ _ (rw e at c.loop-u.invariant)
