-- `branching::choosing::next_live` meets its contract.
use mathlib.Core.Logic.{inl}
use mathlib.Core.Path.{◌≡◌, sym, ap, ◌∙◌, subst}
use Prim.Native.Nat.{ℕ, ◌+◌, ◌*◌, ◌-◌, ◌≤◌, ◌<◌}
use native.Mathlib.Omega.{arith}
use lib.ListN.{length, get_or, take, drop, length-drop}
use Rattle.model.specs.Content.{kind_count}
use Rattle.model.specs.Format.{content}
use Rattle.stepping.specs.Levels.{piece_kind, placed_of}
use Rattle.stepping.specs.LiveSets.{Keeps}
use Rattle.stepping.specs.Slots.{slot_of}
use Rattle.stepping.proofs.Kept.{kept-candidate}
use Rattle.stepping.proofs.Levels.{piece_kind_lem}
use Rattle.stepping.proofs.Limits.{few-pieces, few_words}
use Rattle.stepping.proofs.Slots.{part-rest}
use Rattle.live_sets.specs.Known.{problem}
use Rattle.branching.specs.Choosing.{NextLive}
use Rattle.branching.proofs.Passing.{live-member}
use Rattle.branching.proofs.choosing.next_live.Goals as goal
use Rattle.branching.proofs.choosing.next_live.Goals.{After-set_start-at}

pub returns-then-state-branch : goal.returns-then-state-branch
returns-then-state-branch c = inl c.if-state-branch.true

pub bounds-fixed-branch : goal.bounds-fixed-branch
bounds-fixed-branch c = omega (arith, c.requires.plan_of.1, few-pieces c.args.fixed.now.job.now c.requires.plan_of.0.accepted)

pub set_start-at-requires : goal.set_start-at-requires
set_start-at-requires c =
    let kind_below : get_or c.args.fixed.now.plan.kinds c.args.branch.now.level 0 < kind_count (content c.args.fixed.now.job.now).kinds =
    (let kind_is : get_or c.args.fixed.now.plan.kinds c.args.branch.now.level 0 ≡ piece_kind (content c.args.fixed.now.job.now).kinds
    c.args.branch.now.level = c.requires.plan_of.0.kinds c.args.branch.now.level c.requires.plan_of.1 in
    rw (kind_is) (piece_kind_lem (content c.args.fixed.now.job.now).kinds c.args.branch.now.level c.requires.plan_of.1)) in
    (c.requires.plan_of.0, c.requires.plan_of.1, kind_below)

pub overflow_mul-at : goal.overflow_mul-at
overflow_mul-at c = omega (arith, c.set_start-at.ensures.few)

-- The words from the set's place on have room for the set.
room : (c : After-set_start-at) → c.set_start-at.result * 8 + c.args.fixed.now.plan.words * 8 ≤ length c.args.work.now
room c = omega (arith, c.set_start-at.ensures.within, c.requires.plan_of.0.words, c.requires.plan_of.2)

-- They keep what the level's set keeps.
kept : (c : After-set_start-at) → Keeps (problem c.args.fixed.now) (placed_of (problem c.args.fixed.now) c.args.branch.now.numbers
    c.args.branch.now.level) c.args.state.bound c.args.state.span (get_or c.args.fixed.now.plan.kinds c.args.branch.now.level 0)
    (take (length c.args.work.now - c.set_start-at.result * 8) (drop (c.set_start-at.result * 8) c.args.work.now))
unfolding slot_of
kept c =
    let kind_is : get_or c.args.fixed.now.plan.kinds c.args.branch.now.level 0 ≡ piece_kind (content c.args.fixed.now.job.now).kinds
    c.args.branch.now.level = c.requires.plan_of.0.kinds c.args.branch.now.level c.requires.plan_of.1 in
    subst (Keeps (problem c.args.fixed.now) (placed_of (problem c.args.fixed.now) c.args.branch.now.numbers
    c.args.branch.now.level) c.args.state.bound c.args.state.span (get_or c.args.fixed.now.plan.kinds c.args.branch.now.level 0))
    (ap (λ (a : ℕ). drop (a * 8) c.args.work.now) (sym c.set_start-at.ensures.place)
    ∙ sym (part-rest (c.set_start-at.result * 8) c.args.work.now))
    (subst (λ (u : ℕ). Keeps (problem c.args.fixed.now) (placed_of (problem c.args.fixed.now)
    c.args.branch.now.numbers c.args.branch.now.level) c.args.state.bound c.args.state.span u
    (slot_of (problem c.args.fixed.now) c.args.work.now c.args.branch.now.level u)) (sym (kind_is))
    c.requires.spans.1)

pub slice_bounds-next_in-count : goal.slice_bounds-next_in-count
slice_bounds-next_in-count c = omega (arith, room (goal.at.slice_bounds-next_in-count c).After-set_start-at)

pub slice_bounds-next_in-start : goal.slice_bounds-next_in-start
slice_bounds-next_in-start c = omega (arith, room (goal.at.slice_bounds-next_in-start c).After-set_start-at)

pub next_in-requires : goal.next_in-requires
next_in-requires c =
    let h = (goal.at.next_in-requires c).After-set_start-at in
    record {
      plan_of = (
        c.requires.plan_of.0,
        omega (
          arith,
          c.requires.spans.0.within,
          few_words c.args.fixed.now.job.now c.requires.plan_of.0.accepted,
        ),
        rw (part-rest (c.set_start-at.result * 8) c.args.work.now)
            (simp length-drop (omega (arith, room h, c.requires.plan_of.0.words, c.requires.spans.0.within))),
      );
      by_index = λ m below e. kept-candidate (problem c.args.fixed.now) _ _ _ _ _ (kept h) m below e;
    }

pub returns : goal.returns
returns c =
    let kind_is : get_or c.args.fixed.now.plan.kinds c.args.branch.now.level 0 ≡ piece_kind (content c.args.fixed.now.job.now).kinds c.args.branch.now.level =
    c.requires.plan_of.0.kinds c.args.branch.now.level c.requires.plan_of.1 in
    let h = (goal.at.returns c).After-set_start-at in
    subst (λ (u : ℕ). NextLive (problem c.args.fixed.now) (placed_of (problem c.args.fixed.now)
    c.args.branch.now.numbers c.args.branch.now.level) c.args.state.bound u c.args.branch.now.extent c.args.from c.next_in.result) (kind_is)
    (live-member _ _ _ _ _ _ _ _ c.requires.spans.0 (kept h) _ c.if-state-branch.false c.next_in.ensures)
