use mathlib.Core.List.{List}
use mathlib.Core.Path.{◌≡◌, refl, sym, ap, ◌∙◌}
use Prim.Native.Nat.{ℕ, ◌+◌, ◌*◌, ◌≤◌, ◌<◌}
use native.Mathlib.Omega.{arith}
use lib.ListN.{length}
use Rattle.words.specs.Number.{count, with_number}
use Rattle.model.specs.Content.{Kind, piece_count}
use Rattle.model.specs.Format.{content}
use Rattle.model.specs.Grid.{placement_of}
use Rattle.model.specs.Layout.{entry, entry_of}
use Rattle.model.specs.Services.{numbers_in, with_layout}
use Rattle.model.proofs.Accepted.{accepted-kinds}
use Rattle.model.proofs.Numbers.{rows-positive}
use Rattle.stepping.specs.Levels.{piece_kind, numbers_at}
use Rattle.stepping.proofs.Levels.{piece_kind_lem}
use Rattle.stepping.proofs.Limits.{few-pieces}
use Rattle.plans.specs.Planned.{planned}
use Rattle.plans.specs.Recording.{layout_of}
use Rattle.plans.proofs.PlanLaws.{plan-rows}
use Rattle.plans.proofs.Writing.{written, written_none, entry-written}
use Rattle.plans.proofs.recording.record_layout.Goals as goal
use Rattle.plans.proofs.recording.record_layout.Goals.{In-loop-i}

-- The turn's piece is one of few, its kind small, and there is room for its entry.
record Turn (ks : List Kind) (i n room : ℕ) : Type 0 where
  exists : i < piece_count ks
  few : i < 12
  kind : piece_kind ks i < 8
  small : n < 4096
  fits : i * 8 + 8 ≤ room

turn : (c : In-loop-i) → Turn (content c.args.job.now).kinds c.loop-i.i (numbers_at c.args.candidates c.loop-i.i) (length c.args.out.now)
unfolding numbers_in count
turn c =
    let s = c.args.job.now in
    let ks = (content s).kinds in
    let h : c.loop-i.i < piece_count ks = omega (arith, c.requires.0.pieces) in
    record {
      exists = h;
      few = omega (arith, few-pieces s c.requires.0.accepted);
      kind = omega (arith, piece_kind_lem ks c.loop-i.i h, (accepted-kinds s c.requires.0.accepted).few-kinds);
      small = c.requires.1.small c.loop-i.i h;
      fits = omega (arith, c.requires.1.fits);
    }

pub loop-i-init : goal.loop-i-init
loop-i-init c = (refl, sym (written_none _ _))

pub overflow_mul-i : goal.overflow_mul-i
overflow_mul-i c = omega (arith, turn (goal.at.overflow_mul-i c).In-loop-i)

pub bounds-plan-i : goal.bounds-plan-i
bounds-plan-i c = omega (arith, turn (goal.at.bounds-plan-i c).In-loop-i)

pub offset_bounds-candidates-i : goal.offset_bounds-candidates-i
offset_bounds-candidates-i c = omega (arith, turn (goal.at.offset_bounds-candidates-i c).In-loop-i)

pub bounds-candidates-i : goal.bounds-candidates-i
bounds-candidates-i c = omega (arith, turn (goal.at.bounds-candidates-i c).In-loop-i)

pub entry_word-requires : goal.entry_word-requires
entry_word-requires c = (
  omega (arith, plan-rows c.args.job.now c.args.plan.now c.requires.0, rows-positive (content c.args.job.now).sheet),
  (turn (goal.at.entry_word-requires c).In-loop-i).small,
)

pub put_u64-requires : goal.put_u64-requires
put_u64-requires c = omega (arith, c.loop-i.invariant.0, turn (goal.at.put_u64-requires c).In-loop-i)

pub loop-i-preserved : goal.loop-i-preserved
unfolding entry_of
loop-i-preserved c =
    let x = turn (goal.at.loop-i-preserved c).In-loop-i in (
      c.put_u64.auto.s ∙ c.loop-i.invariant.0,
      c.put_u64.ensures ∙ ap (with_number 8 c.loop-i.out (c.loop-i.i * 8)) c.entry_word.ensures
          ∙ entry-written (planned c.args.job.now c.args.plan.now) c.args.candidates c.args.out.now c.loop-i.out c.loop-i.i _ _ _
          x.kind x.small (c.requires.0.kinds c.loop-i.i x.exists) refl (plan-rows c.args.job.now c.args.plan.now c.requires.0) c.loop-i.invariant.1,
    )

pub returns : goal.returns
unfolding with_layout layout_of entry_of
returns c =
    let e : c.loop-i.i ≡ piece_count (content c.args.job.now).kinds = omega (arith, c.requires.0.pieces) in
    c.loop-i.invariant.1 ∙ ap (λ (i : ℕ). written (λ l. entry (piece_kind (content c.args.job.now).kinds l)
    (placement_of (content c.args.job.now).sheet (numbers_at c.args.candidates l))) i c.args.out.now) e
