use mathlib.Core.List.{List}
use mathlib.Core.Path.{◌≡◌, refl, ◌∙◌}
use Prim.Native.Nat.{ℕ, ◌≤◌, ◌<◌}
use native.Mathlib.Omega.{arith}
use Rattle.model.specs.Content.{piece_count}
use Rattle.model.specs.Format.{content, refusal}
use Rattle.model.proofs.Accepted.{accepted-kinds, accepted-dots}
use Rattle.stepping.proofs.Limits.{few-pieces, few_words, demanded}
use Rattle.walks.proofs.GoingOn.{record_ready, lower-ready, go_last, settle_ready, go_back, deep_ready, go_deep}
use Rattle.walks.proofs.Trying.{trying_begin, trying_keeps, trying_past, trying_stops, taken-ready, taken-taken, trying_ends, trying_goes}
use Rattle.walks.proofs.walk.+go_on_try_piece.Goals as goal

-- A piece's level is one of twelve.
few : (s : List ℕ) → refusal s ≡ 0 → (level : ℕ) → level < piece_count (content s).kinds → level < 12
few s e level h = omega (arith, h, few-pieces s e)

-- Not all pieces are placed.
unfinished : (level pieces count : ℕ) → level ≤ count → pieces ≡ count → (level ≡ pieces → ⊥) → level < count
unfinished level pieces count h e f = omega arith

positive : (n : ℕ) → (n ≡ 0 → ⊥) → 0 < n
positive n f = omega arith

pub go_on-record_layout-requires : goal.go_on-record_layout-requires
go_on-record_layout-requires t c =
    (c.requires.known.plan, record_ready _ _ _ _ _ _ _ c.requires.ready (λ h. c.requires.taken.below) (accepted-dots _ c.requires.known.plan.accepted) (accepted-kinds _ c.requires.known.plan.accepted).few-kinds (c.if-branch-fixed.true ∙ c.requires.known.plan.pieces))

pub go_on-lower-span-requires : goal.go_on-lower-span-requires
go_on-lower-span-requires t c =
    record {
      plan_of = (c.requires.known.plan, c.requires.ready.spans.within);
      admitted = (
        c.requires.ready.work-fits,
        lower-ready _ _ _ _ _ _ _ c.requires.ready (λ h. c.requires.taken.below) (c.if-branch-fixed.true ∙ c.requires.known.plan.pieces),
      );
    }

pub go_on-shape_of-work-then-branch-fixed : goal.go_on-shape_of-work-then-branch-fixed
go_on-shape_of-work-then-branch-fixed t c = c.lower-span.auto.work

pub go_on-shape_of-out-then-branch-fixed : goal.go_on-shape_of-out-then-branch-fixed
go_on-shape_of-out-then-branch-fixed t c = c.record_layout.auto.out

pub go_on-returns-then-branch-fixed : goal.go_on-returns-then-branch-fixed
go_on-returns-then-branch-fixed t c =
    go_last _ _ _ _ _ _ _ c.requires.ready (λ h. c.requires.taken.below) _ _ c.lower-span.result
    c.complete.result c.complete.ensures (accepted-dots _ c.requires.known.plan.accepted) (accepted-kinds _ c.requires.known.plan.accepted).few-kinds (demanded c.args.fixed.now.job.now c.requires.known.plan.accepted) c.requires.taken.some (c.if-branch-fixed.true ∙ c.requires.known.plan.pieces) c.record_layout.ensures c.lower-span.ensures

pub go_on-settle-requires : goal.go_on-settle-requires
go_on-settle-requires t c =
    record { known = c.requires.known; placeable = settle_ready _ _ _ _ _ _ _ c.requires.ready (λ h. c.requires.taken.below) (unfinished _ _ _ c.requires.taken.within c.requires.known.plan.pieces c.if-branch-fixed.false) c.requires.taken }

pub go_on-try_piece-requires : goal.go_on-try_piece-requires
go_on-try_piece-requires t c = (
  omega (arith, c.decreases),
  (
    (c.requires.known, unfinished _ _ _ c.requires.taken.within c.requires.known.plan.pieces c.if-branch-fixed.false),
    deep_ready _ _ _ _ _ _ _ c.requires.ready (λ h. c.requires.taken.below) _ c.settle.result c.if-settle.true c.settle.ensures c.settle.auto.work,
  ),
)

pub go_on-shape_of-work-then-settle : goal.go_on-shape_of-work-then-settle
go_on-shape_of-work-then-settle t c = c.try_piece.auto.work ∙ c.settle.auto.work

pub go_on-shape_of-out-then-settle : goal.go_on-shape_of-out-then-settle
go_on-shape_of-out-then-settle t c = c.try_piece.auto.out

pub go_on-returns-then-settle : goal.go_on-returns-then-settle
go_on-returns-then-settle t c =
    go_deep _ _ _ _ _ _ _ c.requires.ready (λ h. c.requires.taken.below) _ _ _ c.try_piece.result c.settle.result (unfinished _ _ _ c.requires.taken.within c.requires.known.plan.pieces c.if-branch-fixed.false) c.if-settle.true c.settle.ensures c.try_piece.ensures

pub go_on-shape_of-work : goal.go_on-shape_of-work
go_on-shape_of-work t c = c.settle.auto.work

pub go_on-returns : goal.go_on-returns
go_on-returns t c =
    go_back _ _ _ _ _ _ _ c.requires.ready (λ h. c.requires.taken.below) _ c.settle.result (unfinished _ _ _ c.requires.taken.within c.requires.known.plan.pieces c.if-branch-fixed.false) c.if-settle.false c.settle.ensures

pub try_piece-loop-next-init : goal.try_piece-loop-next-init
try_piece-loop-next-init t c = ((refl, refl), trying_begin _ _ _ _ _ _ _ c.requires.ready)

pub try_piece-next_live-requires : goal.try_piece-next_live-requires
try_piece-next_live-requires t c =
    let l = c.loop-next in record {
      plan_of = (c.requires.known.0.plan, c.requires.known.1, l.invariant.1.ready.work-fits);
      spans = (l.invariant.1.ready.spans, trying_keeps _ _ _ _ _ _ _ _ _ _ _ l.invariant.1 c.requires.known.1);
    }

pub try_piece-shape_of-work : goal.try_piece-shape_of-work
try_piece-shape_of-work t c = c.loop-next.invariant.0.0

pub try_piece-shape_of-out : goal.try_piece-shape_of-out
try_piece-shape_of-out t c = c.loop-next.invariant.0.1

pub try_piece-returns : goal.try_piece-returns
try_piece-returns t c = trying_past _ _ _ _ _ _ _ _ _ _ _ c.loop-next.invariant.1 c.in_default.ensures

pub try_piece-shape_of-work-then-st-eq0 : goal.try_piece-shape_of-work-then-st-eq0
try_piece-shape_of-work-then-st-eq0 t c = c.loop-next.invariant.0.0

pub try_piece-shape_of-out-then-st-eq0 : goal.try_piece-shape_of-out-then-st-eq0
try_piece-shape_of-out-then-st-eq0 t c = c.loop-next.invariant.0.1

pub try_piece-returns-then-st-eq0 : goal.try_piece-returns-then-st-eq0
try_piece-returns-then-st-eq0 t c =
    trying_stops _ _ _ _ _ _ _ _ _ _ _ c.loop-next.invariant.1 _ c.in-Some.ensures c.requires.known.1 (few _ c.requires.known.0.plan.accepted _ c.requires.known.1) c.halt.result c.halt.ensures c.if-st-eq0.true

pub try_piece-offset_bounds-numbers-branch : goal.try_piece-offset_bounds-numbers-branch
try_piece-offset_bounds-numbers-branch t c =
    omega (arith, few _ c.requires.known.0.plan.accepted _ c.requires.known.1)

pub try_piece-bounds-numbers-branch : goal.try_piece-bounds-numbers-branch
try_piece-bounds-numbers-branch t c =
    omega (arith, few _ c.requires.known.0.plan.accepted _ c.requires.known.1)

pub try_piece-overflow_add-taken : goal.try_piece-overflow_add-taken
try_piece-overflow_add-taken t c =
    omega (arith, few _ c.requires.known.0.plan.accepted _ c.requires.known.1)

pub try_piece-step-requires : goal.try_piece-step-requires
try_piece-step-requires t c = positive c.loop-next.st.left c.if-st-eq0.false

pub try_piece-go_on-st-requires : goal.try_piece-go_on-st-requires
try_piece-go_on-st-requires t c =
    (omega (arith, c.decreases, c.requires.known.0.plan.pieces, c.requires.known.1), (c.requires.known.0, (taken-ready _ _ _ _ _ _ _ _ _ _ _ c.loop-next.invariant.1 _ c.in-Some.ensures c.requires.known.1 (few _ c.requires.known.0.plan.accepted _ c.requires.known.1) c.step.result c.step.ensures, taken-taken _ _ _ _ _ _ _ _ _ _ _ c.loop-next.invariant.1 _ c.in-Some.ensures c.requires.known.1 (few _ c.requires.known.0.plan.accepted _ c.requires.known.1) c.step.result c.step.ensures)))

pub try_piece-shape_of-work-then-st : goal.try_piece-shape_of-work-then-st
try_piece-shape_of-work-then-st t c = c.go_on-st.auto.work ∙ c.loop-next.invariant.0.0

pub try_piece-shape_of-out-then-st : goal.try_piece-shape_of-out-then-st
try_piece-shape_of-out-then-st t c = c.go_on-st.auto.out ∙ c.loop-next.invariant.0.1

pub try_piece-returns-then-st : goal.try_piece-returns-then-st
try_piece-returns-then-st t c =
    trying_ends _ _ _ _ _ _ _ _ _ _ _ c.loop-next.invariant.1 _ c.in-Some.ensures c.requires.known.1 (few _ c.requires.known.0.plan.accepted _ c.requires.known.1) _ _ c.go_on-st.result c.go_on-st.auto.work c.go_on-st.auto.out (positive c.loop-next.st.left c.if-st-eq0.false) c.step.result c.step.ensures c.go_on-st.ensures c.if-st.true

pub try_piece-overflow_add-from : goal.try_piece-overflow_add-from
try_piece-overflow_add-from t c =
    omega (arith, c.in-Some.ensures.live.small, few_words _ c.requires.known.0.plan.accepted)

pub try_piece-loop-next-smaller : goal.try_piece-loop-next-smaller
try_piece-loop-next-smaller t c = omega (arith, c.in-Some.ensures.live.small, c.in-Some.ensures.above)

pub try_piece-loop-next-preserved : goal.try_piece-loop-next-preserved
try_piece-loop-next-preserved t c =
    ((c.go_on-st.auto.work ∙ c.loop-next.invariant.0.0, c.go_on-st.auto.out ∙ c.loop-next.invariant.0.1), trying_goes _ _ _ _ _ _ _ _ _ _ _ c.loop-next.invariant.1 _ c.in-Some.ensures c.requires.known.1 (few _ c.requires.known.0.plan.accepted _ c.requires.known.1) _ _ c.go_on-st.result c.go_on-st.auto.work c.go_on-st.auto.out (positive c.loop-next.st.left c.if-st-eq0.false) c.step.result c.step.ensures c.go_on-st.ensures c.if-st.false)
