-- `live_sets::board::in_conflict` meets its contract.
use mathlib.Core.Path.{sym, ap₂, ◌∙◌, subst}
use Prim.Native.Nat.{◌<◌}
use Rattle.model.specs.Content.{kind_count}
use Rattle.model.specs.Format.{content}
use Rattle.shapes.proofs.PieceLaws.{piece_turnable}
use Rattle.candidates.specs.Conflicts.{Near, conflict_between}
use Rattle.candidates.specs.declared.conflicts.Placed.{Placed}
use Rattle.plans.proofs.PlanLaws.{candidate-kind, near}
use Rattle.live_sets.specs.Known.{problem}
use Rattle.live_sets.proofs.Meeting.{corners-conflict}
use Rattle.live_sets.proofs.board.in_conflict.Goals as goal

pub piece_in-first-requires : goal.piece_in-first-requires
piece_in-first-requires c =
    let first : c.args.latest.now.kind < kind_count (content c.args.fixed.now.job.now).kinds =
    candidate-kind (problem c.args.fixed.now) c.args.latest.now.kind c.args.latest.now.number c.requires.are_candidates.0 in
    (c.requires.known.0.plan, first)

pub piece_in-second-requires : goal.piece_in-second-requires
piece_in-second-requires c =
    let second : c.args.u < kind_count (content c.args.fixed.now.job.now).kinds =
    candidate-kind (problem c.args.fixed.now) c.args.u c.args.m c.requires.are_candidates.1 in
    (c.requires.known.0.plan, second)

pub pair_gap-gap-requires : goal.pair_gap-gap-requires
pair_gap-gap-requires c =
    let first : c.args.latest.now.kind < kind_count (content c.args.fixed.now.job.now).kinds =
    candidate-kind (problem c.args.fixed.now) c.args.latest.now.kind c.args.latest.now.number c.requires.are_candidates.0 in
    let second : c.args.u < kind_count (content c.args.fixed.now.job.now).kinds =
    candidate-kind (problem c.args.fixed.now) c.args.u c.args.m c.requires.are_candidates.1 in
    (c.requires.known.0.plan, first, second)

pub conflict_between-requires : goal.conflict_between-requires
conflict_between-requires c =
    let first : c.args.latest.now.kind < kind_count (content c.args.fixed.now.job.now).kinds =
    candidate-kind (problem c.args.fixed.now) c.args.latest.now.kind c.args.latest.now.number c.requires.are_candidates.0 in
    let second : c.args.u < kind_count (content c.args.fixed.now.job.now).kinds =
    candidate-kind (problem c.args.fixed.now) c.args.u c.args.m c.requires.are_candidates.1 in
    let from_near : Near c.args.fixed.now.plan.step c.args.latest.now.place = subst (Near c.args.fixed.now.plan.step) (sym c.requires.known.1)
    (near c.args.fixed.now.job.now c.args.fixed.now.plan c.requires.known.0.plan c.args.latest.now.kind c.args.latest.now.number c.requires.are_candidates.0) in
    let place_near : Near c.args.fixed.now.plan.step c.args.place = subst (Near c.args.fixed.now.plan.step) (sym c.requires.stands)
    (near c.args.fixed.now.job.now c.args.fixed.now.plan c.requires.known.0.plan c.args.u c.args.m c.requires.are_candidates.1) in
    let p = c.piece_in-first in
    let q = c.piece_in-second in (
      (
        piece_turnable c.args.fixed.now.job.now c.args.fixed.now.turned.now c.args.latest.now.kind p.result c.requires.known.0.table p.ensures (first),
        from_near,
      ),
      (
        piece_turnable c.args.fixed.now.job.now c.args.fixed.now.turned.now c.args.u q.result c.requires.known.0.table q.ensures (second),
        place_near,
      ),
    )

pub returns : goal.returns
returns c =
    let first : c.args.latest.now.kind < kind_count (content c.args.fixed.now.job.now).kinds =
    candidate-kind (problem c.args.fixed.now) c.args.latest.now.kind c.args.latest.now.number c.requires.are_candidates.0 in
    let second : c.args.u < kind_count (content c.args.fixed.now.job.now).kinds =
    candidate-kind (problem c.args.fixed.now) c.args.u c.args.m c.requires.are_candidates.1 in
    c.conflict_between.ensures
    ∙ ap₂ (λ (a b : Placed). conflict_between c.args.fixed.now.turned.now c.args.fixed.now.plan.step c.piece_in-first.result a
    c.piece_in-second.result b c.pair_gap-gap.result) c.requires.known.1 c.requires.stands
    ∙ corners-conflict c.args.fixed.now.job.now c.args.fixed.now.plan c.args.fixed.now.turned.now c.requires.known.0.plan c.requires.known.0.table c.args.latest.now.kind
    c.args.latest.now.number c.args.u c.args.m c.piece_in-first.result c.piece_in-second.result c.pair_gap-gap.result (first)
    (second) c.piece_in-first.ensures c.piece_in-second.ensures c.pair_gap-gap.ensures
