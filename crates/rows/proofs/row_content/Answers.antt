use mathlib.Core.Path.{sym, ap, ◌∙◌}
use Prim.Native.Nat.{◌<◌}
use Rattle.std.specs.Prelude.{Ok}
use Rattle.model.specs.Content.{kind_count}
use Rattle.model.specs.Format.{content}
use Rattle.candidates.specs.Prepared.{problem_in}
use Rattle.candidates.proofs.PreparedLaws.{bounded, gap_is}
use Rattle.rows.proofs.AnswerLaws.{kinds-exist, kind-absent, candidate-absent, all-exist, row-absent, row-short, row_written}
use Rattle.rows.proofs.row_content.Goals as goal
use Rattle.rows.proofs.row_content.Goals.{Else-kind-view}

-- what the test of the kinds says
exist : (c : Else-kind-view) → (c.args.kind < kind_count (content c.args.prepared.now.job.now).kinds)
    × (c.args.other < kind_count (content c.args.prepared.now.job.now).kinds)
exist c =
    let j = c.args.prepared.now in
    kinds-exist j.job.now j.view j.prepared.viewed c.args.kind c.args.other c.if-kind-view.false

pub returns-then-kind-view : goal.returns-then-kind-view
returns-then-kind-view c =
    let j = c.args.prepared.now in
    let q = row-absent (problem_in j) c.args.kind c.args.number c.args.other c.args.row.now
    (kind-absent j.job.now j.view j.prepared.viewed c.args.kind c.args.number c.args.other c.if-kind-view.true) in
    record { value = sym (ap (λ o. o.answer) q); row_after = sym (ap (λ o. o.buffer) q) }

pub returns-then-not-is_candidate : goal.returns-then-not-is_candidate
returns-then-not-is_candidate c =
    let q = row-absent (problem_in c.args.prepared.now) c.args.kind c.args.number c.args.other c.args.row.now
    (candidate-absent (problem_in c.args.prepared.now) c.args.kind c.args.number c.args.other (sym
    c.is_candidate.ensures ∙ c.if-not-is_candidate.true)) in
    record { value = sym (ap (λ o. o.answer) q); row_after = sym (ap (λ o. o.buffer) q) }

pub returns-then-row-n : goal.returns-then-row-n
returns-then-row-n c =
    let j = c.args.prepared.now in
    let h = exist (goal.at.returns-then-row-n c).Else-kind-view in
    let q = row-short (problem_in j) c.args.kind c.args.number c.args.other c.args.row.now
    (all-exist (problem_in j) c.args.kind c.args.number c.args.other h.0 (sym c.is_candidate.ensures
    ∙ c.if-not-is_candidate.false) h.1)
    (rw c.set_words-n.ensures.words at c.if-row-n.true) in
    record { value = sym (ap (λ o. o.answer) q); row_after = sym (ap (λ o. o.buffer) q) }

pub placed_of-requires : goal.placed_of-requires
placed_of-requires c = let j = c.args.prepared.now in (bounded j.job.now j.view j.prepared.viewed).rows.0

pub pair_gap-requires : goal.pair_gap-requires
pair_gap-requires c =
    let j = c.args.prepared.now in
    let h = exist (goal.at.pair_gap-requires c).Else-kind-view in (
      bounded j.job.now j.view j.prepared.viewed,
      (
        rw j.prepared.viewed.view.kinds h.0,
        rw
            j.prepared.viewed.view.kinds h.1,
      ),
    )

pub invariant_of-asked : goal.invariant_of-asked
invariant_of-asked c =
    let j = c.args.prepared.now in
    let h = exist (goal.at.invariant_of-asked c).Else-kind-view in
    record {
      row = record {
        kind = h.0;
        other = h.1;
        candidate = sym c.is_candidate.ensures ∙ c.if-not-is_candidate.false;
        first = c.piece_of.ensures;
        place = c.placed_of.ensures;
        second = c.piece_of-2.ensures;
        apart = c.pair_gap.ensures ∙ gap_is j.job.now j.view j.prepared.viewed c.args.kind c.args.other h.0 h.1;
      };
    }

pub returns : goal.returns
returns c =
    let j = c.args.prepared.now in
    let h = exist (goal.at.returns c).Else-kind-view in
    let q = row_written (problem_in j) c.args.kind c.args.number c.args.other c.args.row.now
    (all-exist (problem_in j) c.args.kind c.args.number c.args.other h.0 (sym c.is_candidate.ensures
    ∙ c.if-not-is_candidate.false) h.1)
    (rw c.set_words-n.ensures.words at c.if-row-n.false) in
    record {
      value = ap Ok c.set_words-n.ensures.words ∙ sym (ap (λ o. o.answer) q);
      row_after = c.fill.ensures ∙ sym (ap (λ o. o.buffer) q);
    }
