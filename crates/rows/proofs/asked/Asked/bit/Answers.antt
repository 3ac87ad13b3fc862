use mathlib.Core.Bool.{true}
use mathlib.Core.Path.{◌≡◌, sym, ap, ap₂, subst, ◌∙◌}
use Prim.Native.Nat.{ℕ}
use Rattle.model.specs.Candidate.{is_candidate}
use Rattle.shapes.proofs.PieceLaws.{piece_turnable}
use Rattle.candidates.specs.Conflicts.{Near, placed_of, conflict_between}
use Rattle.candidates.specs.declared.conflicts.Placed.{Placed}
use Rattle.candidates.specs.Prepared.{problem_in}
use Rattle.candidates.proofs.PreparedLaws.{bounded, numbers_conflict, candidate-number, number-near}
use Rattle.rows.proofs.RowLaws.{bit_clear, bit_is}
use Rattle.rows.proofs.asked.Asked.bit.Goals as goal

pub placed_of-requires : goal.placed_of-requires
placed_of-requires c = let j = c.args.self.now.prepared.now in (bounded j.job.now j.view j.prepared.viewed).rows.0

pub conflict_between-requires : goal.conflict_between-requires
conflict_between-requires c =
    let a = c.args.self.now in
    let j = a.prepared.now in
    let near : (t n : ℕ) → is_candidate (problem_in j) t n ≡ true → Near j.view.step (placed_of j.view.rows n) =
    λ t n e. number-near j.job.now j.view j.prepared.viewed n (candidate-number (problem_in j) t n e) in (
      (
        piece_turnable j.job.now j.turned.now a.kind a.first j.prepared.turned a.row.first a.row.kind,
        subst (Near j.view.step) (sym a.row.place) (near a.kind a.number a.row.candidate),
      ),
      (
        piece_turnable j.job.now j.turned.now a.other a.second j.prepared.turned a.row.second a.row.other,
        subst (Near j.view.step) (sym c.placed_of.ensures) (near a.other c.args.m (sym c.is_candidate.ensures
            ∙ c.if-is_candidate.true)),
      ),
    )

pub returns-then-is_candidate : goal.returns-then-is_candidate
returns-then-is_candidate c =
    let a = c.args.self.now in
    let j = a.prepared.now in
    c.conflict_between.ensures
    ∙ ap₂ (λ (p q : Placed). conflict_between j.turned.now j.view.step a.first p a.second q a.gap) a.row.place
    c.placed_of.ensures
    ∙ ap (conflict_between j.turned.now j.view.step a.first (placed_of j.view.rows a.number) a.second (placed_of
    j.view.rows c.args.m)) a.row.apart
    ∙ numbers_conflict j.job.now j.view j.turned.now j.prepared.viewed j.prepared.turned a.kind a.other a.row.kind
    a.row.other a.first a.second
    a.row.first a.row.second j.view.margin a.number c.args.m
    ∙ bit_is (problem_in j) a.kind a.number a.other c.args.m (sym c.is_candidate.ensures ∙ c.if-is_candidate.true)

pub returns-else-is_candidate : goal.returns-else-is_candidate
returns-else-is_candidate c =
    let a = c.args.self.now in
    c.if-is_candidate.false
    ∙ bit_clear (problem_in a.prepared.now) a.kind a.number a.other c.args.m (sym c.is_candidate.ensures
    ∙ c.if-is_candidate.false)
