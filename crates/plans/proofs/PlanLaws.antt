-- What the plan of a run says of the job: its bounds, and the ends of the candidates.
use mathlib.Core.Bool.{true}
use mathlib.Core.List.{List}
use mathlib.Core.Path.{◌≡◌, sym, ◌∙◌}
use Prim.Native.Nat.{ℕ, ◌*◌, ◌/◌, ◌%◌, ◌≤◌, ◌<◌}
use native.Mathlib.Omega.{arith}
use lib.IntN.{pos, ◌+ℤ◌}
use lib.ListN.{get_or}
use Rattle.model.specs.Candidate.{is_candidate, natural}
use Rattle.model.specs.Content.{kind_count}
use Rattle.model.specs.Format.{content}
use Rattle.model.specs.Grid.{placement_of, rows}
use Rattle.model.specs.Layout.{entry_of, entry_kind, entry_extent}
use Rattle.model.specs.Problem.{Problem}
use Rattle.model.proofs.Accepted.{accepted-kinds}
use Rattle.model.proofs.Numbers.{rows-positive}
use Rattle.model.proofs.Search.Pieces.{entry-kind}
use Rattle.job.specs.View.{Viewed}
use Rattle.shapes.proofs.ViewLaws.{kind-in}
use Rattle.candidates.specs.Placements.{extent_at}
use Rattle.candidates.specs.Conflicts.{placed_of, Near}
use Rattle.candidates.proofs.PreparedLaws.{bounded, extent-is, number-near, candidate-number}
use Rattle.stepping.proofs.Extents.{candidate-entry}
use Rattle.stepping.proofs.Limits.{few_words}
use Rattle.plans.specs.Planned.{no_kind, PlanOf, planned}
use Rattle.plans.specs.declared.plan.Plan.{Plan}

-- A candidate is one of a kind that exists.
pub candidate-kind : (j : Problem) (u m : ℕ) → is_candidate j u m ≡ true → u < kind_count j.kinds
unfolding entry_of
candidate-kind j u m e = entry-kind j (entry_of j u m) (candidate-entry j u m ∙ e)

module _ (s : List ℕ) (p : Plan) (o : PlanOf s p) where
  -- The view that it was taken from is that of the job.
  pub plan-viewed : Viewed s o.view
  plan-viewed = record { accepted = o.accepted; view = o.viewed }

  -- Its rows are those of the board, which has one.
  pub plan-rows : p.rows ≡ rows (content s).sheet
  plan-rows = o.rows ∙ o.viewed.rows

  pub some-row : 1 ≤ p.rows
  some-row = omega (arith, plan-rows, rows-positive (content s).sheet)

  -- There are eight kinds at most, and a set has 64 words at most.
  pub kinds-few : kind_count (content s).kinds ≤ 8
  kinds-few = (accepted-kinds s o.accepted).few-kinds

  pub words-few : p.words ≤ 64
  words-few = omega (arith, o.words, few_words s o.accepted)

  -- A gap is small.
  pub gap-small : (t : ℕ) → t < kind_count (content s).kinds → (get_or p.kind t no_kind).gap ≤ 63
  gap-small t h =
      rw ((o.kind t h).gap ∙ sym (kind-in s o.view plan-viewed t h).gap) ((bounded s o.view plan-viewed).gaps t (omega (arith, o.viewed.kinds)))

  module _ (u m : ℕ) (c : is_candidate (planned s p) u m ≡ true) where
    -- A candidate stands near.
    pub near : Near p.step (placed_of p.rows m)
    near = rw (o.step, o.rows) (number-near s o.view plan-viewed m (candidate-number (planned s p) u m c))

    -- Its end, by the end of its kind on the first column.
    pub end_is : natural (get_or (get_or p.kind u no_kind).ends (m % 4) (pos 0) +ℤ pos (m / 4 / p.rows * p.step)) ≡ entry_extent (planned s p) (entry_of (planned s p) u m)
    unfolding entry_extent entry_kind entry_of placement_of extent_at
    end_is =
        let h : u < kind_count (content s).kinds = candidate-kind (planned s p) u m c in
        rw ((o.kind u h).ends (m % 4) (omega arith), o.rows, o.step, o.viewed.rows)
        (extent-is s o.view o.boxes plan-viewed o.boxed u h (m / 4 / rows (content s).sheet) (m / 4 % rows (content s).sheet) (m % 4) (omega arith))
