-- What a row of conflicts is computed from.
use Rattle.std.specs.Prelude.{true, ◌≡◌, ℕ, ◌<◌}
use Rattle.model.specs.Candidate.{is_candidate}
use Rattle.model.specs.Content.{kind_at, kind_count}
use Rattle.model.specs.Format.{content}
use Rattle.model.specs.Gap.{pair_gap}
use Rattle.geometry.specs.declared.pieces.Piece.{Piece}
use Rattle.shapes.specs.Pieces.{PieceOf}
use Rattle.candidates.specs.Conflicts.{placed_of}
use Rattle.candidates.specs.Prepared.{problem_in}
use Rattle.candidates.specs.declared.conflicts.Placed.{Placed}
use Rattle.candidates.specs.declared.prepared.PreparedJob.{PreparedJob}

-- The candidate of kind t and number n and the kind u exist; these are the pieces of t and u, the candidate's place,
-- and the pair's gap.
pub record RowOf (j : PreparedJob) (t n u : ℕ) (p : Piece) (a : Placed) (q : Piece) (gap : ℕ) : Type 0 where
  pub kind : t < kind_count (content j.job.now).kinds
  pub other : u < kind_count (content j.job.now).kinds
  pub candidate : is_candidate (problem_in j) t n ≡ true
  pub first : PieceOf j.job.now t p
  pub place : a ≡ placed_of j.view.rows n
  pub second : PieceOf j.job.now u q
  pub apart : gap ≡ pair_gap (content j.job.now).classes (kind_at (content j.job.now).kinds t) (kind_at (content
      j.job.now).kinds u)
