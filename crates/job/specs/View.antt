-- What a view says of a job's bytes.
use Rattle.std.specs.Prelude.{List, [], ◌≡◌, ℕ, ◌+◌, ◌*◌, ◌≤◌, ◌<◌, length, get_or, drop, Option, None}
use Rattle.model.specs.Content.{Part, Kind, kind_at, kind_count, piece_count}
use Rattle.model.specs.Format.{byte_at, vertices, content, refusal}
use Rattle.model.specs.Gap.{best_class, kind_gap}
use Rattle.model.specs.Grid.{rows, columns}
use Rattle.model.specs.Problem.{Problem, under}
use Rattle.job.specs.Gaps.{class_cut}
use Rattle.job.specs.declared.Kind as J
use Rattle.job.specs.declared.View.{View}

-- The part P stands in the bytes s from byte o on: the number of its corners, then their coordinates.
pub record PartAt (s : List ℕ) (o : ℕ) (P : Part) : Type 0 where
  pub stated : byte_at s o ≡ length P
  pub least : 3 ≤ length P
  pub most : length P ≤ 8
  pub inside : o + 1 + length P * 2 ≤ length s
  pub read : vertices (length P) (drop (o + 1) s) ≡ P

-- What stands past the kinds.
abbrev pub blank : J.Kind
blank = record { demand = 0; rotations = 0; gap = 0; cut = None; parts = 0; part_at = [] }

-- What a view says of kind t: how many pieces are demanded, the turns, the gap, the class of a common cut, how many
-- parts, and where part i begins.
module _ (v : View) (t : ℕ) where
  abbrev pub demand_of : ℕ
  demand_of = (get_or v.kind t blank).demand

  abbrev pub rotations_of : ℕ
  rotations_of = (get_or v.kind t blank).rotations

  abbrev pub gap_of : ℕ
  gap_of = (get_or v.kind t blank).gap

  abbrev pub cut_of : Option ℕ
  cut_of = (get_or v.kind t blank).cut

  abbrev pub parts_of : ℕ
  parts_of = (get_or v.kind t blank).parts

  abbrev pub part_at_of : ℕ → ℕ
  part_at_of i = get_or (get_or v.kind t blank).part_at i 0

-- The view says of kind t what this kind is.
pub record KindIn (s : List ℕ) (v : View) (t : ℕ) (k : Kind) : Type 0 where
  pub demand : demand_of v t ≡ k.demand
  pub rotations : rotations_of v t ≡ k.rotations
  pub gap : gap_of v t ≡ kind_gap (content s).classes k
  pub cut : cut_of v t ≡ class_cut (best_class (content s).classes k)
  pub parts : parts_of v t ≡ length k.parts
  pub few_parts : length k.parts ≤ 6
  pub part : (i : ℕ) → i < length k.parts → PartAt s (part_at_of v t i) (get_or k.parts i [])

-- The view is that of the job's bytes, under a margin that is allowed.
pub record ViewOf (s : List ℕ) (v : View) : Type 0 where
  pub width : v.width ≡ (content s).sheet.W
  pub len : v.length ≡ (content s).sheet.L
  pub step : v.step ≡ (content s).sheet.g
  pub rows : v.rows ≡ rows (content s).sheet
  pub columns : v.columns ≡ columns (content s).sheet
  pub margin : v.margin ≤ 63
  pub kinds : v.kinds ≡ kind_count (content s).kinds
  pub pieces : v.pieces ≡ piece_count (content s).kinds
  pub kind : (t : ℕ) → t < kind_count (content s).kinds → KindIn s v t (kind_at (content s).kinds t)

-- The job is accepted, and this is its view.
pub record Viewed (s : List ℕ) (v : View) : Type 0 where
  pub accepted : refusal s ≡ 0
  pub view : ViewOf s v

-- The problem that a view shows: the job's content under the view's margin.
abbrev pub problem_of : List ℕ → View → Problem
problem_of s v = under v.margin (content s)
