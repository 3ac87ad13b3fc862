-- Two pieces on their dots, and their conflict, as the code computes it. The laws say that it is the model's `conflict`.
use Rattle.std.specs.Prelude.{Bool, cond, List, map, ℕ, ◌*◌, ◌/◌, ◌%◌, ◌≤◌, ◌<◌, max, ℤ, pos, ◌-ℤ◌}
use Rattle.model.specs.Geometry.{pieces_conflict}
use Rattle.model.specs.Grid.{Placement, placement}
use Rattle.polygons.specs.Flat.{shifted}
use Rattle.job.specs.Gaps.{same_cut}
use Rattle.job.specs.View.{Viewed, gap_of, cut_of}
use Rattle.job.specs.declared.View.{View}
use Rattle.shapes.specs.Boxes.{BoxesOf}
use Rattle.geometry.specs.Pieces.{parts_in}
use Rattle.geometry.specs.declared.pieces.Piece.{Piece}
use Rattle.shapes.specs.Pieces.{turned_to}
use Rattle.shapes.specs.Turned.{TurnedOf}
use Rattle.shapes.specs.declared.boxes.Boxes.{Boxes}
use Rattle.candidates.specs.declared.conflicts.Placed.{Placed}

-- All that is computed once for a call on an accepted job: its view, the turned parts and the boxes.
pub record Prepared (s : List ℕ) (v : View) (table : List ℤ) (b : Boxes) : Type 0 where
  pub viewed : Viewed s v
  pub turned : TurnedOf s table
  pub boxes : BoxesOf s b

-- A place on the dots, by column, row and rotation.
abbrev pub placed : ℕ → ℕ → ℕ → Placed
placed c r k = record { column = c; row = r; rotation = k }

-- The model's placement of a place.
abbrev pub placement_at : Placed → Placement
placement_at a = placement a.column a.row a.rotation

-- The place of this candidate number, on a board of so many rows.
abbrev pub placed_of : ℕ → ℕ → Placed
placed_of rows n = placed (n / 4 / rows) (n / 4 % rows) (n % 4)

-- The place lies within 1000 of the first dot, and its rotation is one of four.
pub record Near (step : ℕ) (a : Placed) : Type 0 where
  pub across : a.column * step ≤ 1000
  pub up : a.row * step ≤ 1000
  pub turn : a.rotation < 4

-- The piece p at the place a is in conflict with the piece q at the place c.
unfoldable pub conflict_between : List ℤ → ℕ → Piece → Placed → Piece → Placed → ℕ → Bool
conflict_between table step p a q c gap =
    pieces_conflict gap (parts_in table (turned_to p a.rotation))
    (map (map (shifted (pos (c.column * step) -ℤ pos (a.column * step)) (pos (c.row * step) -ℤ pos (a.row * step)))) (parts_in table (turned_to q c.rotation)))

-- The gap of a pair of kinds, from the gaps of both and whether they share a common cut.
unfoldable pub gap_between : ℕ → ℕ → Bool → ℕ
gap_between g h shared = cond shared 0 (max g h)

-- The gap of a pair of kinds, by a view.
abbrev pub view_gap : View → ℕ → ℕ → ℕ
view_gap v t u = gap_between (gap_of v t) (gap_of v u) (same_cut (cut_of v t) (cut_of v u))
