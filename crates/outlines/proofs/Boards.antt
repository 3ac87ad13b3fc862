-- The tables of specs/Boards hold of the definitions: every question has the answer that stands beside it. They stand before the theorems, so that a definition that is wrong fails here.
use mathlib.Core.List.{List, map}
use mathlib.Core.Path.{◌≡◌, refl}
use Prim.Native.Nat.{ℕ}
use Rattle.model.specs.Boards.{numbers_of}
use Rattle.outlines.specs.Opened.{opened_outline}
use Rattle.outlines.specs.Boards.{Row, answer_to, told, left, sevens, three_corners, square, straight, on_border, notch, hook, largest, diamond, clockwise, crossed, touching, pinched, doubled, flat, area_rows, edge_rows, refusal_rows, ray_rows, refused_rows, short_rows, square_rows, straight_rows, hollow_rows, negative_rows, byte_rows}

-- Every question of the table has its expected answer.
abbrev pub Hold : List Row → Type 0
Hold table = map (λ r. answer_to r.question) table ≡ map (λ r. r.expected) table

-- Opens the tables and the definitions.
unfoldable opened_boards : ℕ
unfolding opened_outline numbers_of answer_to told left sevens three_corners square straight on_border notch hook largest diamond clockwise crossed touching pinched doubled flat area_rows edge_rows refusal_rows ray_rows refused_rows short_rows square_rows straight_rows hollow_rows negative_rows byte_rows
opened_boards = 0

-- Areas that are positive, and areas that are not.
pub area_rows_lem : Hold area_rows
unfolding opened_boards
area_rows_lem = refl

-- Edges that meet, and edges that do not.
pub edge_rows_lem : Hold edge_rows
unfolding opened_boards
edge_rows_lem = refl

-- Outlines with cause for 14, and without.
pub refusal-rows : Hold refusal_rows
unfolding opened_boards
refusal-rows = refl

-- Triangles of the service: no corner is passed over.
pub square-rows : Hold square_rows
unfolding opened_boards
square-rows = refl

-- Corners in line are dropped.
pub straight-rows : Hold straight_rows
unfolding opened_boards
straight-rows = refl

-- Left turns whose triangle holds another corner are passed over.
pub hollow_rows_lem : Hold hollow_rows
unfolding opened_boards
hollow_rows_lem = refl

-- Crossings of a ray, and the triangles around a point.
pub ray_rows_lem : Hold ray_rows
unfolding opened_boards
ray_rows_lem = refl

-- The service refuses by 14 first.
pub refused-rows : Hold refused_rows
unfolding opened_boards
refused-rows = refl

-- The service refuses by 9 where it is lent fewer than 36 numbers.
pub short-rows : Hold short_rows
unfolding opened_boards
short-rows = refl

-- Negative coordinates.
pub negative_rows_lem : Hold negative_rows
unfolding opened_boards
negative_rows_lem = refl

-- The bytes that the service leaves.
pub byte_rows_lem : Hold byte_rows
unfolding opened_boards
byte_rows_lem = refl
