-- Outlines that are cut and outlines that are refused: tables of questions to the definitions and the service of request 7/13, each with the answer that its
-- text asks for.
use Rattle.std.specs.Prelude.{Bool, true, false, List, [], ◌∷◌, ◌++◌, ℕ, ℤ, pos, negsuc, replicate, Result, Ok, Err}
use Rattle.words.specs.Number.{bytes_of}
use Rattle.model.specs.Boards.{numbers_of}
use Rattle.model.specs.Content.{Vertex, vertex}
use Rattle.model.specs.Lists.{count_of, rising, below}
use Rattle.model.specs.Services.{WriteOutcome}
use Rattle.model.specs.declared.Refusal.{Refusal}
use Rattle.model.specs.declared.Refusal.TheVariants as R
use Rattle.outlines.specs.Outline.{outline_in, area_unfit, edges_meet, cause14, crossings, is_around}
use Rattle.outlines.specs.Service.{cut, triangles_of}

-- ---- Questions and answers

-- Of an outline in its bytes: whether its doubled area is not positive; whether two of its edges meet where they must not; whether it gives cause for 14; from the point (x / d, y / d), the crossings of the ray and
-- the triangles around it; what the service says and leaves, lent so many answer numbers that are each 7, or lent these bytes.
pub data Question : Type 0 where
  shrinks : List ℕ → Question
  meets : List ℕ → Question
  refuses : List ℕ → Question
  looks : ℤ → Vertex → List ℕ → Question
  cuts : List ℕ → ℕ → Question
  fills : List ℕ → List ℕ → Question

-- Whether it is so; the crossings and the triangles; what the service says, and the numbers or the bytes that it leaves.
pub data Answer : Type 0 where
  is_so : Bool → Answer
  sees : ℤ → ℕ → Answer
  shows : Result ℕ Refusal → List ℕ → Answer

-- A question, and the answer that the request asks for.
pub record Row : Type 0 where
  pub question : Question
  pub expected : Answer

-- A question with its answer.
abbrev pub ◌⇒◌ : Question → Answer → Row
q ⇒ a = record { question = q; expected = a }

infix 4 ◌⇒◌
-- The numbers that the service leaves.
unfoldable pub told : WriteOutcome → Answer
told r = shows r.answer (numbers_of r.buffer)

-- The bytes that the service leaves.
unfoldable pub left : WriteOutcome → Answer
left r = shows r.answer r.buffer

-- So many numbers as they were lent.
unfoldable pub sevens : ℕ → List ℕ
sevens n = replicate n 7

-- The definitions' answer.
unfoldable pub answer_to : Question → Answer
answer_to (shrinks s) = is_so (area_unfit (outline_in s))
answer_to (meets s) = is_so (edges_meet (outline_in s))
answer_to (refuses s) = is_so (cause14 s)
answer_to (looks d q s) = sees (crossings d q (outline_in s)) (count_of (is_around d q) (triangles_of (outline_in s)))
answer_to (cuts s n) = told (cut s (bytes_of 2 (sevens n)))
answer_to (fills s out) = left (cut s out)

-- ---- Outlines

-- A triangle, already cut.
unfoldable pub three_corners : List ℕ
three_corners = 0 ∷ 0 ∷ 3 ∷ 0 ∷ 1 ∷ 2 ∷ []

-- A square.
unfoldable pub square : List ℕ
square = 0 ∷ 0 ∷ 2 ∷ 0 ∷ 2 ∷ 2 ∷ 0 ∷ 2 ∷ []

-- The same square with a corner in the middle of two sides.
unfoldable pub straight : List ℕ
straight = 0 ∷ 0 ∷ 1 ∷ 0 ∷ 2 ∷ 0 ∷ 2 ∷ 2 ∷ 1 ∷ 2 ∷ 0 ∷ 2 ∷ []

-- The first corner is a left turn, and the third lies on the border of its triangle.
unfoldable pub on_border : List ℕ
on_border = 4 ∷ 0 ∷ 4 ∷ 4 ∷ 2 ∷ 2 ∷ 0 ∷ 3 ∷ 0 ∷ 0 ∷ []

-- A notch whose tip lies inside the triangles of the first two corners.
unfoldable pub notch : List ℕ
notch = 0 ∷ 0 ∷ 6 ∷ 0 ∷ 6 ∷ 6 ∷ 3 ∷ 1 ∷ 0 ∷ 6 ∷ []

-- Eight corners, some coordinates negative.
unfoldable pub hook : List ℕ
hook = 253 ∷ 254 ∷ 3 ∷ 254 ∷ 3 ∷ 3 ∷ 255 ∷ 3 ∷ 255 ∷ 1 ∷ 1 ∷ 1 ∷ 1 ∷ 0 ∷ 253 ∷ 0 ∷ []

-- The largest square there is.
unfoldable pub largest : List ℕ
largest = 127 ∷ 129 ∷ 127 ∷ 127 ∷ 129 ∷ 127 ∷ 129 ∷ 129 ∷ []

-- A square on its corner: (2,0), (0,2), (-2,0), (0,-2).
unfoldable pub diamond : List ℕ
diamond = 2 ∷ 0 ∷ 0 ∷ 2 ∷ 254 ∷ 0 ∷ 0 ∷ 254 ∷ []

-- The square, clockwise.
unfoldable pub clockwise : List ℕ
clockwise = 0 ∷ 0 ∷ 0 ∷ 2 ∷ 2 ∷ 2 ∷ 2 ∷ 0 ∷ []

-- An edge crosses another between their ends; the doubled area is 6.
unfoldable pub crossed : List ℕ
crossed = 0 ∷ 0 ∷ 6 ∷ 0 ∷ 6 ∷ 6 ∷ 4 ∷ 255 ∷ []

-- A corner lies on another edge, between its ends; nothing crosses.
unfoldable pub touching : List ℕ
touching = 0 ∷ 0 ∷ 4 ∷ 0 ∷ 4 ∷ 4 ∷ 2 ∷ 0 ∷ 0 ∷ 4 ∷ []

-- Two corners lie on one spot; nothing crosses.
unfoldable pub pinched : List ℕ
pinched = 0 ∷ 0 ∷ 2 ∷ 2 ∷ 4 ∷ 0 ∷ 4 ∷ 4 ∷ 2 ∷ 2 ∷ 0 ∷ 4 ∷ []

-- An edge doubles back on the one before it.
unfoldable pub doubled : List ℕ
doubled = 0 ∷ 0 ∷ 4 ∷ 0 ∷ 2 ∷ 0 ∷ 2 ∷ 2 ∷ []

-- Three corners in line.
unfoldable pub flat : List ℕ
flat = 0 ∷ 0 ∷ 4 ∷ 0 ∷ 2 ∷ 0 ∷ []

-- ---- The tables

-- "doubled area not positive". (By these definitions an outline of area 0 has edges that meet.)
unfoldable pub area_rows : List Row
area_rows =
    (shrinks square ⇒ is_so false)
    ∷ (shrinks (0 ∷ 0 ∷ 1 ∷ 0 ∷ 0 ∷ 1 ∷ []) ⇒ is_so false)
    ∷ (shrinks flat ⇒ is_so true)
    ∷ (shrinks clockwise ⇒ is_so true)
    ∷ []

-- "two edges meeting anywhere but at the corner shared by neighbours". Of three corners all edges are neighbours: in line, two of them share more than their corner. (Such a triangle's area is
-- 0; of more corners, an edge that doubles back meets a third edge too.)
unfoldable pub edge_rows : List Row
edge_rows =
    (meets three_corners ⇒ is_so false)
    ∷ (meets square ⇒ is_so false)
    ∷ (meets straight ⇒ is_so false)
    ∷ (meets hook ⇒ is_so false)
    ∷ (meets clockwise ⇒ is_so false)
    ∷ (meets crossed ⇒ is_so true)
    ∷ (meets touching ⇒ is_so true)
    ∷ (meets pinched ⇒ is_so true)
    ∷ (meets doubled ⇒ is_so true)
    ∷ (meets flat ⇒ is_so true)
    ∷ (meets (0 ∷ 0 ∷ 0 ∷ 0 ∷ 2 ∷ 2 ∷ []) ⇒ is_so true)
    ∷ []

-- "14 ..: corner count out of range or an odd byte left over, a coordinate of -128, doubled area not positive, or two edges meeting": one row or more of each cause.
unfoldable pub refusal_rows : List Row
refusal_rows =
    (refuses three_corners ⇒ is_so false)
    ∷ (refuses square ⇒ is_so false)
    ∷ (refuses straight ⇒ is_so false)
    ∷ (refuses on_border ⇒ is_so false)
    ∷ (refuses notch ⇒ is_so false)
    ∷ (refuses hook ⇒ is_so false)
    ∷ (refuses largest ⇒ is_so false)
    -- no corner, two corners, nine corners
    ∷ (refuses [] ⇒ is_so true)
    ∷ (refuses (0 ∷ 0 ∷ 2 ∷ 0 ∷ []) ⇒ is_so true)
    ∷ (refuses (0 ∷ 0 ∷ 1 ∷ 0 ∷ 2 ∷ 0 ∷ 3 ∷ 0 ∷ 3 ∷ 1 ∷ 3 ∷ 2 ∷ 2 ∷ 2 ∷ 1 ∷ 2 ∷ 0 ∷ 2 ∷ []) ⇒ is_so true)
    -- an odd byte behind four corners, and behind eight
    ∷ (refuses (square ++ (0 ∷ [])) ⇒ is_so true)
    ∷ (refuses (hook ++ (0 ∷ [])) ⇒ is_so true)
    -- -128 as an x, and as a y; -127 is accepted
    ∷ (refuses (128 ∷ 0 ∷ 2 ∷ 0 ∷ 2 ∷ 2 ∷ 0 ∷ 2 ∷ []) ⇒ is_so true)
    ∷ (refuses (0 ∷ 128 ∷ 2 ∷ 0 ∷ 2 ∷ 2 ∷ 0 ∷ 2 ∷ []) ⇒ is_so true)
    ∷ (refuses (129 ∷ 0 ∷ 2 ∷ 0 ∷ 2 ∷ 2 ∷ 0 ∷ 2 ∷ []) ⇒ is_so false)
    -- a negative area, and area 0
    ∷ (refuses clockwise ⇒ is_so true)
    ∷ (refuses flat ⇒ is_so true)
    -- edges that meet: crossing, a corner on another edge, a corner twice, doubling back
    ∷ (refuses crossed ⇒ is_so true)
    ∷ (refuses touching ⇒ is_so true)
    ∷ (refuses pinched ⇒ is_so true)
    ∷ (refuses doubled ⇒ is_so true)
    ∷ []

-- "rising edges counted plus one and falling edges minus one; an edge counts its lower end and not its upper"
unfoldable pub ray_rows : List Row
ray_rows =
    -- inside, to the left, to the right
    (looks (pos 2) (vertex (pos 1) (pos 1)) square ⇒ sees (pos 1) 1)
    ∷ (looks (pos 2) (vertex (negsuc 0) (pos 1)) square ⇒ sees (pos 0) 0)
    ∷ (looks (pos 2) (vertex (pos 5) (pos 1)) square ⇒ sees (pos 0) 0)
    -- at the height of the topmost corner, of the lowest, and of two corners between
    ∷ (looks (pos 1) (vertex (negsuc 2) (pos 2)) diamond ⇒ sees (pos 0) 0)
    ∷ (looks (pos 1) (vertex (negsuc 2) (negsuc 1)) diamond ⇒ sees (pos 0) 0)
    ∷ (looks (pos 2) (vertex (negsuc 0) (pos 0)) diamond ⇒ sees (pos 1) 1)
    ∷ (looks (pos 1) (vertex (negsuc 2) (pos 0)) diamond ⇒ sees (pos 0) 0)
    -- between the arms of the notch, and in an arm
    ∷ (looks (pos 1) (vertex (pos 3) (pos 4)) notch ⇒ sees (pos 0) 0)
    ∷ (looks (pos 3) (vertex (pos 1) (pos 10)) notch ⇒ sees (pos 1) 1)
    ∷ []

-- "14, before 9". Document 01: "A refusal .. changes no buffer".
unfoldable pub refused_rows : List Row
refused_rows =
    (cuts clockwise 36 ⇒ shows (Err R.Outline) (sevens 36))
    ∷ (cuts clockwise 35 ⇒ shows (Err R.Outline) (sevens 35))
    ∷ (cuts [] 0 ⇒ shows (Err R.Outline) [])
    ∷ []

-- "The service needs 36 answer numbers .., else 9"; "an incomplete last one does not count".
unfoldable pub short_rows : List Row
short_rows =
    (cuts square 35 ⇒ shows (Err R.Answer) (sevens 35))
    ∷ (fills three_corners (below 71) ⇒ shows (Err R.Answer) (below 71))
    ∷ []

-- The triangles "in the order they are cut off, and their number, each starting at the corner cut off and going on to its successor"; "those past the triangles given stay unchanged".
unfoldable pub square_rows : List Row
square_rows =
    (cuts three_corners 36 ⇒ shows (Ok 1) ((0 ∷ 0 ∷ 3 ∷ 0 ∷ 1 ∷ 2 ∷ []) ++ sevens 30))
    ∷ (cuts square 36 ⇒ shows (Ok 2) ((0 ∷ 0 ∷ 2 ∷ 0 ∷ 0 ∷ 2 ∷ []) ++ (2 ∷ 0 ∷ 2 ∷ 2 ∷ 0 ∷ 2 ∷ []) ++ sevens 24))
    ∷ []

-- "A corner in line with its neighbours is dropped first": it gives no triangle.
unfoldable pub straight_rows : List Row
straight_rows =
    (cuts straight 36 ⇒ shows (Ok 2) ((0 ∷ 0 ∷ 2 ∷ 0 ∷ 0 ∷ 2 ∷ []) ++ (2 ∷ 0 ∷ 2 ∷ 2 ∷ 0 ∷ 2 ∷ []) ++ sevens 24))
    ∷ []

-- "the lowest-numbered left turn is cut off whose triangle, border included, holds no other remaining corner": of the first the second corner, of the second the third.
unfoldable pub hollow_rows : List Row
hollow_rows =
    (cuts on_border 36 ⇒ shows (Ok 3) ((4 ∷ 4 ∷ 2 ∷ 2 ∷ 4 ∷ 0 ∷ []) ++ (4 ∷ 0 ∷ 2 ∷ 2 ∷ 0 ∷ 0 ∷ []) ++ (2 ∷ 2 ∷ 0 ∷ 3 ∷ 0 ∷ 0 ∷ []) ++ sevens 18))
    ∷ (cuts notch 36 ⇒ shows (Ok 3) ((6 ∷ 6 ∷ 3 ∷ 1 ∷ 6 ∷ 0 ∷ []) ++ (6 ∷ 0 ∷ 3 ∷ 1 ∷ 0 ∷ 0 ∷ []) ++ (0 ∷ 0 ∷ 3 ∷ 1 ∷ 0 ∷ 6 ∷ []) ++ sevens 18))
    ∷ []

-- "a negative one written as 65,536 plus it"
unfoldable pub negative_rows : List Row
negative_rows =
    (cuts largest 36
    ⇒ shows (Ok 2) ((127 ∷ 65409 ∷ 127 ∷ 127 ∷ 65409 ∷ 65409 ∷ []) ++ (127 ∷ 127 ∷ 65409 ∷ 127 ∷ 65409 ∷ 65409 ∷ []) ++ sevens 24))
    ∷ (cuts hook 37
    ⇒ shows (Ok 6)
    ((65533 ∷ 65534 ∷ 3 ∷ 65534 ∷ 65533 ∷ 0 ∷ [])
    ++ (65535 ∷ 3 ∷ 65535 ∷ 1 ∷ 3 ∷ 3 ∷ [])
    ++ (65535 ∷ 1 ∷ 1 ∷ 1 ∷ 3 ∷ 3 ∷ [])
    ++ (3 ∷ 3 ∷ 1 ∷ 1 ∷ 3 ∷ 65534 ∷ [])
    ++ (1 ∷ 1 ∷ 1 ∷ 0 ∷ 3 ∷ 65534 ∷ [])
    ++ (3 ∷ 65534 ∷ 1 ∷ 0 ∷ 65533 ∷ 0 ∷ [])
    ++ sevens 1))
    ∷ []

-- The bytes: the numbers, low byte first, and every byte behind them as it was.
unfoldable pub byte_rows : List Row
byte_rows =
    (fills three_corners (below 75) ⇒ shows (Ok 1) ((0 ∷ 0 ∷ 0 ∷ 0 ∷ 3 ∷ 0 ∷ 0 ∷ 0 ∷ 1 ∷ 0 ∷ 2 ∷ 0 ∷ []) ++ rising 12 63))
    ∷ []
