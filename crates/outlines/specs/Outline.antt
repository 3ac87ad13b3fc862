-- Document 02, "7/13 Pieces drawn as one outline". What stands in quotation marks is its text.
use Rattle.std.specs.Prelude.{Bool, true, false, not, cond, ◌&&◌, ◌||◌, List, [], ◌∷◌, ◌++◌, ℕ, zero, suc, ◌-◌, ◌/◌, ◌%◌, eqb, ℤ, pos, negsuc, ◌+ℤ◌, ◌-ℤ◌, ◌*ℤ◌, length}
use Rattle.std.proofs.Math.Option.{Option, none, some}
use Rattle.std.specs.Int.Signed.{le_z, lt_z}
use Rattle.model.specs.Content.{Vertex, vertex}
use Rattle.model.specs.Format.{vertices, vertex_in_range}
use Rattle.model.specs.Geometry.{cross, strictly_left, along_edge}
use Rattle.model.specs.Lists.{all, between}

-- ---- going round

-- The last of the corners a, b, .. In an outline it is the one before the first.
abbrev pub last_of : Vertex → List Vertex → Vertex
last_of a [] = a
last_of a (b ∷ bs) = last_of b bs

-- The corners a, b, .. but the last.
abbrev pub but_last : Vertex → List Vertex → List Vertex
but_last a [] = []
but_last a (b ∷ bs) = a ∷ but_last b bs

-- The first of the corners, or d where there is none.
abbrev pub first_or : Vertex → List Vertex → Vertex
first_or d [] = d
first_or d (a ∷ bs) = a

-- The sum of F over the edges of the path a, b, .., for any number F of an edge.
abbrev pub path_sum : (Vertex → Vertex → ℤ) → Vertex → List Vertex → ℤ
path_sum F a [] = pos 0
path_sum F a (b ∷ bs) = F a b +ℤ path_sum F b bs

-- The sum of F over the edges of an outline: those of the path, and the one from the last corner to the first.
abbrev pub edge_sum : (Vertex → Vertex → ℤ) → List Vertex → ℤ
edge_sum F [] = pos 0
edge_sum F (a ∷ bs) = path_sum F a bs +ℤ F (last_of a bs) a

-- What the edge from a to b adds to the doubled area: twice the triangle of a, b and the origin, with its sign.
unfoldable pub det : Vertex → Vertex → ℤ
det a b = a.x *ℤ b.y -ℤ a.y *ℤ b.x

-- The "doubled area" of an outline, positive if it is drawn "anticlockwise".
unfoldable pub doubled_area : List Vertex → ℤ
doubled_area P = edge_sum det P

-- ---- the cutting

-- "Numbers stay with their corners": the corners that remain stand in the order of their numbers, so "the lowest numbered" is the first of the list. A corner in its
-- place: the outline is before ++ corner ∷ after, and the other corners, as they follow this one, are after ++ before. The first of
-- them is its successor, the last its predecessor.
pub record Place : Type 0 where
  pub before : List Vertex
  pub corner : Vertex
  pub after : List Vertex

abbrev pub place : List Vertex → Vertex → List Vertex → Place
place b c a = record { before = b; corner = c; after = a }

-- "the lowest numbered if several": the first corner of before ++ after that passes the test, where those of before are passed over. The test is given the
-- corner and the others as they follow it.
unfoldable pub first_where : (Vertex → List Vertex → Bool) → List Vertex → List Vertex → Option Place
first_where test before [] = none
first_where test before (c ∷ after) =
    elim (test c (after ++ before)) [
      | true ↦ some (place before c after)
      | false ↦ first_where test (before ++ c ∷ []) after
    ]

-- The number is 0.
unfoldable pub is_zero : ℤ → Bool
is_zero (pos zero) = true
is_zero (pos (suc n)) = false
is_zero (negsuc n) = false

-- "A corner in line with its neighbours": c, with the successor s; the last of the others is the predecessor.
unfoldable pub in_line : Vertex → List Vertex → Bool
in_line c [] = false
in_line c (s ∷ others) = is_zero (cross (last_of s others) c s)

-- The triangle p, c, s, a left turn, "border included, holds" v.
unfoldable pub holds : Vertex → Vertex → Vertex → Vertex → Bool
holds p c s v = le_z (pos 0) (cross p c v) && le_z (pos 0) (cross c s v) && le_z (pos 0) (cross s p v)

-- A "left turn .. whose triangle, border included, holds no other remaining corner": c, with the successor s; the last of the others
-- is the predecessor.
unfoldable pub is_ear : Vertex → List Vertex → Bool
is_ear c [] = false
is_ear c (s ∷ []) = false
is_ear c (s ∷ m ∷ others) =
    strictly_left (last_of m others) c s && all (λ v. not (holds (last_of m others) c s v)) (but_last m others)

-- "each starting at the corner cut off and going on to its successor", "third corner is the predecessor of the one cut off".
pub record Triangle : Type 0 where
  pub corner : Vertex
  pub successor : Vertex
  pub predecessor : Vertex

abbrev pub triangle : Vertex → Vertex → Vertex → Triangle
triangle c s p = record { corner = c; successor = s; predecessor = p }

-- The triangle of a corner in its place.
unfoldable pub triangle_at : Place → Triangle
triangle_at f = triangle f.corner (first_or f.corner (f.after ++ f.before)) (last_of f.corner (f.after ++ f.before))

-- "the rest, which has one corner fewer"
unfoldable pub rest : Place → List Vertex
rest f = f.before ++ f.after

-- A triangle before those of the rest.
unfoldable pub onto : Triangle → Option (List Triangle) → Option (List Triangle)
onto t none = none
onto t (some ts) = some (t ∷ ts)

-- The triangles of n steps "in the order they are cut off"; none if at some step no corner can go. "A corner in line with its
-- neighbours is dropped first, the lowest numbered if several. Otherwise the lowest-numbered left turn is cut off whose triangle,
-- border included, holds no other remaining corner."
unfoldable pub cutting : ℕ → List Vertex → Option (List Triangle)
cutting zero P = some []
cutting (suc n) P =
    elim (first_where in_line [] P) [
      | some f ↦ cutting n (rest f)
      | none ↦
          elim (first_where is_ear [] P) [
            | some f ↦ onto (triangle_at f) (cutting n (rest f))
            | none ↦ none
          ]
    ]

-- ".. is cut likewise until two corners remain"
unfoldable pub triangles : List Vertex → Option (List Triangle)
triangles P = cutting (length P - 2) P

-- A triangle's "doubled" area.
unfoldable pub triangle_area : Triangle → ℤ
triangle_area t = cross t.corner t.successor t.predecessor

-- "The triangles' doubled areas sum": their sum.
unfoldable pub area_sum : List Triangle → ℤ
area_sum [] = pos 0
area_sum (t ∷ ts) = triangle_area t +ℤ area_sum ts

-- ---- points

-- The corner times d. A "point with fractional coordinates" (x / d, y / d), d a positive whole number, lies to an outline as (x, y) lies to the outline times d.
unfoldable pub times : ℤ → Vertex → Vertex
times d a = vertex (d *ℤ a.x) (d *ℤ a.y)

-- The edge from a to b and the "ray towards larger x" from q: "rising edges counted plus one and falling edges minus one; an edge counts
-- its lower end and not its upper".
unfoldable pub crossing : Vertex → Vertex → Vertex → ℤ
crossing q a b =
    cond (le_z a.y q.y && lt_z q.y b.y && strictly_left a b q) (pos 1)
    (cond (le_z b.y q.y && lt_z q.y a.y && strictly_left b a q) (negsuc 0)
    (pos 0))

-- "the crossings of a ray towards larger x with the outline", the ray from (q.x / d, q.y / d)
unfoldable pub crossings : ℤ → Vertex → List Vertex → ℤ
crossings d q P = edge_sum (λ a b. crossing q (times d a) (times d b)) P

-- "triangles around it": the point (q.x / d, q.y / d) lies strictly inside the triangle, whose corners go round anticlockwise.
unfoldable pub is_around : ℤ → Vertex → Triangle → Bool
is_around d q t =
    strictly_left (times d t.corner) (times d t.successor) q
    && strictly_left (times d t.successor) (times d t.predecessor) q
    && strictly_left (times d t.predecessor) (times d t.corner) q

-- The point (q.x / d, q.y / d) is on the line through a and b, two corners that differ.
unfoldable pub on_line : ℤ → Vertex → Vertex → Vertex → Bool
on_line d q a b = is_zero (cross (times d a) (times d b) q)

-- The point (q.x / d, q.y / d) is "on none of the lines through triangle edges", of one triangle.
unfoldable pub off_lines : ℤ → Vertex → Triangle → Bool
off_lines d q t =
    not (on_line d q t.corner t.successor)
    && not (on_line d q t.successor t.predecessor)
    && not (on_line d q t.predecessor t.corner)

-- ---- the refusal

-- u and t lie strictly on one side of the line through a and b.
unfoldable pub same_side : Vertex → Vertex → Vertex → Vertex → Bool
same_side a b u t = strictly_left a b u && strictly_left a b t || strictly_left b a u && strictly_left b a t

-- The first two numbers are less than the other two.
unfoldable pub less_than : ℤ → ℤ → ℤ → ℤ → Bool
less_than a b u t = lt_z a u && lt_z a t && lt_z b u && lt_z b t

-- The edges a b and u t have a point in common, ends included: neither lies on one side of the other's line, nor are they apart in x or in y.
unfoldable pub meet : Vertex → Vertex → Vertex → Vertex → Bool
meet a b u t =
    not (same_side a b u t || same_side u t a b
    || less_than a.x b.x u.x t.x || less_than u.x t.x a.x b.x
    || less_than a.y b.y u.y t.y || less_than u.y t.y a.y b.y)

-- The edges p c and c s of neighbours meet elsewhere than "at the corner shared by neighbours", c: they lie in one line, on one side of c. An edge of no length is counted here too. That
-- refuses nothing more: then two other edges meet as well, or the area is 0.
unfoldable pub doubles_back : Vertex → Vertex → Vertex → Bool
doubles_back p c s = is_zero (cross p c s) && le_z (pos 0) (along_edge c p s)

-- The edge c s meets an edge of the path u, t, ..
unfoldable pub meets_path : Vertex → Vertex → List Vertex → Bool
meets_path c s [] = false
meets_path c s (u ∷ []) = false
meets_path c s (u ∷ t ∷ path) = meet c s u t || meets_path c s (t ∷ path)

-- The edge from c to its successor s meets the edge before it not in c alone, or an edge that is no neighbour of it.
unfoldable pub edge_meets : Vertex → List Vertex → Bool
edge_meets c [] = false
edge_meets c (s ∷ others) = doubles_back (last_of s others) c s || meets_path c s others

-- "two edges meeting anywhere but at the corner shared by neighbours"
unfoldable pub edges_meet : List Vertex → Bool
edges_meet P = elim (first_where edge_meets [] P) [ none ↦ false | some f ↦ true ]

-- "3 to 8 corners anticlockwise, x and y as signed bytes": the outline in the bytes.
unfoldable pub outline_in : List ℕ → List Vertex
outline_in s = vertices (length s / 2) s

-- "corner count out of range"
unfoldable pub count_unfit : List ℕ → Bool
count_unfit s = not (between 3 8 (length s / 2))

-- "an odd byte left over"
unfoldable pub odd_byte : List ℕ → Bool
odd_byte s = not (eqb (length s % 2) 0)

-- "a coordinate of -128"
unfoldable pub out_of_range : List Vertex → Bool
out_of_range P = not (all vertex_in_range P)

-- "doubled area not positive"
unfoldable pub area_unfit : List Vertex → Bool
area_unfit P = le_z (doubled_area P) (pos 0)

-- "14 ..: corner count out of range or an odd byte left over, a coordinate of -128, doubled area not positive, or two edges meeting
-- anywhere but at the corner shared by neighbours."
unfoldable pub cause14 : List ℕ → Bool
cause14 s = count_unfit s || odd_byte s || out_of_range (outline_in s) || area_unfit (outline_in s) || edges_meet (outline_in s)
