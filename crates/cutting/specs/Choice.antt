-- The corner that goes next, by the numbers of the corners.
use Rattle.std.specs.Prelude.{Bool, not, ◌||◌, List, ℕ, eqb, ℤ, Option, None, Some}
use Rattle.std.proofs.Math.Option as Math
use Rattle.model.specs.Content.{Vertex}
use Rattle.model.specs.Geometry.{vertex_at}
use Rattle.model.specs.Services.{coordinate}
use Rattle.outlines.specs.Outline.{Place, in_line, holds, is_ear}
use Rattle.outlines.specs.Numbered.{others, place_at}

-- Corner k does not stand in the way of cutting off the triangle p, c, s: it is one of its own, or lies outside.
unfoldable pub is_spared : List Vertex → ℕ → ℕ → ℕ → ℕ → Bool
is_spared P p c s k = eqb k c || eqb k p || eqb k s || not (holds (vertex_at P p) (vertex_at P c) (vertex_at P s) (vertex_at P k))

-- Corner i is in line with its neighbours, or an ear.
abbrev pub in_line_at : List Vertex → ℕ → Bool
in_line_at P i = in_line (vertex_at P i) (others P i)

abbrev pub is_ear_at : List Vertex → ℕ → Bool
is_ear_at P i = is_ear (vertex_at P i) (others P i)

-- The corner of the number that was found, in its place.
abbrev pub found : List Vertex → Option ℕ → Math.Option Place
found P None = Math.none
found P (Some i) = Math.some (place_at P i)

-- A coordinate as a number of two bytes.
abbrev pub coordinate_number : ℤ → ℕ
coordinate_number z = coordinate z
