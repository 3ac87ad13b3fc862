-- The cut service of request 7/13: what it answers, and what it leaves in the answer.
use Rattle.std.specs.Prelude.{true, false, List, [], map, ◌++◌, ℕ, ltb, length, Ok, Err}
use Rattle.std.proofs.Math.Option.{Option, none, some}
use Rattle.model.specs.Lists.{concat}
use Rattle.model.specs.Services.{vertex_numbers, numbers_in, with_numbers, WriteOutcome, write_outcome}
use Rattle.model.specs.declared.Refusal.TheVariants as R
use Rattle.model.specs.Content.{Vertex}
use Rattle.outlines.specs.Outline.{Triangle, triangles, outline_in, cause14}

-- The triangles that were cut off. (None where the cutting got stuck. "Every outline without cause for 14 is cut": `cut` of Theorems.)
unfoldable pub listed : Option (List Triangle) → List Triangle
listed none = []
listed (some ts) = ts

-- The triangles of an outline.
abbrev pub triangles_of : List Vertex → List Triangle
triangles_of P = listed (triangles P)

-- "six for each triangle (x and y of each corner, a negative one written as 65,536 plus it)": the corner cut off, its successor, its
-- predecessor.
unfoldable pub triangle_numbers : Triangle → List ℕ
triangle_numbers t = vertex_numbers t.corner ++ vertex_numbers t.successor ++ vertex_numbers t.predecessor

-- The numbers of all triangles, "in the order they are cut off".
unfoldable pub triangles_numbers : List Triangle → List ℕ
triangles_numbers ts = concat (map triangle_numbers ts)

-- The cut service. "14, before 9"; "The service needs 36 answer numbers .., else 9; those past the triangles given stay unchanged." It "gives at
-- most 6 triangles .., and their number".
unfoldable pub cut : List ℕ → List ℕ → WriteOutcome
cut s out =
    elim (cause14 s) [
      | true ↦ write_outcome (Err R.Outline) out
      | false ↦
          elim (ltb (numbers_in out) 36) [
            | true ↦ write_outcome (Err R.Answer) out
            | false ↦ write_outcome (Ok (length (triangles_of (outline_in s)))) (with_numbers (triangles_numbers (triangles_of (outline_in s))) out)
          ]
    ]
