-- The triangles of an outline, one corner at a time, and their numbers in the answer.
use mathlib.Core.List.{List, [], ◌∷◌, ◌++◌, map}
use mathlib.Core.Option.{Option, none, some}
use mathlib.Core.Path.{◌≡◌, refl, sym, ap, ap₂, ◌∙◌}
use Prim.Native.Nat.{ℕ, suc, ◌+◌, ◌-◌, ◌<◌, ◌≤◌}
use native.Mathlib.Omega.{arith}
use lib.IntN.{ℤ, pos, negsuc}
use lib.ListN.{length, length-append}
use mir.Syntax.{w16}
use mir.Val.{of_z}
use Rattle.std.specs.Prelude.{None, Some, IsSome}
use Rattle.std.specs.Prelude as Std
use Rattle.model.specs.Content.{Vertex}
use Rattle.model.specs.Geometry.{vertex_at}
use Rattle.model.specs.Lists.{concat}
use Rattle.model.specs.Services.{coordinate, vertex_numbers}
use Rattle.outlines.specs.Outline.{Place, Triangle, triangle, first_where, in_line, is_ear, triangle_at, rest, onto, cutting, triangles}
use Rattle.outlines.specs.Service.{listed, triangles_of, triangle_numbers, triangles_numbers}
use Rattle.outlines.proofs.Rule.{found as found-place, cut-flat, cut-ear, cut-none, cut-zero, rest-size, some-none}
use Rattle.outlines.specs.Numbered.{place_at}
use Rattle.outlines.proofs.Places.{triangle-at}
use Rattle.writing.specs.Numbers.{with_numbers_at}
use Rattle.writing.proofs.NumberLaws.{numbers_none, numbers_then, length-vertex}
use Rattle.simplicity.specs.Corners.{before, after}
use Rattle.records.proofs.CornerLaws.{following-of}
use Rattle.simplicity.proofs.CornerLaws.{previous-of}
use Rattle.cutting.specs.Choice.{found}

-- ---- The numbers of a triangle

-- The 16 bits of a coordinate are its number.
pub coordinate-bits : (z : ℤ) → of_z w16 z ≡ coordinate z
unfolding coordinate
coordinate-bits (pos n) = refl
coordinate-bits (negsuc n) = omega arith

-- x and y of a corner, one after the other.
pub corner-written : (v : Vertex) (x y at : ℕ) (a u w : List ℕ) → x ≡ coordinate v.x → y ≡ coordinate v.y
    → u ≡ with_numbers_at at (x ∷ []) a → w ≡ with_numbers_at (at + 1) (y ∷ []) u → w ≡ with_numbers_at at
    (vertex_numbers v) a
unfolding vertex_numbers
corner-written v x y at a u w ex ey eu ew =
    numbers_then at (at + 1) (x ∷ []) (y ∷ []) a u w refl eu ew ∙ ap₂ (λ i j. with_numbers_at at (i ∷ j ∷ []) a) ex ey

three_corners_lem : (a b c : Vertex) → (vertex_numbers a ++ vertex_numbers b) ++ vertex_numbers c ≡ triangle_numbers
    (triangle a b c)
unfolding vertex_numbers triangle_numbers
three_corners_lem a b c = refl

-- Three corners, one after the other.
pub triangle-written : (P : List Vertex) (i : ℕ) → i < length P → 2 ≤ length P → (c q p : Vertex) → c ≡ vertex_at P i
    → q ≡ after P i → p ≡ before P i
    → (at : ℕ) (a u v w : List ℕ) → u ≡ with_numbers_at at (vertex_numbers c) a → v ≡ with_numbers_at (at + 2)
    (vertex_numbers q) u
    → w ≡ with_numbers_at (at + 4) (vertex_numbers p) v → w ≡ with_numbers_at at (triangle_numbers
    (triangle_at (place_at P i))) a
triangle-written P i h two c q p ec eq ep at a u v w eu ev ew =
    numbers_then at (at + 4) (vertex_numbers c ++ vertex_numbers q) (vertex_numbers p) a v w
    (omega (arith, length-append (vertex_numbers c) (vertex_numbers q), length-vertex c, length-vertex q))
    (numbers_then at (at + 2) (vertex_numbers c) (vertex_numbers q) a u v (omega (arith, length-vertex c)) eu ev) ew
    ∙ ap (λ ns. with_numbers_at at ns a) (three_corners_lem c q p ∙ ap triangle_numbers (sym corners))
  where
    corners : triangle_at (place_at P i) ≡ triangle c q p
    corners =
        triangle-at P i h two
        ∙ (λ k. triangle (sym ec k) ((ap (vertex_at P) (following-of P i) ∙ sym eq) k)
        ((ap (vertex_at P) (previous-of P i) ∙ sym ep) k))

pub no_triangle : (at : ℕ) (a : List ℕ) → a ≡ with_numbers_at at (triangles_numbers []) a
unfolding triangles_numbers concat
no_triangle at a = sym (numbers_none at a)

length-triangle : (t : Triangle) → length (triangle_numbers t) ≡ 6
unfolding triangle_numbers vertex_numbers
length-triangle t = refl

-- A triangle in front of those of the rest.
pub triangles-written : (t : Triangle) (ts us : List Triangle) → us ≡ t ∷ ts → (at : ℕ) (a u v : List ℕ) → u
    ≡ with_numbers_at at (triangle_numbers t) a
    → v ≡ with_numbers_at (at + 6) (triangles_numbers ts) u → v ≡ with_numbers_at at (triangles_numbers us) a
unfolding triangles_numbers concat
triangles-written t ts us e at a u v eu ev =
    numbers_then at (at + 6) (triangle_numbers t) (concat (map triangle_numbers ts)) a u v
    (omega (arith, length-triangle t)) eu ev
    ∙ ap (λ xs. with_numbers_at at (concat (map triangle_numbers xs)) a) (sym e)

-- ---- The corner that goes

-- The rest of the corners, cut, and what that says of the whole.
pub record Goes (P Q : List Vertex) (more : List Triangle) : Type 0 where
  pub cut : triangles Q ≡ some (triangles_of Q)
  pub whole : triangles_of P ≡ more ++ triangles_of Q

-- A triangle before those of the rest: there is a rest.
onto_parts : (t : Triangle) (o : Option (List Triangle)) (ts : List Triangle) → onto t o ≡ some ts
    → (o ≡ some (listed o)) × (listed (onto t o) ≡ t ∷ listed o)
unfolding onto listed
onto_parts t none ts e = some-none e
onto_parts t (some us) ts e = (refl, refl)

module _ (P : List Vertex) (three : 3 ≤ length P) (e : triangles P ≡ some (triangles_of P)) where
  size : length P ≡ suc (suc (suc (length P - 3)))
  size = omega arith

  steps : triangles P ≡ cutting (suc (length P - 3)) P
  unfolding triangles
  steps = ap (λ k. cutting k P) (omega arith)

  rest-steps : (f : Place) → P ≡ f.before ++ f.corner ∷ f.after → triangles (rest f) ≡ cutting (length P - 3) (rest f)
  unfolding triangles
  rest-steps f q = ap (λ k. cutting k (rest f)) (omega (arith, rest-size (suc (suc (length P - 3))) P f q size))

  -- A corner in line was found.
  pub flat_goes : (o : Std.Option ℕ) (i : ℕ) (Q : List Vertex) → first_where in_line [] P ≡ found P o → o ≡ Some i → Q
      ≡ rest (place_at P i) → Goes P Q []
  flat_goes o i Q q is r = record { cut = sym same ∙ e ∙ ap some (ap listed same); whole = ap listed same }
    where
      f : Place
      f = place_at P i

      w : first_where in_line [] P ≡ some f
      w = q ∙ ap (found P) is

      same : triangles P ≡ triangles Q
      same = steps ∙ cut-flat (length P - 3) P f w ∙ sym (rest-steps f (found-place in_line [] P f w).is)
          ∙ ap triangles (sym r)

  module _ (o : Std.Option ℕ) (out : o ≡ None) (q : first_where in_line [] P ≡ found P o) where
    none-flat : first_where in_line [] P ≡ none
    none-flat = q ∙ ap (found P) out

    -- Where no corner is in line, there is an ear.
    pub ear_there : (r : Std.Option ℕ) → first_where is_ear [] P ≡ found P r → r ≡ None → ⊥
    ear_there r z is = some-none (sym (steps ∙ cut-none (length P - 3) P none-flat (z ∙ ap (found P) is)) ∙ e)

    -- An ear was found.
    pub ear_goes : (r : Std.Option ℕ) (i : ℕ) (Q : List Vertex) → first_where is_ear [] P ≡ found P r → r ≡ Some i → Q
        ≡ rest (place_at P i)
        → Goes P Q (triangle_at (place_at P i) ∷ [])
    ear_goes r i Q z is m = let o = onto_parts (triangle_at f) (triangles Q) (triangles_of P) (sym same ∙ e) in record
        { cut = o.0; whole = ap listed same ∙ o.1 }
      where
        f : Place
        f = place_at P i

        w : first_where is_ear [] P ≡ some f
        w = z ∙ ap (found P) is

        same : triangles P ≡ onto (triangle_at f) (triangles Q)
        same =
            steps ∙ cut-ear (length P - 3) P f none-flat w
            ∙ ap (onto (triangle_at f)) (sym (rest-steps f (found-place is_ear [] P f w).is) ∙ ap triangles (sym m))

pub some_there : (r : Std.Option ℕ) → (r ≡ None → ⊥) → IsSome r
some_there None h = absurd (h refl)
some_there (Some m) h = refl

-- Two corners are no triangle.
pub two_left : (P : List Vertex) → length P ≡ 2 → triangles_of P ≡ []
unfolding triangles listed
two_left P e = ap (λ k. listed (cutting k P)) (omega arith) ∙ ap listed (cut-zero P)
