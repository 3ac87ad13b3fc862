-- The box of a part, one vertex after the other, and of two lists of vertices. Assumes nothing.
use mathlib.Core.Bool.{Bool, ◌||◌}
use mathlib.Core.List.{List, [], ◌∷◌, ◌++◌, map, map-append}
use mathlib.Core.Logic.{⊎_elim}
use mathlib.Core.Path.{◌≡◌, refl, sym, ap, ◌∙◌}
use Prim.Native.Nat.{ℕ, suc, ◌+◌, ◌≤◌, ◌<◌}
use native.Mathlib.Nat.{not-suc-le-zero}
use native.Mathlib.Numerals.{add-one}
use native.Mathlib.Omega.{arith}
use lib.IntN.{ℤ}
use lib.ListN.{length, length-map, get_or, drop, drop_of_length-le}
use lib.Seq.{drop-cons}
use Rattle.std.specs.Int.{int_max, int_min}
use Rattle.integers.specs.Extrema.{max_z, min_z}
use Rattle.integers.proofs.Order.{le_or_lt, le_le_z, lt_le_z, le_lt_z, lt_lt_z}
use Rattle.model.specs.Content.{Vertex, Part, origin}
use Rattle.model.specs.Geometry.{vertex_at}
use Rattle.model.specs.Lists.{largest_from, smallest_from, largest_z, smallest_z}
use Rattle.model.proofs.Extremes.{largest-append, smallest_append}
use Rattle.polygons.specs.Boxes.{box, box_of, extents_of, joined}
use Rattle.polygons.specs.declared.extents.Extents.{Extents}

-- std's smaller and larger of two integers are the definition's
pub min-is : (a b : ℤ) → int_min a b ≡ min_z a b
unfolding min_z
min-is a b = ⊎_elim (λ h. rw (le_lt_z b a h, le_le_z a b h)) (λ h. rw (lt_lt_z b a h, lt_le_z a b h)) (le_or_lt a b)

pub max-is : (a b : ℤ) → int_max a b ≡ max_z a b
unfolding max_z
max-is a b = ⊎_elim (λ h. rw (le_lt_z b a h, le_le_z a b h)) (λ h. rw (lt_lt_z b a h, lt_le_z a b h)) (le_or_lt a b)

-- boxes with equal sides
pub same-box : {a b c d a' b' c' d' : ℤ} → a ≡ a' → b ≡ b' → c ≡ c' → d ≡ d' → box a b c d ≡ box a' b' c' d'
same-box p q r s = λ i. box (p i) (q i) (r i) (s i)

-- one of four tests, each with an equal
pub or_four : {a b c d a' b' c' d' : Bool} → a ≡ a' → b ≡ b' → c ≡ c' → d ≡ d' → (a || b || c || d) ≡ (a' || b' || c' || d')
or_four p q r s = λ i. p i || q i || r i || s i

-- a box, with further vertices
with : Extents → List Vertex → Extents
with e vs =
    box (smallest_from e.min_x (map (λ v. v.x) vs)) (largest_from e.max_x (map (λ v. v.x) vs)) (smallest_from e.min_y (map (λ v. v.y) vs))
    (largest_from e.max_y (map (λ v. v.y) vs))

-- e is the box of the vertices before k: with the rest it comes to the box of all
pub record Covering (P : Part) (k : ℕ) (e : Extents) : Type 0 where
  rest : with e (drop k P) ≡ extents_of P

pub covers-none : (P : Part) → length P ≡ 0 → box_of origin ≡ extents_of P
unfolding extents_of smallest_z largest_z
covers-none [] h = refl
covers-none (v ∷ P) h = let never : ⊥ = omega arith in absurd never

pub covers-first : (P : Part) → 0 < length P → Covering P 1 (box_of (vertex_at P 0))
unfolding with extents_of smallest_z largest_z vertex_at
covers-first [] h = absurd (not-suc-le-zero h)
covers-first (v ∷ P) h = record { rest = refl }

-- one vertex more
with_next : (e : Extents) (v : Vertex) (vs : List Vertex) → with (joined e (box_of v)) vs ≡ with e (v ∷ vs)
unfolding with joined smallest_from largest_from
with_next e v vs = refl

pub covers-next : (P : Part) (k : ℕ) (e : Extents) → k < length P → Covering P k e → Covering P (k + 1) (joined e (box_of (vertex_at P k)))
unfolding vertex_at
covers-next P k e h c =
    record {
      rest =
          ap (λ m. with (joined e (box_of (get_or P k origin))) (drop m P)) (add-one k)
          ∙ with_next e (get_or P k origin) (drop (suc k) P)
          ∙ ap (λ (vs : Part). with e vs) (sym (drop-cons P k origin h))
          ∙ c.rest;
    }

pub covers-last : (P : Part) (k : ℕ) (e : Extents) → length P ≤ k → Covering P k e → e ≡ extents_of P
unfolding with smallest_from largest_from
covers-last P k e h c = sym (ap (λ (vs : Part). with e vs) (drop_of_length-le P h)) ∙ c.rest

-- The box of two lists of vertices, neither empty, is the box around their boxes.
pub extents_append : (P Q : List Vertex) → 0 < length P → 0 < length Q → extents_of (P ++ Q) ≡ joined (extents_of P) (extents_of Q)
unfolding extents_of joined
extents_append P Q h k = λ i. box (low (λ v. v.x) i) (high (λ v. v.x) i) (low (λ v. v.y) i) (high (λ v. v.y) i)
  where
    low : (g : Vertex → ℤ) → smallest_z (map g (P ++ Q)) ≡ min_z (smallest_z (map g P)) (smallest_z (map g Q))
    low g = ap smallest_z (map-append g P Q) ∙ smallest_append (map g P) (map g Q) (rw (length-map P g) h) (rw (length-map Q g) k)

    high : (g : Vertex → ℤ) → largest_z (map g (P ++ Q)) ≡ max_z (largest_z (map g P)) (largest_z (map g Q))
    high g = ap largest_z (map-append g P Q) ∙ largest-append (map g P) (map g Q) (rw (length-map P g) h) (rw (length-map Q g) k)
