-- The bounding box of a list of vertices decides whether all of them lie on the board, and moves with them. Assumes nothing.
use mathlib.Core.Bool.{Bool, true, false, ◌&&◌}
use mathlib.Core.List.{List, [], ◌∷◌, ◌++◌, map, map-append, append-nil}
use mathlib.Core.Path.{◌≡◌, refl, sym, ap, ◌∙◌}
use Prim.Native.Nat.{ℕ, ◌*◌, ◌<◌}
use lib.IntN.{ℤ, pos, ◌+ℤ◌, ◌-ℤ◌}
use lib.ListN.{length, length-map}
use lib.Signed.{le_z}
use Rattle.integers.specs.Extrema.{max_z, min_z}
use Rattle.model.specs.Candidate.{placed_part, placed_parts, placed_vertices, on_board, natural, extent}
use Rattle.model.specs.Content.{Vertex, Part, Kind, Board}
use Rattle.model.specs.Geometry.{rotated, moved, shifted}
use Rattle.model.specs.Grid.{Placement}
use Rattle.model.specs.Lists.{all, concat, largest_z, smallest_z}
use Rattle.model.proofs.Extremes.{largest-test, smallest_test, largest-append, smallest_append, largest-through, smallest_through}
use Rattle.model.proofs.Moves.{placed-moved}
use Rattle.model.proofs.Tests.{all_map}

-- ---- tests of all elements

module _ {A : Type 0} where
  -- two tests of all elements at once
  pub all-and : (p q : A → Bool) (xs : List A) → all (λ x. p x && q x) xs ≡ (all p xs && all q xs)
  unfolding all
  all-and p q [] = refl
  all-and p q (x ∷ xs) = ap (λ t. p x && q x && t) (all-and p q xs) ∙ four (p x) (q x) (all p xs) (all q xs)
    where
      four : (a b c d : Bool) → (a && b && (c && d)) ≡ (a && c && (b && d))
      four false b c d = refl
      four true true true d = refl
      four true true false d = refl
      four true false true d = refl
      four true false false d = refl

-- ---- the box decides

module _ (g : Vertex → ℤ) (vs : List Vertex) (some : 0 < length vs) where
  -- what g gives is at least c everywhere, or at most c
  pub all_above : (c : ℤ) → all (λ v. le_z c (g v)) vs ≡ le_z c (smallest_z (map g vs))
  all_above c = sym (smallest_test c (map g vs) (rw (length-map vs g) some) ∙ all_map (le_z c) g vs)

  pub all-below-bound : (c : ℤ) → all (λ v. le_z (g v) c) vs ≡ le_z (largest_z (map g vs)) c
  all-below-bound c = sym (largest-test c (map g vs) (rw (length-map vs g) some) ∙ all_map (λ z. le_z z c) g vs)

-- All of some vertices lie on the board, clear of a margin, exactly if the least and the largest x and y do.
pub all-on_board : (m : ℕ) (b : Board) (vs : List Vertex) → 0 < length vs
    → all (on_board m b) vs
    ≡ (le_z (pos m) (smallest_z (map (λ v. v.x) vs)) && le_z (largest_z (map (λ v. v.x) vs)) (pos b.L -ℤ pos m)
    && le_z (pos m) (smallest_z (map (λ v. v.y) vs)) && le_z (largest_z (map (λ v. v.y) vs)) (pos b.W -ℤ pos m))
unfolding on_board
all-on_board m b vs h =
    all-and (λ v. le_z (pos m) v.x && le_z v.x (pos b.L -ℤ pos m) && le_z (pos m) v.y) (λ v. le_z v.y (pos b.W -ℤ pos m)) vs
    ∙ ap (λ t. t && all (λ v. le_z v.y (pos b.W -ℤ pos m)) vs) (all-and (λ v. le_z (pos m) v.x && le_z v.x (pos b.L -ℤ pos m)) (λ v. le_z (pos m) v.y) vs)
    ∙ ap (λ t. t && all (λ v. le_z (pos m) v.y) vs && all (λ v. le_z v.y (pos b.W -ℤ pos m)) vs) (all-and (λ v. le_z (pos m) v.x) (λ v. le_z v.x (pos b.L -ℤ pos m)) vs)
    ∙ ap (λ t. t && all (λ v. le_z v.x (pos b.L -ℤ pos m)) vs && all (λ v. le_z (pos m) v.y) vs && all (λ v. le_z v.y (pos b.W -ℤ pos m)) vs) (all_above (λ v. v.x) vs h (pos m))
    ∙ ap (λ t. low_x && t && all (λ v. le_z (pos m) v.y) vs && all (λ v. le_z v.y (pos b.W -ℤ pos m)) vs) (all-below-bound (λ v. v.x) vs h (pos b.L -ℤ pos m))
    ∙ ap (λ t. low_x && high_x && t && all (λ v. le_z v.y (pos b.W -ℤ pos m)) vs) (all_above (λ v. v.y) vs h (pos m))
    ∙ ap (λ t. low_x && high_x && le_z (pos m) (smallest_z (map (λ v. v.y) vs)) && t) (all-below-bound (λ v. v.y) vs h (pos b.W -ℤ pos m))
  where
    low_x : Bool
    low_x = le_z (pos m) (smallest_z (map (λ v. v.x) vs))

    high_x : Bool
    high_x = le_z (largest_z (map (λ v. v.x) vs)) (pos b.L -ℤ pos m)

-- ---- the box moves

module _ (a b : ℤ) (vs : List Vertex) (some : 0 < length vs) where
  pub largest-x-shifted : largest_z (map (λ v. v.x) (map (shifted a b) vs)) ≡ largest_z (map (λ v. v.x) vs) +ℤ a
  largest-x-shifted = largest-through (λ v. v.x) (shifted a b) a (λ v. refl) vs some

  pub largest-y-shifted : largest_z (map (λ v. v.y) (map (shifted a b) vs)) ≡ largest_z (map (λ v. v.y) vs) +ℤ b
  largest-y-shifted = largest-through (λ v. v.y) (shifted a b) b (λ v. refl) vs some

  pub smallest_x-shifted : smallest_z (map (λ v. v.x) (map (shifted a b) vs)) ≡ smallest_z (map (λ v. v.x) vs) +ℤ a
  smallest_x-shifted = smallest_through (λ v. v.x) (shifted a b) a (λ v. refl) vs some

  pub smallest_y-shifted : smallest_z (map (λ v. v.y) (map (shifted a b) vs)) ≡ smallest_z (map (λ v. v.y) vs) +ℤ b
  smallest_y-shifted = smallest_through (λ v. v.y) (shifted a b) b (λ v. refl) vs some

-- the same of the model's move
module _ (dx dy : ℕ) (vs : List Vertex) (some : 0 < length vs) where
  pub largest-x-moved : largest_z (map (λ v. v.x) (map (moved dx dy) vs)) ≡ largest_z (map (λ v. v.x) vs) +ℤ pos dx
  unfolding moved
  largest-x-moved = largest-x-shifted (pos dx) (pos dy) vs some

  pub largest-y-moved : largest_z (map (λ v. v.y) (map (moved dx dy) vs)) ≡ largest_z (map (λ v. v.y) vs) +ℤ pos dy
  unfolding moved
  largest-y-moved = largest-y-shifted (pos dx) (pos dy) vs some

  pub smallest_x-moved : smallest_z (map (λ v. v.x) (map (moved dx dy) vs)) ≡ smallest_z (map (λ v. v.x) vs) +ℤ pos dx
  unfolding moved
  smallest_x-moved = smallest_x-shifted (pos dx) (pos dy) vs some

  pub smallest_y-moved : smallest_z (map (λ v. v.y) (map (moved dx dy) vs)) ≡ smallest_z (map (λ v. v.y) vs) +ℤ pos dy
  unfolding moved
  smallest_y-moved = smallest_y-shifted (pos dx) (pos dy) vs some

-- ---- the box of several parts

module _ (g : Vertex → ℤ) (P : Part) (Ps : List Part) (some : 0 < length P) (others : 0 < length (concat Ps)) where
  pub largest-concat : largest_z (map g (concat (P ∷ Ps))) ≡ max_z (largest_z (map g P)) (largest_z (map g (concat Ps)))
  unfolding concat
  largest-concat =
      ap largest_z (map-append g P (concat Ps)) ∙ largest-append (map g P) (map g (concat Ps)) (rw (length-map P g) some) (rw (length-map (concat Ps) g) others)

  pub smallest_concat : smallest_z (map g (concat (P ∷ Ps))) ≡ min_z (smallest_z (map g P)) (smallest_z (map g (concat Ps)))
  unfolding concat
  smallest_concat =
      ap smallest_z (map-append g P (concat Ps)) ∙ smallest_append (map g P) (map g (concat Ps)) (rw (length-map P g) some) (rw (length-map (concat Ps) g) others)

-- of one part alone
pub concat-one : (P : Part) → concat (P ∷ []) ≡ P
unfolding concat
concat-one P = append-nil P

-- the vertices of all parts, each mapped
pub map-concat : (s : Vertex → Vertex) (Ps : List Part) → concat (map (map s) Ps) ≡ map s (concat Ps)
unfolding concat
map-concat s [] = refl
map-concat s (P ∷ Ps) = ap (λ (vs : Part). map s P ++ vs) (map-concat s Ps) ∙ sym (map-append s P (concat Ps))

-- The vertices of a placed piece are those of the turned piece, moved.
pub placed-vertices : (b : Board) (k : Kind) (p : Placement)
    → placed_vertices b k p ≡ map (moved (p.column * b.g) (p.row * b.g)) (concat (map (map (rotated p.rotation)) k.parts))
unfolding placed_vertices placed_parts
placed-vertices b k p = ap concat (each k.parts) ∙ map-concat _ (map (map (rotated p.rotation)) k.parts)
  where
    each : (Ps : List Part) → map (placed_part b p) Ps ≡ map (map (moved (p.column * b.g) (p.row * b.g))) (map (map (rotated p.rotation)) Ps)
    each [] = refl
    each (P ∷ Ps) =
        ap (λ (Q : Part). Q ∷ map (placed_part b p) Ps) (placed-moved b p P)
        ∙ ap (λ (Qs : List Part). map (moved (p.column * b.g) (p.row * b.g)) (map (rotated p.rotation) P) ∷ Qs) (each Ps)

-- The end of a placed piece: the largest x of the turned piece, plus the column's x.
pub extent-placed : (b : Board) (k : Kind) (p : Placement) → 0 < length (concat (map (map (rotated p.rotation)) k.parts))
    → extent b k p ≡ natural (largest_z (map (λ v. v.x) (concat (map (map (rotated p.rotation)) k.parts))) +ℤ pos (p.column * b.g))
unfolding extent
extent-placed b k p h =
    ap (λ (vs : List Vertex). natural (largest_z (map (λ v. v.x) vs))) (placed-vertices b k p)
    ∙ ap natural (largest-x-moved (p.column * b.g) (p.row * b.g) (concat (map (map (rotated p.rotation)) k.parts)) h)
