-- Distances of corners from edges as they are computed, one after the other; no operation wraps. Assumes nothing.
use mathlib.Core.Bool.{Bool, true, false, not, cond, ◌&&◌}
use mathlib.Core.List.{List, [], ◌∷◌, map}
use mathlib.Core.Path.{◌≡◌, refl, sym, subst, ap, ◌∙◌}
use Prim.Native.Nat.{ℕ, zero, suc, ◌≤◌, ◌^◌}
use native.Mathlib.Nat.{lt_of_le_of_lt, lt_of_lt_of_le}
use native.Mathlib.Omega.{arith}
use lib.Dec.{lit<, lit≤}
use lib.IntN.{ℤ, pos, nat_abs, ◌+ℤ◌, ◌-ℤ◌, ◌*ℤ◌}
use lib.ListN.{length}
use lib.Signed.{le_z, lt_z}
use mir.Syntax.{w16, w64}
use mir.Val.{Fits, SFits, to_z, of_z}
use mir.ValLaws.{to_z-of_z, to_z_pos}
use Rattle.integers.proofs.Machine.{op_fits, op_gives}
use Rattle.integers.proofs.Sizes.{bounded, fits_nat_abs, size_of, fits-64}
use Rattle.integers.proofs.Solver.{ring, ◌⊞◌, ◌⊟◌, ◌⊠◌, ◌≈◌}
use Rattle.model.specs.Content.{Vertex, vertex, Part, origin}
use Rattle.model.specs.Geometry.{vertex_at, following, cross, shifted, distance_squared, along_edge, near_edge, corners_clear}
use Rattle.model.specs.Lists.{all, below, rising}
use Rattle.model.proofs.Box.{all-and}
use Rattle.model.proofs.Moves.{along-from, length_from, cross-from}
use Rattle.model.proofs.Tests.{all_map}
use Rattle.directions.specs.Directions.{Small}
use Rattle.distances.specs.Compact.{Short, corner_clear}

-- ---- sizes

-- numbers of 16 bits: a × x + b × y, and a × y - b × x
module _ (a b x y : ℤ) (ha : SFits w16 a) (hb : SFits w16 b) (hx : SFits w16 x) (hy : SFits w16 y) where
  pub along-size : nat_abs (a *ℤ x +ℤ b *ℤ y) ≤ 2 ^ 31
  along-size = bounded (2 ^ 15 ∷ 2 ^ 15 ∷ 2 ^ 15 ∷ 2 ^ 15 ∷ []) 4 (λ a b x y. a ⊠ x ⊞ b ⊠ y) a b x y (size_of w16 a ha) (size_of w16 b hb) (size_of w16 x hx) (size_of w16 y hy)

  pub aside_size : nat_abs (a *ℤ y -ℤ b *ℤ x) ≤ 2 ^ 31
  aside_size = bounded (2 ^ 15 ∷ 2 ^ 15 ∷ 2 ^ 15 ∷ 2 ^ 15 ∷ []) 4 (λ a b x y. a ⊠ y ⊟ b ⊠ x) a b x y (size_of w16 a ha) (size_of w16 b hb) (size_of w16 x hx) (size_of w16 y hy)

-- a gap of 16 bits: as a number of 64 bits, and how large it is
pub gap-read : {gap : ℕ} → Fits w16 gap → to_z w64 gap ≡ pos gap
gap-read {gap} h = to_z_pos w64 gap (lt_of_lt_of_le h.fits (lit≤ tt))

gap-most : {gap : ℕ} → Fits w16 gap → nat_abs (pos gap) ≤ 65535
gap-most h = omega (arith, h.fits)

-- its square times the squared length of an edge
pub limit_fits : {gap : ℕ} (a b : ℤ) → Fits w16 gap → SFits w16 a → SFits w16 b → SFits w64 (pos gap *ℤ pos gap *ℤ (a *ℤ a +ℤ b *ℤ b))
limit_fits {gap} a b h ha hb =
    fits_nat_abs w64 _ (lt_of_le_of_lt
    (bounded (65535 ∷ 2 ^ 15 ∷ 2 ^ 15 ∷ []) 3 (λ g a b. g ⊠ g ⊠ (a ⊠ a ⊞ b ⊠ b)) (pos gap) a b (gap-most h) (size_of w16 a ha) (size_of w16 b hb)) (lit< tt))

-- the square of what lies aside
pub aside_fits : {C c : ℤ} → Small C 31 c → SFits w64 (c *ℤ c)
aside_fits {C} {c} h = fits-64 _ (bounded (2 ^ 31 ∷ []) 1 (λ c. c ⊠ c) c h.size)

-- a coordinate, moved
pub moved-size : (u w : ℤ) → nat_abs u ≤ 4096 → nat_abs w ≤ 4096 → nat_abs (u +ℤ w) ≤ 8192
moved-size u w h k = bounded (4096 ∷ 4096 ∷ []) 2 (λ u w. u ⊞ w) u w h k

pub moved-fits : (u w : ℤ) → nat_abs u ≤ 4096 → nat_abs w ≤ 4096 → SFits w16 (u +ℤ w)
moved-fits u w h k = fits_nat_abs w16 _ (lt_of_le_of_lt (moved-size u w h k) (lit< tt))

-- numbers under their other names are as small
pub short_as : {n : ℕ} {u v x y : ℤ} → x ≡ u → y ≡ v → Short n u v → Short n x y
short_as {n} ex ey h = (subst (λ (z : ℤ). nat_abs z ≤ n) (sym ex) h.0, subst (λ (z : ℤ). nat_abs z ≤ n) (sym ey) h.1)

-- ---- what is computed from the bits of parameters

-- a number as it is read from the bits of a parameter
abbrev pub bits : ℤ → ℤ
bits z = to_z w16 (of_z w16 z)

pub bits_are : {r v : ℤ} → SFits w16 r → r ≡ v → bits r ≡ v
bits_are {r} h e = to_z-of_z w16 r h ∙ e

-- a coordinate u that is moved by w, whatever they stand as
module _ {u w r s : ℤ} (eu : r ≡ u) (ew : s ≡ w) (hu : nat_abs u ≤ 4096) (hw : nat_abs w ≤ 4096) where
  pub sum_held : SFits w16 (r +ℤ s)
  sum_held = op_fits eu ew ◌+ℤ◌ (moved-fits u w hu hw)

  pub sum_is : bits (r +ℤ s) ≡ u +ℤ w
  sum_is = op_gives eu ew ◌+ℤ◌ (moved-fits u w hu hw)

  pub sum_size : nat_abs (bits (r +ℤ s)) ≤ 8192
  sum_size = rw sum_is (moved-size u w hu hw)

-- ---- one corner and one edge

-- The test by the four numbers that it is computed from: how far the corner lies along the edge, its squared distance from the start, the squared length of the edge, and
-- how far it lies aside.
unfoldable pub near_by : ℤ → ℤ → ℤ → ℤ → ℤ → Bool
near_by square along start length aside =
    cond (le_z along (pos 0)) (lt_z start square)
    (cond (le_z length along) (lt_z (start -ℤ along -ℤ along +ℤ length) square) (lt_z (aside *ℤ aside) (square *ℤ length)))

module _ (square along start length aside : ℤ) where
  pub near_before : le_z along (pos 0) ≡ true → lt_z start square ≡ near_by square along start length aside
  unfolding near_by
  near_before e = rw e

  pub near-beyond : le_z along (pos 0) ≡ false → le_z length along ≡ true → lt_z (start -ℤ along -ℤ along +ℤ length) square ≡ near_by square along start length aside
  unfolding near_by
  near-beyond e f = rw (e, f)

  pub near-beside : le_z along (pos 0) ≡ false → le_z length along ≡ false → lt_z (aside *ℤ aside) (square *ℤ length) ≡ near_by square along start length aside
  unfolding near_by
  near-beside e f = rw (e, f)

-- It is the model's.
pub near-is : (gap : ℕ) (a b x y : ℤ)
    → near_by (pos gap *ℤ pos gap) (a *ℤ x +ℤ b *ℤ y) (x *ℤ x +ℤ y *ℤ y) (a *ℤ a +ℤ b *ℤ b) (a *ℤ y -ℤ b *ℤ x) ≡ near_edge gap origin (vertex a b) (vertex x y)
unfolding near_by near_edge along_edge distance_squared cross
near-is gap a b x y = rw (end a b x y, along-from a b x y, length_from a b, length_from x y, cross-from a b x y)
  where
    end : (a b x y : ℤ) → (x *ℤ x +ℤ y *ℤ y) -ℤ (a *ℤ x +ℤ b *ℤ y) -ℤ (a *ℤ x +ℤ b *ℤ y) +ℤ (a *ℤ a +ℤ b *ℤ b) ≡ (x -ℤ a) *ℤ (x -ℤ a) +ℤ (y -ℤ b) *ℤ (y -ℤ b)
    end = ring 4 (λ a b x y. (x ⊠ x ⊞ y ⊠ y) ⊟ (a ⊠ x ⊞ b ⊠ y) ⊟ (a ⊠ x ⊞ b ⊠ y) ⊞ (a ⊠ a ⊞ b ⊠ b) ≈ (x ⊟ a) ⊠ (x ⊟ a) ⊞ (y ⊟ b) ⊠ (y ⊟ b)) tt

-- ---- corners, one after the other

all_true : (xs : List ℕ) → all (λ i. true) xs ≡ true
unfolding all
all_true [] = refl
all_true (x ∷ xs) = all_true xs

-- The corners of P one after the other, instead of the edges of Q.
pub by_corners : (gap : ℕ) (P Q : Part) → corners_clear gap P Q ≡ all (corner_clear gap Q) P
unfolding corners_clear corner_clear all
by_corners gap [] Q = all_true (below (length Q))
by_corners gap (v ∷ P) Q =
    all-and (λ k. not (near_edge gap (vertex_at Q k) (vertex_at Q (following Q k)) v)) (λ k. all (λ v. not (near_edge gap (vertex_at Q k) (vertex_at Q (following Q k)) v)) P) (below (length Q))
    ∙ ap (λ t. corner_clear gap Q v && t) (by_corners gap P Q)

-- a test of the numbers from 1 on, as one of those from 0 on
all_later : (f : ℕ → Bool) (a n : ℕ) → all f (rising (suc a) n) ≡ all (λ i. f (suc i)) (rising a n)
unfolding all rising
all_later f a zero = refl
all_later f a (suc n) = ap (λ t. f (suc a) && t) (all_later f (suc a) n)

-- a test of the vertices by their places
pub all_places : (f : Vertex → Bool) (P : Part) → all (λ i. f (vertex_at P i)) (below (length P)) ≡ all f P
unfolding all below rising vertex_at
all_places f [] = refl
all_places f (v ∷ P) = ap (λ t. f v && t) (all_later (λ i. f (vertex_at (v ∷ P) i)) 0 (length P) ∙ all_places f P)

module _ (gap : ℕ) (P Q : Part) (dx dy : ℤ) where
  moved-corners : corners_clear gap (map (shifted dx dy) P) Q ≡ all (λ v. corner_clear gap Q (shifted dx dy v)) P
  moved-corners = by_corners gap (map (shifted dx dy) P) Q ∙ all_map (corner_clear gap Q) (shifted dx dy) P

  -- by the places of the corners
  pub corners_at : all (λ i. corner_clear gap Q (shifted dx dy (vertex_at P i))) (below (length P)) ≡ corners_clear gap (map (shifted dx dy) P) Q
  corners_at = all_places (λ v. corner_clear gap Q (shifted dx dy v)) P ∙ sym moved-corners
