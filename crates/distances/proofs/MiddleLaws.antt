-- What a first look at two parts tells is so. Assumes nothing.
use mathlib.Core.Bool.{Bool, true, false, cond, ◌&&◌}
use mathlib.Core.List.{[], ◌∷◌, map}
use mathlib.Core.Path.{◌≡◌, refl, sym, ap, ap₂, subst, ◌∙◌}
use Prim.Native.Nat.{ℕ, ◌≤◌, ◌<◌}
use native.Mathlib.Nat.{lt_of_le_of_lt}
use native.Mathlib.Omega.{arith}
use lib.Dec.{lit<}
use lib.IntN.{ℤ, pos, nat_abs, neg_ℤ, ◌+ℤ◌, ◌-ℤ◌, ◌*ℤ◌}
use lib.ListN.{length-map}
use lib.Signed.{le_z, lt_z, ◌≤ℤ◌, ◌<ℤ◌}
use mir.Syntax.{w16}
use mir.Val.{SFits}
use Rattle.std.specs.Prelude.{None, Some}
use Rattle.integers.proofs.Sizes.{bounded, fits_nat_abs}
use Rattle.integers.proofs.Certificates.{order, ◌⊢◌by◌, hyp}
use Rattle.integers.proofs.Order.{le_z_true, le_z_false, lt_z_true, le_lt_z, lt_lt_z}
use Rattle.integers.proofs.Solver.{ring, #, ◌⊞◌, ◌⊟◌, ◌⊠◌, ⊖◌, ◌≈◌, ◌≲◌}
use Rattle.model.specs.Content.{vertex, Part}
use Rattle.model.specs.Geometry.{Direction, direction, negated, vertex_at, along, distance_squared, shifted, separated}
use Rattle.model.specs.Lists.{smallest_z}
use Rattle.model.proofs.Conflict.{smallest_opposite}
use Rattle.model.proofs.Lists.{and_left, and_right}
use Rattle.model.proofs.Moves.{smallest_shifted, vertex_at-map}
use Rattle.convexity.specs.Parts.{SoundPart, width}
use Rattle.convexity.proofs.Soundness.{shifted-sound}
use Rattle.convexity.proofs.Theorems.{width-separated, corners-near}
use Rattle.directions.specs.Directions.{Furthest}
use Rattle.distances.specs.Middles.{told_by, Tells}

-- ---- sizes

-- a number twice,
pub doubled-size : (d : ℤ) → nat_abs d ≤ 4096 → nat_abs (pos 2 *ℤ d) ≤ 8192
doubled-size d h = bounded (4096 ∷ []) 1 (λ d. # (pos 2) ⊠ d) d h

pub doubled_fits : (d : ℤ) → nat_abs d ≤ 4096 → SFits w16 (pos 2 *ℤ d)
doubled_fits d h = fits_nat_abs w16 _ (lt_of_le_of_lt (doubled-size d h) (lit< tt))

-- added to another,
pub more_size : (u w : ℤ) → nat_abs u ≤ 8192 → nat_abs w ≤ 8192 → nat_abs (u +ℤ w) ≤ 16384
more_size u w h k = bounded (8192 ∷ 8192 ∷ []) 2 (λ u w. u ⊞ w) u w h k

pub more_fits : (u w : ℤ) → nat_abs u ≤ 8192 → nat_abs w ≤ 8192 → SFits w16 (u +ℤ w)
more_fits u w h k = fits_nat_abs w16 _ (lt_of_le_of_lt (more_size u w h k) (lit< tt))

-- and that less a third
pub rest-size : (u w : ℤ) → nat_abs u ≤ 16384 → nat_abs w ≤ 8192 → nat_abs (u -ℤ w) ≤ 24576
rest-size u w h k = bounded (16384 ∷ 8192 ∷ []) 2 (λ u w. u ⊟ w) u w h k

pub rest-fits : (u w : ℤ) → nat_abs u ≤ 16384 → nat_abs w ≤ 8192 → SFits w16 (u -ℤ w)
rest-fits u w h k = fits_nat_abs w16 _ (lt_of_le_of_lt (rest-size u w h k) (lit< tt))

-- ---- what is told

-- case by case
module _ (gap : ℕ) (a b x y : ℤ) where
  abbrev squared : ℤ
  squared = pos gap *ℤ pos gap

  abbrev far : ℤ
  far = a *ℤ x +ℤ b *ℤ y

  pub told-near : lt_z (x *ℤ x +ℤ y *ℤ y) squared ≡ true → Some false ≡ told_by gap a b x y
  unfolding told_by
  told-near e = rw e

  pub told-behind : lt_z (x *ℤ x +ℤ y *ℤ y) squared ≡ false → le_z far (pos 0) ≡ true → None ≡ told_by gap a b x y
  unfolding told_by
  told-behind e f = rw (e, le_lt_z (pos 0) far (le_z_true far (pos 0) f))

  pub told-along : lt_z (x *ℤ x +ℤ y *ℤ y) squared ≡ false → le_z far (pos 0) ≡ false → (t : Bool) → le_z (squared *ℤ (a *ℤ a +ℤ b *ℤ b)) (far *ℤ far) ≡ t → cond t (Some true) None ≡ told_by gap a b x y
  unfolding told_by
  told-along e f t g = rw (e, lt_lt_z (pos 0) far (le_z_false far (pos 0) f), g)

-- an answer is told,
pub tells : {b t : Bool} → b ≡ t → Tells (Some t) b
tells e = record { is = λ u q. cc }

-- or nothing is
pub told-nothing : (b : Bool) → Tells None b
told-nothing b = record { is = λ t q. cc }

-- the two corners that come next to each other along (a, b)
module _ (gap : ℕ) (P Q : Part) (dx dy a b : ℤ) (sound_p : SoundPart P) (sound_q : SoundPart Q) (i j : ℕ) (hi : Furthest P (direction a b) i) (hj : Furthest Q (direction (pos 0 -ℤ a) (pos 0 -ℤ b)) j) where
  abbrev moved : Part
  moved = map (shifted dx dy) Q

  abbrev way_x : ℤ
  way_x = (vertex_at Q j).x +ℤ dx -ℤ (vertex_at P i).x

  abbrev way_y : ℤ
  way_y = (vertex_at Q j).y +ℤ dy -ℤ (vertex_at P i).y

  -- Q begins at the vertex that lies furthest the other way
  begins : smallest_z (map (along (direction a b)) Q) ≡ along (direction a b) (vertex_at Q j)
  unfolding along negated
  begins =
      ap (λ (d : Direction). smallest_z (map (along d) Q)) (sym (λ k. direction (twice a k) (twice b k)))
      ∙ smallest_opposite (direction (pos 0 -ℤ a) (pos 0 -ℤ b)) Q
      ∙ ap neg_ℤ hj.most
      ∙ ring 4 (λ a b x y. ⊖ ((# (pos 0) ⊟ a) ⊠ x ⊞ (# (pos 0) ⊟ b) ⊠ y) ≈ a ⊠ x ⊞ b ⊠ y) tt a b (vertex_at Q j).x (vertex_at Q j).y
    where
      twice : (z : ℤ) → neg_ℤ (pos 0 -ℤ z) ≡ z
      twice = ring 1 (λ z. ⊖ (# (pos 0) ⊟ z) ≈ z) tt

  -- so the way between the two is how far apart the parts lie
  width_is : width P moved (direction a b) ≡ a *ℤ way_x +ℤ b *ℤ way_y
  unfolding along
  width_is =
      ap₂ ◌-ℤ◌ (smallest_shifted (direction a b) dx dy Q (omega (arith, sound_q.corners)) ∙ ap (λ z. z +ℤ along (direction a b) (vertex dx dy)) begins) hi.most
      ∙ ring 8 (λ a b qx qy dx dy px py. ((a ⊠ qx ⊞ b ⊠ qy) ⊞ (a ⊠ dx ⊞ b ⊠ dy)) ⊟ (a ⊠ px ⊞ b ⊠ py) ≈ a ⊠ (qx ⊞ dx ⊟ px) ⊞ b ⊠ (qy ⊞ dy ⊟ py)) tt
      a b (vertex_at Q j).x (vertex_at Q j).y dx dy (vertex_at P i).x (vertex_at P i).y

  too_near : lt_z (way_x *ℤ way_x +ℤ way_y *ℤ way_y) (pos gap *ℤ pos gap) ≡ true → separated gap P moved ≡ false
  unfolding distance_squared
  too_near e =
      corners-near gap P moved i j hi.inside (subst (λ n. j < n) (sym (length-map Q (shifted dx dy))) hj.inside)
      (subst (λ v. distance_squared (vertex_at P i) v <ℤ (pos gap *ℤ pos gap)) (sym (vertex_at-map (shifted dx dy) Q j hj.inside)) (lt_z_true _ _ e))

  -- they lie beyond each other, and far enough
  abbrev ahead : Bool
  ahead = lt_z (pos 0) (a *ℤ way_x +ℤ b *ℤ way_y)

  abbrev enough : Bool
  enough = le_z (pos gap *ℤ pos gap *ℤ (a *ℤ a +ℤ b *ℤ b)) ((a *ℤ way_x +ℤ b *ℤ way_y) *ℤ (a *ℤ way_x +ℤ b *ℤ way_y))

  far_apart : (ahead && enough) ≡ true → separated gap P moved ≡ true
  far_apart e =
      width-separated P moved sound_p (shifted-sound dx dy Q sound_q) gap (direction a b)
      (subst (λ w. pos 0 <ℤ w) (sym width_is) (lt_z_true _ _ (and_left ahead enough e)))
      (subst (λ w. ((a *ℤ a +ℤ b *ℤ b) *ℤ (pos gap *ℤ pos gap)) ≤ℤ (w *ℤ w)) (sym width_is)
      (turned (pos gap *ℤ pos gap) (a *ℤ a +ℤ b *ℤ b) ((a *ℤ way_x +ℤ b *ℤ way_y) *ℤ (a *ℤ way_x +ℤ b *ℤ way_y)) (le_z_true _ _ (and_right ahead enough e))))
    where
      turned : (s n w : ℤ) → (s *ℤ n) ≤ℤ w → (n *ℤ s) ≤ℤ w
      turned = order 3 (λ s n w. (s ⊠ n ≲ w) ∷ [] ⊢ n ⊠ s ≲ w by hyp 0) tt

  pub told-so : Tells (told_by gap a b way_x way_y) (separated gap P moved)
  unfolding told_by
  told-so = go _ _ refl refl
    where
      go : (s t : Bool) → lt_z (way_x *ℤ way_x +ℤ way_y *ℤ way_y) (pos gap *ℤ pos gap) ≡ s → (ahead && enough) ≡ t
          → Tells (cond s (Some false) (cond t (Some true) None)) (separated gap P moved)
      go true t e f = tells (too_near e)
      go false true e f = tells (far_apart f)
      go false false e f = told-nothing _
