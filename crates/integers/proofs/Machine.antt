-- Signed numbers as a function's needs show them: a local holds bits, so a value x stands there as `to_z w (of_z w x)`, which is x where x fits.
-- These take that away from a cast, an operation and a test. Assumes nothing.
use mathlib.Core.Path.{◌≡◌, sym, ◌∙◌, ap, subst}
use mathlib.Core.Bool.{true, false}
use lib.Dec.{T, leb}
use lib.IntN.{ℤ}
use lib.Signed.{le_z, lt_z, ◌≤ℤ◌, ◌<ℤ◌}
use mir.Syntax.{Width}
use mir.Val.{SFits, hbits, to_z, of_z}
use mir.ValLaws.{to_z-of_z}
use Rattle.integers.proofs.Order.{le_z_true, le_z_false, lt_z_true, lt_z_false}
use Rattle.integers.proofs.Products.{widened}

-- a value may be cast to a wider width w', and stays what it is
module _ {w : Width} (w' : Width) {x : ℤ} (h : SFits w x) (t : T (leb (hbits w) (hbits w'))) where
  pub cast_fits : SFits w' (to_z w (of_z w x))
  cast_fits = subst (SFits w') (sym (to_z-of_z w x h)) (widened w w' x h t)

  pub cast_gives : to_z w' (of_z w' (to_z w (of_z w x))) ≡ x
  cast_gives = to_z-of_z w' (to_z w (of_z w x)) cast_fits ∙ to_z-of_z w x h

-- an operation f on two values, whatever they stand as: it does not wrap where its result fits, and gives that result
module _ {w : Width} {x y x' y' : ℤ} (ex : x' ≡ x) (ey : y' ≡ y) (f : ℤ → ℤ → ℤ) (h : SFits w (f x y)) where
  pub op_fits : SFits w (f x' y')
  op_fits = subst (SFits w) (sym (λ i. f (ex i) (ey i))) h

  pub op_gives : to_z w (of_z w (f x' y')) ≡ f x y
  op_gives = to_z-of_z w (f x' y') op_fits ∙ (λ i. f (ex i) (ey i))

module _ (w : Width) (x y : ℤ) (hx : SFits w x) (hy : SFits w y) where
  -- a function of two values that were read back from their bits
  pub read₂ : {X : Type 0} (f : ℤ → ℤ → X) → f (to_z w (of_z w x)) (to_z w (of_z w y)) ≡ f x y
  read₂ f = λ i. f (to_z-of_z w x hx i) (to_z-of_z w y hy i)

  -- the operation f on them does not wrap, if its result fits
  pub fits₂ : (f : ℤ → ℤ → ℤ) → SFits w (f x y) → SFits w (f (to_z w (of_z w x)) (to_z w (of_z w y)))
  fits₂ f h = op_fits (to_z-of_z w x hx) (to_z-of_z w y hy) f h

  -- and gives that result
  pub gives₂ : (f : ℤ → ℤ → ℤ) → SFits w (f x y) → to_z w (of_z w (f (to_z w (of_z w x)) (to_z w (of_z w y)))) ≡ f x y
  gives₂ f h = op_gives (to_z-of_z w x hx) (to_z-of_z w y hy) f h

  -- what a test that held, or failed, says of the values
  pub le_held : le_z (to_z w (of_z w x)) (to_z w (of_z w y)) ≡ true → x ≤ℤ y
  le_held e = le_z_true x y (sym (read₂ le_z) ∙ e)

  -- x <= y failed
  pub le_failed : le_z (to_z w (of_z w x)) (to_z w (of_z w y)) ≡ false → y <ℤ x
  le_failed e = le_z_false x y (sym (read₂ le_z) ∙ e)

  -- x < y held
  pub lt_held : lt_z (to_z w (of_z w x)) (to_z w (of_z w y)) ≡ true → x <ℤ y
  lt_held e = lt_z_true x y (sym (read₂ lt_z) ∙ e)

  -- x < y failed
  pub lt_failed : lt_z (to_z w (of_z w x)) (to_z w (of_z w y)) ≡ false → y ≤ℤ x
  lt_failed e = lt_z_false x y (sym (read₂ lt_z) ∙ e)

  -- values with the same bits are equal: what an `==` of two signed numbers says
  pub same_bits : of_z w x ≡ of_z w y → x ≡ y
  same_bits e = sym (to_z-of_z w x hx) ∙ ap (to_z w) e ∙ to_z-of_z w y hy
