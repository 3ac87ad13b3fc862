-- What a first look at two parts tells, along the line through their middles.
use Rattle.std.specs.Prelude.{Bool, true, false, cond, ◌&&◌, ◌≡◌, Option, None, Some, ℕ, ℤ, pos, ◌+ℤ◌, ◌*ℤ◌}
use Rattle.std.specs.Int.Signed.{le_z, lt_z}

-- Whether two parts are separated, as far as (x, y) tells it, the way from a corner of one to the corner of the other
-- that comes next along (a, b): not separated, too near, if it is shorter than the gap, separated, apart, if it goes the
-- gap or more along (a, b), and nothing is told otherwise.
unfoldable pub told_by : ℕ → ℤ → ℤ → ℤ → ℤ → Option Bool
told_by gap a b x y =
    cond (lt_z (x *ℤ x +ℤ y *ℤ y) (pos gap *ℤ pos gap)) (Some false)
    (cond
    (lt_z (pos 0) (a *ℤ x +ℤ b *ℤ y)
    && le_z (pos gap *ℤ pos gap *ℤ (a *ℤ a +ℤ b *ℤ b)) ((a *ℤ x +ℤ b *ℤ y) *ℤ (a *ℤ x +ℤ b *ℤ y)))
    (Some true) None)

-- The answer r, if it tells anything, tells b: whether two parts are separated.
pub record Tells (r : Option Bool) (b : Bool) : Type 0 where
  pub is : (t : Bool) → r ≡ Some t → b ≡ t
