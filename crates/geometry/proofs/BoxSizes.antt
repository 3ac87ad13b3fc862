-- The sizes of what is compared of two boxes: no sum wraps. Assumes nothing.
use mathlib.Core.List.{[], ◌∷◌}
use mathlib.Core.Path.{◌≡◌}
use Prim.Native.Nat.{ℕ, ◌^◌}
use native.Mathlib.Nat.{le_trans, le_of_lt}
use lib.Dec.{lit≤}
use lib.IntN.{ℤ, pos, ◌+ℤ◌}
use mir.Syntax.{w16, w64}
use mir.Val.{Fits, SFits, to_z, of_z}
use Rattle.integers.proofs.Machine.{cast_gives, op_fits, op_gives}
use Rattle.integers.proofs.Sizes.{sized, bounded, size_of, fits-64}
use Rattle.integers.proofs.Solver.{◌⊞◌}
use Rattle.directions.proofs.Sizes.{read}
use Rattle.distances.proofs.DistanceLaws.{gap-read}

-- a coordinate that was cast
abbrev cast : ℤ → ℤ
cast z = to_z w64 (of_z w64 (to_z w16 (of_z w16 z)))

-- an end and its move
module _ {h f : ℤ} (hh : SFits w16 h) (hf : SFits w16 f) where
  ends : SFits w64 (h +ℤ f)
  ends = sized w16 w64 2 (λ h f. h ⊞ f) tt h f hh hf

  pub end_fits : SFits w64 (cast h +ℤ cast f)
  end_fits = op_fits (cast_gives w64 hh tt) (cast_gives w64 hf tt) ◌+ℤ◌ ends

  pub end-gives : read (cast h +ℤ cast f) ≡ h +ℤ f
  end-gives = op_gives (cast_gives w64 hh tt) (cast_gives w64 hf tt) ◌+ℤ◌ ends

  -- and the gap
  module _ {gap : ℕ} (hg : Fits w16 gap) where
    padded : SFits w64 (h +ℤ f +ℤ pos gap)
    padded =
        fits-64 (h +ℤ f +ℤ pos gap)
        (le_trans (bounded (2 ^ 15 ∷ 2 ^ 15 ∷ 2 ^ 16 ∷ []) 3 (λ h f g. h ⊞ f ⊞ g) h f (pos gap) (size_of w16 h hh) (size_of w16 f hf) (le_of_lt hg.fits)) (lit≤ tt))

    pub padded_gives : read (read (cast h +ℤ cast f) +ℤ to_z w64 gap) ≡ h +ℤ f +ℤ pos gap
    padded_gives = op_gives end-gives (gap-read hg) ◌+ℤ◌ padded
