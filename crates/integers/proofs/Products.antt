-- The sizes that the needs of casts and products ask, over the widths. Assumes nothing.
use mathlib.Core.List.{[], ◌∷◌}
use Prim.Native.Nat.{◌+◌, ◌*◌, ◌^◌}
use native.Mathlib.Nat.{lt_of_lt_of_le}
use lib.Dec.{T, leb, ltb, leb→le}
use lib.IntN.{ℤ, ◌+ℤ◌, ◌*ℤ◌}
use lib.ListN.{get_or}
use lib.Pow.{pow_mono}
use mir.Syntax.{Width}
use mir.Val.{SFits, hbits}
use Rattle.integers.proofs.Solver.{◌⊞◌, ◌⊠◌}
use Rattle.integers.proofs.Sizes.{sizes}

-- what fits a width fits a wider one
pub widened : (w w' : Width) (a : ℤ) → SFits w a → T (leb (hbits w) (hbits w')) → SFits w' a
widened w w' a h t = record { sfits = lt_of_lt_of_le h.sfits (pow_mono (leb→le (hbits w) (hbits w') t)) }

-- a · b fits w', where a fits v and b fits w
pub product_fits : {v w w' : Width} {a b : ℤ} → SFits v a → SFits w b → T (ltb (2 ^ hbits v * 2 ^ hbits w) (2 ^ hbits w')) → SFits w' (a *ℤ b)
product_fits {v} {w} {w'} {a} {b} ha hb t = sizes (λ i. get_or (v ∷ w ∷ []) i v) w' 2 (λ a b. a ⊠ b) t a b ha hb

-- a · b + c · d fits w'
pub products_fit : {v w w' : Width} {a b c d : ℤ} → SFits v a → SFits w b → SFits v c → SFits w d
    → T (ltb (2 ^ hbits v * 2 ^ hbits w + 2 ^ hbits v * 2 ^ hbits w) (2 ^ hbits w')) → SFits w' (a *ℤ b +ℤ c *ℤ d)
products_fit {v} {w} {w'} {a} {b} {c} {d} ha hb hc hd t =
    sizes (λ i. get_or (v ∷ w ∷ v ∷ w ∷ []) i v) w' 4 (λ a b c d. a ⊠ b ⊞ c ⊠ d) t a b c d ha hb hc hd
