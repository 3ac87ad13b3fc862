-- Bytes as signed numbers: `signed` by its cases, that it is the 8-bit reading `to_z w8`, and its range. Assumes nothing.
use mathlib.Core.Path.{◌≡◌, refl, sym, ◌∙◌, ap, subst}
use mathlib.Core.Bool.{Bool, true, false, cond}
use Prim.Native.Nat.{ℕ, suc, ◌-◌, ◌≤◌, ◌<◌}
use lib.Dec.{ltb}
use lib.IntN.{pos, negsuc, ◌-ℤ◌}
use mir.Syntax.{w8}
use mir.Val.{Fits, SFits, to_z, sel}
use mir.ValLaws.{to_z-Fits}
use borrow.Author.Tests.{lt-ltb, le-ltb, ltb-true, ltb-false}
use Rattle.integers.specs.Byte.{signed}

-- a byte below 128 is itself
pub signed_low : (b : ℕ) → b < 128 → signed b ≡ pos b
unfolding signed
signed_low b h = rw (lt-ltb b 128 h)

-- a byte from 128 on is 256 less
pub signed_high : (b : ℕ) → 128 ≤ b → signed b ≡ pos b -ℤ pos 256
unfolding signed
signed_high b h = rw (le-ltb b 128 h)

-- the signed value is what 8 bits say in two's complement
pub signed-to_z : (b : ℕ) → Fits w8 b → signed b ≡ to_z w8 b
signed-to_z b f = go (ltb b 128) refl
  where
    below : ltb b 256 ≡ true
    below = lt-ltb b 256 f.fits

    go : (t : Bool) → ltb b 128 ≡ t → signed b ≡ to_z w8 b
    go true e = signed_low b (ltb-true b 128 e) ∙ ap (λ t. sel t (pos b) (negsuc (256 - suc b))) (sym e)
    go false e =
        signed_high b (ltb-false b 128 e) ∙ ap (λ t. cond t (negsuc (256 - suc b)) (pos (b - 256))) below
        ∙ ap (λ t. sel t (pos b) (negsuc (256 - suc b))) (sym e)

-- so it fits 8 bits: from −128 to 127
pub signed-fits : (b : ℕ) → Fits w8 b → SFits w8 (signed b)
signed-fits b f = subst (SFits w8) (sym (signed-to_z b f)) (to_z-Fits w8 b f)
