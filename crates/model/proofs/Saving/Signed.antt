-- A coordinate from -127 to 127, its byte, and the byte's signed value.
use mathlib.Core.Bool.{Bool, true, false, cond}
use mathlib.Core.Path.{◌≡◌, refl, ap, ◌∙◌}
use Prim.Native.Nat.{ℕ, suc, ◌-◌, ◌≤◌, ◌<◌}
use native.Mathlib.Omega.{arith}
use borrow.Author.Tests.{lt-ltb, ltb-true, ltb-false, le-leb, leb-true}
use lib.Dec.{ltb}
use lib.IntN.{ℤ, pos, negsuc, nat_abs, ◌-ℤ◌}
use lib.Signed.{le_z}
use Rattle.integers.proofs.Bytes.{signed_low, signed_high}
use Rattle.integers.specs.Byte.{signed}
use Rattle.model.specs.Saving.{signed_byte}

-- 256 taken from a byte.
less_256 : (b : ℕ) → b < 256 → pos b -ℤ pos 256 ≡ negsuc (255 - b)
less_256 b h = ap (λ t. cond t (negsuc (256 - suc b)) (pos (b - 256))) (lt-ltb b 256 h) ∙ ap negsuc (omega arith)

signed_below : (b : ℕ) → 128 ≤ b → b < 256 → signed b ≡ negsuc (255 - b)
signed_below b l h = signed_high b l ∙ less_256 b h

-- A coordinate is the signed value of its byte.
pub signed-written : (z : ℤ) → nat_abs z ≤ 127 → signed (signed_byte z) ≡ z
unfolding signed_byte
signed-written (pos n) h = signed_low n (omega arith)
signed-written (negsuc n) h = signed_below (255 - n) (omega arith) (omega arith) ∙ ap negsuc (omega arith)

-- A byte is that of its signed value.
pub byte_written : (b : ℕ) → b < 256 → signed_byte (signed b) ≡ b
unfolding signed_byte
byte_written b h = go (ltb b 128) refl
  where
    go : (t : Bool) → ltb b 128 ≡ t → signed_byte (signed b) ≡ b
    go true q = ap signed_byte (signed_low b (ltb-true b 128 q))
    go false q = ap signed_byte (signed_below b (ltb-false b 128 q) h) ∙ omega arith

-- The byte of a coordinate is one.
pub signed-byte : (z : ℤ) → nat_abs z ≤ 127 → signed_byte z < 256
unfolding signed_byte
signed-byte (pos n) h = omega arith
signed-byte (negsuc n) h = omega arith

-- It is not -128.
pub above-least : (z : ℤ) → nat_abs z ≤ 127 → le_z (negsuc 126) z ≡ true
above-least (pos n) h = refl
above-least (negsuc n) h = le-leb n 126 (omega arith)

-- A byte's signed value that is not -128 is such a coordinate.
pub signed-small : (b : ℕ) → b < 256 → le_z (negsuc 126) (signed b) ≡ true → nat_abs (signed b) ≤ 127
signed-small b h e = go (ltb b 128) refl
  where
    go : (t : Bool) → ltb b 128 ≡ t → nat_abs (signed b) ≤ 127
    go true q = let l = ltb-true b 128 q in rw (signed_low b l) (omega arith)
    go false q =
        let l = ltb-false b 128 q in
        let v : signed b ≡ negsuc (255 - b) = signed_below b l h in
        let m = leb-true (255 - b) 126 (rw v at e) in
        rw v (omega arith)
