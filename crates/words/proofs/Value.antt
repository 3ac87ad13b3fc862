-- The value of bytes and the bytes of a value: each undoes the other, at every number k of bytes.
use mathlib.Core.Path.{◌≡◌, refl, sym, ap, ap₂, ◌∙◌}
use mathlib.Core.List.{List, [], ◌∷◌, ◌++◌}
use Prim.Native.Nat.{ℕ, zero, suc, ◌+◌, ◌*◌, ◌/◌, ◌%◌, ◌^◌, ◌<◌}
use native.Mathlib.Nat.{zero-add, suc-add, div-one, div-div-eq-div-mul, pow-succ', pow-suc, mod-one, mod-eq_of_lt, one-le-pow}
use native.Mathlib.Omega.{arith}
use lib.Arith.{mod-mul}
use lib.ListN.{length}
use Rattle.words.specs.Number.{value, bytes}
use Rattle.words.specs.Bytes.{AreBytes}

-- A power of 256 is positive.
pub pow256_pos : (k : ℕ) → 0 < 256 ^ k
pow256_pos k = one-le-pow k 256 (omega arith)

-- One more digit of 256 below: a number of k + 1 digits is its lowest digit and the k digits of the rest.
pub mod_pow256_suc : (k n : ℕ) → n % 256 ^ suc k ≡ n % 256 + 256 * (n / 256 % 256 ^ k)
mod_pow256_suc k n =
    rw (pow-suc, mod-mul n {m = 256 ^ k} {c = 256} (pow256_pos k) (omega arith)) (omega arith)

-- A number in k bytes has k of them.
pub length-bytes : (k n : ℕ) → length (bytes k n) ≡ k
unfolding bytes
length-bytes zero n = refl
length-bytes (suc k) n = ap suc (length-bytes k (n / 256))

-- Each of them is a byte.
pub bytes-are : (k n : ℕ) → AreBytes (bytes k n)
unfolding bytes
bytes-are zero n i = omega arith
bytes-are (suc k) n zero = omega arith
bytes-are (suc k) n (suc i) = bytes-are k (n / 256) i

-- The value of the k bytes of n is n, as far as k bytes reach.
pub value-bytes : (k n : ℕ) → value (bytes k n) ≡ n % 256 ^ k
unfolding value bytes
value-bytes zero n = sym (mod-one n)
value-bytes (suc k) n = ap (λ (x : ℕ). n % 256 + 256 * x) (value-bytes k (n / 256)) ∙ sym (mod_pow256_suc k n)

-- So it is n itself where n fits k bytes.
pub value-bytes-of : (k n : ℕ) → n < 256 ^ k → value (bytes k n) ≡ n
value-bytes-of k n h = value-bytes k n ∙ mod-eq_of_lt h

-- The value of k bytes fits k bytes.
pub value-lt : (bs : List ℕ) → AreBytes bs → value bs < 256 ^ length bs
unfolding value
value-lt [] h = omega arith
value-lt (b ∷ bs) h =
    rw (pow-succ' 256 (length bs)) (omega (arith, h 0, value-lt bs (λ i. h (suc i))))

-- The bytes of the value of bytes are these bytes.
pub bytes-value : (bs : List ℕ) → AreBytes bs → bytes (length bs) (value bs) ≡ bs
unfolding value bytes
bytes-value [] h = refl
bytes-value (b ∷ bs) h =
    let low : (b + 256 * value bs) % 256 ≡ b = omega (arith, h 0) in
    let high : (b + 256 * value bs) / 256 ≡ value bs = omega (arith, h 0) in
    ap₂ {C = List ℕ} (λ (x y : ℕ). x ∷ bytes (length bs) y) low high
    ∙ ap (λ (r : List ℕ). b ∷ r) (bytes-value bs (λ i. h (suc i)))

-- The k bytes of n see no more of n than k bytes hold.
pub bytes-mod : (k n : ℕ) → bytes k (n % 256 ^ k) ≡ bytes k n
unfolding bytes
bytes-mod zero n = refl
bytes-mod (suc k) n =
    let low : n % 256 ^ suc k % 256 ≡ n % 256 = rw mod_pow256_suc (omega arith) in
    let high : n % 256 ^ suc k / 256 ≡ n / 256 % 256 ^ k = rw mod_pow256_suc (omega arith) in
    ap₂ {C = List ℕ} (λ (x y : ℕ). x ∷ bytes k y) low high ∙ ap (λ (r : List ℕ). n % 256 ∷ r) (bytes-mod k (n / 256))

-- The j + k bytes of n are its j low bytes and then the k bytes of what is above them.
pub bytes-add : (j k n : ℕ) → bytes (j + k) n ≡ bytes j n ++ bytes k (n / 256 ^ j)
unfolding bytes
bytes-add zero k n = rw (zero-add, div-one)
bytes-add (suc j) k n =
    rw (suc-add, pow-succ' 256 j, ← (div-div-eq-div-mul n 256 (256 ^ j)))
    (ap (λ (r : List ℕ). n % 256 ∷ r) (bytes-add j k (n / 256)))
