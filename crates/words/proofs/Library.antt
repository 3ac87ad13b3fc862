-- What the library reads from bytes and writes as bytes, low byte first, is the number and the bytes of these
-- definitions, at every k.
use mathlib.Core.Path.{◌≡◌, refl, sym, ap, ap₂, ◌∙◌}
use mathlib.Core.List.{List, ◌∷◌, ◌++◌, append_assoc}
use Prim.Native.Nat.{ℕ, zero, suc, ◌+◌, ◌-◌, ◌*◌, ◌/◌, ◌%◌, ◌^◌}
use native.Mathlib.Nat.{zero-add, mul_comm, div-one, div-div-eq-div-mul, pow-suc}
use native.Mathlib.Numerals.{add-one}
use native.Mathlib.Omega.{arith}
use lib.ListN.{length, get_or, take, drop}
use lib.Seq.{drop-drop}
use borrow.Rule.Slice.PartMut.{put_mid}
use Rattle.std.specs.Array.{IsWholeChunk}
use Rattle.std.specs.Int.{byte_at, byte_worth, bytes_low_first, sum_through}
use Rattle.words.specs.Number.{value, bytes, number_at, with_number}
use Rattle.words.proofs.Place.{number_at-zero, number_at-suc, number_at-add, number_at-whole}

-- ---- writing

byte_at-is : (i n : ℕ) → byte_at i n ≡ n / 256 ^ i % 256
byte_at-is zero n = ap (λ (x : ℕ). x % 256) (sym (div-one n))
byte_at-is (suc i) n = refl

low_first : (k i n : ℕ) → bytes_low_first i k n ≡ bytes k (n / 256 ^ i)
unfolding bytes
low_first zero i n = refl
low_first (suc k) i n =
    ap₂ {C = List ℕ} (λ (b : ℕ) (bs : List ℕ). b ∷ bs) (byte_at-is i n)
    (low_first k (suc i) n ∙ ap (bytes k) (ap (λ (m : ℕ). n / m) (pow-suc 256 i)
    ∙ sym (div-div-eq-div-mul n (256 ^ i) 256)))

-- The bytes that the library makes of a number, put in the place of k bytes, are a write of that number.
pub put-is : (k : ℕ) (s : List ℕ) (i n : ℕ) (bs : List ℕ) → bs ≡ bytes_low_first 0 k n
    → put_mid i (i + k - i) s bs ≡ with_number k s i n
unfolding with_number
put-is k s i n bs e =
    let made : bs ≡ bytes k n = e ∙ low_first k 0 n ∙ ap (bytes k) (div-one n) in
    let many : i + k - i ≡ k = omega arith in
    ap₂ {C = List ℕ} (λ (bs rest : List ℕ). take i s ++ (bs ++ rest)) made
    (ap (λ (m : ℕ). drop m (drop i s)) many ∙ drop-drop k i s)
    ∙ sym (append_assoc (take i s) (bytes k n) (drop (i + k) s))

-- ---- reading

worth : (i b : ℕ) → byte_worth i b ≡ 256 ^ i * b
worth zero b = omega arith
worth (suc i) b = mul_comm b (256 ^ suc i)

sum-is : (k : ℕ) (bs : List ℕ) → sum_through (λ i. byte_worth i (get_or bs i 0)) k ≡ number_at (suc k) bs 0
sum-is zero bs = sym (rw (number_at-suc 0 bs 0, number_at-zero) (omega arith))
sum-is (suc k) bs =
    let last : number_at 1 bs (suc k) ≡ get_or bs (suc k) 0 =
    rw (number_at-suc 0 bs (suc k), number_at-zero) (omega arith) in
    ap₂ ◌+◌ (sum-is k bs) (worth (suc k) (get_or bs (suc k) 0) ∙ ap (λ (x : ℕ). 256 ^ suc k * x) (sym last))
    ∙ sym (rw (zero-add, add-one) at (number_at-add (suc k) 1 bs 0))

-- The number that the library reads from all of the k bytes from byte i on is the one that stands there.
pub read-is : (k : ℕ) (s : List ℕ) (i : ℕ) (bs : List ℕ) (n : ℕ)
    → IsWholeChunk (take (i + suc k - i) (drop i s)) bs (suc k)
    → n ≡ sum_through (λ j. byte_worth j (get_or bs j 0)) k → n ≡ number_at (suc k) s i
unfolding number_at
read-is k s i bs n w e =
    let many : i + suc k - i ≡ suc k = omega arith in
    e ∙ sum-is k bs ∙ number_at-whole (suc k) bs (ap length w.same ∙ w.long)
    ∙ ap value (w.same ∙ ap (λ (m : ℕ). take m (drop i s)) many)
