-- Numbers in base ten: the digits by repeated division, whatever number of divisions is allowed, and how many digits there are.
use mathlib.Core.List.{List, [], ◌∷◌, ◌++◌, append_assoc}
use mathlib.Core.Logic.{⊎_elim}
use mathlib.Core.Path.{◌≡◌, refl, sym, ap, ◌∙◌}
use Prim.Native.Nat.{ℕ, zero, suc, ◌+◌, ◌*◌, ◌/◌, ◌%◌, ◌^◌, ◌<◌, ◌≤◌}
use native.Mathlib.Nat.{not-suc-le-zero, pow-suc}
use native.Mathlib.Omega.{arith}
use borrow.Author.Tests.{eq-eqb, ne_eqb}
use lib.ListN.{length, length-append}
use Rattle.words.proofs.Cases.{le_or_lt}
use Rattle.model.specs.Output.{digits_before, decimal}

-- A number below ten is one digit, and a larger one has the digits of its tenth and then its last digit.
digits_last : (f n : ℕ) (behind : List ℕ) → n < 10 → digits_before (suc f) n behind ≡ (48 + n) ∷ behind
unfolding digits_before
digits_last f n behind h =
    let tenth : n / 10 ≡ 0 = omega arith in
    let last : n % 10 ≡ n = omega arith in
    rw (eq-eqb (n / 10) 0 tenth, last, digits_before)

digits_more : (f n : ℕ) (behind : List ℕ) → 10 ≤ n → digits_before (suc f) n behind ≡ digits_before f (n / 10) ((48 + n % 10) ∷ behind)
unfolding digits_before
digits_more f n behind h = rw (ne_eqb (n / 10) 0 (λ q. omega arith), digits_before)

-- The number of divisions that is allowed makes no difference once it is above the number.
pub digits_fuel : (f g n : ℕ) (behind : List ℕ) → n < f → n < g → digits_before f n behind ≡ digits_before g n behind
digits_fuel zero g n behind h k = absurd (not-suc-le-zero h)
digits_fuel (suc f) zero n behind h k = absurd (not-suc-le-zero k)
digits_fuel (suc f) (suc g) n behind h k =
    ⊎_elim
    (λ l. digits_more f n behind l
    ∙ digits_fuel f g (n / 10) ((48 + n % 10) ∷ behind) (omega arith) (omega arith)
    ∙ sym (digits_more g n behind l))
    (λ l. digits_last f n behind l ∙ sym (digits_last g n behind l))
    (le_or_lt 10 n)

-- What stands behind the digits stays there.
pub digits_behind : (f n : ℕ) (behind : List ℕ) → digits_before f n behind ≡ digits_before f n [] ++ behind
unfolding digits_before
digits_behind zero n behind = refl
digits_behind (suc f) n behind =
    ⊎_elim
    (λ l. digits_more f n behind l
    ∙ digits_behind f (n / 10) ((48 + n % 10) ∷ behind)
    ∙ sym (append_assoc (digits_before f (n / 10) []) ((48 + n % 10) ∷ []) behind)
    ∙ ap (λ (ds : List ℕ). ds ++ behind) (sym (digits_more f n [] l ∙ digits_behind f (n / 10) ((48 + n % 10) ∷ []))))
    (λ l. digits_last f n behind l ∙ ap (λ (ds : List ℕ). ds ++ behind) (sym (digits_last f n [] l)))
    (le_or_lt 10 n)

-- n in base ten, by repeated division.
pub decimal-last : (n : ℕ) → n < 10 → decimal n ≡ (48 + n) ∷ []
unfolding decimal
decimal-last n h = digits_last n n [] h

pub decimal-more : (n : ℕ) → 10 ≤ n → decimal n ≡ decimal (n / 10) ++ (48 + n % 10) ∷ []
unfolding decimal
decimal-more n h =
    digits_more n n [] h
    ∙ digits_fuel n (suc (n / 10)) (n / 10) ((48 + n % 10) ∷ []) (omega arith) (omega arith)
    ∙ digits_behind (suc (n / 10)) (n / 10) ((48 + n % 10) ∷ [])

-- Any number of divisions above n gives n in base ten.
pub decimal-fuel : (f n : ℕ) → n < f → digits_before f n [] ≡ decimal n
unfolding decimal
decimal-fuel f n h = digits_fuel f (suc n) n [] h (omega arith)

-- A number below the power 10 ^ k has at most k digits (and 0 has one).
pub decimal-length : (k n : ℕ) → n < 10 ^ suc k → length (decimal n) ≤ suc k
decimal-length zero n h = rw (decimal-last n h) (omega arith)
decimal-length (suc k) n h =
    ⊎_elim
    (λ (l : 10 ≤ n).
    let p : 10 ^ suc (suc k) ≡ 10 ^ suc k * 10 = pow-suc 10 (suc k) in
    let short : length (decimal (n / 10)) ≤ suc k = decimal-length k (n / 10) (omega arith) in
    rw (decimal-more n l, length-append) (omega arith))
    (λ l. rw (decimal-last n l) (omega arith))
    (le_or_lt 10 n)

-- A number of 8, 16 or 32 bits.
pub decimal-8 : (n : ℕ) → n < 256 → length (decimal n) ≤ 3
decimal-8 n h = decimal-length 2 n (omega arith)

pub decimal-16 : (n : ℕ) → n < 65536 → length (decimal n) ≤ 5
decimal-16 n h = decimal-length 4 n (omega arith)

pub decimal-32 : (n : ℕ) → n < 4294967296 → length (decimal n) ≤ 10
decimal-32 n h = decimal-length 9 n (omega arith)
