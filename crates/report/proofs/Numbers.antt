-- Numbers in base ten: the library writes the digits of the definition. And how long a number is with the byte that
-- ends it.
use mathlib.Core.List.{List, [], ◌∷◌, ◌++◌, append_assoc}
use mathlib.Core.Path.{◌≡◌, sym, ap, ◌∙◌}
use Prim.Native.Nat.{ℕ, ◌+◌, ◌%◌, ◌<◌, ◌≤◌}
use native.Mathlib.Omega.{arith}
use lib.ListN.{length, length-append}
use Rattle.std.specs.Fmt as Std
use Rattle.std.proofs.lemmas.Fmt.{decimal_by_steps}
use Rattle.model.specs.Output.{decimal}
use Rattle.model.proofs.Decimal.{decimal-last, decimal-more, decimal-16, decimal-32}
use Rattle.report.specs.Text.{number_then}

pub decimal-same : (n : ℕ) → n < 18446744073709551616 → Std.decimal n ≡ decimal n
decimal-same =
    decimal_by_steps (λ n ds. ds ≡ decimal n) (λ n l. sym (decimal-last n l))
    (λ n ds l e. ap (λ t. t ++ ((48 + n % 10) ∷ [])) e ∙ sym (decimal-more n l))

pub number-length : (n mark : ℕ) → length (number_then n mark) ≡ length (decimal n) + 1
unfolding number_then
number-length n mark = length-append (decimal n) (mark ∷ [])

-- A number of 16 bits, or of 32, and a byte.
pub number-16 : (n mark : ℕ) → n < 65536 → length (number_then n mark) ≤ 6
number-16 n mark h = omega (arith, number-length n mark, decimal-16 n h)

pub number-32 : (n mark : ℕ) → n < 4294967296 → length (number_then n mark) ≤ 11
number-32 n mark h = omega (arith, number-length n mark, decimal-32 n h)

-- The digits that the library writes and then a byte are the number.
module _ (n mark : ℕ) (digits : List ℕ) (fits : n < 4294967296) (written : digits ≡ Std.decimal n) where
  pub digits-length : length (number_then n mark) ≡ length digits + 1
  digits-length = omega (arith, number-length n mark, ap length (written ∙ decimal-same n (omega arith)))

  pub digits_then : (before : List ℕ) → (before ++ digits) ++ mark ∷ [] ≡ before ++ number_then n mark
  unfolding number_then
  digits_then before =
      append_assoc before digits (mark ∷ [])
      ∙ ap (λ t. before ++ (t ++ mark ∷ [])) (written ∙ decimal-same n (omega arith))
