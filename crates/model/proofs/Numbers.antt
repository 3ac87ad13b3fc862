-- A candidate's number and its column, row and turn determine each other.
use mathlib.Core.Path.{◌≡◌, ap, ◌∙◌}
use Prim.Native.Nat.{ℕ, ◌+◌, ◌*◌, ◌/◌, ◌%◌, ◌<◌}
use native.Mathlib.Nat.{div-add-mod', mul-add-div_right, mul-add-mod_self_right, div-eq_of_lt, mod-eq_of_lt, add-zero, mod-lt}
use native.Mathlib.Omega.{arith}
use Rattle.model.specs.Content.{Board}
use Rattle.model.specs.Grid.{Placement, rows, number_of, placement_of}

-- There is a row at y = 0.
pub rows-positive : (b : Board) → 0 < rows b
unfolding rows
rows-positive b = omega arith

-- The placement of a number has that number.
pub number-of_placement : (b : Board) (n : ℕ) → number_of b (placement_of b n) ≡ n
unfolding number_of placement_of
number-of_placement b n = rw (div-add-mod' (n / 4) (rows b), div-add-mod' n 4)

-- What a number's placement always has: a row of the board and one of four turns.
pub placement-row : (b : Board) (n : ℕ) → (placement_of b n).row < rows b
unfolding placement_of
placement-row b n = mod-lt (n / 4) (rows-positive b)

pub placement-rotation : (b : Board) (n : ℕ) → (placement_of b n).rotation < 4
unfolding placement_of
placement-rotation b n = omega arith

-- A quotient and a remainder, put together, come apart again.
quotient : (m q r : ℕ) → r < m → (q * m + r) / m ≡ q
quotient m q r h = mul-add-div_right (omega arith) q r ∙ ap (λ d. q + d) (div-eq_of_lt h) ∙ add-zero q

remainder : (m q r : ℕ) → r < m → (q * m + r) % m ≡ r
remainder m q r h = mul-add-mod_self_right q m r ∙ mod-eq_of_lt h

-- A placement on a row of the board and with one of four turns is that of its number.
pub placement-of_number : (b : Board) (p : Placement) → p.row < rows b → p.rotation < 4 → placement_of b (number_of b p) ≡ p
unfolding number_of placement_of
placement-of_number b p h k =
    rw (
      quotient 4 (p.column * rows b + p.row) p.rotation k,
      remainder 4 (p.column * rows b + p.row) p.rotation k,
      quotient (rows b) p.column p.row h,
      remainder (rows b) p.column p.row h,
    )
