-- Cause 4 of the board that was read, from the tests of its fields.
use mathlib.Core.Bool.{Bool, true, false, not, cond, ◌&&◌, ◌||◌}
use mathlib.Core.List.{List}
use mathlib.Core.Path.{◌≡◌, refl, sym, ap, ◌∙◌}
use Prim.Native.Nat.{ℕ, ◌+◌, ◌*◌, ◌/◌, ◌≤◌}
use native.Mathlib.Nat.{mul-le-mul}
use native.Mathlib.Omega.{arith}
use lib.Dec.{ltb}
use mir.Syntax.{w64}
use mir.Val.{Fits}
use Rattle.model.specs.Grid.{dots, columns, rows}
use Rattle.model.specs.Lists.{between}
use Rattle.model.proofs.Lists.{and_left, and_right}
use Rattle.model.proofs.Records.{between-both}
use Rattle.frame.specs.Board.{BoardIn, unfit_board, board_unfit}
use Rattle.frame.specs.declared.board.Board.{Board}

-- One of three tests fails, or the fourth decides.
some-fails : (a b c d : Bool) → (not a || not b || not c || d) ≡ cond (a && b && c) d true
some-fails true true true d = refl
some-fails true true false d = refl
some-fails true false c d = refl
some-fails false b c d = refl

-- The product of two numbers of at most 1001 fits.
pub dots-fit : (a b : ℕ) → a ≤ 1001 → b ≤ 1001 → Fits w64 (a * b)
dots-fit a b p q = let h : a * b ≤ 1001 * 1001 = mul-le-mul p q in omega arith

-- What it takes to divide the width and the length into steps.
pub record Divides (b : Board) : Type 0 where
  pub step : 1 ≤ b.step
  pub width : b.width ≤ 1000
  pub len : b.length ≤ 1000

module _ (b : Board) (w l g : Bool) (ew : w ≡ between 1 1000 b.width) (el : l ≡ between 1 1000 b.length) (eg : g ≡ between 1 1000 b.step) where
  pub divides : (w && l && g) ≡ true → Divides b
  divides t =
      let wl = and_left (w && l) g t in
      record {
        step = (between-both 1 1000 _ (sym eg ∙ and_right (w && l) g t)).0;
        width = (between-both 1 1000 _ (sym ew ∙ and_left w l wl)).1;
        len = (between-both 1 1000 _ (sym el ∙ and_right w l wl)).1;
      }

  -- Cause 4: where the fields are in range, the number of dots decides.
  pub judged : (s : List ℕ) (o : ℕ) (t : Bool) → BoardIn s o b → (w && l && g) ≡ t
      → cond t (ltb 1024 ((b.length / b.step + 1) * (b.width / b.step + 1))) true ≡ board_unfit s o
  unfolding unfit_board dots columns rows
  judged s o t i e =
      let d = ltb 1024 ((b.length / b.step + 1) * (b.width / b.step + 1)) in
      ap (λ x. cond x d true) (sym e) ∙ sym (some-fails w l g d) ∙ rw (ew, el, eg, i.width, i.len, i.step)
