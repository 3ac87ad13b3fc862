-- The board that stands in a job's bytes from byte o on.
use Rattle.std.specs.Prelude.{Bool, not, ◌||◌, List, ◌≡◌, ℕ, ◌+◌, ltb}
use Rattle.model.specs.Content as Model
use Rattle.model.specs.Format.{word_at, board_from}
use Rattle.model.specs.Grid.{dots}
use Rattle.model.specs.Lists.{between}
use Rattle.frame.specs.declared.board.Board.{Board}

-- The fields that were read are those of the bytes.
pub record BoardIn (s : List ℕ) (o : ℕ) (b : Board) : Type 0 where
  pub width : b.width ≡ word_at s o
  pub len : b.length ≡ word_at s (o + 2)
  pub step : b.step ≡ word_at s (o + 4)

-- Cause 4 of a board.
unfoldable pub unfit_board : Model.Board → Bool
unfit_board b = not (between 1 1000 b.W) || not (between 1 1000 b.L) || not (between 1 1000 b.g) || ltb 1024 (dots b)

abbrev pub board_unfit : List ℕ → ℕ → Bool
board_unfit s o = unfit_board (board_from s o)
