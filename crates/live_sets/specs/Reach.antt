-- Where the strings of the no-fit patterns are laid over a word of a live set.
use Rattle.std.specs.Prelude.{true, List, ◌≡◌, ℕ, ◌+◌, ◌*◌, ◌%◌, ◌≤◌, ◌<◌, length}
use Rattle.model.specs.Candidate.{is_candidate}
use Rattle.model.specs.Content.{kind_count}
use Rattle.model.specs.Format.{content}
use Rattle.model.specs.Grid.{set_words}
use Rattle.model.specs.Problem.{under}
use Rattle.candidates.specs.Conflicts.{placed_of}
use Rattle.candidates.specs.declared.conflicts.Placed.{Placed}
use Rattle.nofit.specs.Patterns.{above_string, below_string, ParitiesOf, NofitOf}
use Rattle.nofit.specs.declared.places.Nofit.{Nofit}

-- The parities of the columns of 64 numbers, and of those that are so many rows before them, are in the table.
pub record Rowed (w : Nofit) (bits : List ℕ) (row first : ℕ) : Type 0 where
  pub small : w.first ≤ 200
  pub columns : ParitiesOf w bits
  pub fits : (w.first + 1) * 8 ≤ length bits
  pub within : first + 64 + w.rows * 4 ≤ w.first * 64
  pub inside : row < w.rows

-- The strings of kinds t and u are held; candidate n of kind t stands at the place; and the word is one of a set. (Strings do not know the margin, and every
-- candidate is one at margin 0: so they speak of those.)
pub record Laid (s : List ℕ) (w : Nofit) (bits : List ℕ) (t n : ℕ) (place : Placed) (u first : ℕ) : Type 0 where
  pub table : NofitOf s w bits
  pub candidate : is_candidate (under 0 (content s)) t n ≡ true
  pub stands : place ≡ placed_of w.rows n
  pub ordered : t ≤ u
  pub exists : u < kind_count (content s).kinds
  pub above : above_string w t (n % 4) u < w.held
  pub below : below_string w t (n % 4) u < w.held
  pub within : first + 64 ≤ set_words (content s).sheet * 64

-- The 64 numbers from first on lie neither all before the reach of a piece in this column nor all behind it.
pub record Near (w : Nofit) (column first : ℕ) : Type 0 where
  pub from : column * w.rows * 4 + w.rows * 4 < first + 64 + w.reach * w.rows * 4
  pub to : first < column * w.rows * 4 + w.reach * w.rows * 4
