-- No-fit patterns. Whether a placed piece leaves a candidate of another kind live turns only on both kinds, both rotations and the offset from the one dot to
-- the other. Candidate numbers run column by column, so that an offset of columns and rows is a fixed distance between two numbers, whatever the column: for
-- a placed kind and rotation and another kind the answers stand in a string of bits, which is laid over the numbers of that kind at a shift. Two offsets
-- have the same distance, one to a row at or above the placed one's row and one to a row under it in the next column; so there are two strings.
use Rattle.std.specs.Prelude.{Bool, true, false, ◌&&◌, ◌||◌, List, map, ◌⊎◌, ◌≡◌, ℕ, ◌+◌, ◌-◌, ◌*◌, ◌/◌, ◌%◌, ◌≤◌, ◌<◌, leb, ltb, eqb, ℤ, pos, ◌-ℤ◌, length}
use Rattle.words.specs.Bits.{test_bit}
use Rattle.words.specs.Sets.{member}
use Rattle.model.specs.Content.{Job, kind_at, kind_count}
use Rattle.model.specs.Format.{content, refusal}
use Rattle.model.specs.Gap.{pair_gap}
use Rattle.model.specs.Geometry.{rotated, pieces_conflict}
use Rattle.model.specs.Grid
use Rattle.model.specs.Grid.{set_words}
use Rattle.polygons.specs.Flat.{shifted}
use Rattle.nofit.specs.declared.places.Nofit.{Nofit}

-- ---- offsets

-- Kind t, turned q quarter turns, is in conflict with kind u, turned k quarter turns and moved by (dx, dy).
unfoldable pub offset_conflict : Job → ℕ → ℕ → ℕ → ℕ → ℤ → ℤ → Bool
offset_conflict j t q u k dx dy =
    pieces_conflict (pair_gap j.classes (kind_at j.kinds t) (kind_at j.kinds u)) (map (map (rotated q)) (kind_at j.kinds t).parts)
    (map (map (shifted dx dy)) (map (map (rotated k)) (kind_at j.kinds u).parts))

-- How far place n lies from the middle one, where the dots are a step apart.
abbrev pub from_middle : ℕ → ℕ → ℕ → ℤ
from_middle step middle n = pos (n * step) -ℤ pos (middle * step)

-- These are asked for: the kinds exist, the second is not before the first, and both may be turned so.
pub record Needed (j : Job) (t q u k : ℕ) : Type 0 where
  pub ordered : t ≤ u
  pub exists : u < kind_count j.kinds
  pub first : test_bit (kind_at j.kinds t).rotations q ≡ true
  pub second : test_bit (kind_at j.kinds u).rotations k ≡ true

-- ---- the strings

-- Bit z of a string of kind t, turned q quarter turns, and kind u. Four bits, one for each rotation of kind u, belong to each dot; the dots of a column follow one
-- another, from the column `reach` before the placed piece to the column `reach` behind it, and 64 bits stand before them. The rows are those from the placed
-- piece's row on (down = 0), or from the row that is as many rows under it as the board has (down = 1). The bit is set where the offset is in conflict, and in
-- a string of one kind with itself also where the number is not above that of the placed piece.
unfoldable pub blocked : Job → Nofit → ℕ → ℕ → ℕ → ℕ → ℕ → Bool
blocked j w t q u down z =
    (eqb t u && leb z (64 + (w.reach + down) * w.rows * 4 + q))
    || (leb 64 z && ltb ((z - 64) / 4 / w.rows) (w.reach * 2 + 1)
    && offset_conflict j t q u (z % 4) (from_middle j.sheet.g w.reach ((z - 64) / 4 / w.rows)) (from_middle j.sheet.g (down * w.rows) ((z - 64) / 4 % w.rows)))

-- The number of the string for the rows at or above the placed one's, and of that for the rows under it. (Kind u is not before kind t. In a table
-- of as many lines as kinds and one column more, the former stand right of the diagonal and the latter on it and left of it.)
unfoldable pub above_string : Nofit → ℕ → ℕ → ℕ → ℕ
above_string w t q u = (t * (w.kinds + 1) + (u + 1)) * 4 + q

unfoldable pub below_string : Nofit → ℕ → ℕ → ℕ → ℕ
below_string w t q u = (u * (w.kinds + 1) + t) * 4 + q

-- The bit at which string i begins.
unfoldable pub string_start : Nofit → ℕ → ℕ
string_start w i = (w.first + i * w.size) * 64

-- The strings below n have the answers of their kinds and rotations.
pub record StringsOf (j : Job) (w : Nofit) (n : ℕ) (bits : List ℕ) : Type 0 where
  pub above : (t q u z : ℕ) → Needed j t q u (z % 4) → q < 4 → z < w.size * 64 → above_string w t q u < n
      → member bits (string_start w (above_string w t q u) + z) ≡ blocked j w t q u 0 z
  pub below : (t q u z : ℕ) → Needed j t q u (z % 4) → q < 4 → z < w.size * 64 → below_string w t q u < n
      → member bits (string_start w (below_string w t q u) + z) ≡ blocked j w t q u 1 z

-- ---- the parities

-- The first words tell whether the column of a number is odd, where the columns are counted from one before the board's first one: number m
-- stands at m and one column more. Two numbers less than a column apart stand in the same column exactly if their parities agree.
abbrev pub ParitiesOf : Nofit → List ℕ → Type 0
ParitiesOf w bits = (p : ℕ) → p < w.first * 64 → member bits p ≡ test_bit (p / 4 / w.rows) 0

-- ---- the table

-- Pieces that stand so many columns apart are not in conflict.
abbrev pub Reaching : Job → ℕ → Type 0
Reaching j reach =
    (t q u k a c : ℕ) (dy : ℤ) → Needed j t q u k → q < 4 → k < 4 → a < Grid.columns j.sheet → c < Grid.columns j.sheet
    → (a + reach ≤ c) ⊎ (c + reach ≤ a) → offset_conflict j t q u k (pos (c * j.sheet.g) -ℤ pos (a * j.sheet.g)) dy ≡ false

-- The measures of a table for this job: its kinds and rows, how far pieces reach, and room for the parities of all numbers and for a string.
pub record MeasuresOf (s : List ℕ) (w : Nofit) : Type 0 where
  pub accepted : refusal s ≡ 0
  pub kinds : w.kinds ≡ kind_count (content s).kinds
  pub rows : w.rows ≡ Grid.rows (content s).sheet
  pub some : 1 ≤ w.reach
  pub across : w.reach * (content s).sheet.g ≤ 2000
  pub up : w.rows * (content s).sheet.g ≤ 2000
  pub reaching : Reaching (content s) w.reach
  pub parities : w.rows * 4 + set_words (content s).sheet * 64 ≤ w.first * 64
  pub string : (w.reach * 2 + 1) * w.rows * 4 + 128 ≤ w.size * 64
  pub small : (w.first ≤ 200) × (w.size ≤ 200)
  pub few : w.held ≤ w.kinds * (w.kinds + 1) * 4

-- The table has them. Behind the last string it has a word more, so that 64 bits from any bit of a string lie in two of its words.
pub record NofitOf (s : List ℕ) (w : Nofit) (bits : List ℕ) : Type 0 where
  pub measures : MeasuresOf s w
  pub fits : (w.first + w.held * w.size + 1) * 8 ≤ length bits
  pub columns : ParitiesOf w bits
  pub strings : StringsOf (content s) w w.held bits
