-- Filling the table of no-fit strings: what a string is made of, its bits by the pieces as they stand in the table of turned parts, and a run of
-- words written whole.
use Rattle.std.specs.Prelude.{Bool, true, false, cond, ◌&&◌, ◌||◌, List, map, ◌⊎◌, ◌≡◌, ℕ, ◌+◌, ◌-◌, ◌*◌, ◌/◌, ◌%◌, ◌≤◌, ◌<◌, leb, ltb, eqb, ℤ}
use mir.Val.{bool_byte}
use Rattle.words.specs.Bits.{test_bit}
use Rattle.words.specs.Sets.{member}
use Rattle.model.specs.Content.{kind_at}
use Rattle.model.specs.Format.{content}
use Rattle.model.specs.Geometry.{pieces_conflict}
use Rattle.model.specs.Lists.{concat}
use Rattle.polygons.specs.Boxes.{extents_of}
use Rattle.polygons.specs.Flat.{shifted}
use Rattle.polygons.specs.declared.extents.Extents.{Extents}
use Rattle.geometry.specs.Pieces.{Standing, parts_in}
use Rattle.geometry.specs.declared.pieces.Piece.{Piece}
use Rattle.job.specs.View.{rotations_of}
use Rattle.job.specs.declared.View.{View}
use Rattle.shapes.specs.Boxes.{box_at}
use Rattle.shapes.specs.Pieces.{turned_to, Turnable}
use Rattle.shapes.specs.declared.boxes.Boxes.{Boxes}
use Rattle.candidates.specs.Conflicts.{view_gap}
use Rattle.candidates.specs.declared.prepared.PreparedJob.{PreparedJob}
use Rattle.nofit.specs.Patterns.{from_middle, blocked, above_string, below_string, MeasuresOf}
use Rattle.nofit.specs.declared.places.Nofit.{Nofit}
use Rattle.nofit.specs.declared.patterns.Dot.{Dot}
use Rattle.nofit.specs.declared.patterns.Pair.{Pair}
use Rattle.nofit.specs.declared.patterns.Pattern.{Pattern}

-- ---- a bit

-- Dot n of a string.
abbrev pub dot_of : ℕ → ℕ → Dot
dot_of rows n = record { column = n / rows; row = n % rows }

-- The pieces p and r, as they stand turned, are in conflict at the offset of a dot.
unfoldable pub conflict_at_dot : List ℤ → Pattern → Piece → Piece → Dot → Bool
conflict_at_dot table s p r d =
    pieces_conflict s.gap (parts_in table p)
    (map (map (shifted (from_middle s.step s.reach d.column) (from_middle s.step s.lift d.row))) (parts_in table r))

-- Bit z is set: it is below the bound, or its dot is one of the string's and in conflict.
unfoldable pub blocked_at_dot : List ℤ → Pattern → Piece → Piece → ℕ → Dot → Bool
blocked_at_dot table s p r z d = ltb z s.below || (ltb d.column (s.reach * 2 + 1) && conflict_at_dot table s p r d)

-- The same by the bit's number alone.
unfoldable pub blocked_turned : List ℤ → Pattern → Piece → Piece → ℕ → Bool
blocked_turned table s p r z =
    ltb z s.below
    || (leb 64 z && ltb ((z - 64) / 4 / s.rows) (s.reach * 2 + 1) && conflict_at_dot table s p r (dot_of s.rows ((z - 64) / 4)))

-- The same with the other piece turned as the bit's number says.
unfoldable pub blocked_bit : List ℤ → Pattern → Piece → Piece → ℕ → Bool
blocked_bit table s p r z = blocked_turned table s p (turned_to r (z % 4)) z

-- The numbers of a pattern are small.
pub record Ready (s : Pattern) : Type 0 where
  pub some : 1 ≤ s.rows
  pub few : s.rows ≤ 4000
  pub near : s.reach ≤ 4000
  pub across : s.reach * s.step ≤ 2000
  pub up : s.rows * s.step ≤ 2000
  pub lifted : s.lift ≤ s.rows
  pub bound : 0 < s.below → 64 ≤ s.below

-- The piece stands in the table, and e is its box.
pub record Boxed (table : List ℤ) (p : Piece) (e : Extents) : Type 0 where
  pub stands : Standing table p
  pub box : e ≡ extents_of (concat (parts_in table p))

-- The piece of kind u stands in the table at all rotations, and these are its boxes.
pub record BoxesIn (table : List ℤ) (r : Piece) (u : ℕ) (b : Boxes) : Type 0 where
  pub kind : u < 8
  pub turnable : Turnable table r
  pub boxes : (k : ℕ) → k < 4 → box_at b u k ≡ extents_of (concat (parts_in table (turned_to r k)))

-- ---- words

-- Every fourth bit of a word, from bit k on and below bit n × 4, is as b says, and the bits of the other rotations are as they were.
pub record TurnSet (k n : ℕ) (b : ℕ → Bool) (old new : ℕ) : Type 0 where
  pub same : (i : ℕ) → i < n * 4 → i % 4 ≡ k → test_bit new i ≡ b i
  pub other : (i : ℕ) → (i % 4 ≡ k → ⊥) → test_bit new i ≡ test_bit old i

-- The word has the bits that b says, where it is asked for.
abbrev pub WordSet : (ℕ → Bool) → (ℕ → Bool) → ℕ → Type 0
WordSet asked b v = (i : ℕ) → i < 64 → asked i ≡ true → test_bit v i ≡ b i

-- All bits of the word are set, or none, as the bound says.
abbrev pub FirstWord : ℕ → ℕ → Type 0
FirstWord below v = (i : ℕ) → i < 64 → test_bit v i ≡ ltb 0 below

-- The n words from word `at` on have the members that p says, where it is asked for, and all others are as they were.
pub record Written (at n : ℕ) (asked p : ℕ → Bool) (old new : List ℕ) : Type 0 where
  pub inside : (z : ℕ) → z < n * 64 → asked z ≡ true → member new (at * 64 + z) ≡ p z
  pub outside : (m : ℕ) → (m < at * 64) ⊎ ((at + n) * 64 ≤ m) → member new m ≡ member old m

-- The rotations that a mask allows.
abbrev pub allowed : ℕ → ℕ → Bool
allowed mask z = test_bit mask (z % 4)

-- ---- strings

-- How many times as many rows as the board has the string's rows begin under the placed one's.
abbrev pub under_of : Pair → ℕ
under_of x = bool_byte x.under

-- String i is that of this pair: of a kind and its rotation and a kind that is not before it, for the rows at or above the placed one's or for those under it.
pub record PairOf (w : Nofit) (i : ℕ) (x : Pair) : Type 0 where
  pub ordered : x.kind ≤ x.other
  pub exists : x.other < w.kinds
  pub turn : x.turn < 4
  pub which : ((x.under ≡ false) × (above_string w x.kind x.turn x.other ≡ i)) ⊎ ((x.under ≡ true) × (below_string w x.kind x.turn x.other ≡ i))

-- The number below which all of a string is blocked: in the string of a kind with itself that behind the placed piece's.
unfoldable pub bound_of : Nofit → Pair → ℕ
bound_of w x = cond (eqb x.kind x.other) (64 + (w.reach + under_of x) * w.rows * 4 + x.turn + 1) 0

-- The pattern of a pair.
abbrev pub pattern_of : View → Nofit → Pair → Pattern
pattern_of v w x =
    record {
      step = v.step;
      rows = w.rows;
      reach = w.reach;
      lift = under_of x * w.rows;
      below = bound_of w x;
      mask = rotations_of v x.other;
      gap = view_gap v x.kind x.other;
    }

-- Numbers that are small enough to count with.
pub record Small (w : Nofit) (x : Pair) : Type 0 where
  pub reach : w.reach ≤ 4000
  pub rows : w.rows ≤ 4000
  pub turn : x.turn < 4
  pub bits : (w.reach + under_of x) * w.rows ≤ 4000

-- What the table is filled from, and room for it.
pub record Fillable (p : PreparedJob) (w : Nofit) (room : ℕ) : Type 0 where
  pub measures : MeasuresOf p.job.now w
  pub fits : (w.first + w.held * w.size + 1) * 8 ≤ room

-- Which bits of a pair's string are asked for, and what they say.
abbrev pub asked_of : PreparedJob → Pair → ℕ → Bool
asked_of p x = allowed (kind_at (content p.job.now).kinds x.other).rotations

abbrev pub blocked_pair : PreparedJob → Nofit → Pair → ℕ → Bool
blocked_pair p w x = blocked (content p.job.now) w x.kind x.turn x.other (under_of x)

-- ---- parities

-- The bits of word k of the parities.
abbrev pub parity_bits : ℕ → ℕ → ℕ → Bool
parity_bits rows k i = test_bit ((k * 64 + i) / 4 / rows) 0

-- The first words have the parities of so many rows.
abbrev pub ParitiesTo : ℕ → ℕ → List ℕ → Type 0
ParitiesTo rows n bits = (p : ℕ) → p < n * 64 → member bits p ≡ test_bit (p / 4 / rows) 0
