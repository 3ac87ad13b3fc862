-- The live sets of a level as the code makes them, and look-ahead over them.
use Rattle.std.specs.Prelude.{Bool, true, ◌||◌, List, ◌⊎◌, ◌≡◌, ℕ, ◌+◌, ◌*◌, ◌-◌, ◌≤◌, ◌<◌, leb, eqb, length, drop}
use Rattle.words.specs.Sets.{member}
use Rattle.model.specs.Content.{kind_count, piece_count}
use Rattle.model.specs.Problem.{Problem}
use Rattle.model.specs.Search.{copies_left}
use Rattle.model.specs.Services.{work_words}
use Rattle.candidates.specs.Conflicts
use Rattle.candidates.specs.declared.conflicts.Placed.{Placed}
use Rattle.stepping.specs.LiveSets.{set_of, members_of, Spans, Keeps, enough}
use Rattle.stepping.specs.Levels.{piece_kind, pieces_from, numbers_at, placed_of}
use Rattle.stepping.specs.Slots.{set_start, slot_of, Frame}

-- The sets of the levels below `depth` are kept.
abbrev pub SetsKept : Problem → List ℕ → ℕ → ℕ → ℕ → List ℕ → Type 0
SetsKept j ns depth bound span work =
    (l u : ℕ) → l < depth → u < kind_count j.kinds → 0 < copies_left u (pieces_from j.kinds l) → Keeps j (placed_of j ns l) bound span u (slot_of j work l u)

-- ---- The sets of one level

-- The sets of this level, which is not the first, can be made: those below are kept, and the latest piece was a member.
pub record Placeable (j : Problem) (ns : List ℕ) (level bound span : ℕ) (work : List ℕ) : Type 0 where
  pub within : level < piece_count j.kinds
  pub fits : work_words j * 8 ≤ length work
  pub later : 0 < level
  pub latest : set_of j (placed_of j ns (level - 1)) bound (piece_kind j.kinds (level - 1)) (numbers_at ns (level - 1)) ≡ true
  pub spans : Spans j bound span
  pub sets : SetsKept j ns level bound span work

-- The latest piece below a level: its kind, the number of its candidate, and where that stands on a board of so many rows.
pub record Latest (j : Problem) (rows : ℕ) (ns : List ℕ) (level t n : ℕ) (place : Placed) : Type 0 where
  pub kind : t ≡ piece_kind j.kinds (level - 1)
  pub number : n ≡ numbers_at ns (level - 1)
  pub placed : place ≡ Conflicts.placed_of rows n

-- The set of this level and kind is made, and no other changed.
pub record Made (j : Problem) (ns : List ℕ) (level bound span u : ℕ) (work work' : List ℕ) : Type 0 where
  pub kept : Keeps j (placed_of j ns level) bound span u (slot_of j work' level u)
  pub outside : (m : ℕ) → (m < set_start j level u * 64) ⊎ (set_start j level (u + 1) * 64 ≤ m) → member work' m ≡ member work m
  pub behind : drop (work_words j * 8) work' ≡ drop (work_words j * 8) work

-- Enough members for the copies of kind u that are left.
abbrev pub enough_of : Problem → List ℕ → ℕ → ℕ → ℕ → Bool
enough_of j ns level bound u =
    eqb (copies_left u (pieces_from j.kinds level)) 0 || leb (copies_left u (pieces_from j.kinds level)) (members_of j (placed_of j ns level) bound u)

-- The set of a kind with copies left is made, and told is whether it has enough members.
pub record KindSettled (j : Problem) (ns : List ℕ) (level bound span u : ℕ) (work work' : List ℕ) (told : Bool) : Type 0 where
  pub answer : told ≡ enough_of j ns level bound u
  pub kept : 0 < copies_left u (pieces_from j.kinds level) → Keeps j (placed_of j ns level) bound span u (slot_of j work' level u)
  pub outside : (m : ℕ) → (m < set_start j level u * 64) ⊎ (set_start j level (u + 1) * 64 ≤ m) → member work' m ≡ member work m
  pub behind : drop (work_words j * 8) work' ≡ drop (work_words j * 8) work

-- The same of all kinds.
pub record Settled (j : Problem) (ns : List ℕ) (level bound span : ℕ) (work work' : List ℕ) (told : Bool) : Type 0 where
  pub answer : told ≡ enough j (pieces_from j.kinds level) (placed_of j ns level) bound
  pub kept : told ≡ true → (u : ℕ) → u < kind_count j.kinds → 0 < copies_left u (pieces_from j.kinds level)
      → Keeps j (placed_of j ns level) bound span u (slot_of j work' level u)
  pub frame : Frame j level work work'
