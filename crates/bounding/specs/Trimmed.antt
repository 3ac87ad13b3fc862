-- The live sets at a bound that leaves some of their members out.
use Rattle.std.specs.Prelude.{Bool, true, ◌&&◌, List, ◌⊎◌, ◌≡◌, ℕ, ◌+◌, ◌*◌, ◌/◌, ◌%◌, ◌≤◌, ◌<◌, ltb, length, drop}
use Rattle.words.specs.Number.{number_at}
use Rattle.words.specs.Sets.{member}
use Rattle.model.specs.Candidate.{is_candidate}
use Rattle.model.specs.Content.{kind_count, piece_count}
use Rattle.model.specs.Grid.{set_words}
use Rattle.model.specs.Layout.{entry_of, entry_extent}
use Rattle.model.specs.Problem.{Problem}
use Rattle.model.specs.Search.{copies_left}
use Rattle.model.specs.Services.{work_words}
use Rattle.stepping.specs.Levels.{pieces_from}
use Rattle.stepping.specs.Slots.{set_start}

-- Candidate m of kind u ends below the bound.
abbrev pub ends_below : Problem → ℕ → ℕ → ℕ → Bool
ends_below j bound u m = ltb (entry_extent j (entry_of j u m)) bound

-- What is asked of a set that is trimmed: its members are candidates.
pub record Trimmable (j : Problem) (u at words : ℕ) (work : List ℕ) : Type 0 where
  pub few : words ≤ 64
  pub fits : (at + words) * 8 ≤ length work
  pub admitted : (m : ℕ) → m < words * 64 → member work (at * 64 + m) ≡ true → is_candidate j u m ≡ true

-- Set i, of all levels and kinds, is trimmed if copies of its kind are left at its level; no other changed.
pub record SetTrimmed (j : Problem) (bound span i : ℕ) (work work' : List ℕ) : Type 0 where
  pub inside : 0 < copies_left (i % kind_count j.kinds) (pieces_from j.kinds (i / kind_count j.kinds)) → (m : ℕ) → m < span * 64
      → member work' (i * set_words j.sheet * 64 + m) ≡ (member work (i * set_words j.sheet * 64 + m) && ends_below j bound (i % kind_count j.kinds) m)
  pub outside : (m : ℕ) → (m < i * set_words j.sheet * 64) ⊎ ((i + 1) * set_words j.sheet * 64 ≤ m) → member work' m ≡ member work m
  pub behind : drop (work_words j * 8) work' ≡ drop (work_words j * 8) work

-- The members of all sets, in their first words, are candidates.
abbrev pub Admitted : Problem → ℕ → List ℕ → Type 0
Admitted j span work = (l u m : ℕ) → l < piece_count j.kinds → u < kind_count j.kinds → 0 < copies_left u (pieces_from j.kinds l) → m < span * 64
    → member work (set_start j l u * 64 + m) ≡ true → is_candidate j u m ≡ true

-- The sets before set i are trimmed, and those from it on are as they were.
pub record Trimmed (j : Problem) (bound span i : ℕ) (work work' : List ℕ) : Type 0 where
  pub inside : (l u m : ℕ) → l < piece_count j.kinds → u < kind_count j.kinds → 0 < copies_left u (pieces_from j.kinds l) → m < span * 64 → l * kind_count j.kinds + u < i
      → member work' (set_start j l u * 64 + m) ≡ (member work (set_start j l u * 64 + m) && ends_below j bound u m)
  pub later : (m : ℕ) → i * set_words j.sheet * 64 ≤ m → member work' m ≡ member work m
  pub behind : drop (work_words j * 8) work' ≡ drop (work_words j * 8) work

-- From word `left` on, all words of the first level's sets are zero, up to the span.
pub record Shrunk (kinds words span : ℕ) (work : List ℕ) (left : ℕ) : Type 0 where
  pub within : left ≤ span
  pub clear : (u k : ℕ) → u < kinds → left ≤ k → k < span → number_at 8 work ((u * words + k) * 8) ≡ 0

-- All sets are trimmed, and so many words are left.
pub record Lowered (j : Problem) (bound span : ℕ) (work work' : List ℕ) (left : ℕ) : Type 0 where
  pub trimmed : Trimmed j bound span (piece_count j.kinds * kind_count j.kinds) work work'
  pub shrunk : Shrunk (kind_count j.kinds) (set_words j.sheet) span work' left
