-- Where the live sets lie in the work words: one set for each level and kind, one behind the other.
use Rattle.std.specs.Prelude.{List, ◌≡◌, ℕ, ◌+◌, ◌*◌, ◌≤◌, ◌<◌, drop}
use Rattle.words.specs.Sets.{member}
use Rattle.model.specs.Content.{kind_count}
use Rattle.model.specs.Grid.{set_words}
use Rattle.model.specs.Problem.{Problem}
use Rattle.model.specs.Services.{work_words}

-- The word at which the set of level l and kind u begins.
unfoldable pub set_start : Problem → ℕ → ℕ → ℕ
set_start j l u = (l * kind_count j.kinds + u) * set_words j.sheet

-- The bytes from there on.
unfoldable pub slot_of : Problem → List ℕ → ℕ → ℕ → List ℕ
slot_of j work l u = drop (set_start j l u * 8) work

-- From work to work' the sets of the levels below l did not change, and nothing behind the needed words.
pub record Frame (j : Problem) (l : ℕ) (work work' : List ℕ) : Type 0 where
  pub lower : (m : ℕ) → m < set_start j l 0 * 64 → member work' m ≡ member work m
  pub behind : drop (work_words j * 8) work' ≡ drop (work_words j * 8) work

-- The set of level l and kind u begins at this word and lies within the needed words, which are few.
pub record SetPlace (j : Problem) (l u at : ℕ) : Type 0 where
  pub place : at ≡ set_start j l u
  pub within : at + set_words j.sheet ≤ work_words j
  pub few : at ≤ 6144
