-- Which members of a set stay when a piece is placed.
use Rattle.std.specs.Prelude.{Bool, true, not, ◌&&◌, ◌||◌, List, ◌⊎◌, ◌≡◌, ℕ, ◌+◌, ◌*◌, ◌≤◌, ◌<◌, ltb, eqb, length, drop}
use Rattle.words.specs.Bits.{test_bit}
use Rattle.words.specs.Sets.{member}
use Rattle.model.specs.Candidate.{is_candidate}
use Rattle.model.specs.Content.{kind_count}
use Rattle.model.specs.Grid.{set_words}
use Rattle.model.specs.Layout.{entry_of, conflict}
use Rattle.model.specs.Problem.{Problem}

-- Candidate m of kind u stays once candidate n of kind t is placed: it is not in conflict with it, and if it is of the same kind its number is larger.
unfoldable pub stays : Problem → ℕ → ℕ → ℕ → ℕ → Bool
stays j t n u m = not (conflict j (entry_of j t n) (entry_of j u m)) && (not (eqb t u) || ltb n m)

-- The bits of w that are set are those of candidates of kind u, from number first on.
abbrev pub BitsAdmitted : Problem → ℕ → ℕ → ℕ → Type 0
BitsAdmitted j u first w = (i : ℕ) → test_bit w i ≡ true → is_candidate j u (first + i) ≡ true

-- The set of `words` words at word `to` became the test of the numbers, and no other word changed.
pub record Filled (to words : ℕ) (test : ℕ → Bool) (work work' : List ℕ) : Type 0 where
  pub inside : (m : ℕ) → m < words * 64 → member work' (to * 64 + m) ≡ test m
  pub outside : (m : ℕ) → (m < to * 64) ⊎ ((to + words) * 64 ≤ m) → member work' m ≡ member work m
  pub behind : drop ((to + words) * 8) work' ≡ drop ((to + words) * 8) work

-- What is asked of two sets in the work words, the second of which is made from the first by placing candidate n of kind t: the first has
-- only candidates of kind u, both are no longer than a set of the board, and the second lies behind it.
pub record Narrowable (j : Problem) (t n u from to words : ℕ) (work : List ℕ) : Type 0 where
  pub placed : is_candidate j t n ≡ true
  pub few : words ≤ 64
  pub within : words ≤ set_words j.sheet
  pub behind : from + words ≤ to
  pub fits : (to + words) * 8 ≤ length work
  pub admitted : (m : ℕ) → m < words * 64 → member work (from * 64 + m) ≡ true → is_candidate j u m ≡ true

-- What is asked of a set that is made anew.
pub record Fillable (j : Problem) (u to words : ℕ) (work : List ℕ) : Type 0 where
  pub kind : u < kind_count j.kinds
  pub few : words ≤ 64
  pub fits : (to + words) * 8 ≤ length work
