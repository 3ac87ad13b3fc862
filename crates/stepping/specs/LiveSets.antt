-- The live sets that the search keeps, one for each kind: which numbers are in them.
use Rattle.std.specs.Prelude.{Bool, true, ◌&&◌, ◌||◌, List, ◌≡◌, ℕ, ◌+◌, ◌*◌, ◌≤◌, ◌<◌, leb, ltb, eqb}
use Rattle.std.proofs.Math.Option.{Option, none, some}
use Rattle.words.specs.Sets.{member}
use Rattle.model.specs.Candidate.{is_candidate}
use Rattle.model.specs.Content.{kind_count}
use Rattle.model.specs.Grid.{set_words}
use Rattle.model.specs.Layout.{Layout, entry_of, entry_extent, largest_end}
use Rattle.model.specs.Lists.{all, count_of, below}
use Rattle.model.specs.Problem.{Problem}
use Rattle.model.specs.Search.{free, above_previous, copies_left}

-- Candidate m of kind u is in the set: it is in conflict with nothing placed, numbered above its kind's previous copy, and ends below the
-- bound. (That the pieces placed end below the bound is tested apart, once for all candidates.)
unfoldable pub set_of : Problem → Layout → ℕ → ℕ → ℕ → Bool
set_of j placed bound u m =
    is_candidate j u m
    && free j placed (entry_of j u m)
    && above_previous j placed (entry_of j u m)
    && ltb (entry_extent j (entry_of j u m)) bound

-- What an end has to stay below: the largest end of the layout held, and L + 1, which bounds nothing, while none is held. (A length is an end plus the margin,
-- which is the same on both sides of every comparison of lengths: so the search compares ends.)
unfoldable pub bound_of : Problem → Option Layout → ℕ
bound_of j none = j.sheet.L + 1
bound_of j (some es) = largest_end j es

-- How many numbers are in the set, of all that its words have a bit for.
unfoldable pub members_of : Problem → Layout → ℕ → ℕ → ℕ
members_of j placed bound u = count_of (set_of j placed bound u) (below (set_words j.sheet * 64))

-- All candidates that end below the bound lie in so many words of a set.
pub record Spans (j : Problem) (bound span : ℕ) : Type 0 where
  pub within : span ≤ set_words j.sheet
  pub covers : (u m : ℕ) → is_candidate j u m ≡ true → entry_extent j (entry_of j u m) < bound → m < span * 64

-- These bytes keep the set: of all numbers that its first `span` words have a bit for, the members are those in it. (The words behind them are not looked
-- at any more.)
abbrev pub Keeps : Problem → Layout → ℕ → ℕ → ℕ → List ℕ → Type 0
Keeps j placed bound span u s = (m : ℕ) → m < span * 64 → member s m ≡ set_of j placed bound u m

-- Look-ahead on the sets: each kind with copies left has at least as many members.
unfoldable pub enough : Problem → List ℕ → Layout → ℕ → Bool
enough j left placed bound =
    all (λ u. eqb (copies_left u left) 0 || leb (copies_left u left) (members_of j placed bound u)) (below (kind_count j.kinds))
