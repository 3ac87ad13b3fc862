-- The candidate that a piece takes next.
use Rattle.std.specs.Prelude.{true, false, List, Option, Some, None, ◌⊎◌, ◌≡◌, ℕ, ◌*◌, max, ◌≤◌, ◌<◌}
use Rattle.words.specs.Sets.{member}
use Rattle.model.specs.Grid.{set_words}
use Rattle.model.specs.Layout.{Layout, entry_of, entry_extent}
use Rattle.model.specs.Problem.{Problem}
use Rattle.stepping.specs.LiveSets.{set_of}
use Rattle.branching.specs.declared.choosing.Next.{Next}

-- This is the first member of a set of kind u below the limit, from a number on, and how far what is placed, which ends here, reaches with it.
pub record FirstMember (j : Problem) (u end : ℕ) (s : List ℕ) (limit from : ℕ) (r : Next) : Type 0 where
  pub above : from ≤ r.number
  pub passed : (i : ℕ) → from ≤ i → i < r.number → member s i ≡ false
  pub small : r.number < limit
  pub member : member s r.number ≡ true
  pub reaches : r.extent ≡ max (entry_extent j (entry_of j u r.number)) end

-- The first member, or there is none below the limit.
abbrev pub NextMember : Problem → ℕ → ℕ → List ℕ → ℕ → ℕ → Option Next → Type 0
NextMember j u end s limit from (Some r) = FirstMember j u end s limit from r
NextMember j u end s limit from None = (i : ℕ) → from ≤ i → i < limit → member s i ≡ false

-- A candidate of kind u that is live.
pub record Live (j : Problem) (placed : Layout) (bound u end n end' : ℕ) : Type 0 where
  pub small : n < set_words j.sheet * 64
  pub below : end < bound
  pub member : set_of j placed bound u n ≡ true
  pub reaches : end' ≡ max (entry_extent j (entry_of j u n)) end

-- This is the first live candidate of kind u from a number on, where so much is placed.
pub record FirstLive (j : Problem) (placed : Layout) (bound u end from : ℕ) (r : Next) : Type 0 where
  pub above : from ≤ r.number
  pub passed : (i : ℕ) → from ≤ i → i < r.number → set_of j placed bound u i ≡ false
  pub live : Live j placed bound u end r.number r.extent

-- The first live candidate, or there is none.
abbrev pub NextLive : Problem → Layout → ℕ → ℕ → ℕ → ℕ → Option Next → Type 0
NextLive j placed bound u end from (Some r) = FirstLive j placed bound u end from r
NextLive j placed bound u end from None = (bound ≤ end) ⊎ ((i : ℕ) → from ≤ i → set_of j placed bound u i ≡ false)
