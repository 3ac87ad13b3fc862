-- The walk of one piece as a loop over numbers, and what follows a candidate taken: what the two functions of the search have to do.
use Rattle.std.specs.Prelude.{true, false, List, [], ◌≡◌, ℕ, ◌-◌, length}
use Rattle.std.proofs.Math.Option.{Option, none, some}
use Rattle.model.specs.Candidate.{is_candidate}
use Rattle.model.specs.Grid.{number_limit}
use Rattle.model.specs.Layout.{Layout}
use Rattle.model.specs.Lists.{keep, rising}
use Rattle.model.specs.Problem.{Problem}
use Rattle.model.specs.Search.{Searched, searched, candidate_table, forward_check, completed, try_candidates, search_pieces, length_of, latest}
use Rattle.stepping.specs.Spending.{Spent, spend}

-- The candidates of a kind from number n on.
unfoldable pub remaining : Problem → ℕ → ℕ → List ℕ
remaining j t n = keep (is_candidate j t) (rising n (number_limit j.sheet - n))

-- What the walk does with the pieces left, once the latest piece is placed and counted: nothing if look-ahead fails.
unfoldable pub go_on : Problem → List (List ℕ) → List ℕ → Layout → Option ℕ → Searched
go_on j cs left placed best =
    elim (forward_check j cs left placed best) [
      | false ↦ searched [] best
      | true ↦ search_pieces j cs left placed best
    ]

-- What the walk does with a piece of kind t and the pieces left, if it tries the candidates from number n on.
unfoldable pub try_from : Problem → ℕ → List ℕ → Layout → Option ℕ → ℕ → Searched
try_from j t left placed best n =
    try_candidates j (candidate_table j) (search_pieces j (candidate_table j) left) t left (remaining j t n) placed best

-- Both under a budget of which k is left, with h held. The latest piece placed may complete a layout.
unfoldable pub go_on_spent : Problem → List ℕ → Layout → ℕ → Option Layout → Spent
go_on_spent j left placed k h = spend k (latest h (completed left placed)) (go_on j (candidate_table j) left placed (length_of j h)).steps

unfoldable pub try_from_spent : Problem → ℕ → List ℕ → Layout → ℕ → ℕ → Option Layout → Spent
try_from_spent j t left placed n k h = spend k h (try_from j t left placed (length_of j h) n).steps

-- The layout held, if one is, has so many entries.
abbrev pub Entries : ℕ → Option Layout → Type 0
Entries n none = Unit {0}
Entries n (some es) = length es ≡ n
