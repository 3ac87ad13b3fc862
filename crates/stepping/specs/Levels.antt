-- The levels of the search: level l is the piece to be placed when l pieces are placed.
use Rattle.std.specs.Prelude.{List, [], ◌∷◌, ℕ, zero, suc, get_or, drop}
use Rattle.std.proofs.Math.Option.{Option}
use Rattle.model.specs.Content.{Kind}
use Rattle.model.specs.Layout.{Layout, entry_of}
use Rattle.model.specs.Problem.{Problem}
use Rattle.model.specs.Search.{pieces}
use Rattle.stepping.specs.Spending.{Spent}
use Rattle.stepping.specs.Steps.{go_on_spent, try_from_spent}

-- The kind of piece l.
unfoldable pub piece_kind : List Kind → ℕ → ℕ
piece_kind ks l = get_or (pieces ks) l 0

-- The pieces from piece l on.
unfoldable pub pieces_from : List Kind → ℕ → List ℕ
pieces_from ks l = drop l (pieces ks)

-- The pieces below level l, each at the candidate of its number, the latest first.
unfoldable pub placed_below : Problem → (ℕ → ℕ) → ℕ → Layout
placed_below j numbers zero = []
placed_below j numbers (suc l) = entry_of j (piece_kind j.kinds l) (numbers l) ∷ placed_below j numbers l

-- The number at a level, of those in an array.
abbrev pub numbers_at : List ℕ → ℕ → ℕ
numbers_at ns l = get_or ns l 0

-- The pieces placed below a level, by their numbers in an array.
abbrev pub placed_of : Problem → List ℕ → ℕ → Layout
placed_of j ns l = placed_below j (numbers_at ns) l

-- What the walk does at level l if it tries the candidates of piece l from number n on, with k of the budget left and h held.
unfoldable pub try_level : Problem → (ℕ → ℕ) → ℕ → ℕ → ℕ → Option Layout → Spent
try_level j numbers l n k h = try_from_spent j (piece_kind j.kinds l) (pieces_from j.kinds (suc l)) (placed_below j numbers l) n k h

-- What it does once l pieces are placed, the latest just counted.
unfoldable pub go_on_level : Problem → (ℕ → ℕ) → ℕ → ℕ → Option Layout → Spent
go_on_level j numbers l k h = go_on_spent j (pieces_from j.kinds l) (placed_below j numbers l) k h

-- The whole walk under a budget, with the best that it begins with.
unfoldable pub walk_spent : Problem → Option Layout → ℕ → Spent
walk_spent j begin budget = go_on_spent j (pieces_from j.kinds 0) [] budget begin
