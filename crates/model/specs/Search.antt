-- Document 01, "The walk".
use Rattle.std.specs.Prelude.{Bool, true, false, not, ◌&&◌, cond, List, [], ◌∷◌, ◌++◌, map, reverse, ℕ, leb, ltb, eqb, length, get_or, take, replicate}
use Rattle.std.proofs.Math.Option.{Option, none, some}
use Rattle.model.specs.Candidate.{candidates}
use Rattle.model.specs.Content.{Kind, kind_at, kind_count}
use Rattle.model.specs.Layout.{Entry, Layout, entry_of, entry_number, conflict, layout_length}
use Rattle.model.specs.Lists.{all, any, count_of, concat, below}
use Rattle.model.specs.Problem.{Problem}

-- "Pieces follow the layout's order": the type of each piece, ordered by type, each type as often as it is demanded.
unfoldable pub pieces : List Kind → List ℕ
pieces ks = concat (map (λ t. replicate (kind_at ks t).demand t) (below (kind_count ks)))

-- The candidates of every type, in rising order.
unfoldable pub candidate_table : Problem → List (List ℕ)
candidate_table j = map (candidates j) (below (kind_count j.kinds))

-- ---- Live candidates. What is placed is listed with the latest piece first

-- "in conflict with nothing placed"
unfoldable pub free : Problem → Layout → Entry → Bool
free j placed e = not (any (λ f. conflict j f e) placed)

-- "numbered above that type's previous copy"
unfoldable pub above_previous : Problem → Layout → Entry → Bool
above_previous j [] e = true
above_previous j (f ∷ placed) e =
    cond (eqb f.kind e.kind) (ltb (entry_number j f) (entry_number j e)) (above_previous j placed e)

-- "below the best so far (no bound while there is no best)"
unfoldable pub beats : ℕ → Option ℕ → Bool
beats len none = true
beats len (some best) = ltb len best

-- "leaving the length of all pieces then placed below the best so far"
unfoldable pub stays_below : Problem → Layout → Option ℕ → Entry → Bool
stays_below j placed best e = beats (layout_length j (e ∷ placed)) best

-- "Live candidates of a type with copies still to place are those in conflict with nothing placed, numbered above that type's previous
-- copy, and leaving the length of all pieces then placed below the best so far."
unfoldable pub live : Problem → Layout → Option ℕ → ℕ → ℕ → Bool
live j placed best t n =
    stays_below j placed best (entry_of j t n) && above_previous j placed (entry_of j t n) && free j placed (entry_of j t n)

-- ---- Look-ahead

-- The copies of a type among the pieces left.
unfoldable pub copies_left : ℕ → List ℕ → ℕ
copies_left t left = count_of (eqb t) left

-- Document 01's "look-ahead": "if some type has fewer live candidates than copies left, the walk goes no deeper."
unfoldable pub forward_check : Problem → List (List ℕ) → List ℕ → Layout → Option ℕ → Bool
forward_check j cs left placed best =
    all (λ t. leb (copies_left t left) (count_of (live j placed best t) (get_or cs t []))) (below (kind_count j.kinds))

-- ---- Steps

-- "Each candidate taken is one step": the entry taken, and the layout that this completes, if it does.
pub record Step : Type 0 where
  pub taken : Entry
  pub completes : Option Layout

abbrev pub step : Entry → Option Layout → Step
step e l = record { taken = e; completes = l }

-- What a walk did: the steps in their order, and the length of the best at its end.
pub record Searched : Type 0 where
  pub steps : List Step
  pub best : Option ℕ

abbrev pub searched : List Step → Option ℕ → Searched
searched ss b = record { steps = ss; best = b }

-- The steps, and then what the walk did after them.
unfoldable pub then : List Step → Searched → Searched
then ss w = searched (ss ++ w.steps) w.best

-- The layout of the pieces placed, if no piece is left.
unfoldable pub completed : List ℕ → Layout → Option Layout
completed [] placed = some (reverse placed)
completed (t ∷ left) placed = none

-- "A piece tries its candidates in rising order and takes each that is live at that moment, and a candidate taken passes the walk to the
-- next piece", which is `next`. "Each candidate taken is one step .., also when look-ahead gives it back."
-- "A candidate is tried against the best of that moment."
unfoldable pub try_candidates : Problem → List (List ℕ) → (Layout → Option ℕ → Searched) → ℕ → List ℕ → List ℕ → Layout → Option ℕ → Searched
try_candidates j cs next t left [] placed best = searched [] best
try_candidates j cs next t left (n ∷ ns) placed best =
    elim (live j placed best t n) [
      | false ↦ try_candidates j cs next t left ns placed best
      | true ↦
          elim (forward_check j cs left (entry_of j t n ∷ placed) best) [
            | false ↦ then (step (entry_of j t n) none ∷ []) (try_candidates j cs next t left ns placed best)
            | true ↦
                let w = next (entry_of j t n ∷ placed) best in
                then (step (entry_of j t n) (completed left (entry_of j t n ∷ placed)) ∷ w.steps)
                (try_candidates j cs next t left ns placed w.best)
          ]
    ]

-- The walk over the pieces left. "A complete layout becomes the best."
unfoldable pub search_pieces : Problem → List (List ℕ) → List ℕ → Layout → Option ℕ → Searched
search_pieces j cs [] placed best = searched [] (some (layout_length j placed))
search_pieces j cs (t ∷ left) placed best = try_candidates j cs (search_pieces j cs left) t left (get_or cs t []) placed best

-- Look-ahead "is tested before the first step": the walk over all pieces, with the best that it begins with.
unfoldable pub search_from : Problem → List (List ℕ) → Option ℕ → Searched
search_from j cs best =
    elim (forward_check j cs (pieces j.kinds) [] best) [
      | false ↦ searched [] best
      | true ↦ search_pieces j cs (pieces j.kinds) [] best
    ]

-- ---- Budgets

-- The length of the layout, if there is one.
unfoldable pub length_of : Problem → Option Layout → Option ℕ
length_of j none = none
length_of j (some es) = some (layout_length j es)

-- All the steps "when no budget stops it", of a walk that begins with this layout as best, or with none.
unfoldable pub steps_from : Problem → Option Layout → List Step
steps_from j begin = (search_from j (candidate_table j) (length_of j begin)).steps

-- "The steps the walk needs are all the candidates it takes when no budget stops it."
unfoldable pub steps_needed : Problem → Option Layout → ℕ
steps_needed j begin = length (steps_from j begin)

-- "The walk stops when it would take a candidate with the budget already spent."
unfoldable pub is_stopped : Problem → Option Layout → ℕ → Bool
is_stopped j begin budget = ltb budget (steps_needed j begin)

-- "the steps taken are those up to its end or its stop"
unfoldable pub steps_taken : Problem → Option Layout → ℕ → List Step
steps_taken j begin budget = take budget (steps_from j begin)

-- The later layout, if there is one.
unfoldable pub latest : Option Layout → Option Layout → Option Layout
latest h none = h
latest h (some es) = some es

-- "A complete layout becomes the best": the best after these steps, from the best before them. (Each is shorter than the one before.)
unfoldable pub best_after : Option Layout → List Step → Option Layout
best_after h [] = h
best_after h (s ∷ ss) = best_after (latest h s.completes) ss

-- "The best layout of the steps taken". Document 02, 6/13: "a given layout counts with those".
unfoldable pub held : Problem → Option Layout → ℕ → Option Layout
held j begin budget = best_after begin (steps_taken j begin budget)
