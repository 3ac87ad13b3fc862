-- Layouts by document 01's measure: the model's words from `pieces_conflict` to `passes`, with `square_separated` for `separated` and all else the model's own, so that the
-- margin and the gap of every pair are the same. A layout's length has no word here: it does not ask for conflict, so the model's is that of both measures.
use Rattle.std.specs.Prelude.{Bool, true, not, ◌&&◌, List, [], ◌∷◌, ℕ}
use Rattle.model.specs.Candidate.{placed_parts}
use Rattle.model.specs.Content.{Part}
use Rattle.model.specs.Gap.{pair_gap}
use Rattle.model.specs.Layout.{Entry, Layout, entry_kind, is_entry, ordered, demand_met}
use Rattle.model.specs.Lists.{all, any}
use Rattle.model.specs.Problem.{Problem}
use Rattle.convexity.specs.Square.{square_separated}

-- "Two pieces are in conflict if some part P of one and Q of the other are not separated."
unfoldable pub square_conflict : ℕ → List Part → List Part → Bool
square_conflict gap Ps Qs = any (λ P. any (λ Q. not (square_separated gap P Q)) Qs) Ps

-- Two entries are in conflict, at the pair's gap: "the same gap for every pair".
unfoldable pub square_entries_conflict : Problem → Entry → Entry → Bool
square_entries_conflict j e f =
    square_conflict (pair_gap j.classes (entry_kind j e) (entry_kind j f)) (placed_parts j.sheet (entry_kind j e) e.place)
    (placed_parts j.sheet (entry_kind j f) f.place)

-- "no two are in conflict"
unfoldable pub square_apart : Problem → Layout → Bool
square_apart j [] = true
square_apart j (e ∷ es) = all (λ f. not (square_entries_conflict j e f)) es && square_apart j es

-- "It passes if it has the demanded copies, each entry is a candidate, and no two are in conflict", being "ordered by type ..". Which entries are candidates is asked under
-- the problem's margin: "the same margin".
unfoldable pub square_passes : Problem → Layout → Bool
square_passes j es = ordered j es && demand_met j es && all (is_entry j) es && square_apart j es
