-- The square measure and the round one on small parts and layouts. Assumes nothing.
use mathlib.Core.Path.{◌≡◌, refl}
use mathlib.Core.Bool.{true, false}
use mathlib.Core.List.{List, [], ◌∷◌, ◌++◌}
use Prim.Native.Nat.{ℕ}
use Rattle.model.specs.Boards.{square, square_at, slanting, job_on, job_of, square_of}
use Rattle.model.specs.Format.{refusal, content}
use Rattle.model.specs.Geometry.{separated}
use Rattle.model.specs.Grid.{placement}
use Rattle.model.specs.Layout.{Layout, entry, passes}
use Rattle.model.specs.Opened.{opened}
use Rattle.model.specs.Problem.{under}
use Rattle.convexity.specs.Layouts.{square_conflict, square_entries_conflict, square_apart, square_passes}
use Rattle.convexity.specs.Square.{axes, clearance, separates_by, square_directions, square_separated}

-- The squares at (0,0) and (5,6): document 01 separates them at gap 4 and not at 5, the round measure at 5 and not at 6.
pub squares-both : ((square_separated 4 square (square_at 5 6) ≡ true) × (square_separated 5 square (square_at 5 6) ≡ false))
    × ((separated 5 square (square_at 5 6) ≡ true) × (separated 6 square (square_at 5 6) ≡ false))
unfolding opened square square_at axes clearance separates_by square_directions square_separated
squares-both = ((refl, refl), (refl, refl))

-- A square before a slanting edge: at gap 3 and not at 4, and at 5 and not at 6.
pub slanting-both : ((square_separated 3 slanting (square_at 7 7) ≡ true) × (square_separated 4 slanting (square_at 7 7) ≡ false))
    × ((separated 5 slanting (square_at 7 7) ≡ true) × (separated 6 slanting (square_at 7 7) ≡ false))
unfolding opened square square_at slanting axes clearance separates_by square_directions square_separated
slanting-both = ((refl, refl), (refl, refl))

-- A square in a class of gap 0 and one in a class of this gap, which is their pair's; W 10, L 9.
unfoldable pub two_squares : ℕ → List ℕ
two_squares gap = job_of 10 9 (0 ∷ 0 ∷ gap ∷ 1 ∷ 1 ∷ 0 ∷ []) 2 (square_of 1 2 ++ square_of 1 1)

-- The two as above, clear of margin 1: at (1,1) and (6,7).
unfoldable pub across : Layout
across = entry 0 (placement 1 1 0) ∷ entry 1 (placement 6 7 0) ∷ []

-- The layout passes by both measures at gap 4, by the round one alone at 5, so that `square-passes` (Layouts) does not hold the other way round, and by neither at 6. The
-- jobs are accepted.
pub layouts_both : ((refusal (two_squares 4) ≡ 0) × (square_passes (under 1 (content (two_squares 4))) across ≡ true) × (passes (under 1 (content (two_squares 4))) across ≡ true))
    × ((refusal (two_squares 5) ≡ 0) × (square_passes (under 1 (content (two_squares 5))) across ≡ false) × (passes (under 1 (content (two_squares 5))) across ≡ true))
    × ((refusal (two_squares 6) ≡ 0) × (square_passes (under 1 (content (two_squares 6))) across ≡ false) × (passes (under 1 (content (two_squares 6))) across ≡ false))
unfolding opened job_on job_of square_of two_squares across axes clearance separates_by square_directions square_separated square_conflict square_entries_conflict square_apart square_passes
layouts_both = ((refl, refl, refl), (refl, refl, refl), (refl, refl, refl))
