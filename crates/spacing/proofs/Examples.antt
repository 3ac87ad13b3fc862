-- Jobs that the theorems of NoClass speak of.
use mathlib.Core.List.{List, [], ◌∷◌}
use mathlib.Core.Path.{refl}
use Prim.Native.Nat.{ℕ, zero, suc}
use native.Mathlib.Omega.{arith}
use Rattle.model.specs.Boards.{job_on, job_of, square_of, square_type, squares, gap_squares, two_types}
use Rattle.model.specs.Opened.{opened}
use Rattle.spacing.specs.NoClass.{keeps, put, FillersPut, NestsAsBefore}
use Rattle.spacing.specs.SameGaps.{SameButClasses, NestAlike}
use Rattle.spacing.proofs.NoClass.{without_classes, fillers_put}

-- Two squares in no class of a job without classes, and in a class of gap 0.
one_class-more : SameButClasses (squares 2 4) (gap_squares 0 2 4)
unfolding opened job_on job_of square_of square_type squares gap_squares
one_class-more = record { first-accepted = refl; second-accepted = refl; sheets = refl; kinds = refl }

squares-put : FillersPut (squares 2 4) (gap_squares 0 2 4)
unfolding opened job_on job_of square_of square_type squares gap_squares
squares-put zero h = put refl
squares-put (suc a) h = absurd (omega arith)

-- They nest alike.
pub squares-alike : NestAlike (squares 2 4) (gap_squares 0 2 4)
unfolding opened job_on job_of square_of square_type squares gap_squares
squares-alike = (without_classes (squares 2 4) refl).alike (gap_squares 0 2 4) one_class-more (fillers_put (squares 2 4) (gap_squares 0 2 4) one_class-more squares-put).gaps

-- One square in a class of gap 3, and one in no class; then the second in a class of gap 0.
abbrev unclassed : List ℕ
unclassed = two_types (0 ∷ 1 ∷ 3 ∷ []) 1 0 7

abbrev classed : List ℕ
classed = two_types (0 ∷ 1 ∷ 3 ∷ 1 ∷ 5 ∷ 0 ∷ []) 1 2 7

second-class : SameButClasses unclassed classed
unfolding opened job_on job_of square_of two_types
second-class = record { first-accepted = refl; second-accepted = refl; sheets = refl; kinds = refl }

second-put : FillersPut unclassed classed
unfolding opened job_on job_of square_of two_types
second-put zero h = keeps
second-put (suc zero) h = put refl
second-put (suc (suc a)) h = absurd (omega arith)

-- The second nests as the first did.
pub filler_put : NestsAsBefore unclassed classed
filler_put = fillers_put unclassed classed second-class second-put
