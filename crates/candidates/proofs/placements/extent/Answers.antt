-- `candidates::placements::extent` meets its contract. Assumes nothing.
use Rattle.candidates.specs.Placements.{extent_at}
use Rattle.candidates.proofs.placements.extent.Goals as goal
use borrow.Author.Rules.{rules}
use mathlib.Core.Path.{◌∙◌}

pub returns : goal.returns
unfolding extent_at
returns c = c.end_of.ensures ∙ search rules
