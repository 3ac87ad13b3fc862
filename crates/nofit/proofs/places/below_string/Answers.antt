-- `nofit::places::below_string` meets its contract.
use Rattle.nofit.specs.Patterns.{below_string}
use Rattle.nofit.proofs.places.below_string.Goals as goal

pub returns : goal.returns
unfolding below_string
returns c = c.string_at.ensures
