-- `nofit::places::above_string` meets its contract.
use Rattle.nofit.specs.Patterns.{above_string}
use Rattle.nofit.proofs.places.above_string.Goals as goal

pub returns : goal.returns
unfolding above_string
returns c = c.string_at.ensures
