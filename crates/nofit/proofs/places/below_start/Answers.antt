-- `nofit::places::below_start` meets its contract.
use mathlib.Core.Path.{ap, ◌∙◌}
use Rattle.nofit.specs.Patterns.{string_start}
use Rattle.nofit.proofs.places.below_start.Goals as goal

pub string_start-requires : goal.string_start-requires
string_start-requires c = (c.below_string.ensures.1, c.requires.words)

pub returns : goal.returns
returns c = (c.string_start.ensures.0 ∙ ap (string_start c.args.nofit) c.below_string.ensures.0, c.string_start.ensures.1)
