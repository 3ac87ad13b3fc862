use mathlib.Core.Path.{ap₂}
use lib.Dec.{ltb}
use Rattle.model.specs.Format.{share_byte}
use Rattle.frame.proofs.sections.Section.shares_byte.Goals as goal

pub returns : goal.returns
unfolding share_byte
returns c = ap₂ ltb c.max.ensures c.min.ensures
