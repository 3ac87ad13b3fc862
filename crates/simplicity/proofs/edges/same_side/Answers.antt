use mathlib.Core.Bool.{◌&&◌, ◌||◌}
use mathlib.Core.Path.{ap₂}
use Rattle.outlines.specs.Outline.{same_side}
use Rattle.simplicity.proofs.edges.same_side.Goals as goal

pub returns : goal.returns
unfolding same_side
returns c = ap₂ ◌||◌ (ap₂ ◌&&◌ c.strictly_left.ensures c.strictly_left-2.ensures) (ap₂ ◌&&◌ c.strictly_left-3.ensures c.strictly_left-4.ensures)
