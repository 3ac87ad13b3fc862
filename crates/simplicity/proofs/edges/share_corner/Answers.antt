use mathlib.Core.Bool.{◌||◌}
use mathlib.Core.Path.{ap₂}
use lib.Dec.{eqb}
use Rattle.simplicity.specs.Corners.{neighbours}
use Rattle.simplicity.proofs.edges.share_corner.Goals as goal

pub returns : goal.returns
unfolding neighbours
returns c = ap₂ (λ p q. eqb c.args.j c.args.i || eqb c.args.j p || eqb c.args.j q) c.previous.ensures.0 c.next.ensures.0
