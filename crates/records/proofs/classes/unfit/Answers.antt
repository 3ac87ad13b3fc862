use mathlib.Core.Bool.{not, ◌||◌}
use mathlib.Core.Path.{ap, ap₂}
use lib.Dec.{ltb}
use Rattle.records.specs.Classes.{classes_unfit}
use Rattle.records.proofs.classes.unfit.Goals as goal

pub returns : goal.returns
unfolding classes_unfit
returns c = ap₂ ◌||◌ (ap₂ ◌||◌ (ap (λ b. ltb 8 c.args.n || not b) c.all_in_range.ensures) (ap not c.distinct.ensures)) (ap not c.distinct-2.ensures)
