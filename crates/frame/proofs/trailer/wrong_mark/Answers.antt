use mathlib.Core.Bool.{not, ◌||◌}
use mathlib.Core.Path.{ap₂}
use lib.Dec.{eqb}
use lib.ListN.{length}
use Rattle.model.specs.Format.{cause2}
use Rattle.frame.proofs.trailer.wrong_mark.Goals as goal

pub returns : goal.returns
unfolding cause2
returns c = ap₂ (λ m n. not m || not (eqb n (length c.args.job.now))) c.read_trailer-t.ensures.marked c.read_trailer-t.ensures.stated
