use Rattle.std.proofs.Common.{rules, refl, ◌∙◌}
use native.Mathlib.Omega.{arith}
use Rattle.std.proofs.lemmas.Iterator.{YieldsList-from_range}
use Rattle.model.proofs.Ranges.{all_below}
use Rattle.records.proofs.ClassLaws.{in_range_at, range_all}
use Rattle.records.proofs.classes.all_in_range.Goals as goal

pub returns : goal.returns
returns c =
    all_below (in_range_at c.args.job.now c.args.at) c.args.n _ _ c.all.ensures.ran (YieldsList-from_range 0 _ _ refl
    (omega arith))
    (λ x b q k. search rules)
    ∙ range_all c.args.job.now c.args.at c.args.n
