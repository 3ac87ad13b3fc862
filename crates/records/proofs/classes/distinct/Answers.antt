use Rattle.std.proofs.Common.{rules, refl, ◌∙◌}
use native.Mathlib.Omega.{arith}
use Rattle.std.proofs.lemmas.Iterator.{YieldsList-from_range}
use Rattle.model.proofs.Ranges.{all_below}
use Rattle.records.proofs.ClassLaws.{finds, all-firsts, distinct-firsts}
use Rattle.records.proofs.classes.distinct.Goals as goal

pub returns : goal.returns
returns c =
    all_below (finds c.args.job.now c.args.at c.args.n) c.args.n _ _ c.all.ensures.ran (YieldsList-from_range 0 _ _
    refl (omega arith))
    (λ x b q k. search rules)
    ∙ all-firsts c.args.job.now c.args.at c.args.n ∙ distinct-firsts c.args.job.now c.args.at c.args.n
