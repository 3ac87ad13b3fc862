use Rattle.std.proofs.Common.{rules, refl, ◌∙◌}
use Rattle.std.proofs.lemmas.Iterator.{YieldsList-from_range}
use Rattle.model.proofs.Ranges.{all_below}
use Rattle.records.proofs.KindLaws.{found_or_unnamed, none_absent-found}
use Rattle.records.proofs.kinds.none_absent.Goals as goal

pub returns : goal.returns
returns c =
    all_below (found_or_unnamed c.args.job.now c.args.at c.args.n c.args.mask) 8 _ _ c.all.ensures.ran
    (YieldsList-from_range 0 8 _ refl refl)
    (λ x b q k. search rules)
    ∙ none_absent-found c.args.job.now c.args.at c.args.n c.args.mask
