use Rattle.std.proofs.Common.{rules, refl, ◌∙◌}
use native.Mathlib.Omega.{arith}
use Rattle.std.proofs.lemmas.Iterator.{YieldsList-from_range}
use Rattle.model.specs.Content.{kind_at}
use Rattle.model.specs.Format.{content}
use Rattle.model.proofs.Ranges.{any_below}
use Rattle.job.specs.Soundness.{bad_kind}
use Rattle.job.proofs.ViewLaws.{kinds-judged}
use Rattle.job.proofs.accepted.unsound.Goals as goal

pub returns : goal.returns
returns c =
    any_below (λ t. bad_kind (kind_at (content c.args.job.now).kinds t)) c.args.view.kinds _ _ c.any.ensures.ran
    (YieldsList-from_range 0 _ _ refl (omega arith)) (λ x b q k. search rules)
    ∙ kinds-judged c.args.job.now _ c.requires.0.kinds
