use Rattle.std.proofs.Common.{rules, refl, ◌∙◌}
use native.Mathlib.Omega.{arith}
use Rattle.std.proofs.lemmas.Iterator.{YieldsList-from_range}
use Rattle.model.proofs.Ranges.{any_below}
use Rattle.job.specs.Soundness.{bad_at}
use Rattle.job.specs.View.{parts_of, part_at_of}
use Rattle.job.proofs.ViewLaws.{parts_judged}
use Rattle.job.proofs.accepted.kind_refused.Goals as goal

pub returns : goal.returns
returns c =
    let k = c.requires.0.0.kind c.args.t c.requires.1 in
    any_below (λ i. bad_at c.args.job.now (part_at_of c.args.view c.args.t i)) (parts_of c.args.view c.args.t) _ _
    c.any.ensures.ran (YieldsList-from_range 0 _ _ refl (omega arith)) (λ x b q k. search rules)
    ∙ parts_judged c.args.job.now _ _ _ k.parts k.part
