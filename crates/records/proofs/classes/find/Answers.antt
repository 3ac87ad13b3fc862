use Rattle.std.proofs.Common.{rules, refl, ◌∙◌}
use native.Mathlib.Omega.{arith}
use Rattle.std.proofs.lemmas.Iterator.{YieldsList-from_range}
use Rattle.std.proofs.lemmas.Iterator.Search.{position_from_yields_List}
use Rattle.records.specs.Classes.{has_id}
use Rattle.records.proofs.ClassLaws.{position-first}
use Rattle.records.proofs.classes.find.Goals as goal

pub returns : goal.returns
unfolding has_id
returns c =
    position_from_yields_List (has_id c.args.job.now c.args.at c.args.value) _ _ _ c.position.ensures.ran
    (YieldsList-from_range 0 _ _ refl (omega arith))
    (λ x b q k. search rules)
    ∙ position-first c.args.job.now c.args.at c.args.n c.args.value
