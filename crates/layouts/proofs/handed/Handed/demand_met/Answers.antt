use mathlib.Core.Path.{refl, ◌∙◌}
use Rattle.job.specs.View.{demand_of}
use native.Mathlib.Omega.{arith}
use borrow.Author.Rules.{rules}
use lib.Dec.{eqb}
use Rattle.std.proofs.Common.{tests}
use Rattle.std.proofs.lemmas.Iterator.{YieldsList-from_range}
use Rattle.model.specs.Layout.{copies}
use Rattle.model.proofs.Ranges.{all_below}
use Rattle.layouts.specs.Handed.{layout_for}
use Rattle.layouts.proofs.PassingLaws.{demand-is}
use Rattle.layouts.proofs.handed.Handed.demand_met.Goals as goal

pub returns : goal.returns
returns c =
    let h = c.args.self.now in
    let j = h.prepared.now in
    all_below (λ t. eqb (copies t (layout_for h)) (demand_of j.view t)) j.view.kinds _ _ c.all.ensures.ran
    (YieldsList-from_range 0 _ _ refl (omega arith)) (λ x b q k. search (rules, tests))
    ∙ demand-is j.job.now j.view j.prepared.viewed (layout_for h)
