use mathlib.Core.Path.{◌≡◌, refl}
use mathlib.Core.Bool.{◌&&◌}
use Rattle.model.specs.Layout.{is_entry, ordered, demand_met, passes}
use Rattle.model.specs.Lists.{all}
use Rattle.layouts.specs.Handed.{problem_for, layout_for}
use Rattle.layouts.proofs.PassingLaws.{both_tests, first_test}
use Rattle.layouts.proofs.handed.Handed.passes.Goals as goal
use Rattle.layouts.proofs.handed.Handed.passes.Goals.{Joined-demand_met, then-in_order, else-in_order, then-demand_met, else-demand_met}

-- the first three tests
three : (c : Joined-demand_met) → c.if-demand_met.value
    ≡ (ordered (problem_for c.args.self.now) (layout_for c.args.self.now) && demand_met (problem_for c.args.self.now)
    (layout_for c.args.self.now)
    && all (is_entry (problem_for c.args.self.now)) (layout_for c.args.self.now))
three c =
    let two : c.if-in_order.value ≡ (ordered (problem_for c.args.self.now) (layout_for c.args.self.now) && demand_met
    (problem_for c.args.self.now) (layout_for c.args.self.now)) =
    elim c.if-in_order.branch [
      | then-in_order w ↦ both_tests _ _ _ _ _ c.in_order.ensures w.if-in_order.true w.demand_met.ensures w.value-is
      | else-in_order w ↦ first_test _ _ _ _ c.in_order.ensures w.if-in_order.false w.value-is
    ] in
    elim c.if-demand_met.branch [
      | then-demand_met w ↦ both_tests _ _ _ _ _ two w.if-demand_met.true w.all_admitted.ensures w.value-is
      | else-demand_met w ↦ first_test _ _ _ _ two w.if-demand_met.false w.value-is
    ]

pub returns-then-all_admitted : goal.returns-then-all_admitted
unfolding passes
returns-then-all_admitted c = both_tests _ _ _ _ _ (three (goal.at.returns-then-all_admitted c).Joined-demand_met)
    c.if-all_admitted.true c.all_apart.ensures refl

pub returns-else-all_admitted : goal.returns-else-all_admitted
unfolding passes
returns-else-all_admitted c = first_test _ _ _ _ (three (goal.at.returns-else-all_admitted c).Joined-demand_met)
    c.if-all_admitted.false refl
