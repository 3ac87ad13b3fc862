use mathlib.Core.Path.{refl, ◌∙◌}
use borrow.Author.Rules.{rules}
use Prim.Native.Nat.{◌-◌}
use Rattle.std.proofs.lemmas.Iterator.{YieldsList-from_range}
use Rattle.std.proofs.lemmas.Iterator.Search.{all_from_yields_List}
use Rattle.layouts.specs.Handed.{problem_for}
use Rattle.layouts.specs.Passing.{ordered_at}
use Rattle.layouts.proofs.PassingLaws.{order_is}
use Rattle.layouts.proofs.StatedLaws.{pieces_are}
use Rattle.layouts.proofs.handed.Handed.in_order.Goals as goal

pub returns : goal.returns
returns c =
    let h = c.args.self.now in
    let j = h.prepared.now in
    all_from_yields_List (λ i. ordered_at j.view.rows h.layout.now (i - 1)) _ _ _ c.all.ensures.ran
    (YieldsList-from_range 1 j.view.pieces _ refl refl) (λ x b q k. search rules)
    ∙ order_is (problem_for h) j.view.rows h.layout.now j.view.pieces j.prepared.viewed.view.rows (pieces_are h)
