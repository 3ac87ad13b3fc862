use mathlib.Core.Path.{refl, ◌∙◌}
use native.Mathlib.Omega.{arith}
use borrow.Author.Rules.{rules}
use Rattle.std.proofs.lemmas.Iterator.{YieldsList-from_range}
use Rattle.model.proofs.Ranges.{all_below}
use Rattle.layouts.specs.Handed.{problem_for}
use Rattle.layouts.proofs.ClearanceLaws.{clear_at, apart_is}
use Rattle.layouts.proofs.StatedLaws.{pieces_are}
use Rattle.layouts.proofs.handed.Handed.all_apart.Goals as goal

pub returns : goal.returns
returns c =
    let h = c.args.self.now in
    all_below (clear_at (problem_for h) h.layout.now) h.prepared.now.view.pieces _ _ c.all.ensures.ran
    (YieldsList-from_range 0 _ _ refl (omega arith)) (λ x b q k. search rules)
    ∙ apart_is (problem_for h) h.layout.now _ (pieces_are h)
