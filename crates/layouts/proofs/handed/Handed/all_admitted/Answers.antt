use mathlib.Core.Path.{refl, ◌∙◌}
use native.Mathlib.Omega.{arith}
use borrow.Author.Rules.{rules}
use Rattle.std.proofs.lemmas.Iterator.{YieldsList-from_range}
use Rattle.model.specs.Layout.{is_entry}
use Rattle.model.specs.Services.{entry_in}
use Rattle.model.proofs.Ranges.{all_below}
use Rattle.layouts.specs.Handed.{problem_for}
use Rattle.layouts.proofs.AdmissionLaws.{all_by_place}
use Rattle.layouts.proofs.StatedLaws.{pieces_are}
use Rattle.layouts.proofs.handed.Handed.all_admitted.Goals as goal

pub returns : goal.returns
returns c =
    let h = c.args.self.now in
    all_below (λ i. is_entry (problem_for h) (entry_in h.layout.now i)) h.prepared.now.view.pieces _ _ c.all.ensures.ran
    (YieldsList-from_range 0 _ _ refl (omega arith)) (λ x b q k. search rules)
    ∙ all_by_place (problem_for h) h.layout.now _ (pieces_are h) (is_entry (problem_for h))
