use mathlib.Core.Bool.{not}
use mathlib.Core.Path.{refl}
use native.Mathlib.Omega.{arith}
use borrow.Author.Rules.{rules}
use Rattle.std.proofs.lemmas.Iterator.{YieldsList-from_range}
use Rattle.model.specs.Layout.{conflict}
use Rattle.model.specs.Services.{entry_in}
use Rattle.model.proofs.Ranges.{all_below}
use Rattle.layouts.specs.Handed.{problem_for}
use Rattle.layouts.proofs.handed.Handed.clear_of_earlier.Goals as goal

pub returns : goal.returns
returns c =
    let h = c.args.self.now in
    all_below (λ i. not (conflict (problem_for h) (entry_in h.layout.now i) (entry_in h.layout.now c.args.k)))
    c.args.k _ _ c.all.ensures.ran
    (YieldsList-from_range 0 _ _ refl (omega arith)) (λ x b q k. search rules)
