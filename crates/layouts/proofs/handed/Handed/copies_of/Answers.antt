use mathlib.Core.Path.{ap, ◌∙◌}
use native.Mathlib.Omega.{arith}
use borrow.Author.Rules.{rules}
use lib.Dec.{eqb}
use Rattle.std.proofs.Common.{tests}
use Rattle.std.proofs.lemmas.Iterator.{YieldsList-from_range}
use Rattle.std.proofs.lemmas.Iterator.Consumers.{count_from_yields_List, YieldsList-from_filter}
use Rattle.model.specs.Layout.{copies}
use Rattle.model.specs.Services.{entry_in}
use Rattle.layouts.specs.Handed.{problem_for}
use Rattle.layouts.proofs.AdmissionLaws.{layout_is}
use Rattle.layouts.proofs.EntryLaws.{copies_counted}
use Rattle.layouts.proofs.StatedLaws.{pieces_are}
use Rattle.layouts.proofs.handed.Handed.copies_of.Goals as goal

pub returns : goal.returns
returns c =
    let h = c.args.self.now in
    count_from_yields_List c.filter.result _ c.count.ensures.ran
    (YieldsList-from_filter _ (λ i. eqb (entry_in h.layout.now i).kind c.args.kind) (YieldsList-from_range 0
    h.prepared.now.view.pieces _ c.filter.ensures.source (omega arith))
    c.filter.ensures.closure (λ x b q k. search (rules, tests)))
    ∙ copies_counted c.args.kind h.layout.now h.prepared.now.view.pieces
    ∙ ap (copies c.args.kind) (layout_is (problem_for h) h.layout.now _ (pieces_are h))
