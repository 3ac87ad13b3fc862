use Rattle.std.proofs.Common.{rules, ◌∙◌}
use Rattle.std.proofs.lemmas.Iterator.{YieldsList-from_slice}
use Rattle.std.proofs.lemmas.Iterator.Search.{all_from_yields_List}
use Rattle.model.specs.Format.{vertex_in_range}
use Rattle.records.proofs.PartLaws.{list_all-corners}
use Rattle.records.proofs.parts.in_range.Goals as goal

pub returns : goal.returns
returns c =
    all_from_yields_List vertex_in_range _ _ _ c.all.ensures.ran (YieldsList-from_slice c.args.corners.now
    c.iter.ensures.rest) (λ x b q k. search rules)
    ∙ list_all-corners c.args.corners.now
