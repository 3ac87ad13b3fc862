use Rattle.std.proofs.Common.{rules, sym, ap, ◌∙◌, ◌+◌, ◌*◌}
use native.Mathlib.Omega.{arith}
use Rattle.std.specs.Option.{unwrap_or}
use Rattle.std.proofs.lemmas.Iterator.{YieldsList-from_range, YieldsList-from_map}
use Rattle.std.proofs.lemmas.Iterator.Adapters.{option_map_id}
use Rattle.std.proofs.lemmas.Iterator.Consumers.{max_from_yields_List}
use Rattle.model.specs.Format.{byte_at, gap_meant}
use Rattle.job.proofs.GapLaws.{largest_along}
use Rattle.job.proofs.gaps.largest_gap.Goals as goal

pub returns : goal.returns
returns c =
    c.unwrap_or.ensures
    ∙ ap (λ o. unwrap_or o 0)
    (sym (option_map_id c.max.result)
    ∙ max_from_yields_List _ _ c.max.ensures.ran
    (YieldsList-from_map _ (λ i. gap_meant (byte_at c.args.job.now (c.args.at + i * 3 + 2)))
    (YieldsList-from_range 0 _ c.args.n c.map.ensures.source (omega arith))
    c.map.ensures.closure (λ x r q k. search rules)))
    ∙ largest_along c.args.job.now c.args.at c.args.n
