use mathlib.Core.Bool.{◌&&◌}
use mathlib.Core.Path.{sym, ap, ap₂, ◌∙◌}
use Rattle.model.specs.Lists.{between}
use Rattle.records.proofs.RecordLaws.{head_short, head_long}
use Rattle.records.proofs.sizes.head_in_range.Goals as goal

pub returns-then-kind-lt4 : goal.returns-then-kind-lt4
returns-then-kind-lt4 c = sym (head_short c.args.kind.now c.if-kind-lt4.true)

pub returns : goal.returns
returns c =
    ap₂ ◌&&◌
    (ap₂ ◌&&◌ (c.in_range.ensures ∙ ap (between 1 12) c.byte.ensures.0) (c.in_range-2.ensures ∙ ap (between 1 15) c.byte-2.ensures.0))
    (c.in_range-3.ensures ∙ ap (between 1 6) c.byte-3.ensures.0)
    ∙ sym (head_long c.args.kind.now c.if-kind-lt4.false)
