use mathlib.Core.Path.{ap, ◌∙◌}
use Rattle.std.specs.Prelude.{Some}
use Rattle.records.proofs.RecordLaws.{no_part, part-sized}
use Rattle.records.proofs.sizes.part_size.Goals as goal

pub returns-in_err-first-clause-value : goal.returns-in_err-first-clause-value
returns-in_err-first-clause-value c = c.from_residual.ensures ∙ no_part c.args.part.now c.in_err-first.ensures.value

pub returns-clause-value : goal.returns-clause-value
returns-clause-value c =
    c.then_some.ensures
    ∙ part-sized c.args.part.now c.from-corners.result c.in_range.result (ap Some c.from-corners.ensures ∙
    c.in_ok-first.ensures.value) c.in_range.ensures
