use mathlib.Core.List.{[]}
use mathlib.Core.Path.{◌∙◌}
use native.Mathlib.Omega.{arith}
use Rattle.model.specs.Format.{read_part}
use Rattle.records.proofs.RecordLaws.{reads_none, step, stop, done, none-taken, tail_length}
use Rattle.records.proofs.sizes.parts_size.Goals as goal

pub loop-init : goal.loop-init
loop-init c = (omega arith, reads_none read_part _)

pub returns-in_err-at-clause-value : goal.returns-in_err-at-clause-value
returns-in_err-at-clause-value c =
    c.from_residual.ensures
    ∙ none-taken _ (stop read_part c.args.parts.now c.loop.at c.part_size.result c.part_size.ensures.value
    c.loop.counter c.args.n c.loop-test.true
    c.loop.invariant.1 c.in_err-at.was)

pub loop-preserved : goal.loop-preserved
loop-preserved c = (
  omega (arith, tail_length c.args.parts.now c.loop.at, c.in_ok-at.ensures.within),
  step read_part c.args.parts.now c.loop.at c.part_size.result c.part_size.ensures.value [] c.loop.counter
      c.in_ok-at.field-0 c.loop.invariant.1
      c.in_ok-at.was,
)

pub returns-clause-value : goal.returns-clause-value
returns-clause-value c = done read_part c.args.parts.now c.loop.counter c.args.n c.loop.at (omega arith)
    c.loop.invariant.1
