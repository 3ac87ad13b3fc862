use mathlib.Core.Bool.{true, false}
use mathlib.Core.Path.{sym, ◌∙◌}
use native.Mathlib.Omega.{arith}
use Rattle.model.proofs.CommonCut.{meant, marks}
use Rattle.records.proofs.classes.gap_meant.Goals as goal

-- A byte that marks is at least 128.
pub overflow_sub-result : goal.overflow_sub-result
overflow_sub-result c = omega (arith, marks c.args.byte (sym c.marks_cut.ensures ∙ c.if-marks_cut.true))

pub returns-then-marks_cut : goal.returns-then-marks_cut
returns-then-marks_cut c = sym (meant c.args.byte true (sym c.marks_cut.ensures ∙ c.if-marks_cut.true))

pub returns-else-marks_cut : goal.returns-else-marks_cut
returns-else-marks_cut c = sym (meant c.args.byte false (sym c.marks_cut.ensures ∙ c.if-marks_cut.false))
