-- `report::render` meets its contract: the first line and those of the first i entries stand, and they are short.
use Rattle.std.proofs.Common.{◌≡◌, ◌++◌, ◌*◌, ◌≤◌, ◌+◌}
use Rattle.arrayvec.specs.ArrayVec.{array_vec_len}
use Rattle.report.specs.Text.{first_by, lines_in}
use Rattle.report.proofs.render.Given as goal

abbrev pub invariant-loop-i : goal.invariant-loop-i
invariant-loop-i g l =
    (l.text.items ≡ first_by g.E.Numbered.code l.fn.answer ++ lines_in l.numbers l.i)
    × (array_vec_len l.text ≤ 26 + l.i * 24)
