-- `nofit::patterns::next_dot` meets its contract. Assumes nothing.
use native.Mathlib.Omega.{arith}
use Rattle.nofit.proofs.FillingLaws.{next_row-is, next_column-is}
use Rattle.nofit.proofs.patterns.next_dot.Goals as goal

pub returns-then-row-rows : goal.returns-then-row-rows
returns-then-row-rows c = next_row-is c.args.rows c.args.n c.args.d c.requires.1 (omega arith)

pub returns : goal.returns
returns c = next_column-is c.args.rows c.args.n c.args.d c.requires.0.0 c.requires.1 (omega arith)
