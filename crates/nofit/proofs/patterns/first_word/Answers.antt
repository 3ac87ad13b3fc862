-- `nofit::patterns::first_word` meets its contract. Assumes nothing.
use mathlib.Core.Path.{sym, ◌∙◌}
use native.Mathlib.Omega.{arith}
use borrow.Author.Tests.{lt-ltb, le-ltb}
use Rattle.words.proofs.Bit.{test_bit-none}
use Rattle.nofit.proofs.FillingLaws.{all_set}
use Rattle.nofit.proofs.patterns.first_word.Goals as goal

pub returns-then-below-gt0 : goal.returns-then-below-gt0
returns-then-below-gt0 c i h = all_set i h ∙ sym (lt-ltb 0 c.args.below (omega arith))

pub returns-else-below-gt0 : goal.returns-else-below-gt0
returns-else-below-gt0 c i h = test_bit-none i ∙ sym (le-ltb 0 c.args.below (omega arith))
