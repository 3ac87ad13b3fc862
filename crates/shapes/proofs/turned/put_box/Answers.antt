use mathlib.Core.Path.{◌∙◌}
use native.Mathlib.Omega.{arith}
use borrow.Author.Rules.{rules}
use Rattle.shapes.proofs.TurnLaws.{box-copied}
use Rattle.shapes.proofs.turned.put_box.Goals as goal

pub returns : goal.returns
returns c = box-copied _ _ _ _ _ (omega arith) (c.copy_from_slice.ensures.after ∙ search rules) c.requires.1
