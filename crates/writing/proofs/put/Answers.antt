use mathlib.Core.Path.{◌∙◌}
use Rattle.writing.proofs.NumberLaws.{numbers_one}
use Rattle.writing.proofs.put.Goals as goal

pub returns : goal.returns
returns c = c.put_u16.ensures ∙ numbers_one c.args.at c.args.n c.args.answer.now c.requires.0
