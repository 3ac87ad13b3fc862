use mathlib.Core.Path.{◌∙◌}
use Rattle.words.proofs.Place.{with_number-sets}
use Rattle.saving.proofs.bytes.put_word.Goals as goal

pub returns : goal.returns
returns c = c.put_u16.ensures ∙ with_number-sets 2 c.args.answer.now c.args.at c.args.n c.requires.0
