use mathlib.Core.Path.{◌∙◌, ap}
use Rattle.outlines.specs.Outline.{is_zero}
use Rattle.simplicity.proofs.EdgeLaws.{zero_bits}
use borrow.Author.Rules.{sfits_of}
use Rattle.simplicity.proofs.edges.in_line.Goals as goal

pub returns : goal.returns
returns c = zero_bits _ (sfits_of c.turn.type_inv) ∙ ap is_zero c.turn.ensures
