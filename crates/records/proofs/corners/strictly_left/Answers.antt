use mathlib.Core.Path.{◌∙◌, ap}
use lib.IntN.{pos}
use lib.Signed.{lt_z}
use mir.Syntax.{w64}
use mir.ValLaws.{to_z-of_z}
use borrow.Author.Rules.{sfits_of}
use Rattle.model.specs.Geometry.{strictly_left}
use Rattle.records.proofs.corners.strictly_left.Goals as goal

pub returns : goal.returns
unfolding strictly_left
returns c = ap (lt_z (pos 0)) (to_z-of_z w64 c.turn.result (sfits_of c.turn.type_inv) ∙ c.turn.ensures)
