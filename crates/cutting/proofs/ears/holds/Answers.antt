use mathlib.Core.Bool.{◌&&◌}
use mathlib.Core.Path.{◌∙◌, ap, ap₂}
use lib.IntN.{pos}
use lib.Signed.{le_z}
use mir.Syntax.{w64}
use mir.ValLaws.{to_z-of_z}
use Rattle.outlines.specs.Outline.{holds}
use Rattle.cutting.proofs.ears.holds.Goals as goal

pub returns : goal.returns
unfolding holds
returns c = ap₂ ◌&&◌ (ap₂ ◌&&◌ (ap (le_z (pos 0)) (to_z-of_z w64 c.turn.result (record { sfits = c.turn.type_inv }) ∙ c.turn.ensures)) (ap (le_z (pos 0)) (to_z-of_z w64 c.turn-2.result (record { sfits = c.turn-2.type_inv }) ∙ c.turn-2.ensures))) (ap (le_z (pos 0)) (to_z-of_z w64 c.turn-3.result (record { sfits = c.turn-3.type_inv }) ∙ c.turn-3.ensures))
