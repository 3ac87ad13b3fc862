-- `shapes::quarter_turns::rotated_x` meets its contract: each arm is one number of quarter turns, and the opposite
-- does not wrap. Assumes nothing.
use mathlib.Core.Path.{refl, ◌∙◌}
use native.Mathlib.Omega.{arith}
use lib.IntN.{pos, ◌-ℤ◌}
use mir.Syntax.{w16}
use mir.ValLaws.{to_z-of_z}
use Rattle.integers.proofs.Machine.{op_gives}
use Rattle.shapes.proofs.QuarterTurns.{turned-0, turned-1, turned-2, turned-3, opposite_16}
use Rattle.shapes.proofs.quarter_turns.rotated_x.Goals as goal

pub returns-in-0 : goal.returns-in-0
returns-in-0 c = to_z-of_z w16 c.args.x c.ranges.x ∙ turned-0 c.args.x c.args.y c.args.rotation c.in-0.is

pub returns-in-1 : goal.returns-in-1
returns-in-1 c =
    op_gives {x = pos 0} refl (to_z-of_z w16 c.args.y c.ranges.y) ◌-ℤ◌ (opposite_16 c.args.y c.requires.2)
    ∙ turned-1 c.args.x c.args.y c.args.rotation c.in-1.is

pub returns-in-2 : goal.returns-in-2
returns-in-2 c =
    op_gives {x = pos 0} refl (to_z-of_z w16 c.args.x c.ranges.x) ◌-ℤ◌ (opposite_16 c.args.x c.requires.1)
    ∙ turned-2 c.args.x c.args.y c.args.rotation c.in-2.is

pub returns-in_default : goal.returns-in_default
returns-in_default c = to_z-of_z w16 c.args.y c.ranges.y ∙ turned-3 c.args.x c.args.y c.args.rotation (omega arith)
