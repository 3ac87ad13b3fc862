-- `candidates::placements::stays_within` meets its contract. Assumes nothing.
use mathlib.Core.Path.{ap₂}
use Prim.Native.Nat.{◌≤◌}
use native.Mathlib.Omega.{arith}
use lib.Signed.{le_z}
use Rattle.candidates.specs.Placements.{within}
use Rattle.candidates.proofs.PlacementLaws.{both, moved_value, limit_value, room-value}
use Rattle.candidates.proofs.placements.stays_within.Goals as goal

pub returns : goal.returns
unfolding within
returns c =
    let m : c.args.margin ≤ 1000 = omega (arith, c.requires.1.0) in
    both (ap₂ le_z (limit_value c.args.margin m) (moved_value c.args.low c.args.by c.ranges.low c.requires.0))
    (ap₂ le_z (moved_value c.args.high c.args.by c.ranges.high c.requires.0) (room-value c.args.limit c.args.margin c.requires.1.1 m))
