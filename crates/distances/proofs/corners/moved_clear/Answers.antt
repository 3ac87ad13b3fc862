use native.Mathlib.Omega.{arith}
use Rattle.polygons.proofs.Flat.{part_length}
use Rattle.distances.proofs.corners.moved_clear.Goals as goal

pub vertex-requires : goal.vertex-requires
vertex-requires c = omega (arith, part_length c.args.p.numbers.now)
