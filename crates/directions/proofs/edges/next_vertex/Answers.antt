-- `directions::edges::next_vertex` meets its contract: the place of the next vertex is within the slice exactly if
-- there is a next vertex. Assumes nothing.
use native.Mathlib.Omega.{arith}
use Rattle.polygons.specs.Flat.{part_of}
use Rattle.directions.proofs.EdgeLaws.{next_inside, next_first}
use Rattle.polygons.proofs.Flat.{part_length}
use Rattle.directions.proofs.edges.next_vertex.Goals as goal

pub returns-then-k-p : goal.returns-then-k-p
returns-then-k-p c = (
  next_inside (part_of c.args.p.now) c.args.k
      (omega (arith, part_length c.args.p.now)),
  omega arith,
)

pub returns-else-k-p : goal.returns-else-k-p
returns-else-k-p c = (next_first (part_of c.args.p.now) c.args.k (omega (arith, part_length c.args.p.now)), omega arith)
