-- `distances::parts::Corners::count` meets its contract: a corner has two numbers. Assumes nothing.
use mathlib.Core.Path.{sym}
use Rattle.polygons.proofs.Flat.{part_length}
use Rattle.distances.proofs.parts.Corners.count.Goals as goal

pub returns : goal.returns
returns c = sym (part_length c.args.self.numbers.now)
