-- Of the vertices that the loop has passed, none lies further than the one that it keeps. Assumes nothing.
use Rattle.model.specs.Geometry.{along, direction}
use Rattle.polygons.specs.Flat.{part_of}
use Rattle.directions.proofs.Leading.{Leading}
use Rattle.directions.proofs.along.furthest.Given as goal

abbrev pub invariant-loop-k : goal.invariant-loop-k
invariant-loop-k l = Leading (along (direction l.d.a l.d.b)) (part_of l.p) l.k l.best l.most
