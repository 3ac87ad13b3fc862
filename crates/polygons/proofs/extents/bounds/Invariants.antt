-- `polygons::extents::bounds` meets its contract: the loop keeps the box of the vertices that it has passed, which with
-- the rest comes to the box of all. Assumes nothing.
use Rattle.polygons.specs.Flat.{part_of}
use Rattle.polygons.proofs.BoxLaws.{Covering}
use Rattle.polygons.proofs.extents.bounds.Given as goal

abbrev pub invariant-loop-k : goal.invariant-loop-k
invariant-loop-k l = Covering (part_of l.p) l.k l.e
