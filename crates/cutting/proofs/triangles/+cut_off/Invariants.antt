use lib.ListN.{length}
use Rattle.cutting.proofs.triangles.+cut_off.Given as goal

-- The corners that remain: each call has one fewer.
abbrev pub decreases-cut_off : goal.decreases-cut_off
decreases-cut_off l = length l.corners.now
