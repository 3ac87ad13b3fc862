use mathlib.Core.Path.{◌≡◌}
use Prim.Native.Nat.{◌≤◌, ◌*◌}
use lib.IntN.{nat_abs}
use Rattle.simplicity.specs.Corners.{sum_below, edge_area}
use Rattle.simplicity.proofs.area.doubled_area.Given as goal

abbrev pub invariant-loop-k : goal.invariant-loop-k
invariant-loop-k l = (l.area ≡ sum_below (edge_area l.corners) l.k) × (nat_abs l.area ≤ l.k * 32768)
