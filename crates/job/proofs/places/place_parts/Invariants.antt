use mathlib.Core.Path.{◌≡◌}
use Prim.Native.Nat.{◌-◌, ◌≤◌}
use lib.ListN.{length, drop}
use Rattle.model.specs.Format.{many, read_part}
use Rattle.job.specs.Places.{Placed}
use Rattle.records.specs.Records.{Reads}
use Rattle.job.proofs.places.place_parts.Given as goal

abbrev pub invariant-loop-i : goal.invariant-loop-i
invariant-loop-i l = (l.from ≤ l.here) × (length l.places ≡ 6)
    × Reads (many read_part l.i (drop l.from l.list)) (l.here - l.from) × Placed l.list l.from l.i l.base l.places
