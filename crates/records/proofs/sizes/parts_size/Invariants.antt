use Prim.Native.Nat.{◌≤◌}
use lib.ListN.{length}
use Rattle.model.specs.Format.{many, read_part}
use Rattle.records.specs.Records.{Reads}
use Rattle.records.proofs.sizes.parts_size.Given as goal

abbrev pub invariant-loop : goal.invariant-loop
invariant-loop l = (l.at ≤ length l.parts) × Reads (many read_part l.counter l.parts) l.at
