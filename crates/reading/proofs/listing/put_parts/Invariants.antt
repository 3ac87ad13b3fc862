use mathlib.Core.Path.{◌≡◌}
use Prim.Native.Nat.{◌≤◌, ◌+◌, ◌-◌}
use lib.ListN.{drop}
use Rattle.model.specs.Format.{many, read_part}
use Rattle.records.specs.Records.{Reads}
use Rattle.reading.specs.Write.{parts_numbers}
use Rattle.writing.specs.Numbers.{with_numbers_at}
use Rattle.reading.proofs.listing.put_parts.Given as goal

abbrev pub invariant-loop : goal.invariant-loop
invariant-loop l =
    (l.from ≤ l.here) × Reads (many read_part l.counter (drop l.from l.list)) (l.here - l.from)
    × (l.answer ≡ with_numbers_at (l.at + l.from) (parts_numbers l.counter (drop l.from l.list)) l.initial.answer)
