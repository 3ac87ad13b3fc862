use mathlib.Core.Path.{◌≡◌}
use Rattle.model.specs.Format.{many, read_kind}
use Rattle.records.specs.Records.{Reads}
use Rattle.reading.specs.Write.{kinds_numbers}
use Rattle.writing.specs.Numbers.{with_numbers_at}
use Rattle.reading.proofs.listing.put_kinds.Given as goal

abbrev pub invariant-loop : goal.invariant-loop
invariant-loop l = Reads (many read_kind l.counter l.list) l.here
    × (l.answer ≡ with_numbers_at l.at (kinds_numbers l.counter l.list) l.initial.answer)
