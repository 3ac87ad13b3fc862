use Rattle.records.proofs.RisingLaws.{RisenTo}
use Rattle.records.proofs.rising.places.Given as goal

abbrev pub invariant-loop-id : goal.invariant-loop-id
invariant-loop-id l = RisenTo l.job l.at l.n l.id l.done l.places
