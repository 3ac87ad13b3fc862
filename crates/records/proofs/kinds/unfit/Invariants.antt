use Prim.Native.Nat.{◌≤◌, ◌*◌}
use lib.ListN.{length}
use Rattle.records.specs.Classes.{classes_from}
use Rattle.records.proofs.KindLaws.{Seen}
use Rattle.records.proofs.kinds.unfit.Given as goal

abbrev pub invariant-loop : goal.invariant-loop
invariant-loop l = ((l.here ≤ length l.list) × (l.demand ≤ 255 * l.counter)) × Seen (classes_from l.job l.at l.n)
    l.list l.counter l.here l.demand l.present
