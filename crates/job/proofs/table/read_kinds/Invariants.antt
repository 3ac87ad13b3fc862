use Rattle.records.specs.Classes.{classes_from}
use Rattle.job.specs.Table.{Built}
use Rattle.job.proofs.table.read_kinds.Given as goal

abbrev pub invariant-loop-t : goal.invariant-loop-t
invariant-loop-t l = Built (classes_from l.job l.at l.n) l.list l.base l.t l.here l.table
