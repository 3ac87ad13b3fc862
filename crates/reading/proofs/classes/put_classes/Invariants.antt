use mathlib.Core.Path.{◌≡◌}
use Rattle.records.specs.Rising.{classes_at_first}
use Rattle.reading.specs.Write.{classes_numbers}
use Rattle.writing.specs.Numbers.{with_numbers_at}
use Rattle.reading.proofs.classes.put_classes.Given as goal

abbrev pub invariant-loop-k : goal.invariant-loop-k
invariant-loop-k l = l.answer ≡ with_numbers_at l.at
    (classes_numbers (classes_at_first l.job l.place-items l.k)) l.initial.answer
