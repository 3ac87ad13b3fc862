use mathlib.Core.Path.{◌≡◌}
use lib.Seq.{sets}
use Rattle.model.specs.Saving.{class_list}
use Rattle.records.specs.Rising.{classes_at_first}
use Rattle.saving.proofs.classes.put_classes.Given as goal

abbrev pub invariant-loop-k : goal.invariant-loop-k
invariant-loop-k l = l.answer ≡ sets l.initial.answer l.at (class_list (classes_at_first l.job l.place-items l.k))
