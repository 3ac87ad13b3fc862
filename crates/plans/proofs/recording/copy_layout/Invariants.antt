-- `plans::recording::copy_layout` meets its contract. The invariant: the entries passed are copied.
use mathlib.Core.Path.{◌≡◌}
use lib.ListN.{length}
use Rattle.model.specs.Services.{entry_in}
use Rattle.plans.proofs.Writing.{written}
use Rattle.plans.proofs.recording.copy_layout.Given as goal

abbrev pub invariant-loop-i : goal.invariant-loop-i
invariant-loop-i l = (length l.out ≡ length l.initial.out) × (l.out ≡ written (entry_in l.layout) l.i l.initial.out)
