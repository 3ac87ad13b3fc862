-- `plans::recording::record_layout` meets its contract. The invariant: the entries passed are written.
use mathlib.Core.Path.{◌≡◌}
use lib.ListN.{length}
use Rattle.model.specs.Format.{content}
use Rattle.model.specs.Grid.{placement_of}
use Rattle.model.specs.Layout.{entry}
use Rattle.stepping.specs.Levels.{piece_kind, numbers_at}
use Rattle.plans.proofs.Writing.{written}
use Rattle.plans.proofs.recording.record_layout.Given as goal

abbrev pub invariant-loop-i : goal.invariant-loop-i
invariant-loop-i l = (length l.out ≡ length l.initial.out)
    × (l.out ≡ written (λ i. entry (piece_kind (content l.job).kinds i) (placement_of (content l.job).sheet (numbers_at l.candidates i))) l.i l.initial.out)
