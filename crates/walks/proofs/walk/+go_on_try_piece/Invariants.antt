-- The proof of the cycle of calls of `walks::walk::go_on` and `walks::walk::try_piece`. The measure is twice the pieces left, and one more for
-- `go_on`, which calls `try_piece` at the same level. The invariant of the loop of `try_piece` is `Trying`.
use mathlib.Core.Path.{◌≡◌}
use Prim.Native.Nat.{◌+◌, ◌*◌, ◌-◌}
use lib.ListN.{length}
use Rattle.model.specs.Format.{content}
use Rattle.model.specs.Grid.{set_words}
use Rattle.walks.proofs.Trying.{Trying}
use Rattle.live_sets.specs.Known.{problem}
use Rattle.walks.proofs.walk.+go_on_try_piece.Given as goal

abbrev pub decreases-go_on : goal.decreases-go_on
decreases-go_on l = (l.fixed.now.plan.pieces - l.branch.now.level) + (l.fixed.now.plan.pieces - l.branch.now.level) + 1

abbrev pub decreases-try_piece : goal.decreases-try_piece
decreases-try_piece l = (l.fixed.now.plan.pieces - l.branch.now.level) + (l.fixed.now.plan.pieces - l.branch.now.level)

abbrev pub invariant-try_piece-loop-next : goal.invariant-try_piece-loop-next
invariant-try_piece-loop-next l =
    ((length l.work ≡ length l.initial.work) × (length l.out ≡ length l.initial.out))
    × Trying (problem l.fixed) l.branch.numbers l.branch.level l.branch.extent l.initial.work l.initial.out l.work l.out l.initial.st l.st l.from

abbrev pub decreases-try_piece-loop-next : goal.decreases-try_piece-loop-next
decreases-try_piece-loop-next l = set_words (content l.fixed.job.now).sheet * 64 - l.from
