-- `shapes::turned::turn_all` meets its contract. Assumes nothing.
use mathlib.Core.Path.{◌≡◌}
use lib.ListN.{length}
use Rattle.shapes.proofs.TurnLaws.{KindsTurned}
use Rattle.shapes.proofs.turned.turn_all.Given as goal

abbrev pub invariant-loop-kind : goal.invariant-loop-kind
invariant-loop-kind l = (length l.turned ≡ 4096)
    × KindsTurned l.job l.turned l.kind
