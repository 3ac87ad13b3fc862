-- `shapes::turned::turn_part` meets its contract. Assumes nothing.
use mathlib.Core.Path.{◌≡◌}
use lib.ListN.{length, drop}
use Rattle.model.specs.Format.{vertices}
use Rattle.shapes.proofs.TurnLaws.{PlanesTurned}
use Rattle.shapes.proofs.turned.turn_part.Given as goal

abbrev pub invariant-loop-k : goal.invariant-loop-k
invariant-loop-k l = (length l.turned ≡ 4096)
    × PlanesTurned (vertices l.n (drop l.from l.job)) l.q l.initial.turned l.turned l.k
