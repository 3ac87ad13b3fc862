-- `shapes::turned::turn_kind` meets its contract. Assumes nothing.
use mathlib.Core.Path.{◌≡◌}
use Prim.Native.Nat.{◌≤◌, ◌<◌}
use lib.ListN.{length}
use Rattle.model.specs.Content.{kind_at}
use Rattle.model.specs.Format.{content}
use Rattle.shapes.proofs.TurnLaws.{KindTurnedTo}
use Rattle.shapes.proofs.turned.turn_kind.Given as goal

abbrev pub invariant-loop-i : goal.invariant-loop-i
invariant-loop-i l = ((l.kind < 8) × (l.parts ≤ 6))
    × (l.parts ≡ length (kind_at (content l.job).kinds l.kind).parts) × (length l.turned ≡ 4096)
    × KindTurnedTo l.job l.kind l.initial.turned l.turned l.i
