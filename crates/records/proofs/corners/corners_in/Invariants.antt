use mathlib.Core.Path.{◌≡◌}
use Prim.Native.Nat.{ℕ, ◌*◌, ◌<◌}
use lib.ListN.{length, get_or}
use Rattle.model.specs.Content.{origin}
use Rattle.records.proofs.CornerLaws.{vertex_in}
use Rattle.records.proofs.corners.corners_in.Given as goal

abbrev pub invariant-loop-k : goal.invariant-loop-k
invariant-loop-k l = (length l.corners ≡ 8) × ((i : ℕ) → i < l.k → get_or l.corners i origin ≡ vertex_in l.bytes
    (i * 2))
