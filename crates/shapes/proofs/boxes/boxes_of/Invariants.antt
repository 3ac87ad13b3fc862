-- `shapes::boxes::boxes_of` meets its contract. Assumes nothing.
use mathlib.Core.Path.{◌≡◌}
use Prim.Native.Nat.{ℕ, ◌+◌, ◌*◌, ◌/◌, ◌%◌, ◌<◌}
use lib.ListN.{length, get_or}
use Rattle.polygons.specs.Boxes.{extents_of}
use Rattle.shapes.specs.Boxes.{no_box, turned_vertices}
use Rattle.shapes.proofs.boxes.boxes_of.Given as goal

abbrev pub invariant-loop-t : goal.invariant-loop-t
invariant-loop-t l = (length l.of ≡ 32)
    × ((m : ℕ) → m < l.t * 4 → get_or l.of m no_box ≡ extents_of (turned_vertices l.job (m / 4) (m % 4)))

abbrev pub invariant-loop-k : goal.invariant-loop-k
invariant-loop-k l = (length l.of ≡ 32)
    × ((m : ℕ) → m < l.t * 4 + l.k → get_or l.of m no_box ≡ extents_of (turned_vertices l.job (m / 4) (m % 4)))
