-- `shapes::pieces::piece_of` meets its contract. Assumes nothing.
use mathlib.Core.List.{[]}
use mathlib.Core.Path.{◌≡◌}
use Prim.Native.Nat.{ℕ, ◌≤◌, ◌<◌}
use lib.ListN.{length, get_or}
use Rattle.model.specs.Content.{kind_at}
use Rattle.model.specs.Format.{content}
use Rattle.shapes.proofs.pieces.piece_of.Given as goal

abbrev pub invariant-loop-i : goal.invariant-loop-i
invariant-loop-i l = ((l.kind < 8) × (l.parts ≤ 6))
    × (l.parts ≡ length (kind_at (content l.job).kinds l.kind).parts) × (length l.sizes ≡ 6)
    × ((j : ℕ) → j < l.i → get_or l.sizes j 0 ≡ length (get_or (kind_at (content l.job).kinds l.kind).parts j []))
