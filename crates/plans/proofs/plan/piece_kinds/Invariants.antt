-- `plans::plan::piece_kinds` meets its contract. The invariant: behind the pieces passed come those of kind t and the later ones.
use Prim.Native.Nat.{◌≤◌}
use mathlib.Core.Path.{◌≡◌}
use lib.ListN.{length}
use Rattle.model.specs.Format.{content}
use Rattle.plans.proofs.PieceLists.{Before}
use Rattle.plans.proofs.plan.piece_kinds.Given as goal

abbrev pub invariant-loop-t : goal.invariant-loop-t
invariant-loop-t l = (length l.kinds ≡ 12) × (l.l ≤ 12) × Before (content l.job).kinds l.kinds l.l l.t
