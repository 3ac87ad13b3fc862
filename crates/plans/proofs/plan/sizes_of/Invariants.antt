-- `plans::plan::sizes_of` meets its contract. The invariant: the sizes passed are the piece's.
use mathlib.Core.Path.{◌≡◌}
use Prim.Native.Nat.{ℕ, ◌<◌}
use lib.ListN.{length, get_or}
use Rattle.plans.proofs.plan.sizes_of.Given as goal

abbrev pub invariant-loop-i : goal.invariant-loop-i
invariant-loop-i l = (length l.sizes ≡ 6) × ((j : ℕ) → j < l.i → get_or l.sizes j 0 ≡ get_or l.piece.sizes j 0)
