-- `plans::lookup::piece_in` meets its contract. The invariant: the sizes passed are those of the kind's parts.
use mathlib.Core.List.{[]}
use mathlib.Core.Path.{◌≡◌}
use Prim.Native.Nat.{ℕ, ◌<◌}
use lib.ListN.{length, get_or}
use Rattle.model.specs.Content.{kind_at}
use Rattle.model.specs.Format.{content}
use Rattle.plans.proofs.lookup.piece_in.Given as goal

abbrev pub invariant-loop-i : goal.invariant-loop-i
invariant-loop-i l = (length l.sizes ≡ 6) × ((j : ℕ) → j < l.i → get_or l.sizes j 0 ≡ length (get_or (kind_at (content l.job).kinds l.kind).parts j []))
