-- `plans::plan::copies_table` meets its contract. The invariant: the levels passed have the copies left.
use mathlib.Core.List.{[]}
use mathlib.Core.Path.{◌≡◌}
use Prim.Native.Nat.{ℕ, ◌<◌}
use lib.ListN.{length, get_or}
use Rattle.model.specs.Format.{content}
use Rattle.model.specs.Search.{copies_left}
use Rattle.stepping.specs.Levels.{pieces_from}
use Rattle.plans.proofs.plan.copies_table.Given as goal

abbrev pub invariant-loop-l : goal.invariant-loop-l
invariant-loop-l l = (length l.copies ≡ 12)
    × ((i : ℕ) → i < l.l-counter → (u : ℕ) → u < 8 → get_or (get_or l.copies i []) u 0 ≡ copies_left u (pieces_from (content l.job).kinds i))
