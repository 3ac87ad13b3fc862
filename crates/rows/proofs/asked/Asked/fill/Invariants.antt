-- `rows::asked::Asked::fill` meets its contract. Assumes nothing.
use mathlib.Core.List.{map}
use mathlib.Core.Path.{◌≡◌}
use Prim.Native.Nat.{◌+◌, ◌*◌}
use lib.ListN.{length}
use Rattle.words.specs.Bits.{bits_where}
use Rattle.words.specs.Number.{filled}
use Rattle.model.specs.Lists.{below}
use Rattle.rows.specs.Asked.{bit_for}
use Rattle.rows.proofs.asked.Asked.fill.Given as goal

abbrev pub invariant-loop-w : goal.invariant-loop-w
invariant-loop-w l = (length l.row ≡ length l.initial.row)
    × (l.row ≡ filled 8 (map (λ w. bits_where 64 (λ i. bit_for l.self (w * 64 + i))) (below l.w)) l.initial.row)
