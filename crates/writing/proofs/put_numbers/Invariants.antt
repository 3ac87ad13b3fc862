-- The invariant: the numbers passed are written.
use mathlib.Core.List.{map}
use mathlib.Core.Path.{◌≡◌}
use Prim.Native.Nat.{ℕ, ◌<◌}
use Rattle.model.specs.Lists.{below}
use Rattle.writing.specs.Numbers.{with_numbers_at}
use Rattle.writing.proofs.put_numbers.Given as goal

abbrev pub invariant-loop-k : goal.invariant-loop-k
invariant-loop-k g l =
    (f : ℕ → ℕ) → ((k x : ℕ) → k < l.n → goal.F-post g l.number k x → x ≡ f k)
    → l.answer ≡ with_numbers_at l.at (map f (below l.k)) l.initial.answer
