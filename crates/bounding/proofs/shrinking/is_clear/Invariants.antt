-- `bounding::shrinking::is_clear` meets its contract. The invariant: the words of the kinds passed are zero.
use mathlib.Core.Path.{◌≡◌}
use Prim.Native.Nat.{ℕ, ◌+◌, ◌*◌, ◌<◌}
use Rattle.words.specs.Number.{number_at}
use Rattle.bounding.proofs.shrinking.is_clear.Given as goal

abbrev pub invariant-loop-u : goal.invariant-loop-u
invariant-loop-u l = (v : ℕ) → v < l.u → number_at 8 l.work ((v * l.plan.words + l.k) * 8) ≡ 0
