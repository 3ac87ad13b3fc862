-- `bounding::trimming::trim_set` meets its contract. The invariant: the words passed are trimmed, and nothing else changed.
use mathlib.Core.Bool.{◌&&◌}
use Prim.Native.Nat.{◌+◌, ◌*◌}
use Rattle.words.specs.Bytes.{AreBytes}
use Rattle.words.specs.Sets.{member}
use Rattle.plans.specs.Planned.{planned}
use Rattle.live_sets.specs.Narrowing.{Filled}
use Rattle.bounding.specs.Trimmed.{ends_below}
use Rattle.bounding.proofs.trimming.trim_set.Given as goal

abbrev pub invariant-loop-k : goal.invariant-loop-k
invariant-loop-k l = AreBytes l.work × Filled l.at l.k (λ m. member l.initial.work (l.at * 64 + m) && ends_below
    (planned l.job l.plan) l.bound l.u m) l.initial.work l.work
