-- `live_sets::narrowing::narrow` meets its contract. The invariant: the words passed are made, and nothing else changed.
use mathlib.Core.Bool.{◌&&◌}
use Prim.Native.Nat.{◌+◌, ◌*◌}
use Rattle.words.specs.Bytes.{AreBytes}
use Rattle.words.specs.Sets.{member}
use Rattle.live_sets.specs.Known.{problem}
use Rattle.live_sets.specs.Narrowing.{stays, Filled}
use Rattle.live_sets.proofs.narrowing.narrow.Given as goal

abbrev pub invariant-loop-k : goal.invariant-loop-k
invariant-loop-k l = AreBytes l.work × Filled l.to l.k (λ m. member l.initial.work (l.from * 64 + m) && stays (problem l.fixed)
    l.latest.kind l.latest.number l.u m) l.initial.work l.work
