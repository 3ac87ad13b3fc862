-- `nofit::patterns::Facing::turn_word` meets its contract. The invariant: the dots passed have their bit of this rotation. Assumes nothing.
use mathlib.Core.Path.{◌≡◌}
use Prim.Native.Nat.{◌+◌, ◌-◌, ◌*◌, ◌^◌, ◌<◌}
use Rattle.nofit.specs.Filling.{dot_of, blocked_turned, TurnSet}
use Rattle.nofit.proofs.patterns.Facing.turn_word.Given as goal

abbrev pub invariant-loop-n : goal.invariant-loop-n
invariant-loop-n l = (l.v < 2 ^ 64) × (l.d ≡ dot_of l.self.pattern.rows ((l.word - 1) * 16 + l.n))
    × TurnSet l.k l.n (λ i. blocked_turned l.self.turned.now l.self.pattern l.self.placed.piece l.self.other.piece (l.word * 64 + i)) l.w l.v
