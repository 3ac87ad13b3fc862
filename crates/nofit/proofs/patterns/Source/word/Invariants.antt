-- `nofit::patterns::Source::word` meets its contract. The invariant: the rotations passed have their bits. Assumes nothing.
use Prim.Native.Nat.{◌+◌, ◌*◌, ◌^◌, ◌<◌}
use Rattle.nofit.specs.Filling.{blocked_bit}
use Rattle.nofit.proofs.FillingLaws.{TurnsSet}
use Rattle.nofit.proofs.patterns.Source.word.Given as goal

abbrev pub invariant-loop-k : goal.invariant-loop-k
invariant-loop-k l = (l.v < 2 ^ 64) × TurnsSet l.self.pattern.mask l.k (λ i. blocked_bit l.self.turned.now l.self.pattern l.self.placed.piece l.self.other (l.word * 64 + i)) l.v
