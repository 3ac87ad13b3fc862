-- `nofit::patterns::Source::fill` meets its contract. The invariant: the words passed are made, and nothing else changed. Assumes nothing.
use mathlib.Core.Path.{◌≡◌}
use lib.ListN.{length}
use Rattle.nofit.specs.Filling.{blocked_bit, Written, allowed}
use Rattle.nofit.proofs.patterns.Source.fill.Given as goal

abbrev pub invariant-loop-k : goal.invariant-loop-k
invariant-loop-k l = (length l.bits ≡ length l.initial.bits)
    × Written l.at l.k (allowed l.self.pattern.mask) (blocked_bit l.self.turned.now l.self.pattern l.self.placed.piece l.self.other) l.initial.bits l.bits
