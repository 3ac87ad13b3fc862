-- `nofit::patterns::parity_word` meets its contract. The invariants: the bits passed are those of the parities.
use mathlib.Core.Path.{◌≡◌}
use Prim.Native.Nat.{◌+◌, ◌*◌, ◌^◌, ◌<◌}
use Rattle.words.specs.Bits.{bits_where}
use Rattle.nofit.specs.Filling.{dot_of, parity_bits}
use Rattle.nofit.proofs.patterns.parity_word.Given as goal

abbrev pub invariant-loop-n : goal.invariant-loop-n
invariant-loop-n l =
    (l.v < 2 ^ 64) × (l.d ≡ dot_of l.rows (l.k * 16 + l.n)) × (l.v ≡ bits_where (l.n * 4) (parity_bits l.rows l.k))

abbrev pub invariant-loop-turn : goal.invariant-loop-turn
invariant-loop-turn l = (l.v < 2 ^ 64) × (l.v ≡ bits_where (l.n * 4 + l.turn) (parity_bits l.rows l.k))
