-- `nofit::patterns::fill_parities` meets its contract. The invariant: the words passed have their parities. Assumes nothing.
use mathlib.Core.Path.{◌≡◌}
use lib.ListN.{length}
use Rattle.nofit.specs.Filling.{ParitiesTo}
use Rattle.nofit.proofs.patterns.fill_parities.Given as goal

abbrev pub invariant-loop-k : goal.invariant-loop-k
invariant-loop-k l = (length l.bits ≡ length l.initial.bits) × ParitiesTo l.rows l.k l.bits
