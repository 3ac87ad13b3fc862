-- `nofit::patterns::make_nofit` meets its contract. The invariant: the parities and the strings passed are made. Assumes nothing.
use mathlib.Core.Path.{◌≡◌}
use lib.ListN.{length}
use Rattle.model.specs.Format.{content}
use Rattle.nofit.specs.Patterns.{ParitiesOf, StringsOf}
use Rattle.nofit.proofs.patterns.make_nofit.Given as goal

abbrev pub invariant-loop-i : goal.invariant-loop-i
invariant-loop-i l = (length l.bits ≡ length l.initial.bits) × ParitiesOf l.nofit l.bits × StringsOf (content l.job) l.nofit l.i l.bits
