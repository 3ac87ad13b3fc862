-- `nofit::places::holds` meets its contract.
use mathlib.Core.Bool.{◌&&◌}
use mathlib.Core.Path.{ap₂}
use Prim.Native.Nat.{ℕ}
use lib.Dec.{ltb}
use Rattle.nofit.proofs.places.holds.Goals as goal

pub above_string-requires : goal.above_string-requires
above_string-requires c = c.requires

pub below_string-requires : goal.below_string-requires
below_string-requires c = c.requires

pub returns : goal.returns
returns c = ap₂ (λ (a b : ℕ). ltb a c.args.nofit.held && ltb b c.args.nofit.held) c.above_string.ensures.0 c.below_string.ensures.0
