-- `nofit::places::string_start` meets its contract.
use mathlib.Core.Path.{refl}
use native.Mathlib.Omega.{arith}
use Rattle.nofit.specs.Patterns.{string_start}
use Rattle.nofit.proofs.PlaceLaws.{words-before}
use Rattle.nofit.proofs.places.string_start.Goals as goal

pub returns : goal.returns
unfolding string_start
returns c = (refl, omega (arith, words-before c.args.nofit.size c.args.i c.requires.1.1 c.requires.0))
