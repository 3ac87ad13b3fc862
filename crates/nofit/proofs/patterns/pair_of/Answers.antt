-- `nofit::patterns::pair_of` meets its contract. Assumes nothing.
use Rattle.nofit.proofs.PairLaws.{pair_above, pair_below}
use Rattle.nofit.proofs.patterns.pair_of.Goals as goal

pub returns-then-line-place : goal.returns-then-line-place
returns-then-line-place c = pair_above c.args.nofit c.args.i c.requires.1 c.if-line-place.true

pub returns : goal.returns
returns c = pair_below c.args.nofit c.args.i c.requires.1 c.if-line-place.false
