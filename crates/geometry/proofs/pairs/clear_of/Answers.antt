-- `geometry::pairs::clear_of` meets its contract: no sum wraps, and the test is the definition's. Assumes nothing.
use lib.Signed.{le_z}
use Rattle.geometry.proofs.BoxSizes.{end-gives, padded_gives}
use Rattle.geometry.proofs.pairs.clear_of.Goals as goal

pub returns : goal.returns
returns c = λ i. le_z (padded_gives c.ranges.high c.ranges.from c.ranges.gap i) (end-gives c.ranges.low c.ranges.to i)
