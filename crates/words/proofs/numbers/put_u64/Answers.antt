-- `words::numbers::put_u64` meets its contract.
use mathlib.Core.Path.{◌∙◌}
use Rattle.words.proofs.Library.{put-is}
use Rattle.words.proofs.numbers.put_u64.Goals as goal

pub returns : goal.returns
returns c = put-is 8 c.args.s.now c.args.i c.args.n _ (c.copy_from_slice.ensures.after ∙ c.to_le_bytes.ensures)
