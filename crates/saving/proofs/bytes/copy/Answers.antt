use mathlib.Core.Path.{◌∙◌}
use native.Mathlib.Omega.{arith}
use lib.ListN.{length-set}
use Rattle.saving.proofs.CopyLaws.{copy_more}
use Rattle.saving.proofs.bytes.copy.Goals as goal

pub loop-k-preserved : goal.loop-k-preserved
loop-k-preserved c = (
  length-set c.loop-k.answer _ _ ∙ c.loop-k.invariant.0,
  copy_more c.args.job.now c.args.from c.args.at c.loop-k.k _ _ (omega (arith, c.requires.0)) c.loop-k.invariant.1,
)
