use native.Mathlib.Omega.{arith}
use borrow.Author.Rules.{rules}
use Rattle.nofit.proofs.PairLaws.{parities-next}
use Rattle.nofit.proofs.patterns.fill_parities.Goals as goal

pub loop-k-preserved : goal.loop-k-preserved
loop-k-preserved c = (
  search rules,
  parities-next c.args.rows c.loop-k.k c.loop-k.bits _ c.parity_word.result c.loop-k.invariant.1 (omega (arith, c.loop-k.invariant.0, c.requires.1)) (search rules) c.parity_word.ensures
      c.put_u64.ensures,
)
