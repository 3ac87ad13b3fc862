use native.Mathlib.Omega.{arith}
use borrow.Author.Rules.{rules}
use Rattle.nofit.specs.Filling.{blocked_bit, allowed}
use Rattle.nofit.proofs.FillingLaws.{written_next, allowed-word}
use Rattle.nofit.proofs.patterns.Source.fill.Goals as goal

pub loop-k-preserved : goal.loop-k-preserved
loop-k-preserved c =
    let f = c.args.self.now in
    let s = f.pattern in (
      search rules,
      written_next c.args.at c.loop-k.k (allowed s.mask) (blocked_bit f.turned.now s f.placed.piece f.other) c.args.bits.now c.loop-k.bits _ c.word.result
          c.loop-k.invariant.1 (omega (arith, c.loop-k.invariant.0, c.requires.size_in_bounds)) (search rules)
          (allowed-word s.mask c.loop-k.k _ c.word.result c.word.ensures) c.put_u64.ensures,
    )
