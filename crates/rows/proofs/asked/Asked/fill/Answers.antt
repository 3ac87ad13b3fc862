use mathlib.Core.List.{map}
use mathlib.Core.Path.{◌≡◌, refl, sym, ap, ap₂, ◌∙◌}
use Prim.Native.Nat.{◌+◌, ◌*◌}
use native.Mathlib.Omega.{arith}
use borrow.Author.Rules.{rules}
use Rattle.words.specs.Bits.{bits_where}
use Rattle.words.specs.Number.{with_number, filled}
use Rattle.model.specs.Lists.{below}
use Rattle.model.specs.Services.{with_words, row_words}
use Rattle.rows.specs.Asked.{bit_for}
use Rattle.rows.proofs.RowLaws.{fill_none, fill_more}
use Rattle.rows.proofs.asked.Asked.fill.Goals as goal

pub loop-w-init : goal.loop-w-init
loop-w-init c = (refl, fill_none _ _)

pub loop-w-preserved : goal.loop-w-preserved
loop-w-preserved c = (
  search rules,
  c.put_u64.ensures
      ∙ ap₂ (λ r m. with_number 8 r (c.loop-w.w * 8) m) c.loop-w.invariant.1 c.word.ensures
      ∙ sym (fill_more (λ w. bits_where 64 (λ i. bit_for c.args.self.now (w * 64 + i))) c.args.row.now c.loop-w.w),
)

pub returns : goal.returns
unfolding with_words row_words
returns c =
    let n : c.loop-w.w ≡ c.set_words-w-end.result = omega arith in
    c.loop-w.invariant.1
    ∙ ap (λ m. filled 8 (map (λ w. bits_where 64 (λ i. bit_for c.args.self.now (w * 64 + i))) (below m))
    c.args.row.now) (n ∙ c.set_words-w-end.ensures.words)
