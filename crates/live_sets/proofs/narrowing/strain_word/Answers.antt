-- `live_sets::narrowing::strain_word` meets its contract.
use Prim.Native.Nat.{◌+◌}
use native.Mathlib.Omega.{arith}
use borrow.Author.Rules.{rules}
use Rattle.live_sets.proofs.Blocking.{placed-small, first_small, span_small, stays-behind, stays-before, goes_before}
use Rattle.words.proofs.Tested.{bit_below}
use Rattle.live_sets.proofs.Sifting.{keeps-all, keeps-none, keeps-others}
use Rattle.live_sets.proofs.narrowing.strain_word.Goals as goal

pub overflow_mul-span : goal.overflow_mul-span
overflow_mul-span c = omega (arith, span_small _ _ _ _ _ _ _ _ c.requires.0)

pub overflow_mul-span-2 : goal.overflow_mul-span-2
overflow_mul-span-2 c = omega (arith, span_small _ _ _ _ _ _ _ _ c.requires.0)

pub overflow_mul-middle : goal.overflow_mul-middle
overflow_mul-middle c = omega (arith, placed-small _ _ _ _ _ _ _ _ c.requires.0)

pub overflow_mul-middle-2 : goal.overflow_mul-middle-2
overflow_mul-middle-2 c = omega (arith, placed-small _ _ _ _ _ _ _ _ c.requires.0)

pub overflow_add-middle : goal.overflow_add-middle
overflow_add-middle c = omega (
  arith,
  placed-small _ _ _ _ _ _ _ _ c.requires.0,
  span_small _ _ _ _ _ _ _ _
      c.requires.0,
)

pub returns-then-middle-span : goal.returns-then-middle-span
returns-then-middle-span c = keeps-all _ c.args.w (λ i e. stays-behind _ _ _ _ _ _ _ _ c.requires.0
    c.if-middle-span.true (c.args.first + i) (omega arith) (c.requires.1 i e))

pub overflow_add-first : goal.overflow_add-first
overflow_add-first c = omega (arith, first_small _ _ _ _ _ _ _ _ c.requires.0)

pub overflow_add-first-2 : goal.overflow_add-first-2
overflow_add-first-2 c = omega (
  arith,
  first_small _ _ _ _ _ _ _ _ c.requires.0,
  span_small _ _ _ _ _ _ _ _
      c.requires.0,
)

pub overflow_mul-rows : goal.overflow_mul-rows
overflow_mul-rows c = omega (arith, span_small _ _ _ _ _ _ _ _ c.requires.0)

pub overflow_add-middle-2 : goal.overflow_add-middle-2
overflow_add-middle-2 c = omega (
  arith,
  placed-small _ _ _ _ _ _ _ _ c.requires.0,
  span_small _ _ _ _ _ _ _ _
      c.requires.0,
)

pub returns-then-latest-u : goal.returns-then-latest-u
returns-then-latest-u c =
    keeps-none _ c.args.w
    (λ i e. goes_before _ _ _ _ _ _ _ _ c.requires.0 c.if-first-span.true (c.args.first + i)
    (omega (arith, bit_below c.args.w i c.ranges.w.fits e)) c.if-latest-u.true)

pub returns-then-first-span : goal.returns-then-first-span
returns-then-first-span c =
    keeps-all _ c.args.w
    (λ i e. stays-before _ _ _ _ _ _ _ _ c.requires.0 c.if-first-span.true (c.args.first + i)
    (omega (arith, bit_below c.args.w i c.ranges.w.fits e)) c.if-latest-u.false (c.requires.1 i e))

pub blocked_word-requires : goal.blocked_word-requires
blocked_word-requires c = (c.requires.0, record { from = c.if-first-span.false; to = c.if-middle-span.false })

pub returns : goal.returns
returns c = keeps-others _ c.args.w c.blocked_word.result c.ranges.w.fits (search rules)
    (λ i l e. c.blocked_word.ensures i l (c.requires.1 i e))
