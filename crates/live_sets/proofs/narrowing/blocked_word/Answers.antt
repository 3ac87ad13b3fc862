-- `live_sets::narrowing::blocked_word` meets its contract.
use native.Mathlib.Omega.{arith}
use borrow.Author.Rules.{rules}
use Rattle.live_sets.proofs.Blocking.{laid_rows, laid_sought, placed-small, first_small, span_small, at_is, at_room, above-room, below-room, blocked-bits}
use Rattle.live_sets.proofs.narrowing.blocked_word.Goals as goal

pub overflow_add-at : goal.overflow_add-at
overflow_add-at c = omega (arith, first_small _ _ _ _ _ _ _ _ c.requires.0)

pub overflow_mul-at : goal.overflow_mul-at
overflow_mul-at c = omega (arith, span_small _ _ _ _ _ _ _ _ c.requires.0)

pub overflow_mul-at-2 : goal.overflow_mul-at-2
overflow_mul-at-2 c = omega (arith, span_small _ _ _ _ _ _ _ _ c.requires.0)

pub overflow_add-at-2 : goal.overflow_add-at-2
overflow_add-at-2 c = omega (arith, first_small _ _ _ _ _ _ _ _ c.requires.0, span_small _ _ _ _ _ _ _ _ c.requires.0)

pub overflow_mul-at-3 : goal.overflow_mul-at-3
overflow_mul-at-3 c = omega (arith, placed-small _ _ _ _ _ _ _ _ c.requires.0)

pub overflow_add-at-3 : goal.overflow_add-at-3
overflow_add-at-3 c = omega (arith, placed-small _ _ _ _ _ _ _ _ c.requires.0)

pub overflow_mul-at-4 : goal.overflow_mul-at-4
overflow_mul-at-4 c = omega (arith, placed-small _ _ _ _ _ _ _ _ c.requires.0)

pub overflow_sub-at : goal.overflow_sub-at
overflow_sub-at c = omega (arith, at_is _ _ _ _ _ _ _ _ c.requires.0 c.requires.1)

pub above_start-requires : goal.above_start-requires
above_start-requires c = laid_sought _ _ _ _ _ _ _ _ c.requires.0

pub overflow_add-above_start : goal.overflow_add-above_start
overflow_add-above_start c = omega (
  arith,
  c.above_start.ensures.1,
  at_room _ _ _ _ _ _ _ _ c.requires.0 c.requires.1,
  c.requires.0.table.measures.small.1,
)

pub bits_at-above-requires : goal.bits_at-above-requires
bits_at-above-requires c = above-room _ _ _ _ _ _ _ _ c.requires.0 c.requires.1 c.above_start.result
    c.above_start.ensures.0

pub below_start-requires : goal.below_start-requires
below_start-requires c = laid_sought _ _ _ _ _ _ _ _ c.requires.0

pub overflow_add-below_start : goal.overflow_add-below_start
overflow_add-below_start c = omega (
  arith,
  c.below_start.ensures.1,
  at_room _ _ _ _ _ _ _ _ c.requires.0 c.requires.1,
  c.requires.0.table.measures.small.1,
)

pub overflow_mul-nofit : goal.overflow_mul-nofit
overflow_mul-nofit c = omega (arith, span_small _ _ _ _ _ _ _ _ c.requires.0)

pub overflow_add-below_start-2 : goal.overflow_add-below_start-2
overflow_add-below_start-2 c = omega (
  arith,
  c.below_start.ensures.1,
  at_room _ _ _ _ _ _ _ _ c.requires.0 c.requires.1,
  c.requires.0.table.measures.small.1,
)

pub bits_at-below-requires : goal.bits_at-below-requires
bits_at-below-requires c = below-room _ _ _ _ _ _ _ _ c.requires.0 c.requires.1 c.below_start.result
    c.below_start.ensures.0

pub rows_from-here-requires : goal.rows_from-here-requires
rows_from-here-requires c = laid_rows _ _ _ _ _ _ _ _ c.requires.0

pub returns : goal.returns
returns c =
    blocked-bits _ _ _ _ _ _ _ _ c.requires.0 c.requires.1 c.above_start.result c.below_start.result
    c.bits_at-above.result c.bits_at-below.result c.rows_from-here.result
    c.above_start.ensures.0 c.below_start.ensures.0 c.bits_at-above.ensures c.bits_at-below.ensures (search rules)
    c.rows_from-here.ensures
