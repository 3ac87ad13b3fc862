-- `live_sets::narrowing::rows_from` meets its contract.
use native.Mathlib.Omega.{arith}
use Rattle.live_sets.proofs.Blocking.{rows-mask}
use Rattle.live_sets.proofs.narrowing.rows_from.Goals as goal

pub overflow_mul-at : goal.overflow_mul-at
overflow_mul-at c = omega (arith, c.requires.within, c.requires.small)

pub overflow_add-at : goal.overflow_add-at
overflow_add-at c = omega (arith, c.requires.within, c.requires.small)

pub bits_at-requires : goal.bits_at-requires
bits_at-requires c = omega (arith, c.requires.within, c.requires.fits)

pub overflow_mul-row : goal.overflow_mul-row
overflow_mul-row c = omega (arith, c.requires.within, c.requires.small, c.requires.inside)

pub overflow_sub-at : goal.overflow_sub-at
overflow_sub-at c = omega (arith, c.requires.inside)

pub bits_at-requires-2 : goal.bits_at-requires-2
bits_at-requires-2 c = omega (arith, c.requires.within, c.requires.fits)

pub returns : goal.returns
returns c = rows-mask c.args.nofit.now c.args.strings.now c.args.row c.args.first c.requires c.bits_at.result
    c.bits_at-2.result c.bits_at.ensures c.bits_at-2.ensures
