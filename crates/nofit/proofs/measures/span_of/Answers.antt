-- `nofit::measures::span_of` meets its contract. Assumes nothing.
use mathlib.Core.Path.{◌≡◌}
use native.Mathlib.Nat.{lt_of_le_of_lt}
use borrow.Author.Rules.{sfits_of}
use lib.Dec.{lit<}
use lib.IntN.{pos, ◌+ℤ◌, ◌-ℤ◌}
use mir.Syntax.{w64}
use mir.Val.{to_z, of_z}
use Rattle.integers.proofs.Machine.{cast_fits}
use Rattle.model.specs.Candidate.{natural}
use Rattle.nofit.proofs.MeasureLaws.{difference_fits, spaced_fits, span_natural, span_most}
use Rattle.nofit.proofs.measures.span_of.Goals as goal

pub overflow_cast-x : goal.overflow_cast-x
overflow_cast-x c = cast_fits w64 c.ranges.high tt

pub overflow_cast-x-2 : goal.overflow_cast-x-2
overflow_cast-x-2 c = cast_fits w64 c.ranges.low tt

pub overflow_sub-x : goal.overflow_sub-x
overflow_sub-x c = difference_fits c.args.low c.args.high c.args.gap c.ranges.low c.ranges.high c.requires

pub overflow_add-x : goal.overflow_add-x
overflow_add-x c = spaced_fits c.args.low c.args.high c.args.gap c.ranges.low c.ranges.high c.requires

-- the span, read from its bits
span : (c : goal.After-max) → to_z w64 (of_z w64 c.max.result) ≡ pos (natural ((c.args.high -ℤ c.args.low) +ℤ pos c.args.gap))
span c = span_natural c.args.low c.args.high c.args.gap c.ranges.low c.ranges.high c.requires c.max.result (sfits_of c.max.type_inv) c.max.ensures.value

pub overflow_cast-result : goal.overflow_cast-result
overflow_cast-result c =
    let most = (span_most c.args.low c.args.high c.args.gap c.ranges.low c.ranges.high c.requires).1 in
    rw (span c) (tt, record { fits = lt_of_le_of_lt most (lit< tt) })

pub returns : goal.returns
returns c = rw (span c) (span_most c.args.low c.args.high c.args.gap c.ranges.low c.ranges.high c.requires)
