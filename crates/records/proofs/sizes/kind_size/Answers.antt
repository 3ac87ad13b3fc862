use mathlib.Core.Path.{◌∙◌}
use native.Mathlib.Omega.{arith}
use Rattle.records.proofs.RecordLaws.{head_fits, kind-headless, kind-taken, kind-refused, tail_length}
use Rattle.records.proofs.sizes.kind_size.Goals as goal

pub returns-then-not-head_in_range-clause-value : goal.returns-then-not-head_in_range-clause-value
returns-then-not-head_in_range-clause-value c =
    kind-headless c.args.kind.now c.head_in_range.result c.head_in_range.ensures c.if-not-head_in_range.true

pub slice_bounds-parts_size-count : goal.slice_bounds-parts_size-count
slice_bounds-parts_size-count c =
    omega (arith, head_fits c.args.kind.now _ c.head_in_range.ensures c.if-not-head_in_range.false)

pub slice_bounds-parts_size-start : goal.slice_bounds-parts_size-start
slice_bounds-parts_size-start c =
    omega (arith, head_fits c.args.kind.now _ c.head_in_range.ensures c.if-not-head_in_range.false)

pub byte-requires : goal.byte-requires
byte-requires c = omega (arith, head_fits c.args.kind.now _ c.head_in_range.ensures c.if-not-head_in_range.false)

pub returns-in_err-parts-clause-value : goal.returns-in_err-parts-clause-value
returns-in_err-parts-clause-value c =
    c.from_residual.ensures
    ∙ kind-refused c.args.kind.now c.head_in_range.result c.head_in_range.ensures c.if-not-head_in_range.false
    c.parts_size.result c.byte.result c.byte.ensures.0 c.parts_size.ensures.value c.in_err-parts.was

pub returns-clause-value : goal.returns-clause-value
returns-clause-value c =
    kind-taken c.args.kind.now c.head_in_range.result c.head_in_range.ensures c.if-not-head_in_range.false
    c.parts_size.result c.byte.result c.byte.ensures.0 c.parts_size.ensures.value c.in_ok-parts.parts c.in_ok-parts.was

pub returns-clause-within : goal.returns-clause-within
returns-clause-within c =
    let h = head_fits c.args.kind.now _ c.head_in_range.ensures c.if-not-head_in_range.false in
    omega (arith, tail_length c.args.kind.now 4, c.in_ok-parts.ensures.within, h.whole)
