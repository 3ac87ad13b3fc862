use Rattle.std.proofs.Common.{◌≤◌, ◌+◌, length}
use native.Mathlib.Omega.{arith}
use Rattle.model.specs.Format.{read_kind}
use Rattle.model.specs.Services.{kind_numbers}
use Rattle.records.proofs.NextLaws.{kind-begins, kind-ends, parts-read}
use Rattle.records.proofs.RecordLaws.{reads_none}
use Rattle.reading.proofs.ListingLaws.{kind-each, kinds-more}
use Rattle.reading.proofs.WriteLaws.{records_none}
use Rattle.reading.proofs.listing.put_kinds.Goals as goal
use Rattle.reading.proofs.listing.put_kinds.Goals.{In-loop}

pub loop-init : goal.loop-init
loop-init c = (reads_none read_kind _, records_none read_kind kind_numbers kind-each _ c.args.list.now _)

begins : (c : In-loop) → c.loop.here + 4 ≤ length c.args.list.now
begins c = kind-begins c.args.list.now c.args.n _ c.loop.counter c.loop.here c.requires.1 c.loop-test.true
    c.loop.invariant.0

pub overflow_add-at : goal.overflow_add-at
overflow_add-at c = omega (arith, begins (goal.at.overflow_add-at c).In-loop)

pub put_bytes-requires : goal.put_bytes-requires
put_bytes-requires c = omega (arith, begins (goal.at.put_bytes-requires c).In-loop)

pub overflow_add-here : goal.overflow_add-here
overflow_add-here c = omega (arith, begins (goal.at.overflow_add-here c).In-loop)

pub overflow_add-here-in-loop : goal.overflow_add-here-in-loop
overflow_add-here-in-loop c = omega (arith, begins (goal.at.overflow_add-here-in-loop c).In-loop)

pub byte-requires : goal.byte-requires
byte-requires c = omega (arith, begins (goal.at.byte-requires c).In-loop)

pub put_parts-here-requires : goal.put_parts-here-requires
put_parts-here-requires c =
    let l = c.put_bytes.auto.answer in (
      omega arith,
      parts-read c.args.list.now c.args.n _ c.loop.counter c.loop.here c.requires.1 c.loop-test.true
          c.loop.invariant.0 _ c.byte.ensures.0,
    )

pub loop-preserved : goal.loop-preserved
loop-preserved c = (
  kind-ends c.args.list.now c.args.n _ c.loop.counter c.loop.here c.requires.1 c.loop-test.true c.loop.invariant.0 _
      c.byte.ensures.0 _ c.put_parts-here.ensures.value,
  kinds-more c.args.list.now c.args.n _ c.loop.counter c.loop.here c.requires.1 c.loop-test.true c.loop.invariant.0 _
      c.args.at _ _ _ _ c.byte.ensures.0 c.loop.invariant.1 c.put_bytes.ensures c.put_parts-here.ensures.answer_after,
)
