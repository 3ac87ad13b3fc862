use Rattle.std.proofs.Common.{◌<◌, length, drop}
use native.Mathlib.Omega.{arith}
use Rattle.model.specs.Format.{read_part}
use Rattle.model.specs.Services.{part_numbers}
use Rattle.records.proofs.NextLaws.{parts-start, part-begins, part-next}
use Rattle.reading.proofs.ListingLaws.{part-each, parts_more}
use Rattle.reading.proofs.WriteLaws.{records_none}
use Rattle.reading.proofs.listing.put_parts.Goals as goal
use Rattle.reading.proofs.listing.put_parts.Goals.{In-loop}

pub loop-init : goal.loop-init
loop-init c = (
  omega arith,
  parts-start c.args.list.now c.args.from
      c.args.n,
  records_none read_part part_numbers part-each _ (drop c.args.from c.args.list.now) _,
)

begins : (c : In-loop) → c.loop.here < length c.args.list.now
begins c = part-begins c.args.list.now c.args.from c.args.n _ c.loop.counter c.loop.here c.requires.1 c.loop-test.true
    c.loop.invariant.0 c.loop.invariant.1

pub byte-corners-requires : goal.byte-corners-requires
byte-corners-requires c = begins c

pub overflow_add-at : goal.overflow_add-at
overflow_add-at c = omega (arith, begins (goal.at.overflow_add-at c).In-loop)

pub put-requires : goal.put-requires
put-requires c = omega (arith, begins (goal.at.put-requires c).In-loop)

pub overflow_add-here : goal.overflow_add-here
overflow_add-here c = omega (arith, begins (goal.at.overflow_add-here c).In-loop)

pub overflow_add-at-in-loop : goal.overflow_add-at-in-loop
overflow_add-at-in-loop c = omega (arith, begins (goal.at.overflow_add-at-in-loop c).In-loop)

pub overflow_add-at-in-loop-2 : goal.overflow_add-at-in-loop-2
overflow_add-at-in-loop-2 c = omega (arith, begins (goal.at.overflow_add-at-in-loop-2 c).In-loop)

pub put_bytes-requires : goal.put_bytes-requires
put_bytes-requires c =
    let p = (part-next c.args.list.now c.args.from c.args.n _ c.loop.counter c.loop.here c.requires.1 c.loop-test.true
    c.loop.invariant.0 c.loop.invariant.1 _ c.byte-corners.ensures.0).inside in
    let l = c.put.auto.answer in
    omega arith

pub overflow_add-here-in-loop-2 : goal.overflow_add-here-in-loop-2
overflow_add-here-in-loop-2 c = omega (arith, begins (goal.at.overflow_add-here-in-loop-2 c).In-loop)

pub loop-preserved : goal.loop-preserved
loop-preserved c =
    let p = part-next c.args.list.now c.args.from c.args.n _ c.loop.counter c.loop.here c.requires.1 c.loop-test.true
    c.loop.invariant.0 c.loop.invariant.1 _ c.byte-corners.ensures.0 in (
      omega arith,
      p.more,
      parts_more c.args.list.now c.args.from c.loop.counter c.loop.here _ c.args.at _ _ _ _ c.loop.invariant.0
          c.loop.invariant.1 p c.byte-corners.ensures.0 c.loop.invariant.2 c.put.ensures c.put_bytes.ensures,
    )
