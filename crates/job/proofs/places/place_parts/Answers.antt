use Rattle.std.proofs.Common.{◌<◌, length, length-set, refl, ◌∙◌}
use native.Mathlib.Omega.{arith}
use Rattle.job.proofs.PlaceLaws.{placed-none, placed-more}
use Rattle.records.proofs.NextLaws.{parts-start, part-begins, part-next}
use Rattle.job.proofs.places.place_parts.Goals as goal
use Rattle.job.proofs.places.place_parts.Goals.{In-loop-i}

pub loop-i-init : goal.loop-i-init
loop-i-init c = (omega arith, refl, parts-start c.args.list.now c.args.from c.args.n, placed-none _ _ c.args.n _ _)

begins : (c : In-loop-i) → c.loop-i.here < length c.args.list.now
begins c = part-begins c.args.list.now c.args.from c.args.n _ c.loop-i.i c.loop-i.here c.requires.1 c.loop-i-test.true
    c.loop-i.invariant.0 c.loop-i.invariant.2

pub overflow_add-places : goal.overflow_add-places
overflow_add-places c = omega (arith, begins c)

pub byte-requires : goal.byte-requires
byte-requires c = begins c

pub overflow_add-here-in-loop-i : goal.overflow_add-here-in-loop-i
overflow_add-here-in-loop-i c = omega (arith, begins (goal.at.overflow_add-here-in-loop-i c).In-loop-i)

pub loop-i-preserved : goal.loop-i-preserved
loop-i-preserved c =
    let p = part-next c.args.list.now c.args.from c.args.n _ c.loop-i.i c.loop-i.here c.requires.1 c.loop-i-test.true
    c.loop-i.invariant.0 c.loop-i.invariant.2 _ c.byte.ensures.0 in (
      omega arith,
      length-set c.loop-i.places _ _
          ∙ c.loop-i.invariant.1,
      p.more,
      placed-more c.args.list.now c.args.from c.args.n c.args.base c.loop-i.i
          c.loop-i.here _ c.loop-i.places c.loop-i.invariant.2 p (omega arith) c.loop-i.invariant.3,
    )
