use Rattle.std.proofs.Common.{refl, ◌+◌, ◌≤◌, length}
use native.Mathlib.Omega.{arith}
use Rattle.records.proofs.NextLaws.{kind-begins, parts-few, parts-read}
use Rattle.job.proofs.TableLaws.{built_none, built_more, best_of_lem}
use Rattle.job.proofs.table.read_kinds.Goals as goal
use Rattle.job.proofs.table.read_kinds.Goals.{In-loop-t}

pub loop-t-init : goal.loop-t-init
loop-t-init c = built_none _ _ _ _ _ c.requires.1.0 _ refl

begins : (c : In-loop-t) → c.loop-t.here + 4 ≤ length c.args.list.now
begins c = kind-begins c.args.list.now c.args.kinds _ c.loop-t.t c.loop-t.here c.requires.1.0 c.loop-t-test.true
    c.loop-t.invariant.reads

pub read_head-head-requires : goal.read_head-head-requires
read_head-head-requires c = begins c

pub overflow_add-here : goal.overflow_add-here
overflow_add-here c = omega (arith, begins (goal.at.overflow_add-here c).In-loop-t)

pub place_parts-end-requires : goal.place_parts-end-requires
place_parts-end-requires c =
    let few = parts-few c.args.list.now c.args.kinds _ c.loop-t.t c.loop-t.here c.requires.1.0 c.loop-t-test.true
    c.loop-t.invariant.reads _ c.read_head-head.ensures.parts in
    let read = parts-read c.args.list.now c.args.kinds _ c.loop-t.t c.loop-t.here c.requires.1.0 c.loop-t-test.true
    c.loop-t.invariant.reads _ c.read_head-head.ensures.parts in
    ((few, c.requires.0.3), read)

pub loop-t-preserved : goal.loop-t-preserved
loop-t-preserved c =
    let best = best_of_lem c.args.job.now c.args.list.now c.args.at c.args.n c.loop-t.here _ _ _ c.requires.1.1
    c.largest_gap-default.ensures c.best_class-best.ensures c.read_head-head.ensures.classes in
    built_more _ c.args.list.now c.args.base c.args.kinds _ c.requires.1.0 c.loop-t.t c.loop-t.here c.loop-t.table _
    c.read_head-head.result _ c.loop-t-test.true (omega arith)
    c.loop-t.invariant c.read_head-head.ensures (refl, refl, refl) best c.place_parts-end.ensures.0
    c.place_parts-end.ensures.1
