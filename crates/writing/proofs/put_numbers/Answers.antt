use native.Mathlib.Omega.{arith}
use Rattle.writing.proofs.NumberLaws.{row-none, row_more}
use Rattle.writing.proofs.put_numbers.Goals as goal

pub loop-k-init : goal.loop-k-init
loop-k-init g c f told = row-none f c.args.at c.args.answer.now

pub loop-k-preserved : goal.loop-k-preserved
loop-k-preserved g c f told =
    row_more f c.args.at c.loop-k.k c.number.result c.args.answer.now c.loop-k.answer _
    (omega (arith, c.requires.room, c.loop-k.auto.answer)) (told c.loop-k.k c.number.result c.loop-k-test.true
    c.number.ensures)
    (c.loop-k.invariant f told) c.put_u16.ensures
