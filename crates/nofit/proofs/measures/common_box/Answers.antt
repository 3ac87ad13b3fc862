use mathlib.Core.Path.{sym, subst, ◌∙◌}
use Prim.Native.Nat.{◌+◌, ◌%◌}
use native.Mathlib.Omega.{arith}
use borrow.Author.Count.{below_none}
use Rattle.job.specs.View.{rotations_of}
use Rattle.nofit.specs.Measures.{Around}
use Rattle.nofit.proofs.MeasureLaws.{around_next, around_skip}
use Rattle.nofit.proofs.measures.common_box.Goals as goal
use Rattle.nofit.proofs.measures.common_box.Goals.{then-test_bit, else-test_bit}

pub loop-i-init : goal.loop-i-init
loop-i-init c = below_none _

pub loop-i-preserved : goal.loop-i-preserved
loop-i-preserved c =
    let masks = rotations_of c.args.view in
    let of = c.args.boxes.of in
    let i = c.loop-i.i in
    elim c.if-test_bit.branch [
      | then-test_bit w ↦ around_next masks of i c.loop-i.e c.loop-i.invariant c.if-test_bit.e (w.e-is ∙ w.join-e.ensures)
      | else-test_bit w ↦
          subst (Around masks of (i + 1)) (sym w.e-is)
          (around_skip masks of i c.loop-i.e c.loop-i.invariant _ (i % 4 % 64) c.test_bit.ensures (omega arith) w.if-test_bit.false)
    ]

pub returns : goal.returns
returns c = λ i l t. c.loop-i.invariant i (omega arith) t
