use mathlib.Core.Path.{refl, ◌∙◌}
use native.Mathlib.Omega.{arith}
use Rattle.records.proofs.ClassLaws.{found-or}
use Rattle.records.proofs.RisingLaws.{at_most-eight, risen_begin, risen_next, risen_end}
use Rattle.records.proofs.rising.places.Goals as goal

pub loop-id-init : goal.loop-id-init
loop-id-init c = risen_begin _ _ _ _ refl

pub find-requires : goal.find-requires
find-requires c = omega (arith, c.requires.0, at_most-eight c.args.job.now c.args.at c.args.n c.requires.1)

pub loop-id-preserved : goal.loop-id-preserved
loop-id-preserved c =
    let first = found-or c.args.job.now c.args.at c.args.n c.loop-id.id c.find.result c.find.ensures in
    rw c.from-done.ensures
    (risen_next c.args.job.now c.args.at c.args.n c.loop-id.id c.loop-id.done c.unwrap_or-j.result c.loop-id.places
    c.loop-id.invariant c.requires.1
    (c.unwrap_or-j.ensures ∙ first) c.loop-id-test.true c.requires.0)

pub returns : goal.returns
returns c = risen_end c.args.job.now c.args.at c.args.n c.loop-id.id c.loop-id.done _ (omega arith) c.requires.1
    c.loop-id.invariant
