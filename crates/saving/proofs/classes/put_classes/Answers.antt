use Rattle.std.proofs.Common.{◌≡◌, refl, sym, take, length, length-take-le}
use native.Mathlib.Omega.{arith}
use Rattle.records.proofs.RisingLaws.{at_most-eight, inside-taken}
use Rattle.saving.proofs.SavingLaws.{classes-none, classes-more, classes-all}
use Rattle.saving.proofs.classes.put_classes.Goals as goal

pub slice_bounds-places-end : goal.slice_bounds-places-end
slice_bounds-places-end c = omega
    (arith, at_most-eight c.args.job.now c.args.from c.args.n c.requires.1, c.places-places.ensures.size)

pub slice_bounds-place-items-end : goal.slice_bounds-place-items-end
slice_bounds-place-items-end c =
    sym (length-take-le c.args.n c.places-places.result
    (omega (arith, at_most-eight c.args.job.now c.args.from c.args.n c.requires.1, c.places-places.ensures.size)))

pub loop-k-init : goal.loop-k-init
loop-k-init c = classes-none c.args.job.now (take c.args.n c.places-places.result) c.args.at _

pub loop-k-preserved : goal.loop-k-preserved
loop-k-preserved c =
    let l : length (take c.args.n c.places-places.result) ≡ c.args.n =
    length-take-le c.args.n c.places-places.result
    (omega (arith, at_most-eight c.args.job.now c.args.from c.args.n c.requires.1, c.places-places.ensures.size)) in
    classes-more c.args.job.now (take c.args.n c.places-places.result) c.args.at c.loop-k.k _ _ _
    (inside-taken c.args.job.now c.places-places.result c.args.n c.places-places.ensures.inside c.loop-k.k
    (omega arith)) c.loop-k.invariant c.copy.ensures

pub returns : goal.returns
returns c =
    let l : length (take c.args.n c.places-places.result) ≡ c.args.n =
    length-take-le c.args.n c.places-places.result
    (omega (arith, at_most-eight c.args.job.now c.args.from c.args.n c.requires.1, c.places-places.ensures.size)) in
    classes-all c.args.job.now _ c.args.at c.places-places.result c.args.from c.args.n c.loop-k.k _ _ (omega arith) refl
    c.places-places.ensures c.loop-k.invariant
