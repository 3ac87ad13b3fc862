-- `words::bits::keep` meets its contract.
use Rattle.words.proofs.Tested.{kept-end, kept-next, lowest-left, without_smaller}
use Rattle.words.proofs.bits.keep.Goals as goal

pub test-requires : goal.test-requires
test-requires g c =
    let low = lowest-left c.loop-left.left c.lowest_bit-i.result c.loop-left.invariant.small c.loop-left-test.true
    c.lowest_bit-i.ensures.0 in
    c.requires c.lowest_bit-i.result low.0 (c.loop-left.invariant.among _ low.1)

pub loop-left-smaller : goal.loop-left-smaller
loop-left-smaller g c =
    let low = lowest-left c.loop-left.left c.lowest_bit-i.result c.loop-left.invariant.small c.loop-left-test.true
    c.lowest_bit-i.ensures.0 in
    without_smaller c.loop-left.left c.lowest_bit-i.result _ low.0 low.1 c.clear_bit-left.ensures

pub loop-left-preserved : goal.loop-left-preserved
loop-left-preserved g c =
    let low = lowest-left c.loop-left.left c.lowest_bit-i.result c.loop-left.invariant.small c.loop-left-test.true
    c.lowest_bit-i.ensures.0 in
    kept-next _ _ _ _ _ c.test.result _ _ c.loop-left.invariant low.0 low.1 c.test.ensures c.clear_bit-left.ensures
    c.assign_bit-kept.ensures

pub returns : goal.returns
returns g c = record {
  tested = λ i l e. kept-end _ _ _ _ c.loop-left.invariant c.loop-left-test.false i e;
  untested = c.loop-left.invariant.untested;
}
