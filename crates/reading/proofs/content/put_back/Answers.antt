use native.Mathlib.Omega.{arith}
use Rattle.model.proofs.AcceptedKinds.{pieces-most}
use Rattle.reading.proofs.ContentLaws.{back_written}
use Rattle.job.proofs.ViewLaws.{six_none, inside, length-list, list_reads}
use Rattle.reading.proofs.content.put_back.Goals as goal

pub read_trailer-t-requires : goal.read_trailer-t-requires
read_trailer-t-requires c = (inside _ (six_none _ c.requires.0.0)).least

pub slice_bounds-put_kinds-end : goal.slice_bounds-put_kinds-end
slice_bounds-put_kinds-end c = omega (arith, inside c.args.job.now (six_none c.args.job.now c.requires.0.0))

pub put_kinds-requires : goal.put_kinds-requires
put_kinds-requires c =
    let t = c.read_trailer-t.ensures in
    let n = six_none c.args.job.now c.requires.0.0 in
    (omega (arith, length-list c.args.job.now n _ _ _ t.kinds t.kinds_length t.kind_count), list_reads c.args.job.now n _ _ _ t.kinds t.kinds_length t.kind_count)

pub put-requires-2 : goal.put-requires-2
put-requires-2 c =
    let t = c.read_trailer-t.ensures in
    omega (arith, pieces-most c.args.job.now c.requires.0.0)

pub returns : goal.returns
returns c =
    let t = c.read_trailer-t.ensures in
    back_written c.args.job.now c.requires.0.0 _ _ _ t.kinds t.kinds_length t.kind_count c.args.at _ c.args.answer.now _ _ _ c.requires.0.1 c.put.ensures c.put_kinds.ensures c.put-2.ensures
