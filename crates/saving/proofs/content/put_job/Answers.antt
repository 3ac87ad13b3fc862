use native.Mathlib.Omega.{arith}
use Rattle.job.proofs.ViewLaws.{six_none, inside, classes-in}
use Rattle.saving.proofs.SavingLaws.{job-written}
use Rattle.saving.proofs.content.put_job.Goals as goal

pub read_trailer-t-requires : goal.read_trailer-t-requires
read_trailer-t-requires c = (inside _ (six_none _ c.requires.0)).least

pub copy-requires : goal.copy-requires
copy-requires c = omega (arith, inside c.args.job.now (six_none c.args.job.now c.requires.0), c.read_trailer-t.ensures, c.requires.1)

pub put_classes-requires : goal.put_classes-requires
put_classes-requires c =
    let t = c.read_trailer-t.ensures in
    let six = six_none c.args.job.now c.requires.0 in
    (omega (arith, inside c.args.job.now six, c.requires.1, t.classes, t.class_count), classes-in c.args.job.now six _ _ t.classes t.class_count)

pub copy-requires-2 : goal.copy-requires-2
copy-requires-2 c = omega (arith, inside c.args.job.now (six_none c.args.job.now c.requires.0), c.read_trailer-t.ensures, c.requires.1)

pub put_trailer-requires : goal.put_trailer-requires
put_trailer-requires c = omega (arith, inside c.args.job.now (six_none c.args.job.now c.requires.0), c.read_trailer-t.ensures, c.requires.1)

pub returns : goal.returns
returns c =
    let t = c.read_trailer-t.ensures in
    job-written c.args.job.now (λ i. (c.type_inv.job i).fits) c.requires.0 _ _ _ _ _ _ c.args.answer.now _ _ _
    _ t.board t.classes t.kinds t.class_count t.kind_count t.kinds_length c.copy.ensures c.put_classes.ensures
    c.copy-2.ensures c.put_trailer.ensures
