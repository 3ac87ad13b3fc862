use native.Mathlib.Omega.{arith}
use Rattle.reading.proofs.ContentLaws.{front_written}
use Rattle.job.proofs.ViewLaws.{six_none, inside, classes-in}
use Rattle.reading.proofs.content.put_front.Goals as goal

pub read_trailer-t-requires : goal.read_trailer-t-requires
read_trailer-t-requires c = (inside _ (six_none _ c.requires.0)).least

pub put_words-requires : goal.put_words-requires
put_words-requires c = omega (arith, inside c.args.job.now (six_none c.args.job.now c.requires.0))

pub put_classes-requires : goal.put_classes-requires
put_classes-requires c =
    let t = c.read_trailer-t.ensures in
    let six = six_none c.args.job.now c.requires.0 in
    (omega (arith, inside c.args.job.now six, c.requires.1, t.classes, t.class_count), classes-in c.args.job.now six _ _ t.classes t.class_count)

pub returns : goal.returns
returns c =
    let t = c.read_trailer-t.ensures in
    front_written c.args.job.now c.requires.0 _ _ _ c.args.answer.now _ _ _ t.board t.classes t.class_count c.put_words.ensures c.put.ensures c.put_classes.ensures
