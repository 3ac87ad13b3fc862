use native.Mathlib.Omega.{arith}
use Rattle.model.proofs.CommonCut.{meant_most}
use Rattle.reading.proofs.ClassLaws.{gap-written}
use Rattle.words.proofs.Cases.{at_most_one}
use Rattle.reading.proofs.classes.put_gap.Goals as goal

pub put-requires : goal.put-requires
put-requires c = omega (arith, meant_most c.args.byte, c.requires.0)

pub put-requires-2 : goal.put-requires-2
put-requires-2 c = omega (arith, c.requires.1, c.from.ensures, at_most_one c.marks_cut.result)

pub returns : goal.returns
returns c = gap-written c.args.at c.args.byte _ _ c.marks_cut.result c.args.answer.now _ _ c.gap_meant.ensures
    c.from.ensures c.marks_cut.ensures c.put.ensures c.put-2.ensures
