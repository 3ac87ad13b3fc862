use mathlib.Core.Path.{refl, ap}
use Prim.Native.Nat.{◌*◌}
use Rattle.frame.proofs.SectionLaws.{judged}
use Rattle.frame.proofs.sections.misplaced.Goals as goal

pub returns : goal.returns
returns c =
    let t = c.read_trailer-t.ensures in
    judged c.args.job.now _ _ _ _ _ _ _ _ _ _ _ _ _
    c.in_place.ensures c.in_place-2.ensures c.in_place-3.ensures c.shares_byte.ensures c.shares_byte-2.ensures
    c.shares_byte-3.ensures
    t.place t.board refl t.classes (ap (λ n. n * 3) t.class_count) t.kinds t.kinds_length
