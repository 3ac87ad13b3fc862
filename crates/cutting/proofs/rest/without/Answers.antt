use Rattle.cutting.proofs.RestLaws.{rest-is}
use Rattle.cutting.proofs.rest.without.Goals as goal

pub returns : goal.returns
returns c =
    rest-is c.args.corners.now c.args.i c.copy_from_slice.new.self c.copy_from_slice-2.new.self _ _ _ c.requires.1
    c.copy_from_slice.ensures.after
    c.copy_from_slice-2.ensures.after
