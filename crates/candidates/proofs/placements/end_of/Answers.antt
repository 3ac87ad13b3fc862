use mathlib.Core.Path.{◌≡◌, ap}
use lib.IntN.{pos, nat_abs, ◌+ℤ◌}
use mir.Syntax.{w64}
use mir.Val.{to_z, of_z}
use borrow.Author.Rules.{sfits_of}
use Rattle.model.specs.Candidate.{natural}
use Rattle.candidates.proofs.PlacementLaws.{wide_fits, moved-fits, moved_value, end_is, end_fits}
use Rattle.candidates.proofs.placements.end_of.Goals as goal

pub overflow_cast-x : goal.overflow_cast-x
overflow_cast-x c = wide_fits c.args.high c.ranges.high

pub overflow_add-x : goal.overflow_add-x
overflow_add-x c = moved-fits c.args.high c.args.by c.ranges.high c.requires

-- the end, read from its bits
end : (c : goal.After-max) → to_z w64 (of_z w64 c.max.result) ≡ pos (natural (c.args.high +ℤ pos c.args.by))
end c = end_is c.max.result _ (sfits_of c.max.type_inv) c.max.ensures.value (moved_value c.args.high c.args.by c.ranges.high c.requires)

pub overflow_cast-result : goal.overflow_cast-result
overflow_cast-result c = (rw (end c) tt, rw (end c) (end_fits c.args.high c.args.by c.ranges.high c.requires))

pub returns : goal.returns
returns c = ap nat_abs (end c)
