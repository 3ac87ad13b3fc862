use Rattle.std.proofs.Common.{rules, refl, ◌∙◌}
use native.Mathlib.Omega.{arith}
use lib.ListN.{length}
use Rattle.std.proofs.lemmas.Iterator.{YieldsList-from_range}
use Rattle.model.proofs.Ranges.{any_below}
use Rattle.simplicity.specs.Corners.{edge_meets_in}
use Rattle.simplicity.proofs.EdgeLaws.{edges_same}
use Rattle.simplicity.proofs.edges.edges_meet.Goals as goal

pub returns : goal.returns
returns c =
    any_below (edge_meets_in c.args.corners.now) (length c.args.corners.now) _ _ c.any.ensures.ran
    (YieldsList-from_range 0 (length c.args.corners.now) _ refl (omega arith)) (λ x b q k. search rules)
    ∙ edges_same c.args.corners.now c.requires
