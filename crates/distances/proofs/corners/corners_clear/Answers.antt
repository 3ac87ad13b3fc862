-- `distances::corners::corners_clear` meets its contract: the chain asks the corners one after the other. Assumes
-- nothing.
use Rattle.std.proofs.Common.{rules, Bool, refl, ap, ◌∙◌, ℕ}
use native.Mathlib.Omega.{arith}
use Rattle.std.proofs.lemmas.Iterator.{YieldsList-from_range}
use Rattle.model.specs.Content.{Part}
use Rattle.model.specs.Geometry.{vertex_at}
use Rattle.model.specs.Lists.{all, below}
use Rattle.model.proofs.Ranges.{all_below}
use Rattle.polygons.specs.Flat.{part_of, shifted}
use Rattle.distances.specs.Compact.{corner_clear}
use Rattle.distances.proofs.DistanceLaws.{corners_at}
use Rattle.distances.proofs.corners.corners_clear.Goals as goal

pub returns : goal.returns
returns c =
    let P : Part = part_of c.args.p.numbers.now in
    let Q : Part = part_of c.args.q.numbers.now in
    let test : ℕ → Bool =
    λ i. corner_clear c.args.gap Q (shifted c.args.by.dx c.args.by.dy (vertex_at P i)) in
    all_below test c.count.result _ _ c.all.ensures.ran (YieldsList-from_range 0 _ _ refl (omega arith))
    (λ x b q k. search rules)
    ∙ ap (λ n. all test (below n)) c.count.ensures
    ∙ corners_at c.args.gap P Q c.args.by.dx c.args.by.dy
