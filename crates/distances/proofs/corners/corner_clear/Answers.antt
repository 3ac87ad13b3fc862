-- `distances::corners::corner_clear` meets its contract: the chain asks the definition's edges. Assumes nothing.
use Rattle.std.proofs.Common.{rules, Bool, not, refl, ap, ◌∙◌, ℕ}
use native.Mathlib.Omega.{arith}
use Rattle.std.proofs.lemmas.Iterator.{YieldsList-from_range}
use Rattle.model.specs.Content.{vertex, Part}
use Rattle.model.specs.Geometry.{vertex_at, following, near_edge}
use Rattle.model.specs.Lists.{all, below}
use Rattle.model.proofs.Ranges.{all_below}
use Rattle.polygons.specs.Flat.{part_of}
use Rattle.distances.specs.Compact.{corner_clear}
use Rattle.distances.proofs.corners.corner_clear.Goals as goal

pub returns : goal.returns
unfolding corner_clear
returns c =
    let Q : Part = part_of c.args.q.numbers.now in
    let test : ℕ → Bool =
    λ k. not (near_edge c.args.gap (vertex_at Q k) (vertex_at Q (following Q k))
    (vertex c.args.corner.x c.args.corner.y)) in
    all_below test c.count.result _ _ c.all.ensures.ran (YieldsList-from_range 0 _ _ refl (omega arith))
    (λ x b q k. search rules)
    ∙ ap (λ n. all test (below n)) c.count.ensures
