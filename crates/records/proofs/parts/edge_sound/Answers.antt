use Rattle.std.proofs.Common.{rules, ◌≡◌, refl, ◌∙◌}
use mathlib.Core.Bool.{◌||◌}
use mathlib.Core.Path.{sym, ap}
use native.Mathlib.Omega.{arith}
use lib.Dec.{eqb}
use lib.ListN.{length}
use Rattle.std.proofs.lemmas.Iterator.{YieldsList-from_range}
use Rattle.model.proofs.Ranges.{all_below}
use Rattle.model.specs.Geometry.{edge_sound, strictly_left, vertex_at}
use Rattle.model.specs.Lists.{all, below}
use Rattle.records.proofs.CornerLaws.{following-of}
use Rattle.records.proofs.parts.edge_sound.Goals as goal

pub returns : goal.returns
unfolding edge_sound
returns c =
    let P = c.args.corners.now in
    let i = c.args.i in
    all_below (λ k. eqb k i || eqb k c.next-q.result || strictly_left (vertex_at P i) (vertex_at P c.next-q.result)
    (vertex_at P k)) (length P) _ _
    c.all.ensures.ran (YieldsList-from_range 0 (length P) _ refl (omega arith)) (λ x b q k. search rules)
    ∙ ap (λ q. all (λ k. eqb k i || eqb k q || strictly_left (vertex_at P i) (vertex_at P q) (vertex_at P k))
    (below (length P)))
    (c.next-q.ensures.0 ∙ sym (following-of P i))
