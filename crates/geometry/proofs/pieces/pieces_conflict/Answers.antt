-- `geometry::pieces::pieces_conflict` meets its contract: the chain asks the parts one after the other. Assumes
-- nothing.
use Rattle.std.proofs.Common.{rules, map, refl, ◌∙◌, List}
use native.Mathlib.Omega.{arith}
use Rattle.std.proofs.lemmas.Iterator.{YieldsList-from_range}
use Rattle.model.specs.Content.{Part}
use Rattle.model.proofs.Ranges.{any_below}
use Rattle.polygons.specs.Flat.{shifted}
use Rattle.geometry.specs.Pieces.{part_in, parts_in, part_conflicts}
use Rattle.geometry.proofs.PieceLaws.{pieces-conflict-below}
use Rattle.geometry.proofs.pieces.pieces_conflict.Goals as goal

pub returns : goal.returns
returns c =
    let e = c.args in
    let Qs : List Part = map (map (shifted e.dx e.dy)) (parts_in e.table.now e.q) in
    any_below (λ i. part_conflicts e.gap (part_in e.table.now e.p i) Qs) e.p.count _ _ c.any.ensures.ran
    (YieldsList-from_range 0 _ _ refl (omega arith)) (λ x b f k. search rules)
    ∙ pieces-conflict-below e.gap e.table.now e.p Qs
