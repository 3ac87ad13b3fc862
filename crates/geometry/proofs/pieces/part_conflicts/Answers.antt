-- `geometry::pieces::part_conflicts` meets its contract: the chain asks the parts one after the other. Assumes nothing.
use Rattle.std.proofs.Common.{rules, refl, ◌∙◌}
use native.Mathlib.Omega.{arith}
use Rattle.std.proofs.lemmas.Iterator.{YieldsList-from_range}
use Rattle.model.specs.Content.{Part}
use Rattle.model.proofs.Ranges.{any_below}
use Rattle.geometry.specs.Pieces.{part_in}
use Rattle.geometry.proofs.PieceLaws.{conflict_at, part-conflicts-below}
use Rattle.geometry.proofs.pieces.part_conflicts.Goals as goal

pub returns : goal.returns
returns c =
    let e = c.args in
    let P : Part = part_in e.p.now.table.now e.p.now.piece.now e.i in
    let q = e.q.now in
    any_below (conflict_at e.gap P q.table.now q.piece.now e.by.dx e.by.dy) q.piece.now.count _ _ c.any.ensures.ran
    (YieldsList-from_range 0 _ _ refl (omega arith)) (λ x b f k. search rules)
    ∙ part-conflicts-below e.gap P q.table.now q.piece.now e.by.dx e.by.dy
