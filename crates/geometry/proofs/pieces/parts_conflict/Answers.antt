-- `geometry::pieces::parts_conflict` meets its contract: boxes that are apart separate the parts, and otherwise the
-- pair test decides. Assumes nothing.
use mathlib.Core.Path.{sym, ◌∙◌}
use borrow.Author.Rules.{rules}
use mir.Syntax.{w16}
use mir.Val.{SFits}
use Rattle.integers.proofs.Machine.{read₂}
use Rattle.geometry.specs.Apart.{boxes_apart}
use Rattle.geometry.proofs.PieceLaws.{boxed-apart}
use Rattle.geometry.proofs.pieces.parts_conflict.Goals as goal

pub returns-then-boxes_apart : goal.returns-then-boxes_apart
returns-then-boxes_apart c =
    let e = c.args in
    let p = e.p.now in
    let q = e.q.now in
    let hx : SFits w16 e.by.dx = search rules in
    let hy : SFits w16 e.by.dy = search rules in
    boxed-apart e.gap p.table.now q.table.now p.piece.now q.piece.now e.i e.m e.by.dx e.by.dy p.standing q.standing
    c.requires.0 c.requires.1
    ((λ j. boxes_apart e.gap (sym c.part_box.ensures j) (sym c.part_box-2.ensures j) e.by.dx e.by.dy)
    ∙ sym (read₂ w16 e.by.dx e.by.dy hx hy (λ x y. boxes_apart e.gap c.part_box.result c.part_box-2.result x y))
    ∙ sym c.boxes_apart.ensures ∙ c.if-boxes_apart.true)
