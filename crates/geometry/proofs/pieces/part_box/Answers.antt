-- `geometry::pieces::part_box` meets its contract: the four numbers are those of the table. Assumes nothing.
use mathlib.Core.Path.{◌∙◌}
use borrow.Author.Rules.{sfits_of}
use mir.Syntax.{w16}
use mir.ValLaws.{to_z-of_z}
use Rattle.polygons.proofs.BoxLaws.{same-box}
use Rattle.geometry.proofs.PieceLaws.{box-window}
use Rattle.geometry.proofs.pieces.part_box.Goals as goal

pub returns : goal.returns
returns c =
    let e = c.args in
    same-box (to_z-of_z w16 _ (sfits_of c.result-1.given)) (to_z-of_z w16 _ (sfits_of c.result-2-1.given))
    (to_z-of_z w16 _ (sfits_of c.result-3-1.given))
    (to_z-of_z w16 _ (sfits_of c.result-4-1.given))
    ∙ box-window e.table.now e.p e.i c.part_start-at.result c.part_start-at.ensures.0
