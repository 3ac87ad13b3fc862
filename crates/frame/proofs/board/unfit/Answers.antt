use mathlib.Core.Bool.{not}
use mathlib.Core.Path.{ap, ap₂, ◌∙◌}
use Prim.Native.Nat.{◌*◌}
use lib.Dec.{ltb}
use Rattle.frame.proofs.BoardLaws.{divides, judged}
use Rattle.frame.proofs.board.unfit.Goals as goal

pub multiples-requires : goal.multiples-requires
multiples-requires c =
    let d = divides c.read_board-b.result _ _ _ c.field_fits.ensures c.field_fits-2.ensures c.field_fits-3.ensures
    c.if-not-fits.false in
    (d.step, d.len)

pub multiples-requires-else-not-fits : goal.multiples-requires-else-not-fits
multiples-requires-else-not-fits c =
    let d = divides c.read_board-b.result _ _ _ c.field_fits.ensures c.field_fits-2.ensures c.field_fits-3.ensures
    c.if-not-fits.false in
    (d.step, d.width)

pub returns-then-not-fits : goal.returns-then-not-fits
returns-then-not-fits c =
    ap not c.if-not-fits.true
    ∙ judged c.read_board-b.result _ _ _ c.field_fits.ensures c.field_fits-2.ensures c.field_fits-3.ensures _ _ _
    c.read_board-b.ensures c.if-not-fits.true

pub returns-else-not-fits : goal.returns-else-not-fits
returns-else-not-fits c =
    ap (ltb 1024) (ap₂ ◌*◌ c.multiples.ensures.0 c.multiples-else-not-fits.ensures.0)
    ∙ judged c.read_board-b.result _ _ _ c.field_fits.ensures c.field_fits-2.ensures c.field_fits-3.ensures _ _ _
    c.read_board-b.ensures c.if-not-fits.false
