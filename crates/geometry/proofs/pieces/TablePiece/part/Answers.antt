-- `geometry::pieces::TablePiece::part` meets its contract: the numbers behind the box of part i are the part. Assumes
-- nothing.
use mathlib.Core.Path.{refl}
use Rattle.geometry.proofs.PieceLaws.{part-window}
use Rattle.geometry.proofs.pieces.TablePiece.part.Goals as goal

pub returns : goal.returns
returns c =
    part-window c.args.self.now.table.now c.args.self.now.piece.now c.args.i c.part_start-at.result _
    c.part_start-at.ensures.0 refl
