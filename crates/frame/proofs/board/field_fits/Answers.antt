use Rattle.frame.proofs.board.field_fits.Goals as goal

pub returns : goal.returns
returns c = c.in_range.ensures
