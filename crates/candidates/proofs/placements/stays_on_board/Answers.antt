-- `candidates::placements::stays_on_board` meets its contract. Assumes nothing.
use mathlib.Core.Path.{◌≡◌, ◌∙◌}
use Prim.Native.Nat.{◌*◌}
use borrow.Author.Rules.{rules}
use Rattle.candidates.proofs.PlacementLaws.{both}
use Rattle.candidates.specs.Placements.{within, fits_at}
use Rattle.candidates.proofs.placements.stays_on_board.Goals as goal

pub returns : goal.returns
unfolding fits_at
returns c =
    let v = c.args.view.now in
    let x : c.stays_within.result ≡ within c.args.e.min_x c.args.e.max_x (c.args.place.column * v.step) v.margin v.length =
    c.stays_within.ensures ∙ search rules in
    let y : c.stays_within-2.result ≡ within c.args.e.min_y c.args.e.max_y (c.args.place.row * v.step) v.margin v.width =
    c.stays_within-2.ensures ∙ search rules in
    both x y
