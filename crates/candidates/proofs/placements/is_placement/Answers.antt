-- `candidates::placements::is_placement` meets its contract. Assumes nothing.
use Rattle.job.specs.View.{rotations_of}
use mathlib.Core.Bool.{true}
use mathlib.Core.Path.{◌≡◌, ap, ◌∙◌}
use Prim.Native.Nat.{◌<◌}
use borrow.Author.Tests.{lt-ltb}
use lib.Dec.{ltb}
use Rattle.words.specs.Bits.{test_bit}
use Rattle.candidates.specs.Placements.{fits_at, placeable}
use Rattle.polygons.specs.declared.extents.Extents.{Extents}
use Rattle.shapes.specs.Boxes.{box_at}
use Rattle.candidates.proofs.PlacementLaws.{past_board, on_dots, turn-refused, turn-allowed, refused-turn, allowed}
use Rattle.candidates.proofs.placements.is_placement.Goals as goal

pub returns-then-place-view : goal.returns-then-place-view
unfolding placeable
returns-then-place-view c = past_board c.args.place.column _ c.args.place.row _ _ _ c.if-place-view.true

pub returns-then-place-test_bit : goal.returns-then-place-test_bit
unfolding placeable
returns-then-place-test_bit c =
    let v = c.args.view.now in
    let p = c.args.place in
    refused-turn (ltb p.column v.columns) (ltb p.row v.rows) _
    (fits_at v (box_at c.args.boxes.now c.args.kind p.rotation) p.column p.row)
    (turn-refused (rotations_of v c.args.kind) p.rotation _ (c.requires.0.rotations _ c.requires.1) c.test_bit.ensures
    c.if-place-test_bit.true)

pub returns : goal.returns
unfolding placeable
returns c =
    let v = c.args.view.now in
    let p = c.args.place in
    let dots : (p.column < v.columns) × (p.row < v.rows) =
    on_dots p.column v.columns p.row v.rows c.if-place-view.false in
    let turn : (p.rotation < 4) × (test_bit (rotations_of v c.args.kind) p.rotation ≡ true) =
    turn-allowed (rotations_of v c.args.kind) p.rotation _ (c.requires.0.rotations _ c.requires.1) c.test_bit.ensures
    c.if-place-test_bit.false in
    allowed _ _ _ _ _ (lt-ltb _ _ dots.0) (lt-ltb _ _ dots.1) turn.1
    (c.stays_on_board.ensures ∙ ap (λ (e : Extents). fits_at v e p.column p.row) c.box_at.ensures)
