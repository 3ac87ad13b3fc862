-- `candidates::conflicts::conflict_between` meets its contract. Assumes nothing.
use mathlib.Core.List.{map}
use mathlib.Core.Path.{◌≡◌, sym, ap₂, subst, ◌∙◌}
use Prim.Native.Nat.{ℕ, ◌*◌, ◌≤◌}
use native.Mathlib.Nat.{le_trans}
use borrow.Author.Rules.{sfits_of}
use lib.Dec.{lit≤}
use lib.IntN.{pos, nat_abs, ◌-ℤ◌}
use mir.Syntax.{w16}
use mir.Val.{to_z, of_z}
use mir.ValLaws.{to_z-of_z}
use Rattle.integers.proofs.Absolute.{nat_abs-less}
use Rattle.model.specs.Geometry.{pieces_conflict}
use Rattle.polygons.specs.Flat.{shifted}
use Rattle.geometry.specs.Pieces.{Standing, parts_in}
use Rattle.geometry.specs.declared.pieces.Piece.{Piece}
use Rattle.candidates.specs.Conflicts.{conflict_between}
use Rattle.candidates.proofs.conflicts.conflict_between.Goals as goal

-- two dots of a board are less than 4096 apart
short : (a b : ℕ) → a ≤ 1000 → b ≤ 1000 → nat_abs (pos a -ℤ pos b) ≤ 4096
short a b h k = nat_abs-less a b 4096 (le_trans h (lit≤ tt)) (le_trans k (lit≤ tt))

pub pieces_conflict-requires : goal.pieces_conflict-requires
pieces_conflict-requires c =
    let across : to_z w16 (of_z w16 c.way-dx.result) ≡ pos (c.args.c.column * c.args.step) -ℤ pos (c.args.a.column * c.args.step) = to_z-of_z w16 _ (sfits_of c.way-dx.type_inv) ∙ c.way-dx.ensures in
    let up : to_z w16 (of_z w16 c.way-dy.result) ≡ pos (c.args.c.row * c.args.step) -ℤ pos (c.args.a.row * c.args.step) = to_z-of_z w16 _ (sfits_of c.way-dy.type_inv) ∙ c.way-dy.ensures in (
      (
        subst (Standing c.args.turned.now) (sym c.turned_to.ensures) (c.requires.0.0.stands c.args.a.rotation c.requires.0.1.turn),
        subst (Standing c.args.turned.now) (sym c.turned_to-2.ensures) (c.requires.1.0.stands c.args.c.rotation c.requires.1.1.turn),
      ),
      (
        rw (across) (short (c.args.c.column * c.args.step) (c.args.a.column * c.args.step) c.requires.1.1.across c.requires.0.1.across),
        rw (up) (short (c.args.c.row * c.args.step) (c.args.a.row * c.args.step) c.requires.1.1.up c.requires.0.1.up),
      ),
    )

pub returns : goal.returns
unfolding conflict_between
returns c =
    let across : to_z w16 (of_z w16 c.way-dx.result) ≡ pos (c.args.c.column * c.args.step) -ℤ pos (c.args.a.column * c.args.step) = to_z-of_z w16 _ (sfits_of c.way-dx.type_inv) ∙ c.way-dx.ensures in
    let up : to_z w16 (of_z w16 c.way-dy.result) ≡ pos (c.args.c.row * c.args.step) -ℤ pos (c.args.a.row * c.args.step) = to_z-of_z w16 _ (sfits_of c.way-dy.type_inv) ∙ c.way-dy.ensures in
    c.pieces_conflict.ensures
    ∙ ap₂
    (λ x y. pieces_conflict c.args.gap (parts_in c.args.turned.now c.turned_to.result) (map (map (shifted x y)) (parts_in c.args.turned.now c.turned_to-2.result)))
    (across) (up)
    ∙ ap₂
    (λ (p q : Piece). pieces_conflict c.args.gap (parts_in c.args.turned.now p)
    (map (map (shifted (pos (c.args.c.column * c.args.step) -ℤ pos (c.args.a.column * c.args.step)) (pos (c.args.c.row * c.args.step) -ℤ pos (c.args.a.row * c.args.step)))) (parts_in c.args.turned.now q)))
    c.turned_to.ensures c.turned_to-2.ensures
