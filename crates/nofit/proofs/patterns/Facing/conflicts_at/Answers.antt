-- `nofit::patterns::Facing::conflicts_at` meets its contract. Assumes nothing.
use mathlib.Core.List.{map}
use mathlib.Core.Path.{◌≡◌, sym, ap₂, ◌∙◌}
use Prim.Native.Nat.{ℕ, ◌*◌, ◌≤◌}
use native.Mathlib.Nat.{le_trans}
use native.Mathlib.Omega.{arith}
use borrow.Author.Rules.{rules, sfits_of}
use lib.Dec.{lit≤}
use lib.IntN.{pos, nat_abs, ◌-ℤ◌}
use mir.Syntax.{w16}
use mir.Val.{to_z, of_z}
use mir.ValLaws.{to_z-of_z}
use Rattle.integers.proofs.Absolute.{nat_abs-less}
use Rattle.model.specs.Geometry.{pieces_conflict}
use Rattle.polygons.specs.Flat.{shifted}
use Rattle.geometry.specs.Apart.{boxes_apart}
use Rattle.geometry.specs.Pieces.{parts_in}
use Rattle.geometry.proofs.BoxesApart.{boxes-apart}
use Rattle.geometry.proofs.PieceLaws.{standing_sound}
use Rattle.nofit.specs.Patterns.{from_middle}
use Rattle.nofit.specs.Filling.{conflict_at_dot}
use Rattle.nofit.proofs.FillingLaws.{twice_middle, no_further}
use Rattle.nofit.proofs.patterns.Facing.conflicts_at.Goals as goal
use Rattle.nofit.proofs.patterns.Facing.conflicts_at.Goals.{Start, After-away-dy}

short : (a b : ℕ) → (a ≤ 4000) × (b ≤ 2000) → nat_abs (pos a -ℤ pos b) ≤ 4096
short a b h = nat_abs-less a b 4096 (le_trans h.0 (lit≤ tt)) (le_trans h.1 (lit≤ tt))

-- The dot is near, across and up.
across : (c : Start) → (c.args.d.column * c.args.self.now.pattern.step ≤ 4000) × (c.args.self.now.pattern.reach * c.args.self.now.pattern.step ≤ 2000)
across c =
    let s = c.args.self.now.pattern in
    let r = c.args.self.now.ready.0 in
    (twice_middle c.args.d.column s.reach s.step c.requires.0 r.across, r.across)

up : (c : Start) → (c.args.d.row * c.args.self.now.pattern.step ≤ 4000) × (c.args.self.now.pattern.lift * c.args.self.now.pattern.step ≤ 2000)
up c =
    let s = c.args.self.now.pattern in
    let r = c.args.self.now.ready.0 in (
      omega (arith, no_further c.args.d.row s.rows s.step (omega (arith, c.requires.1)) r.up),
      no_further s.lift s.rows s.step r.lifted r.up,
    )

-- What was computed is the offset of the dot.
along_is : (c : After-away-dy) → to_z w16 (of_z w16 c.away-dx.result) ≡ from_middle c.args.self.now.pattern.step c.args.self.now.pattern.reach c.args.d.column
along_is c = to_z-of_z w16 _ (sfits_of c.away-dx.type_inv) ∙ c.away-dx.ensures

up_is : (c : After-away-dy) → to_z w16 (of_z w16 c.away-dy.result) ≡ from_middle c.args.self.now.pattern.step c.args.self.now.pattern.lift c.args.d.row
up_is c = to_z-of_z w16 _ (sfits_of c.away-dy.type_inv) ∙ c.away-dy.ensures

pub away-dx-requires : goal.away-dx-requires
away-dx-requires c = across (goal.at.away-dx-requires c).Start

pub returns-then-boxes_apart : goal.returns-then-boxes_apart
unfolding conflict_at_dot
returns-then-boxes_apart c =
    let x = (goal.at.returns-then-boxes_apart c).After-away-dy in
    let f = c.args.self.now in
    let p = f.ready.1.0 in
    let r = f.ready.1.1 in
    sym (boxes-apart f.pattern.gap (parts_in f.turned.now f.placed.piece) (parts_in f.turned.now f.other.piece) _ _
    (standing_sound f.turned.now f.placed.piece p.stands) (standing_sound f.turned.now f.other.piece r.stands)
    ((λ j. boxes_apart f.pattern.gap (sym p.box j) (sym r.box j) (sym (along_is x) j) (sym (up_is x) j)) ∙ sym c.boxes_apart.ensures ∙ c.if-boxes_apart.true))

pub pieces_conflict-requires : goal.pieces_conflict-requires
pieces_conflict-requires c =
    let x = (goal.at.pieces_conflict-requires c).After-away-dy in
    let y = (goal.at.pieces_conflict-requires c).Start in
    let f = c.args.self.now in
    let s = f.pattern in (
      (search rules, search rules),
      (
        rw (along_is x) (short (c.args.d.column * s.step) (s.reach * s.step) (across y)),
        rw (up_is x) (short (c.args.d.row * s.step) (s.lift * s.step) (up y)),
      ),
    )

pub returns : goal.returns
unfolding conflict_at_dot
returns c =
    let x = (goal.at.returns c).After-away-dy in
    let f = c.args.self.now in
    c.pieces_conflict.ensures
    ∙ ap₂ (λ x y. pieces_conflict f.pattern.gap (parts_in f.turned.now f.placed.piece) (map (map (shifted x y)) (parts_in f.turned.now f.other.piece))) (along_is x) (up_is x)
