-- `distances::middles::look` meets its contract: the two corners that come next to each other along the line tell of
-- the parts. Assumes nothing.
use mathlib.Core.List.{map}
use mathlib.Core.Path.{refl, sym, ◌∙◌, subst}
use Prim.Native.Nat.{ℕ}
use native.Mathlib.Omega.{arith}
use borrow.Author.Rules.{rules}
use lib.IntN.{ℤ, pos, ◌+ℤ◌, ◌-ℤ◌}
use mir.Syntax.{w16, w32}
use mir.Val.{SFits, to_z, of_z}
use Rattle.integers.proofs.Machine.{cast_gives, op_gives}
use Rattle.integers.proofs.Sizes.{sized}
use Rattle.integers.proofs.Solver.{#, ◌⊟◌}
use Rattle.model.specs.Content.{Part}
use Rattle.model.specs.Geometry.{Direction, direction, separated}
use Rattle.polygons.specs.Flat.{part_of, shifted}
use Rattle.polygons.proofs.Flat.{part_length}
use Rattle.directions.specs.Directions.{Furthest}
use Rattle.distances.specs.Middles.{told_by, Tells}
use Rattle.distances.proofs.DistanceLaws.{bits, short_as}
use Rattle.distances.proofs.MiddleLaws.{told-so}
use Rattle.distances.proofs.middles.look.Goals as goal

opposite : (z : ℤ) → SFits w16 z → SFits w32 (pos 0 -ℤ z)
opposite = sized w16 w32 1 (λ z. # (pos 0) ⊟ z) tt

-- the direction (a, b), and the other way, as they are made of the bits of a and b
abbrev wide : ℤ → ℤ
wide z = to_z w32 (of_z w32 (bits z))

abbrev other : ℤ → ℤ
other z = to_z w32 (of_z w32 (pos 0 -ℤ wide z))

module _ {P : Part} {a b : ℤ} {i : ℕ} (fa : SFits w16 a) (fb : SFits w16 b) where
  ahead : Furthest P (direction (wide a) (wide b)) i → Furthest P (direction a b) i
  ahead =
      subst (λ (d : Direction). Furthest P d i) (λ k. direction (cast_gives w32 fa tt k) (cast_gives w32 fb tt k))

  back : Furthest P (direction (other a) (other b)) i → Furthest P (direction (pos 0 -ℤ a) (pos 0 -ℤ b)) i
  back =
      subst (λ (d : Direction). Furthest P d i)
      (λ k. direction (op_gives {x = pos 0} refl (cast_gives w32 fa tt) ◌-ℤ◌ (opposite a fa) k)
      (op_gives {x = pos 0} refl (cast_gives w32 fb tt) ◌-ℤ◌ (opposite b fb) k))

pub furthest-i-requires : goal.furthest-i-requires
furthest-i-requires c = omega (arith, c.args.p.is_sound.corners, part_length c.args.p.numbers.now)

pub furthest-j-requires : goal.furthest-j-requires
furthest-j-requires c = omega (arith, c.args.q.is_sound.corners, part_length c.args.q.numbers.now)

pub vertex-requires : goal.vertex-requires
vertex-requires c = omega (arith, c.furthest-i.ensures.inside, part_length c.args.p.numbers.now)

pub vertex-requires-2 : goal.vertex-requires-2
vertex-requires-2 c = omega (arith, c.furthest-j.ensures.inside, part_length c.args.q.numbers.now)

pub moved-requires : goal.moved-requires
moved-requires c =
    short_as c.vertex-2.ensures.0 c.vertex-2.ensures.1
    (c.args.q.compact c.furthest-j.result c.furthest-j.ensures.inside)

pub way_between-requires : goal.way_between-requires
way_between-requires c = (
  short_as c.vertex.ensures.0 c.vertex.ensures.1
      (c.args.p.compact c.furthest-i.result c.furthest-i.ensures.inside),
  c.moved.ensures.short,
)

pub returns : goal.returns
returns c =
    let P : Part = part_of c.args.p.numbers.now in
    let Q : Part = part_of c.args.q.numbers.now in
    let by = c.args.by in
    let line = c.between-line.result in
    let fa : SFits w16 line.x = search rules in
    let fb : SFits w16 line.y = search rules in
    let i : ℕ = c.furthest-i.result in
    let j : ℕ = c.furthest-j.result in
    let v = c.vertex.ensures in
    let u = c.vertex-2.ensures in
    let m = c.moved.ensures.place in
    let w = c.way_between.ensures in
    subst (λ r. Tells r (separated c.args.gap P (map (shifted by.dx by.dy) Q)))
    (sym (c.told.ensures ∙ (λ k. told_by c.args.gap line.x line.y
    ((w.0 ∙ (λ l. (m.0 ∙ (λ n. u.0 n +ℤ by.dx)) l -ℤ v.0 l)) k)
    ((w.1 ∙ (λ l. (m.1 ∙ (λ n. u.1 n +ℤ by.dy)) l -ℤ v.1 l)) k))))
    (told-so c.args.gap P Q by.dx by.dy line.x line.y c.args.p.is_sound c.args.q.is_sound i j
    (ahead fa fb c.furthest-i.ensures) (back fa fb c.furthest-j.ensures))
