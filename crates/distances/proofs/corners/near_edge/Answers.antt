-- `distances::corners::near_edge` meets its contract: each of the three cases compares the definition's numbers, and
-- no operation wraps. Assumes nothing.
use mathlib.Core.Path.{◌≡◌, sym, ◌∙◌, ap}
use lib.IntN.{ℤ, pos, ◌+ℤ◌, ◌-ℤ◌, ◌*ℤ◌}
use lib.Signed.{le_z, lt_z}
use borrow.Author.Rules.{rules, sfits_of}
use mir.Syntax.{w16, w64}
use mir.Val.{SFits}
use mir.ValLaws.{to_z-of_z}
use Rattle.integers.proofs.Machine.{op_fits, op_gives}
use Rattle.directions.specs.Directions.{Small}
use Rattle.directions.proofs.Sizes.{read, said, small-fits, small-read, small-more, small-sum, small-difference}
use Rattle.distances.proofs.DistanceLaws.{limit_fits, aside_fits, near_before, near-beyond, near-beside, near-is}
use Rattle.distances.proofs.corners.near_edge.Goals as goal

-- a value as it stands in a local
held : {r v : ℤ} → SFits w64 r → r ≡ v → read r ≡ v
held {r} h e = to_z-of_z w64 r h ∙ e

-- the squared distance from the end, as it is made of the locals: S from the start, less A along the edge, twice, and
-- the edge's squared length L
module _ {S A s a : ℤ} (hs : Small S 31 s) (ha : Small A 31 a) where
  once : Small (S -ℤ A) 32 (s -ℤ a)
  once = small-difference hs ha

  once_held : SFits w64 (read s -ℤ read a)
  once_held = op_fits (small-read hs tt) (small-read ha tt) ◌-ℤ◌ (small-fits once tt)

  once_is : read (read s -ℤ read a) ≡ s -ℤ a
  once_is = op_gives (small-read hs tt) (small-read ha tt) ◌-ℤ◌ (small-fits once tt)

  twice : Small (S -ℤ A -ℤ A) 33 (s -ℤ a -ℤ a)
  twice = small-difference once (small-more ha)

  twice_held : SFits w64 (read (read s -ℤ read a) -ℤ read a)
  twice_held = op_fits once_is (small-read ha tt) ◌-ℤ◌ (small-fits twice tt)

  twice_is : read (read (read s -ℤ read a) -ℤ read a) ≡ s -ℤ a -ℤ a
  twice_is = op_gives once_is (small-read ha tt) ◌-ℤ◌ (small-fits twice tt)

  module _ {L l : ℤ} (hl : Small L 31 l) where
    whole : Small (S -ℤ A -ℤ A +ℤ L) 34 (s -ℤ a -ℤ a +ℤ l)
    whole = small-sum twice (small-more (small-more hl))

    whole_held : SFits w64 (read (read (read s -ℤ read a) -ℤ read a) +ℤ read l)
    whole_held = op_fits twice_is (small-read hl tt) ◌+ℤ◌ (small-fits whole tt)

    whole_is : read (read (read (read s -ℤ read a) -ℤ read a) +ℤ read l) ≡ S -ℤ A -ℤ A +ℤ L
    whole_is = op_gives twice_is (small-read hl tt) ◌+ℤ◌ (small-fits whole tt) ∙ whole.value

-- the square of what lies aside
module _ {C c : ℤ} (h : Small C 31 c) where
  square_held : SFits w64 (read c *ℤ read c)
  square_held = op_fits (small-read h tt) (small-read h tt) ◌*ℤ◌ (aside_fits h)

  square_is : read (read c *ℤ read c) ≡ C *ℤ C
  square_is =
      op_gives (small-read h tt) (small-read h tt) ◌*ℤ◌ (aside_fits h) ∙ ap (λ z. z *ℤ z) h.value

-- the tests along the edge
before : {A a : ℤ} → Small A 31 a → le_z A (pos 0) ≡ le_z (read a) (pos 0)
before h = sym (ap (λ z. le_z z (pos 0)) (said tt h))

beyond : {L l A a : ℤ} → Small L 31 l → Small A 31 a → le_z L A ≡ le_z (read l) (read a)
beyond g h = sym (λ i. le_z (said tt g i) (said tt h i))

pub returns-then-along-le0 : goal.returns-then-along-le0
returns-then-along-le0 c =
    let e = c.args.edge in
    let v = c.args.corner in
    (λ i. lt_z (said tt c.way_along-from_start.ensures i)
    (held (sfits_of c.squared-square.type_inv) c.squared-square.ensures i))
    ∙ near_before _ _ _ (e.x *ℤ e.x +ℤ e.y *ℤ e.y) (e.x *ℤ v.y -ℤ e.y *ℤ v.x)
    (before c.way_along-along.ensures ∙ c.if-along-le0.true)
    ∙ near-is c.args.gap e.x e.y v.x v.y

pub overflow_sub-result : goal.overflow_sub-result
overflow_sub-result c = once_held c.way_along-from_start.ensures c.way_along-along.ensures

pub overflow_sub-result-then-length-along : goal.overflow_sub-result-then-length-along
overflow_sub-result-then-length-along c = twice_held c.way_along-from_start.ensures c.way_along-along.ensures

pub overflow_add-result : goal.overflow_add-result
overflow_add-result c =
    whole_held c.way_along-from_start.ensures c.way_along-along.ensures c.way_along-length.ensures

pub returns-then-length-along : goal.returns-then-length-along
returns-then-length-along c =
    let e = c.args.edge in
    let v = c.args.corner in
    (λ i. lt_z (whole_is c.way_along-from_start.ensures c.way_along-along.ensures c.way_along-length.ensures i)
    (held (sfits_of c.squared-square.type_inv) c.squared-square.ensures i))
    ∙ near-beyond _ _ _ _ (e.x *ℤ v.y -ℤ e.y *ℤ v.x) (before c.way_along-along.ensures ∙ c.if-along-le0.false)
    (beyond c.way_along-length.ensures c.way_along-along.ensures ∙ c.if-length-along.true)
    ∙ near-is c.args.gap e.x e.y v.x v.y

pub overflow_mul-result : goal.overflow_mul-result
overflow_mul-result c = square_held c.way_aside-aside.ensures

pub overflow_mul-result-2 : goal.overflow_mul-result-2
overflow_mul-result-2 c =
    let e = c.args.edge in
    let fx : SFits w16 e.x = search rules in
    let fy : SFits w16 e.y = search rules in
    op_fits (held (sfits_of c.squared-square.type_inv) c.squared-square.ensures) (said tt c.way_along-length.ensures)
    ◌*ℤ◌ (limit_fits e.x e.y c.ranges.gap fx fy)

pub returns : goal.returns
returns c =
    let e = c.args.edge in
    let v = c.args.corner in
    let fx : SFits w16 e.x = search rules in
    let fy : SFits w16 e.y = search rules in
    (λ i. lt_z (square_is c.way_aside-aside.ensures i)
    (op_gives (held (sfits_of c.squared-square.type_inv) c.squared-square.ensures)
    (said tt c.way_along-length.ensures) ◌*ℤ◌ (limit_fits e.x e.y c.ranges.gap fx fy) i))
    ∙ near-beside _ _ (v.x *ℤ v.x +ℤ v.y *ℤ v.y) _ _ (before c.way_along-along.ensures ∙ c.if-along-le0.false)
    (beyond c.way_along-length.ensures c.way_along-along.ensures ∙ c.if-length-along.false)
    ∙ near-is c.args.gap e.x e.y v.x v.y
