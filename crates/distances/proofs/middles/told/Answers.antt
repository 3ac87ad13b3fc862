-- `distances::middles::told` meets its contract: each case compares the definition's numbers, and no operation wraps.
-- Assumes nothing.
use mathlib.Core.Path.{◌≡◌, sym, ◌∙◌, ap}
use mathlib.Core.Bool.{true, false}
use Prim.Native.Nat.{ℕ}
use lib.IntN.{ℤ, pos, ◌+ℤ◌, ◌*ℤ◌}
use lib.Signed.{le_z, lt_z}
use borrow.Author.Rules.{rules, sfits_of}
use mir.Syntax.{w16, w64}
use mir.Val.{Fits, SFits}
use mir.ValLaws.{to_z-of_z}
use Rattle.integers.proofs.Machine.{op_fits, op_gives}
use Rattle.directions.specs.Directions.{Small}
use Rattle.distances.proofs.DistanceLaws.{limit_fits, aside_fits}
use Rattle.distances.proofs.MiddleLaws.{told-near, told-behind, told-along}
use Rattle.directions.proofs.Sizes.{read, small-read, said}
use Rattle.distances.proofs.middles.told.Goals as goal

-- the tests, as they are made of the locals: s holds the squared gap, w the squared way, f how far the way goes along
-- (a, b), and l the squared length of (a, b)
module _ (gap : ℕ) {s : ℤ} (fs : SFits w64 s) (es : s ≡ pos gap *ℤ pos gap) where
  square : read s ≡ pos gap *ℤ pos gap
  square = to_z-of_z w64 s fs ∙ es

  near : {W w : ℤ} → Small W 31 w → lt_z W (pos gap *ℤ pos gap) ≡ lt_z (read w) (read s)
  near h = sym (λ i. lt_z (said tt h i) (square i))

  module _ {a b l : ℤ} (fg : Fits w16 gap) (fa : SFits w16 a) (fb : SFits w16 b)
      (g : Small (a *ℤ a +ℤ b *ℤ b) 31 l) where
    limit_held : SFits w64 (read s *ℤ read l)
    limit_held = op_fits square (said tt g) ◌*ℤ◌ (limit_fits a b fg fa fb)

    enough : {F f : ℤ} → Small F 31 f
        → le_z (pos gap *ℤ pos gap *ℤ (a *ℤ a +ℤ b *ℤ b)) (F *ℤ F)
        ≡ le_z (read (read s *ℤ read l)) (read (read f *ℤ read f))
    enough h =
        sym (λ i. le_z (op_gives square (said tt g) ◌*ℤ◌ (limit_fits a b fg fa fb) i)
        ((op_gives (small-read h tt) (small-read h tt) ◌*ℤ◌ (aside_fits h) ∙ ap (λ z. z *ℤ z) h.value) i))

behind : {F f : ℤ} → Small F 31 f → le_z F (pos 0) ≡ le_z (read f) (pos 0)
behind h = sym (ap (λ z. le_z z (pos 0)) (said tt h))

pub returns-then-way_along-square : goal.returns-then-way_along-square
returns-then-way_along-square c =
    let l = c.args.line in
    let w = c.args.way in
    told-near c.args.gap l.x l.y w.x w.y
    (near c.args.gap (sfits_of c.squared-square.type_inv) c.squared-square.ensures c.way_along.ensures
    ∙ c.if-way_along-square.true)

pub returns-then-width-le0 : goal.returns-then-width-le0
returns-then-width-le0 c =
    let l = c.args.line in
    let w = c.args.way in
    told-behind c.args.gap l.x l.y w.x w.y
    (near c.args.gap (sfits_of c.squared-square.type_inv) c.squared-square.ensures c.way_along.ensures
    ∙ c.if-way_along-square.false)
    (behind c.way_along-width.ensures ∙ c.if-width-le0.true)

pub overflow_mul-square : goal.overflow_mul-square
overflow_mul-square c =
    let fa : SFits w16 c.args.line.x = search rules in
    let fb : SFits w16 c.args.line.y = search rules in
    limit_held c.args.gap (sfits_of c.squared-square.type_inv) c.squared-square.ensures c.ranges.gap fa fb
    c.way_along-2.ensures

pub overflow_mul-width : goal.overflow_mul-width
overflow_mul-width c =
    let h = c.way_along-width.ensures in
    op_fits (small-read h tt) (small-read h tt) ◌*ℤ◌ (aside_fits h)

pub returns-then-square-way_along : goal.returns-then-square-way_along
returns-then-square-way_along c =
    let l = c.args.line in
    let w = c.args.way in
    let fa : SFits w16 l.x = search rules in
    let fb : SFits w16 l.y = search rules in
    told-along c.args.gap l.x l.y w.x w.y
    (near c.args.gap (sfits_of c.squared-square.type_inv) c.squared-square.ensures c.way_along.ensures
    ∙ c.if-way_along-square.false)
    (behind c.way_along-width.ensures ∙ c.if-width-le0.false) true
    (enough c.args.gap (sfits_of c.squared-square.type_inv) c.squared-square.ensures c.ranges.gap fa fb
    c.way_along-2.ensures
    c.way_along-width.ensures ∙ c.if-square-way_along.true)

pub returns-else-square-way_along : goal.returns-else-square-way_along
returns-else-square-way_along c =
    let l = c.args.line in
    let w = c.args.way in
    let fa : SFits w16 l.x = search rules in
    let fb : SFits w16 l.y = search rules in
    told-along c.args.gap l.x l.y w.x w.y
    (near c.args.gap (sfits_of c.squared-square.type_inv) c.squared-square.ensures c.way_along.ensures
    ∙ c.if-way_along-square.false)
    (behind c.way_along-width.ensures ∙ c.if-width-le0.false) false
    (enough c.args.gap (sfits_of c.squared-square.type_inv) c.squared-square.ensures c.ranges.gap fa fb
    c.way_along-2.ensures
    c.way_along-width.ensures ∙ c.if-square-way_along.false)
