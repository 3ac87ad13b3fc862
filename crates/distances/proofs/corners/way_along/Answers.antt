-- `distances::corners::way_along` meets its contract: of numbers of 16 bits the dot product is small. Assumes nothing.
use mathlib.Core.Path.{refl, ◌∙◌}
use lib.IntN.{◌+ℤ◌, ◌*ℤ◌}
use borrow.Author.Rules.{rules, sfits_of}
use mir.Syntax.{w16, w32, w64}
use mir.Val.{SFits}
use mir.ValLaws.{to_z-of_z}
use Rattle.integers.proofs.Machine.{cast_gives}
use Rattle.distances.proofs.DistanceLaws.{along-size}
use Rattle.directions.proofs.Sizes.{small_at}
use Rattle.distances.proofs.corners.way_along.Goals as goal

pub returns : goal.returns
returns c =
    let v = c.args.v in
    let w = c.args.w in
    let fa : SFits w16 v.x = search rules in
    let fb : SFits w16 v.y = search rules in
    let fx : SFits w16 w.x = search rules in
    let fy : SFits w16 w.y = search rules in
    small_at
    (to_z-of_z w64 c.dot.result (sfits_of c.dot.type_inv) ∙ c.dot.ensures
    ∙ (λ i. cast_gives w32 fa tt i *ℤ to_z-of_z w16 w.x fx i +ℤ cast_gives w32 fb tt i
    *ℤ to_z-of_z w16 w.y fy i))
    (record { value = refl; size = along-size v.x v.y w.x w.y fa fb fx fy })
