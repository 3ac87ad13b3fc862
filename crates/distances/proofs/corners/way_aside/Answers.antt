-- `distances::corners::way_aside` meets its contract: of numbers of 16 bits the cross product is small. Assumes
-- nothing.
use mathlib.Core.Path.{refl, ◌∙◌}
use lib.IntN.{◌-ℤ◌, ◌*ℤ◌}
use borrow.Author.Rules.{rules, sfits_of}
use mir.Syntax.{w16, w64}
use mir.Val.{SFits}
use mir.ValLaws.{to_z-of_z}
use Rattle.distances.proofs.DistanceLaws.{aside_size}
use Rattle.directions.proofs.Sizes.{small_at}
use Rattle.distances.proofs.corners.way_aside.Goals as goal

pub returns : goal.returns
returns c =
    let v = c.args.v in
    let w = c.args.w in
    let fa : SFits w16 v.x = search rules in
    let fb : SFits w16 v.y = search rules in
    let fx : SFits w16 w.x = search rules in
    let fy : SFits w16 w.y = search rules in
    small_at
    (to_z-of_z w64 c.cross.result (sfits_of c.cross.type_inv) ∙ c.cross.ensures
    ∙ (λ i. to_z-of_z w16 v.x fa i *ℤ to_z-of_z w16 w.y fy i -ℤ to_z-of_z w16 v.y fb i *ℤ to_z-of_z w16 w.x fx i))
    (record { value = refl; size = aside_size v.x v.y w.x w.y fa fb fx fy })
