-- `polygons::vertices::vertex` meets its contract: vertex k stands at 2 k and 2 k + 1. Assumes nothing.
use mathlib.Core.Path.{sym, ap, ◌∙◌}
use Prim.Native.Nat.{◌+◌, ◌*◌}
use borrow.Author.Rules.{rules}
use lib.IntN.{pos}
use lib.ListN.{get_or}
use mir.Syntax.{w16}
use mir.Val.{SFits}
use mir.ValLaws.{to_z-of_z}
use Rattle.polygons.proofs.Flat.{part_at}
use Rattle.polygons.proofs.vertices.vertex.Goals as goal

pub returns : goal.returns
returns c =
    let l = c.args.p.now in
    let k = c.args.k in
    let fx : SFits w16 (get_or l (2 * k) (pos 0)) = search rules in
    let fy : SFits w16 (get_or l (2 * k + 1) (pos 0)) = search rules in
    let here = part_at l k c.requires in
    (to_z-of_z w16 _ fx ∙ sym (ap (λ v. v.x) here), to_z-of_z w16 _ fy ∙ sym (ap (λ v. v.y) here))
