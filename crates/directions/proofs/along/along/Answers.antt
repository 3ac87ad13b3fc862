-- `directions::along::along` meets its contract: the dot product of a direction and a vertex is small. Assumes nothing.
use borrow.Author.Rules.{rules}
use mir.Syntax.{w16, w32}
use mir.Val.{SFits}
use Rattle.model.specs.Geometry.{along}
use Rattle.directions.proofs.Sizes.{small_at, small-read, dot_small}
use Rattle.directions.proofs.along.along.Goals as goal

pub returns : goal.returns
unfolding along
returns c =
    let d = c.args.d in
    let v = c.args.v in
    let fa : SFits w32 d.a = search rules in
    let fb : SFits w32 d.b = search rules in
    let fx : SFits w16 v.x = search rules in
    let fy : SFits w16 v.y = search rules in
    let r = dot_small fa fb fx fy c.dot.ensures in
    small_at (small-read r tt) r
