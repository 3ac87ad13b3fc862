-- `geometry::pairs::beside` meets its contract: the first look tells, and where it tells nothing the edges do: none
-- separates, or one does and the distances decide. Assumes nothing.
use mathlib.Core.Path.{◌≡◌, sym, ◌∙◌}
use native.Mathlib.Omega.{arith}
use borrow.Author.Rules.{rules}
use mir.Syntax.{w16}
use mir.Val.{SFits}
use Rattle.integers.proofs.Machine.{read₂}
use Rattle.model.specs.Content.{vertex, Part}
use Rattle.model.specs.Geometry.{normals}
use Rattle.model.specs.Lists.{any}
use Rattle.polygons.specs.Flat.{part_of}
use Rattle.directions.specs.Directions.{separates_moved}
use Rattle.geometry.proofs.PairLaws.{beside_some}
use Rattle.geometry.proofs.pairs.beside.Goals as goal

pub returns : goal.returns
returns c =
    let P : Part = part_of c.args.p.numbers.now in
    let Q : Part = part_of c.args.q.numbers.now in
    let by = c.args.by in
    let hx : SFits w16 by.dx = search rules in
    let hy : SFits w16 by.dy = search rules in
    let edges : c.edges_separate.result ≡ any (separates_moved P Q (vertex by.dx by.dy)) (normals P) =
    c.edges_separate.ensures
    ∙ read₂ w16 by.dx by.dy hx hy (λ x y. any (separates_moved P Q (vertex x y)) (normals P)) in
    beside_some c.args.gap P Q by.dx by.dy (omega (arith, c.args.p.is_sound.corners))
    (omega (arith, c.args.q.is_sound.corners)) (sym edges ∙ c.if-not-edges_separate.false) c.both_clear.result
    c.both_clear.ensures
