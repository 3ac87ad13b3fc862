-- `geometry::pairs::separated` meets its contract: what is told without the edges of the second part decides, and
-- where no normal of the first separates what is told without those of the first. Assumes nothing.
use mathlib.Core.List.{map}
use mathlib.Core.Path.{subst, ◌∙◌}
use native.Mathlib.Omega.{arith}
use lib.IntN.{ℤ, pos, ◌-ℤ◌}
use mir.Syntax.{w16}
use mir.Val.{to_z, of_z}
use Rattle.integers.proofs.Machine.{read₂}
use Rattle.model.specs.Content.{Part}
use Rattle.model.specs.Geometry.{separated}
use Rattle.polygons.specs.Flat.{part_of, shifted}
use Rattle.geometry.specs.Apart.{Beside}
use Rattle.geometry.proofs.PairLaws.{second-says}
use Rattle.geometry.proofs.pairs.separated.Goals as goal

pub returns : goal.returns
returns c =
    let e = c.args in
    let P : Part = part_of e.p.now in
    let Q : Part = part_of e.q.now in
    let x : ℤ = to_z w16 (of_z w16 e.dx) in
    let y : ℤ = to_z w16 (of_z w16 e.dy) in
    let back : Beside e.gap Q P (pos 0 -ℤ x) (pos 0 -ℤ y) c.beside-2.result =
    subst (λ (X : Type 0). X)
    (λ i. Beside e.gap Q P (c.back.ensures.0 i) (c.back.ensures.1 i) c.beside-2.result) c.beside-2.ensures in
    c.unwrap_or.ensures
    ∙ second-says e.gap P Q x y (omega (arith, c.requires.sound_part.0.corners))
    (omega (arith, c.requires.sound_part.1.corners)) (c.beside.ensures.none c.in_default.is) c.beside-2.result back
    ∙ read₂ w16 e.dx e.dy c.ranges.dx c.ranges.dy (λ x y. separated e.gap P (map (shifted x y) Q))
