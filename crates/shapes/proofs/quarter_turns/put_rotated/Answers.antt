-- `shapes::quarter_turns::put_rotated` meets its contract: the two stores are the definition's. Assumes nothing.
use mathlib.Core.Path.{◌≡◌, ◌∙◌}
use Prim.Native.Nat.{ℕ, ◌+◌, ◌%◌}
use borrow.Author.Rules.{sfits_of}
use lib.ListN.{set}
use mir.Syntax.{w16}
use mir.Val.{to_z, of_z}
use mir.ValLaws.{to_z-of_z}
use Rattle.integers.proofs.Machine.{read₂}
use Rattle.model.specs.Content.{vertex}
use Rattle.model.specs.Geometry.{rotated}
use Rattle.shapes.specs.Turned.{with_vertex}
use Rattle.shapes.proofs.QuarterTurns.{one_turn-less}
use Rattle.shapes.proofs.quarter_turns.put_rotated.Goals as goal

pub returns : goal.returns
unfolding with_vertex
returns c =
    let first : to_z w16 (of_z w16 c.rotated_x.result) ≡ (rotated c.args.rotation (vertex c.args.x c.args.y)).x =
    (let turned : (k : ℕ)
    → (rotated k (vertex (to_z w16 (of_z w16 c.args.x)) (to_z w16 (of_z w16 c.args.y)))).x ≡ (rotated k
    (vertex c.args.x c.args.y)).x =
    λ k. read₂ w16 c.args.x c.args.y c.ranges.x c.ranges.y (λ x y. (rotated k (vertex x y)).x) in
    to_z-of_z w16 c.rotated_x.result (sfits_of c.rotated_x.type_inv) ∙ c.rotated_x.ensures ∙ turned c.args.rotation) in
    let second : to_z w16 (of_z w16 c.rotated_x-2.result) ≡ (rotated c.args.rotation (vertex c.args.x c.args.y)).y =
    (let turned : (k : ℕ)
    → (rotated k (vertex (to_z w16 (of_z w16 c.args.x)) (to_z w16 (of_z w16 c.args.y)))).x ≡ (rotated k
    (vertex c.args.x c.args.y)).x =
    λ k. read₂ w16 c.args.x c.args.y c.ranges.x c.ranges.y (λ x y. (rotated k (vertex x y)).x) in
    to_z-of_z w16 c.rotated_x-2.result (sfits_of c.rotated_x-2.type_inv) ∙ c.rotated_x-2.ensures
    ∙ turned ((c.args.rotation + 3) % 4)
    ∙ one_turn-less c.args.rotation (vertex c.args.x c.args.y) c.requires.1) in
    λ i. set (set c.args.dst.now c.args.at (first i)) (c.args.at + 1) (second i)
