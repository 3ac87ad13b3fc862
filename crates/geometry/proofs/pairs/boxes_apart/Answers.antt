-- `geometry::pairs::boxes_apart` meets its contract: the four tests are the definition's four. Assumes nothing.
use mathlib.Core.Path.{◌∙◌}
use lib.IntN.{pos}
use mir.Syntax.{w16}
use mir.ValLaws.{to_z-of_z}
use Rattle.geometry.specs.Apart.{clear_of, boxes_apart}
use Rattle.polygons.proofs.BoxLaws.{or_four}
use borrow.Author.Rules.{sfits_of}
use Rattle.geometry.proofs.pairs.boxes_apart.Goals as goal

pub returns : goal.returns
unfolding boxes_apart
returns c =
    let e = c.struct_told-1.given in
    let f = c.struct_told-2-1.given in
    let dx = to_z-of_z w16 c.args.dx c.ranges.dx in
    let dy = to_z-of_z w16 c.args.dy c.ranges.dy in
    or_four
    (c.clear_of.ensures ∙ (λ i. clear_of c.args.gap (to_z-of_z w16 c.args.e.max_x (sfits_of e.1.0.1) i) (pos 0)
    (to_z-of_z w16 c.args.f.min_x (sfits_of f.0.1) i) (dx i)))
    (c.clear_of-2.ensures
    ∙ (λ i. clear_of c.args.gap (to_z-of_z w16 c.args.e.max_y (sfits_of e.1.1.1.0.1) i) (pos 0)
    (to_z-of_z w16 c.args.f.min_y (sfits_of f.1.1.0.1) i) (dy i)))
    (c.clear_of-3.ensures
    ∙ (λ i. clear_of c.args.gap (to_z-of_z w16 c.args.f.max_x (sfits_of f.1.0.1) i) (dx i)
    (to_z-of_z w16 c.args.e.min_x (sfits_of e.0.1) i) (pos 0)))
    (c.clear_of-4.ensures
    ∙ (λ i. clear_of c.args.gap (to_z-of_z w16 c.args.f.max_y (sfits_of f.1.1.1.0.1) i) (dy i)
    (to_z-of_z w16 c.args.e.min_y (sfits_of e.1.1.0.1) i) (pos 0)))
