-- `geometry::pairs::both_clear` meets its contract: at gap 0 nothing is asked, and otherwise the corners of each part
-- are asked against the edges of the other. Assumes nothing.
use mathlib.Core.List.{map}
use mathlib.Core.Path.{◌≡◌, sym, ap, ◌∙◌}
use Rattle.std.proofs.Common.{nat_eq}
use Rattle.model.specs.Content.{Part}
use Rattle.model.specs.Geometry.{corners_clear}
use Rattle.polygons.specs.Flat.{part_of, shifted}
use Rattle.geometry.proofs.PairLaws.{both_none, both_first, clear-back}
use Rattle.geometry.proofs.pairs.both_clear.Goals as goal

pub returns-then-gap-eq0 : goal.returns-then-gap-eq0
returns-then-gap-eq0 c =
    ap (λ g. nat_eq g 0) c.if-gap-eq0.true
    ∙ both_none c.args.gap (part_of c.args.p.numbers.now)
    (map (shifted c.args.by.dx c.args.by.dy) (part_of c.args.q.numbers.now)) c.if-gap-eq0.true

pub returns-then-corners_clear : goal.returns-then-corners_clear
returns-then-corners_clear c =
    let P : Part = part_of c.args.p.numbers.now in
    let Q : Part = part_of c.args.q.numbers.now in
    let by = c.args.by in
    let there : c.corners_clear.result ≡ corners_clear c.args.gap (map (shifted by.dx by.dy) Q) P =
    c.corners_clear.ensures
    ∙ (λ i. corners_clear c.args.gap (map (shifted by.dx by.dy) (part_of (c.corners.ensures i)))
    (part_of (c.corners-else-gap-eq0.ensures i))) in
    c.corners_clear-then-corners_clear.ensures
    ∙ (λ i. corners_clear c.args.gap
    (map (shifted (c.back.ensures.0 i) (c.back.ensures.1 i)) (part_of (c.corners-then-corners_clear.ensures i)))
    (part_of (c.corners-then-corners_clear-2.ensures i)))
    ∙ clear-back c.args.gap P Q by.dx by.dy
    ∙ both_first c.args.gap P (map (shifted by.dx by.dy) Q) (sym there ∙ c.if-corners_clear.true)
