use mathlib.Core.List.{map}
use mathlib.Core.Path.{◌≡◌, sym, ap, ap₂, ◌∙◌}
use Prim.Native.Nat.{◌<◌}
use native.Mathlib.Omega.{arith}
use Rattle.model.specs.Lists.{concat, below}
use Rattle.polygons.specs.Boxes.{extents_of, joined}
use Rattle.geometry.specs.Pieces.{part_in, parts_in}
use Rattle.geometry.proofs.PieceLaws.{part-some}
use Rattle.shapes.proofs.BoxLaws.{box-first, box-more}
use Rattle.shapes.proofs.boxes.piece_box.Goals as goal

pub loop-i-init : goal.loop-i-init
loop-i-init c =
    c.part_box-e.ensures ∙ c.requires.boxed 0 c.requires.fitting.some
    ∙ box-first (part_in c.args.table.now c.args.p) c.args.p.count (part-some c.args.table.now c.args.p c.requires.fitting c.requires.size)

pub loop-i-preserved : goal.loop-i-preserved
loop-i-preserved c =
    c.join-e.ensures
    ∙ ap₂ joined c.loop-i.invariant (c.part_box.ensures ∙ c.requires.boxed c.loop-i.i (omega arith))
    ∙ sym (box-more (part_in c.args.table.now c.args.p) c.args.p.count (part-some c.args.table.now c.args.p c.requires.fitting c.requires.size)
    c.loop-i.i (omega arith) (omega arith))

pub returns : goal.returns
unfolding parts_in
returns c =
    let some : 0 < c.args.p.count = c.requires.fitting.some in
    let n : c.loop-i.i ≡ c.args.p.count = omega arith in
    c.loop-i.invariant ∙ ap (λ m. extents_of (concat (map (part_in c.args.table.now c.args.p) (below m)))) n
