use mathlib.Core.Path.{refl}
use native.Mathlib.Omega.{arith}
use borrow.Author.Count.{below_none}
use Rattle.shapes.proofs.PieceLaws.{piece_is}
use Rattle.shapes.proofs.ViewLaws.{few-kinds, kind-in}
use Rattle.shapes.proofs.pieces.piece_of.Goals as goal

pub offset_bounds-view-kind : goal.offset_bounds-view-kind
offset_bounds-view-kind c = omega (arith, few-kinds c.args.job.now c.args.view.now c.requires.0)

pub bounds-view-kind : goal.bounds-view-kind
bounds-view-kind c = omega (arith, few-kinds c.args.job.now c.args.view.now c.requires.0)

pub bounds-view-kind-2 : goal.bounds-view-kind-2
bounds-view-kind-2 c = omega (arith, few-kinds c.args.job.now c.args.view.now c.requires.0)

pub loop-i-init : goal.loop-i-init
loop-i-init c =
    let k = kind-in c.args.job.now c.args.view.now c.requires.0 c.args.kind c.requires.1 in (
      omega (arith, few-kinds c.args.job.now c.args.view.now c.requires.0, k.parts, k.few_parts),
      k.parts,
      refl,
      below_none _,
    )

pub returns : goal.returns
returns c = piece_is c.args.job.now c.args.view.now c.requires.0 c.args.kind c.requires.1 _ _ c.loop-i.invariant.1
    (λ i h. c.loop-i.invariant.3 i (omega arith))
