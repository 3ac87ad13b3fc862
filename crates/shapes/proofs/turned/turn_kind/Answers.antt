use mathlib.Core.List.{[]}
use Rattle.job.specs.View.{part_at_of}
use native.Mathlib.Omega.{arith}
use borrow.Author.Rules.{rules}
use lib.ListN.{get_or}
use Rattle.model.specs.Content.{kind_at}
use Rattle.model.specs.Format.{content}
use Rattle.job.specs.View.{PartAt}
use Rattle.shapes.proofs.TurnLaws.{kind-none, kind-more}
use Rattle.shapes.proofs.ViewLaws.{few-kinds, kind-in, part_in_lem, part-short, part-read-at}
use Rattle.shapes.proofs.turned.turn_kind.Goals as goal

pub offset_bounds-view-kind : goal.offset_bounds-view-kind
offset_bounds-view-kind c = omega (arith, few-kinds c.args.job.now c.args.view c.requires.0.0)

pub bounds-view-kind : goal.bounds-view-kind
bounds-view-kind c = omega (arith, few-kinds c.args.job.now c.args.view c.requires.0.0)

pub bounds-view-kind-2 : goal.bounds-view-kind-2
bounds-view-kind-2 c = omega (arith, few-kinds c.args.job.now c.args.view c.requires.0.0)

pub loop-i-init : goal.loop-i-init
loop-i-init c =
    let k = kind-in c.args.job.now c.args.view c.requires.0.0 c.args.kind c.requires.0.1 in (
      omega (arith, few-kinds c.args.job.now c.args.view c.requires.0.0, k.parts, k.few_parts),
      k.parts,
      omega arith,
      kind-none _ _ _,
    )

pub loop-i-preserved : goal.loop-i-preserved
loop-i-preserved c =
    let here : PartAt c.args.job.now
    (part_at_of c.args.view c.args.kind c.loop-i.i)
    (get_or (kind_at (content c.args.job.now).kinds c.args.kind).parts c.loop-i.i []) =
    part_in_lem c.args.job.now c.args.view c.requires.0.0 c.args.kind c.requires.0.1 c.loop-i.i (omega arith) in (
      omega arith,
      c.loop-i.invariant.1,
      search rules,
      kind-more c.args.job.now c.args.kind c.args.turned.now c.loop-i.turned _ c.loop-i.i _ (omega arith) (omega arith)
          (λ i h. part-short c.args.job.now c.args.view c.requires.0.0 c.args.kind c.requires.0.1 i (omega arith))
          (part-read-at _ _ _ _ c.byte.ensures.0 here) c.loop-i.invariant.3 c.turn_part.ensures,
    )
