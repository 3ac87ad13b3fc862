use native.Mathlib.Omega.{arith}
use borrow.Author.Rules.{rules}
use Rattle.model.proofs.Saving.Kept.{content-fit}
use Rattle.shapes.proofs.TurnLaws.{kinds-more, kinds-all}
use Rattle.shapes.proofs.ViewLaws.{kind-in, part-short}
use Rattle.shapes.proofs.turned.turn_all.Goals as goal

pub loop-kind-preserved : goal.loop-kind-preserved
loop-kind-preserved c =
    let s = c.args.job.now in
    let v = c.args.view in (
      search rules,
      kinds-more s c.loop-kind.turned _ c.loop-kind.kind (λ t l. (kind-in s v c.requires.0 t (omega arith)).few_parts)
          (λ t l. part-short s v c.requires.0 t (omega arith)) c.loop-kind.invariant.1 c.turn_kind.ensures,
    )

pub returns : goal.returns
returns c =
    kinds-all _ _ c.loop-kind.kind (content-fit c.args.job.now c.requires.0.accepted
    (λ i. (c.shared_slice_known-1.given i).fits)) (omega (arith, c.requires.0.view.kinds))
    c.loop-kind.invariant.0
    c.loop-kind.invariant.1
