use mathlib.Core.List.{[]}
use mathlib.Core.Path.{◌≡◌, ap, ◌∙◌}
use Prim.Native.Nat.{ℕ, ◌<◌}
use native.Mathlib.Omega.{arith}
use borrow.Author.Count.{below_more}
use borrow.Author.Rules.{rules}
use lib.ListN.{length, get_or, length-set}
use lib.Seq.{get_or-set_same, get_or-set_other}
use Rattle.model.specs.Format.{content}
use Rattle.model.specs.Search.{copies_left}
use Rattle.stepping.specs.Levels.{pieces_from}
use Rattle.stepping.proofs.Limits.{few-pieces}
use Rattle.plans.proofs.plan.copies_table.Goals as goal

pub offset_bounds-copies-l : goal.offset_bounds-copies-l
offset_bounds-copies-l c = omega (arith, c.requires.0.view.pieces, few-pieces c.args.job.now c.requires.0.accepted)

pub bounds-copies-l : goal.bounds-copies-l
bounds-copies-l c = omega (arith, c.loop-l.invariant.0, c.requires.0.view.pieces, few-pieces c.args.job.now c.requires.0.accepted)

pub loop-l-preserved : goal.loop-l-preserved
loop-l-preserved c =
    let l = c.loop-l.l-counter in
    let made : (u : ℕ) → u < 8 → get_or c.from_fn.result u 0 ≡ copies_left u (pieces_from (content c.args.job.now).kinds l) = search rules in
    let inside : l < length c.loop-l.copies = omega (arith, c.loop-l.invariant.0, c.requires.0.view.pieces, few-pieces c.args.job.now c.requires.0.accepted) in (
      simp length-set c.loop-l.invariant.0,
      below_more _ l
          (λ i h u k. ap (λ row. get_or row u 0) (get_or-set_other c.loop-l.copies l i c.from_fn.result [] (λ e. omega arith)) ∙ c.loop-l.invariant.1 i h u k)
          (λ u k. ap (λ row. get_or row u 0) (get_or-set_same c.loop-l.copies l c.from_fn.result [] inside) ∙ made u k),
    )
