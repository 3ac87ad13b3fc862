use mathlib.Core.Path.{◌≡◌, ap, ◌∙◌}
use Prim.Native.Nat.{◌-◌}
use native.Mathlib.Omega.{arith}
use borrow.Author.Rules.{rules}
use lib.Dec.{eqb}
use lib.ListN.{take, drop}
use Rattle.std.specs.List.{count_by}
use Rattle.model.specs.Format.{content}
use Rattle.stepping.proofs.Limits.{few-pieces}
use Rattle.plans.proofs.PieceLists.{copies-counted}
use Rattle.plans.proofs.plan.count_copies.Goals as goal

pub slice_bounds-iter-end : goal.slice_bounds-iter-end
slice_bounds-iter-end c = omega (arith, few-pieces c.args.job.now c.requires.0.accepted, c.requires.0.view.pieces)

pub returns : goal.returns
returns c =
    let counted : c.count.result ≡ count_by (λ k. eqb k c.args.u) (take (c.args.view.pieces - c.args.l) (drop c.args.l c.args.kinds)) = search rules in
    counted
    ∙ ap (λ n. count_by (λ k. eqb k c.args.u) (take (n - c.args.l) (drop c.args.l c.args.kinds))) c.requires.0.view.pieces
    ∙ copies-counted (content c.args.job.now).kinds c.args.kinds c.args.u c.args.l (omega (arith, few-pieces c.args.job.now c.requires.0.accepted)) c.requires.1 c.requires.2
