-- `search::run::run` meets its contract: it answers and leaves what the model says, at all inputs.
use borrow.Author.Rules.{rules}
use mathlib.Core.Bool.{true, false}
use mathlib.Core.List.{List}
use Prim.Native.Nat.{ℕ}
use mathlib.Core.Path.{◌≡◌, sym, ap, ap₂, ◌∙◌, subst}
use Rattle.model.specs.Format.{content}
use Rattle.model.specs.Problem.{Problem, under}
use Rattle.model.specs.Services.{run_from, given_layout, given_unfit, run_outcome}
use Rattle.job.specs.declared.View.{View}
use Rattle.search.proofs.Running.{Met, run-refuses, run-unfit, run-goes}
use Rattle.search.proofs.run.run.Goals as goal

-- The problem of a job prepared under a margin is the job's content under it.
problem_is : (s t : List ℕ) (v w : View) (m : ℕ) → w ≡ v → v.margin ≡ m → t ≡ s → under w.margin (content t) ≡ under m (content s)
problem_is s t v w m q e p = ap₂ under (ap (λ (v : View). v.margin) q ∙ e) (ap content p)

pub returns-in_err-view : goal.returns-in_err-view
returns-in_err-view c =
    let m = run-refuses _ _ c.args.budget c.args.layout.now c.args.work.now c.args.answer.now _ c.in_err-view.ensures.refusal_value in
    record { told = search rules ∙ m.0; cleared = m.1.0; held = m.1.1 }

pub returns-in_err-best : goal.returns-in_err-best
returns-in_err-best c =
    let p = problem_is _ _ _ _ _ c.new-prepared.ensures.of_view c.in_ok-view.ensures.viewed.1 c.new-prepared.ensures.of_job in
    let m = run-unfit c.args.job.now c.args.margin c.args.budget c.args.layout.now c.args.work.now c.args.answer.now
    (sym c.in_ok-view.ensures.refusal_value)
    (subst (λ (j : Problem). given_unfit j c.args.layout.now ≡ true) p c.in_err-best.ensures.0) _ c.in_err-best.ensures.1 in
    record { told = search rules ∙ m.0; cleared = m.1.0; held = m.1.1 }

pub returns : goal.returns
returns c =
    let p = problem_is _ _ _ _ _ c.new-prepared.ensures.of_view c.in_ok-view.ensures.viewed.1 c.new-prepared.ensures.of_job in
    let f = c.run_from.ensures in
    let o = run_outcome c.run_from.result c.run_from.new.work c.run_from.new.answer in
    let m = run-goes c.args.job.now c.args.margin c.args.budget c.args.layout.now c.args.work.now c.args.answer.now
    (sym c.in_ok-view.ensures.refusal_value)
    (subst (λ (j : Problem). given_unfit j c.args.layout.now ≡ false) p c.in_ok-best.ensures.fit) o
    (subst (λ (j : Problem). Met o (run_from j (given_layout j c.args.layout.now) c.args.budget c.args.work.now c.args.answer.now)) p
    (f.told, (f.cleared, f.held))) in
    record { told = m.0; cleared = m.1.0; held = m.1.1 }
