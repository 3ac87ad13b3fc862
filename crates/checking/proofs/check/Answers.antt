use Rattle.std.proofs.Common.{sym, ap, ap₂, ◌∙◌, Err}
use Rattle.std.proofs.lemmas.Result.{err_from_is_err_and}
use Rattle.model.specs.Format.{content}
use Rattle.model.specs.Problem.{Problem, under}
use Rattle.model.specs.Refusal.{numbered}
use Rattle.model.specs.Services.{check_content}
use Rattle.model.specs.declared.Refusal.{Refusal}
use Rattle.model.proofs.Numbered.{numbered_number}
use Rattle.job.specs.declared.View.{View}
use Rattle.job.proofs.ViewLaws.{some_number}
use Rattle.layouts.proofs.PassingLaws.{check-refused, check-accepted}
use Rattle.checking.proofs.check.Goals as goal

pub returns-in_err-view : goal.returns-in_err-view
returns-in_err-view c =
    let p = err_from_is_err_and c.from_residual.result c.from_residual.ensures.1 in
    let e = c.in_err-view.ensures.refusal_value in
    rw (p.1, p.2)
    (ap (λ (r : Refusal). Err r) (sym (numbered_number _) ∙ ap numbered e)
    ∙ sym (check-refused c.args.job.now c.args.margin c.args.layout.now (λ z. some_number _ (e ∙ z))))

pub returns : goal.returns
returns c =
    let view = c.in_ok-view.ensures in
    c.judge.ensures
    ∙ ap (λ (j : Problem). check_content j c.args.layout.now)
    (ap₂ under (ap (λ (v : View). v.margin) c.new.ensures.of_view ∙ view.viewed.1) (ap content c.new.ensures.of_job))
    ∙ sym (check-accepted c.args.job.now c.args.margin c.args.layout.now (sym view.refusal_value))
