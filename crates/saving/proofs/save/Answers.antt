use mathlib.Core.Path.{sym, ap, ◌∙◌}
use Rattle.std.proofs.lemmas.Result.{err_from_is_err_and}
use Rattle.saving.proofs.SavingLaws.{save-refused, save-accepted}
use Rattle.saving.proofs.save.Goals as goal

pub returns-in_err-open : goal.returns-in_err-open
returns-in_err-open c =
    let p = err_from_is_err_and c.from_residual.result c.from_residual.ensures.1 in
    let q = save-refused c.args.job.now c.args.answer.now _ c.in_err-open.ensures.refusal_value in
    record { value = rw (p.1, p.2) (sym (ap (λ o. o.answer) q)); answer_after = sym (ap (λ o. o.buffer) q) }

pub returns : goal.returns
returns c =
    let q = save-accepted c.args.job.now c.args.answer.now (sym c.in_ok-open.ensures.refusal_value) in
    record {
      value = c.save_content.ensures.value ∙ sym (ap (λ o. o.answer) q);
      answer_after = c.save_content.ensures.answer_after ∙ sym (ap (λ o. o.buffer) q);
    }
