use mathlib.Core.Path.{sym, ap, ◌∙◌}
use Rattle.std.proofs.lemmas.Result.{err_from_is_err_and}
use Rattle.reading.proofs.ContentLaws.{read-refused, read-accepted}
use Rattle.reading.proofs.read.Goals as goal

pub returns-in_err-view : goal.returns-in_err-view
returns-in_err-view c =
    let p = err_from_is_err_and c.from_residual.result c.from_residual.ensures.1 in
    let q = read-refused c.args.job.now c.args.answer.now _ c.in_err-view.ensures.refusal_value in
    record { value = rw (p.1, p.2) (sym (ap (λ o. o.answer) q)); answer_after = sym (ap (λ o. o.buffer) q) }

pub returns : goal.returns
returns c =
    let q = read-accepted c.args.job.now c.args.answer.now (sym c.in_ok-view.ensures.refusal_value) in
    record {
      value = c.read_content.ensures.value ∙ sym (ap (λ o. o.answer) q);
      answer_after = c.read_content.ensures.answer_after ∙ sym (ap (λ o. o.buffer) q);
    }
