use Rattle.std.proofs.Common.{arith, sym, ◌∙◌}
use Rattle.std.proofs.lemmas.Result.{err_from_is_err_and}
use Rattle.model.proofs.Margin.{refused-first, refused-13, accepted-under}
use Rattle.job.proofs.ViewLaws.{some_number}
use Rattle.job.proofs.open_under.Goals as goal

-- The job is refused by itself.
pub returns-in_err-view-clause-refusal_value : goal.returns-in_err-view-clause-refusal_value
returns-in_err-view-clause-refusal_value c =
    let p = err_from_is_err_and c.from_residual.result c.from_residual.ensures.1 in
    let e = c.in_err-view.ensures.refusal_value in
    rw (p.1, p.2) (e ∙ sym (refused-first c.args.job.now c.args.margin (λ z. some_number _ (e ∙ z))))

-- The margin is refused.
pub returns-then-margin-gt63-clause-refusal_value : goal.returns-then-margin-gt63-clause-refusal_value
returns-then-margin-gt63-clause-refusal_value c =
    sym ((refused-13 c.args.job.now c.args.margin).1 (sym c.in_ok-view.ensures.refusal_value, omega arith))

pub returns-clause-refusal_value : goal.returns-clause-refusal_value
returns-clause-refusal_value c =
    sym ((accepted-under c.args.job.now c.args.margin).1 (sym c.in_ok-view.ensures.refusal_value, omega arith))
