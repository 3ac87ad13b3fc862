use Rattle.std.proofs.Common.{sym, ◌∙◌}
use Rattle.std.proofs.lemmas.Result.{err_from_is_err_and}
use Rattle.job.proofs.ViewLaws.{refusal-six, refusal-seven, few-kinds}
use Rattle.job.proofs.open.Goals as goal

pub returns-in_err-first_of_six-clause-refusal_value : goal.returns-in_err-first_of_six-clause-refusal_value
returns-in_err-first_of_six-clause-refusal_value c =
    let p = err_from_is_err_and c.from_residual.result c.from_residual.ensures.1 in
    rw (p.1, p.2) (refusal-six c.args.job.now _ c.in_err-first_of_six.ensures)

pub unsound-requires : goal.unsound-requires
unsound-requires c = (c.view_of-view.ensures, few-kinds _ (sym c.in_ok-first_of_six.ensures))

pub returns-then-unsound-clause-refusal_value : goal.returns-then-unsound-clause-refusal_value
returns-then-unsound-clause-refusal_value c =
    sym (refusal-seven c.args.job.now _ (sym c.in_ok-first_of_six.ensures) (sym c.unsound.ensures ∙ c.if-unsound.true))

pub returns-clause-refusal_value : goal.returns-clause-refusal_value
returns-clause-refusal_value c =
    sym (refusal-seven c.args.job.now _ (sym c.in_ok-first_of_six.ensures) (sym c.unsound.ensures ∙ c.if-unsound.false))

pub returns-clause-viewed : goal.returns-clause-viewed
returns-clause-viewed c =
    record {
      accepted = refusal-seven c.args.job.now _ (sym c.in_ok-first_of_six.ensures) (sym c.unsound.ensures
          ∙ c.if-unsound.false);
      view = c.view_of-view.ensures;
    }
