use mathlib.Core.Path.{sym, ◌∙◌}
use Rattle.model.proofs.Causes.{size-least}
use Rattle.job.specs.Refusal.{refusal_to6}
use Rattle.job.proofs.CauseLaws.{stopped, passed}
use Rattle.job.proofs.causes.first_of_six.Goals as goal

pub returns-then-wrong_size : goal.returns-then-wrong_size
unfolding refusal_to6
returns-then-wrong_size c = stopped _ _ _ (sym c.wrong_size.ensures ∙ c.if-wrong_size.true)

pub wrong_mark-requires : goal.wrong_mark-requires
wrong_mark-requires c = size-least _ (sym c.wrong_size.ensures ∙ c.if-wrong_size.false)

pub returns-then-wrong_mark : goal.returns-then-wrong_mark
unfolding refusal_to6
returns-then-wrong_mark c = passed _ _ _ _ (sym c.wrong_size.ensures ∙ c.if-wrong_size.false) (stopped _ _ _ (sym c.wrong_mark.ensures ∙ c.if-wrong_mark.true))

pub misplaced-requires : goal.misplaced-requires
misplaced-requires c = size-least _ (sym c.wrong_size.ensures ∙ c.if-wrong_size.false)

pub returns-then-misplaced : goal.returns-then-misplaced
unfolding refusal_to6
returns-then-misplaced c =
    passed _ _ _ _ (sym c.wrong_size.ensures ∙ c.if-wrong_size.false)
    (passed _ _ _ _ (sym c.wrong_mark.ensures ∙ c.if-wrong_mark.false)
    (stopped _ _ _ (sym c.misplaced.ensures ∙ c.if-misplaced.true)))

pub returns : goal.returns
unfolding refusal_to6
returns c =
    passed _ _ _ _ (sym c.wrong_size.ensures ∙ c.if-wrong_size.false)
    (passed _ _ _ _ (sym c.wrong_mark.ensures ∙ c.if-wrong_mark.false)
    (passed _ _ _ _ (sym c.misplaced.ensures ∙ c.if-misplaced.false)
    c.first_within.ensures))
