use mathlib.Core.Path.{◌≡◌, sym, ap, ap₂, ◌∙◌}
use borrow.Author.Rules.{rules}
use Rattle.model.specs.Format.{content}
use Rattle.model.specs.Problem.{Problem, under}
use Rattle.model.specs.Services.{row_content}
use Rattle.job.specs.declared.View.{View}
use Rattle.candidates.specs.Prepared.{problem_in}
use Rattle.rows.proofs.AnswerLaws.{row-refused, row-accepted}
use Rattle.rows.proofs.row.Goals as goal

pub returns-in_err-view : goal.returns-in_err-view
returns-in_err-view c =
    let q = row-refused c.args.job.now c.args.margin c.args.kind c.args.number c.args.other c.args.row.now _
    c.in_err-view.ensures.refusal_value in
    record { value = search rules ∙ sym (ap (λ w. w.answer) q); row_after = sym (ap (λ w. w.buffer) q) }

pub returns : goal.returns
returns c =
    let e : problem_in c.new-prepared.result ≡ under c.args.margin (content c.args.job.now) =
    ap₂ under (ap (λ (v : View). v.margin) c.new-prepared.ensures.of_view
    ∙ c.in_ok-view.ensures.viewed.1) (ap content c.new-prepared.ensures.of_job) in
    let q = ap (λ (j : Problem). row_content j c.args.kind c.args.number c.args.other c.args.row.now) e
    ∙ sym (row-accepted c.args.job.now c.args.margin c.args.kind c.args.number c.args.other c.args.row.now (sym
    c.in_ok-view.ensures.refusal_value)) in
    record {
      value = c.row_content.ensures.value ∙ ap (λ w. w.answer) q;
      row_after = c.row_content.ensures.row_after ∙ ap (λ w. w.buffer) q;
    }
