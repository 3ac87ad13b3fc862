use mathlib.Core.List.{◌++◌}
use mathlib.Core.Path.{◌≡◌, ap, ◌∙◌}
use native.Mathlib.Omega.{arith}
use lib.ListN.{length, drop}
use Rattle.model.specs.Output.{entry_line}
use Rattle.model.specs.Services.{entry_in}
use Rattle.report.specs.Text.{first_by, rendered_by}
use Rattle.report.proofs.Lines.{lines_begun, lines_grown, whole_text_by}
use Rattle.report.proofs.render.Goals as goal

pub loop-i-init : goal.loop-i-init
loop-i-init g c =
    let first = first_by g.E.Numbered.code c.args.answer in
    (c.first.ensures.items ∙ lines_begun first c.args.numbers.now, c.first.ensures.short)

pub loop-i-preserved : goal.loop-i-preserved
loop-i-preserved g c =
    let l = c.loop-i in (
      c.entry.ensures.items
          ∙ ap (λ t. t ++ entry_line (entry_in c.args.numbers.now l.i)) l.invariant.0
          ∙ lines_grown (first_by g.E.Numbered.code c.args.answer) c.args.numbers.now l.i,
      omega (arith, c.entry.ensures.short, l.invariant.1),
    )

pub returns-clause-value : goal.returns-clause-value
returns-clause-value g c =
    let l = c.loop-i in
    let all : l.i ≡ c.shown_count-i-end.result = omega (arith, c.loop-i-test.false, l.auto.i-end) in
    let count = c.shown_count-i-end.ensures.value in
    let same = whole_text_by g.E.Numbered.code c.args.answer c.args.numbers.now in
    let whole = same _ c.args.pieces l.i _ l.invariant.0 all count in
    c.len-len.ensures.value ∙ ap length whole

pub returns-clause-dst_after : goal.returns-clause-dst_after
returns-clause-dst_after g c =
    let l = c.loop-i in
    let all : l.i ≡ c.shown_count-i-end.result = omega (arith, c.loop-i-test.false, l.auto.i-end) in
    let count = c.shown_count-i-end.ensures.value in
    let same = whole_text_by g.E.Numbered.code c.args.answer c.args.numbers.now in
    let whole = same _ c.args.pieces l.i _ l.invariant.0 all count in
    let put = c.copy_from_slice.ensures.after ∙ c.as_slice.ensures.value ∙ whole in
    ap (λ t. t ++ drop c.len-len.result c.args.dst.now) put
    ∙ ap (λ n. rendered_by g.E.Numbered.code c.args.answer c.args.numbers.now c.args.pieces ++ drop n c.args.dst.now)
    (c.len-len.ensures.value ∙ ap length whole)
