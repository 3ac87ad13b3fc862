use mathlib.Core.Path.{sym, ◌∙◌}
use Rattle.model.specs.Services.{layout_in}
use Rattle.candidates.specs.Prepared.{problem_in}
use Rattle.layouts.proofs.PassingLaws.{wrong_count, not_passed, passed, passed-entries}
use Rattle.layouts.proofs.passing.judge.Goals as goal

pub returns-then-layout-prepared : goal.returns-then-layout-prepared
returns-then-layout-prepared c =
    let j = c.args.prepared.now in
    wrong_count (problem_in j) c.args.layout.now j.view.pieces j.prepared.viewed.view.pieces c.if-layout-prepared.true

pub returns-then-not-passes : goal.returns-then-not-passes
returns-then-not-passes c =
    let j = c.args.prepared.now in
    not_passed (problem_in j) c.args.layout.now j.view.pieces j.prepared.viewed.view.pieces
    c.if-layout-prepared.false (sym c.passes.ensures ∙ c.if-not-passes.true)

pub length-requires : goal.length-requires
length-requires c =
    let j = c.args.prepared.now in
    passed-entries (problem_in j) (layout_in (problem_in j) c.args.layout.now) (sym c.passes.ensures
    ∙ c.if-not-passes.false)

pub returns : goal.returns
returns c =
    let j = c.args.prepared.now in
    passed (problem_in j) c.args.layout.now j.view.pieces j.prepared.viewed.view.pieces c.if-layout-prepared.false _
    (sym c.passes.ensures ∙ c.if-not-passes.false) c.length.ensures.length
