-- `search::given::given_layout` meets its contract.
use mathlib.Core.Path.{◌≡◌, sym, ◌∙◌, subst}
use borrow.Author.Rules.{rules}
use borrow.Author.Tests.{eqb-true}
use Rattle.std.specs.Prelude.{Err}
use Rattle.candidates.specs.Prepared.{problem_in}
use Rattle.search.specs.Begin.{GivenBy}
use Rattle.search.proofs.Beginning.{gives_none, passed-margin, gives_refusal, gives_layout, some_bytes}
use Rattle.search.proofs.given.given_layout.Goals as goal

pub returns-then-is_empty : goal.returns-then-is_empty
returns-then-is_empty c =
    gives_none (problem_in c.args.prepared.now) c.args.layout.now (eqb-true _ 0 (sym c.is_empty.ensures ∙ c.if-is_empty.true))

pub returns : goal.returns
returns c =
    gives_layout (problem_in c.args.prepared.now) c.args.layout.now (some_bytes _ (sym c.is_empty.ensures ∙ c.if-is_empty.false)) _
    (sym c.judge.ensures ∙ c.in_ok-length.was)

pub returns-in_err-length : goal.returns-in_err-length
returns-in_err-length c =
    let e : c.from_residual.result ≡ Err c.in_err-length.field-0.0 = search rules in
    subst (GivenBy (problem_in c.args.prepared.now) c.args.layout.now) (sym e)
    (gives_refusal (problem_in c.args.prepared.now) c.args.layout.now (some_bytes _ (sym c.is_empty.ensures ∙ c.if-is_empty.false)) _
    (sym c.judge.ensures ∙ c.in_err-length.was))

pub overflow_sub-end : goal.overflow_sub-end
overflow_sub-end c =
    passed-margin (problem_in c.args.prepared.now) c.args.layout.now _ (sym c.judge.ensures ∙ c.in_ok-length.was)
