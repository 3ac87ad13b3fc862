-- `search::given::hold` meets its contract.
use mathlib.Core.List.{map}
use mathlib.Core.Option.{some}
use mathlib.Core.Path.{sym, ap, ◌∙◌}
use Prim.Native.Nat.{ℕ}
use native.Mathlib.Omega.{arith}
use Rattle.model.specs.Lists.{below}
use Rattle.model.specs.Services.{entry_in, layout_in, with_layout}
use Rattle.job.specs.View.{problem_of}
use Rattle.stepping.proofs.Answer.{layout_none}
use Rattle.stepping.proofs.Limits.{few-pieces}
use Rattle.walks.specs.Walk.{held_of}
use Rattle.search.proofs.given.hold.Goals as goal

pub copy_layout-requires : goal.copy_layout-requires
copy_layout-requires c =
    let v = c.requires.viewed.0 in (
      omega (arith, v.view.pieces, few-pieces _ v.accepted),
      (omega (arith, c.requires.pieces_in_bounds (sym c.is_some.ensures ∙ c.if-is_some.true)), omega (arith, c.requires.viewed.1)),
    )

pub returns-then-is_some : goal.returns-then-is_some
unfolding layout_in
returns-then-is_some c =
    c.copy_layout.ensures
    ∙ ap (λ (n : ℕ). with_layout (some (map (entry_in c.args.layout.now) (below n))) c.args.answer.now) c.requires.viewed.0.view.pieces
    ∙ ap (λ b. with_layout (held_of (problem_of c.args.job.now c.args.view) b c.args.layout.now) c.args.answer.now)
    (sym c.if-is_some.true ∙ c.is_some.ensures)

pub returns-else-is_some : goal.returns-else-is_some
returns-else-is_some c =
    sym (layout_none c.args.answer.now)
    ∙ ap (λ b. with_layout (held_of (problem_of c.args.job.now c.args.view) b c.args.layout.now) c.args.answer.now)
    (sym c.if-is_some.false ∙ c.is_some.ensures)
