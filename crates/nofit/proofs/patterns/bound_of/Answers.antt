-- `nofit::patterns::bound_of` meets its contract. Assumes nothing.
use mathlib.Core.Path.{sym, ap, ◌∙◌}
use Prim.Native.Nat.{◌+◌, ◌*◌}
use mathlib.Core.Bool.{cond}
use borrow.Author.Tests.{eq-eqb, ne_eqb}
use Rattle.nofit.specs.Filling.{under_of, bound_of}
use Rattle.nofit.proofs.patterns.bound_of.Goals as goal

pub returns-then-x : goal.returns-then-x
unfolding bound_of
returns-then-x c =
    let w = c.args.nofit in
    let x = c.args.x in
    ap (λ n. 64 + (w.reach + n) * w.rows * 4 + x.turn + 1) c.from.ensures
    ∙ sym (ap (λ b. cond b (64 + (w.reach + under_of x) * w.rows * 4 + x.turn + 1) 0) (eq-eqb x.kind x.other c.if-x.true))

pub returns : goal.returns
unfolding bound_of
returns c =
    let w = c.args.nofit in
    let x = c.args.x in
    sym (ap (λ b. cond b (64 + (w.reach + under_of x) * w.rows * 4 + x.turn + 1) 0) (ne_eqb x.kind x.other c.if-x.false))
