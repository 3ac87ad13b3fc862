use mathlib.Core.Bool.{cond}
use mathlib.Core.Path.{sym, ap}
use Prim.Native.Nat.{◌-◌}
use native.Mathlib.Omega.{arith}
use borrow.Author.Tests.{eq-eqb, ne_eqb}
use Rattle.simplicity.specs.Corners.{previous_of}
use Rattle.simplicity.proofs.corners.previous.Goals as goal

pub returns-then-i-eq0 : goal.returns-then-i-eq0
unfolding previous_of
returns-then-i-eq0 c = (sym (ap (λ b. cond b (c.args.n - 1) (c.args.i - 1)) (eq-eqb _ _ c.if-i-eq0.true)), omega arith)

pub returns-else-i-eq0 : goal.returns-else-i-eq0
unfolding previous_of
returns-else-i-eq0 c = (sym (ap (λ b. cond b (c.args.n - 1) (c.args.i - 1)) (ne_eqb _ _ c.if-i-eq0.false)), omega arith)
