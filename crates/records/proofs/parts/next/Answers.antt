use mathlib.Core.Bool.{cond}
use mathlib.Core.Path.{sym, ap}
use Prim.Native.Nat.{◌+◌}
use native.Mathlib.Omega.{arith}
use borrow.Author.Tests.{eq-eqb, ne_eqb}
use Rattle.records.specs.Parts.{next_of}
use Rattle.records.proofs.parts.next.Goals as goal

pub returns-then-i-n : goal.returns-then-i-n
unfolding next_of
returns-then-i-n c = (sym (ap (λ b. cond b 0 (c.args.i + 1)) (eq-eqb _ _ c.if-i-n.true)), omega arith)

pub returns-else-i-n : goal.returns-else-i-n
unfolding next_of
returns-else-i-n c = (sym (ap (λ b. cond b 0 (c.args.i + 1)) (ne_eqb _ _ c.if-i-n.false)), omega arith)
