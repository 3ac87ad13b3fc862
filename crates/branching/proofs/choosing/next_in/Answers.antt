-- `branching::choosing::next_in` meets its contract.
use native.Mathlib.Omega.{arith}
use Rattle.branching.proofs.Passing.{next_is_member, member-found, member-none}
use Rattle.branching.proofs.choosing.next_in.Goals as goal

pub overflow_cast-span : goal.overflow_cast-span
overflow_cast-span c = omega (arith, c.requires.plan_of.1)

pub next_member-number-requires : goal.next_member-number-requires
next_member-number-requires c = c.requires.plan_of.2

pub overflow_mul-span : goal.overflow_mul-span
overflow_mul-span c = omega (arith, c.requires.plan_of.1)

pub end_of-end-requires : goal.end_of-end-requires
end_of-end-requires c = (
  c.requires.plan_of.0,
  c.requires.by_index c.next_member-number.result c.if-number-span.true
      (next_is_member _ _ _ _ c.next_member-number.ensures c.if-number-span.true),
)

pub returns-then-number-span : goal.returns-then-number-span
returns-then-number-span c = member-found _ _ _ _ c.next_member-number.ensures _ _ _ c.end_of-end.result _ c.if-number-span.true
    c.end_of-end.ensures c.max.ensures

pub returns : goal.returns
returns c = member-none _ _ _ _ c.next_member-number.ensures c.if-number-span.false
