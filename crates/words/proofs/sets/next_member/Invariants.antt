-- `words::sets::next_member` meets its contract. The invariant: the numbers passed are no members.
use mathlib.Core.Path.{◌≡◌}
use Prim.Native.Nat.{◌*◌, ◌/◌, ◌≤◌, max}
use Rattle.words.specs.Sets.{next_member}
use Rattle.words.proofs.sets.next_member.Given as goal

abbrev pub invariant-loop-k : goal.invariant-loop-k
invariant-loop-k l = record {
  within : l.k ≤ max l.words (l.from / 64);
  none : next_member (l.words * 64) l.s l.from ≡ next_member (l.words * 64) l.s (max l.from (l.k * 64));
}
