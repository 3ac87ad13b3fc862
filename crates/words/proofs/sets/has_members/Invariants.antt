-- `words::sets::has_members` meets its contract. The invariant: the members of the words passed are counted.
use mathlib.Core.Path.{◌≡◌}
use Prim.Native.Nat.{◌*◌, ◌≤◌}
use Rattle.words.specs.Sets.{count_members}
use Rattle.words.proofs.sets.has_members.Given as goal

abbrev pub invariant-loop-k : goal.invariant-loop-k
invariant-loop-k l = record { counted : l.count ≡ count_members (l.k * 64) l.s; few : l.count ≤ l.k * 64 }
