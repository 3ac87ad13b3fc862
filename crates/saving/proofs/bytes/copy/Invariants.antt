-- `saving::bytes::copy` meets its contract. The invariant: the first k bytes are copied.
use mathlib.Core.Path.{◌≡◌}
use lib.ListN.{length, take, drop}
use lib.Seq.{sets}
use Rattle.saving.proofs.bytes.copy.Given as goal

abbrev pub invariant-loop-k : goal.invariant-loop-k
invariant-loop-k l = (length l.answer ≡ length l.initial.answer) × (l.answer ≡ sets l.initial.answer l.at (take l.k (drop l.from l.job)))
