-- `lookahead::settling::has_members` meets its contract.
use mathlib.Core.Path.{ap, ◌∙◌}
use mathlib.Core.List.{List}
use Prim.Native.Nat.{ℕ, ◌*◌}
use lib.Dec.{leb}
use Rattle.words.specs.Sets.{count_members}
use Rattle.stepping.proofs.Slots.{part-rest}
use Rattle.lookahead.proofs.settling.has_members.Goals as goal

pub returns : goal.returns
returns c = c.has_members.ensures ∙ ap (λ (l : List ℕ). leb c.args.copies (count_members (c.args.words * 64) l)) (part-rest (c.args.at * 8) c.args.work.now)
