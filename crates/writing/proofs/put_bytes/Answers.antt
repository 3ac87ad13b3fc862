use borrow.Author.Rules.{rules}
use Prim.Native.Nat.{◌+◌}
use Rattle.model.specs.Format.{byte_at}
use Rattle.writing.specs.Numbers.{as_number}
use Rattle.writing.proofs.put_bytes.Goals as goal

pub returns : goal.returns
unfolding byte_at
returns c = c.put_numbers.ensures (λ i. as_number c.args.coordinates (byte_at c.args.s.now (c.args.from + i)))
    (λ k x l e. search (rules, e))
