use mathlib.Core.Path.{◌≡◌}
use native.Mathlib.Omega.{arith}
use borrow.Author.Rules.{rules}
use lib.ListN.{length, drop}
use Rattle.model.specs.Format.{vertices}
use Rattle.model.proofs.Records.{length-vertices}
use Rattle.shapes.proofs.TurnLaws.{turned_more}
use Rattle.shapes.proofs.turned.turn_part.Goals as goal

pub loop-k-preserved : goal.loop-k-preserved
loop-k-preserved c =
    let n : length (vertices c.args.n (drop c.args.from c.args.job.now)) ≡ c.args.n = length-vertices _ _ in (
      search rules,
      turned_more (vertices c.args.n (drop c.args.from c.args.job.now)) c.args.q (omega arith) (omega arith)
          c.args.turned.now c.loop-k.turned _
          c.loop-k.k c.loop-k.invariant.0 (omega arith) c.loop-k.invariant.1 c.turn_slot.ensures,
    )
