use Rattle.candidates.proofs.PreparedLaws.{bounded}
use Rattle.layouts.proofs.handed.Handed.in_order_at.Goals as goal

pub in_order-requires : goal.in_order-requires
in_order-requires c =
    let j = c.args.self.now.prepared.now in
    ((bounded j.job.now j.view j.prepared.viewed).rows.1, (c.entry.ensures.small, c.entry-2.ensures.small))
