use mathlib.Core.Path.{ap₂, ◌∙◌}
use lib.Dec.{ltb}
use Rattle.layouts.specs.Entries.{as_entry}
use Rattle.layouts.proofs.EntryLaws.{order_within, order_between}
use Rattle.layouts.proofs.ordering.in_order.Goals as goal

pub returns-then-e-f : goal.returns-then-e-f
returns-then-e-f c =
    ap₂ ltb c.number_of.ensures c.number_of-then-e-f.ensures
    ∙ order_within c.args.rows (as_entry c.args.e) (as_entry c.args.f) c.if-e-f.true

pub returns : goal.returns
returns c = order_between c.args.rows (as_entry c.args.e) (as_entry c.args.f) c.if-e-f.false
