use mathlib.Core.Bool.{◌&&◌, ◌||◌}
use mathlib.Core.Path.{ap₂, ◌∙◌}
use Rattle.simplicity.proofs.EdgeLaws.{less_read, less_than_lem}
use Rattle.simplicity.proofs.edges.apart.Goals as goal

pub returns : goal.returns
returns c =
    ap₂ ◌||◌
    (ap₂ ◌&&◌ (less_read c.args.a c.args.u c.args.t _ c.ranges.a c.ranges.u c.ranges.t c.less.ensures)
    (less_read c.args.b c.args.u c.args.t _ c.ranges.b c.ranges.u c.ranges.t c.less-2.ensures)
    ∙ less_than_lem c.args.a c.args.b c.args.u c.args.t)
    (ap₂ ◌&&◌ (less_read c.args.u c.args.a c.args.b _ c.ranges.u c.ranges.a c.ranges.b c.less-3.ensures)
    (less_read c.args.t c.args.a c.args.b _ c.ranges.t c.ranges.a c.ranges.b c.less-4.ensures)
    ∙ less_than_lem c.args.u c.args.t c.args.a c.args.b)
