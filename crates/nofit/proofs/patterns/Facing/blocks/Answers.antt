-- `nofit::patterns::Facing::blocks` meets its contract. Assumes nothing.
use mathlib.Core.Path.{◌∙◌}
use borrow.Author.Tests.{lt-ltb, le-ltb}
use Rattle.nofit.proofs.FillingLaws.{below-bit, dot_bit, past_bit}
use Rattle.nofit.proofs.patterns.Facing.blocks.Goals as goal

pub returns-then-z-self : goal.returns-then-z-self
returns-then-z-self c =
    let f = c.args.self.now in
    lt-ltb _ _ c.if-z-self.true ∙ below-bit f.turned.now f.pattern f.placed.piece f.other.piece c.args.z c.args.d c.if-z-self.true

pub returns-then-d-self : goal.returns-then-d-self
returns-then-d-self c =
    let f = c.args.self.now in
    dot_bit f.turned.now f.pattern f.placed.piece f.other.piece c.args.z c.args.d c.conflicts_at.result c.if-z-self.false c.if-d-self.true c.conflicts_at.ensures

pub returns-else-d-self : goal.returns-else-d-self
returns-else-d-self c =
    let f = c.args.self.now in
    le-ltb _ _ c.if-d-self.false ∙ past_bit f.turned.now f.pattern f.placed.piece f.other.piece c.args.z c.args.d c.if-z-self.false c.if-d-self.false
