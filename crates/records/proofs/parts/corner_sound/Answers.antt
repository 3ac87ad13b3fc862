use mathlib.Core.Bool.{◌||◌}
use mathlib.Core.Path.{ap₂, ◌∙◌}
use Rattle.model.specs.Geometry.{strictly_left}
use Rattle.records.proofs.CornerLaws.{corner-is}
use Rattle.records.proofs.parts.corner_sound.Goals as goal

pub returns : goal.returns
returns c =
    let P = c.args.corners.now in
    let p = corner-is P c.args.p _ c.requires.1.0 c.index-corners-p.is in
    let q = corner-is P c.args.q _ c.requires.1.1 c.index-corners-q.is in
    let r = corner-is P c.args.k _ c.requires.0.1 c.index-corners-k.is in
    ap₂ ◌||◌ c.spared.ensures (c.strictly_left.ensures ∙ (λ j. strictly_left (p j) (q j) (r j)))
