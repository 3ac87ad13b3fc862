use mathlib.Core.Bool.{not, ◌||◌}
use mathlib.Core.Path.{ap, ◌∙◌}
use lib.Dec.{eqb}
use Rattle.outlines.specs.Outline.{holds}
use Rattle.records.proofs.CornerLaws.{corner-is}
use Rattle.cutting.specs.Choice.{is_spared}
use Rattle.cutting.proofs.ears.is_spared.Goals as goal

pub returns : goal.returns
unfolding is_spared
returns c =
    let P = c.args.corners.now in
    let p = corner-is P c.args.p _ c.requires.0.0 c.index-corners-p.is in
    let a = corner-is P c.args.c _ c.requires.0.1 c.index-corners-c.is in
    let s = corner-is P c.args.s _ c.requires.1.0 c.index-corners-s.is in
    let v = corner-is P c.args.k _ c.requires.1.1 c.index-corners-k.is in
    ap (λ b. eqb c.args.k c.args.c || eqb c.args.k c.args.p || eqb c.args.k c.args.s || not b) (c.holds.ensures ∙
    (λ j. holds (p j) (a j) (s j) (v j)))
