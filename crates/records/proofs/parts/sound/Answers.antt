use Rattle.std.proofs.Common.{rules, ◌≡◌, refl}
use native.Mathlib.Omega.{arith}
use lib.ListN.{length}
use Rattle.std.proofs.lemmas.Iterator.{YieldsList-from_range}
use Rattle.model.proofs.Ranges.{all_below}
use Rattle.model.specs.Geometry.{edge_sound, sound}
use Rattle.records.proofs.parts.sound.Goals as goal

pub returns : goal.returns
unfolding sound
returns c =
    all_below (edge_sound c.args.corners.now) (length c.args.corners.now) _ _ c.all.ensures.ran
    (YieldsList-from_range 0 (length c.args.corners.now) _ refl (omega arith)) (λ x b q k. search rules)
