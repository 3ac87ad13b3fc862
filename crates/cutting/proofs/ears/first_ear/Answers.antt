use Rattle.std.proofs.Common.{rules, ◌≡◌, refl, ◌∙◌}
use native.Mathlib.Omega.{arith}
use lib.ListN.{length}
use Rattle.std.specs.List.{find, range_with_len}
use Rattle.std.proofs.lemmas.Iterator.{YieldsList-from_range}
use Rattle.std.proofs.lemmas.Iterator.Search.{find_from_yields_List}
use Rattle.outlines.specs.Outline.{is_ear}
use Rattle.cutting.specs.Choice.{is_ear_at}
use Rattle.cutting.proofs.ChoiceLaws.{found-first, mapped-same}
use Rattle.cutting.proofs.ears.first_ear.Goals as goal

pub returns : goal.returns
returns c =
    let P = c.args.corners.now in
    let is : c.find.result ≡ find (is_ear_at P) (range_with_len 0 (length P)) =
    mapped-same c.find.result
    ∙ find_from_yields_List (is_ear_at P) _ _ c.find.result c.find.ensures.ran (YieldsList-from_range 0 (length P) _
    refl (omega arith)) (λ x b q k. search rules) in
    let f = found-first is_ear P c.find.result is in
    record { value = f.0; within = f.1 }
