use mathlib.Core.Path.{ap, ◌∙◌}
use Rattle.candidates.specs.Placements.{placeable, offered}
use Rattle.candidates.specs.declared.conflicts.Placed.{Placed}
use Rattle.candidates.proofs.placements.is_candidate.Goals as goal

pub returns : goal.returns
unfolding offered
returns c =
    c.is_placement.ensures
    ∙ ap (λ (a : Placed). placeable c.args.view.now c.args.boxes.now c.args.kind a.column a.row a.rotation) c.placed_of.ensures
