-- `shapes::boxes::piece_box` meets its contract. Assumes nothing.
use mathlib.Core.List.{map}
use mathlib.Core.Path.{◌≡◌}
use Rattle.model.specs.Lists.{concat, below}
use Rattle.polygons.specs.Boxes.{extents_of}
use Rattle.geometry.specs.Pieces.{part_in}
use Rattle.shapes.proofs.boxes.piece_box.Given as goal

abbrev pub invariant-loop-i : goal.invariant-loop-i
invariant-loop-i l = l.e ≡ extents_of (concat (map (part_in l.table l.p) (below l.i)))
