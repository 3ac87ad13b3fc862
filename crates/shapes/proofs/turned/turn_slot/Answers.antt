-- `shapes::turned::turn_slot` meets its contract: the vertices, and then their box before them, are the part's slot.
-- Assumes nothing.
use mathlib.Core.List.{List, map}
use mathlib.Core.Path.{◌≡◌, sym, ap, ap₂, ◌∙◌}
use Prim.Native.Nat.{◌+◌, ◌*◌}
use native.Mathlib.Omega.{arith}
use lib.IntN.{ℤ}
use lib.ListN.{length, take, drop, length-map}
use Rattle.model.specs.Content.{Part}
use Rattle.model.specs.Format.{vertices}
use Rattle.model.specs.Geometry.{rotated}
use Rattle.model.proofs.Records.{length-vertices}
use Rattle.polygons.specs.Boxes.{extents_of}
use Rattle.polygons.specs.Flat.{part_of}
use Rattle.polygons.specs.declared.extents.Extents.{Extents}
use Rattle.shapes.specs.Turned.{with_box}
use Rattle.shapes.proofs.TurnLaws.{slot-written}
use Rattle.shapes.proofs.turned.turn_slot.Goals as goal

pub returns : goal.returns
returns c =
    let e = c.args in
    let P : Part = map (rotated e.k) (vertices e.n (drop e.from e.job.now)) in
    let n : e.n ≡ length P =
    sym (length-map (vertices e.n (drop e.from e.job.now)) (rotated e.k)
    ∙ length-vertices e.n (drop e.from e.job.now)) in
    c.put_box.ensures
    ∙ ap₂ (λ (w : List ℤ) (f : Extents). with_box w e.at f) c.turn_vertices.ensures
    (c.slot_bounds-e.ensures
    ∙ ap (λ (w : List ℤ). extents_of (part_of (take (e.n * 2) (drop (e.at + 4) w)))) c.turn_vertices.ensures)
    ∙ slot-written e.turned.now e.at e.n P n (omega arith)
