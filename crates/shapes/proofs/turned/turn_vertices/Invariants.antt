-- `shapes::turned::turn_vertices` meets its contract. Assumes nothing.
use mathlib.Core.List.{map}
use mathlib.Core.Path.{◌≡◌}
use lib.ListN.{length, drop}
use Rattle.model.specs.Format.{vertices}
use Rattle.model.specs.Geometry.{rotated}
use Rattle.shapes.specs.Turned.{with_part}
use Rattle.shapes.proofs.turned.turn_vertices.Given as goal

abbrev pub invariant-loop-m : goal.invariant-loop-m
invariant-loop-m l = (length l.turned ≡ length l.initial.turned)
    × (l.turned ≡ with_part l.initial.turned l.to (map (rotated l.k) (vertices l.m (drop l.from l.job))))
