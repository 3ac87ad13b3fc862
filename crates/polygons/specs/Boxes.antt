-- Bounding boxes.
use Rattle.std.specs.Prelude.{List, map, ℤ}
use Rattle.integers.specs.Extrema.{max_z, min_z}
use Rattle.model.specs.Content.{Vertex}
use Rattle.model.specs.Lists.{largest_z, smallest_z}
use Rattle.polygons.specs.declared.extents.Extents.{Extents}

-- The box from low_x to high_x and from low_y to high_y.
abbrev pub box : ℤ → ℤ → ℤ → ℤ → Extents
box low_x high_x low_y high_y = record { min_x = low_x; max_x = high_x; min_y = low_y; max_y = high_y }

-- The box of one vertex.
abbrev pub box_of : Vertex → Extents
box_of v = box v.x v.x v.y v.y

-- The least and the largest x and y of some vertices. (Of none, 0.)
unfoldable pub extents_of : List Vertex → Extents
extents_of vs = box (smallest_z (map (λ v. v.x) vs)) (largest_z (map (λ v. v.x) vs)) (smallest_z (map (λ v. v.y) vs)) (largest_z (map (λ v. v.y) vs))

-- The box around two boxes.
unfoldable pub joined : Extents → Extents → Extents
joined e f = box (min_z e.min_x f.min_x) (max_z e.max_x f.max_x) (min_z e.min_y f.min_y) (max_z e.max_y f.max_y)
