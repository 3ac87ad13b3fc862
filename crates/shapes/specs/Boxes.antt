-- The boxes of the kinds at each rotation.
use Rattle.std.specs.Prelude.{List, map, ◌≡◌, ℕ, ◌+◌, ◌*◌, ◌<◌, pos, length, get_or}
use Rattle.model.specs.Content.{Vertex, kind_at, kind_count}
use Rattle.model.specs.Format.{content}
use Rattle.model.specs.Geometry.{rotated}
use Rattle.model.specs.Lists.{concat}
use Rattle.polygons.specs.Boxes.{box, extents_of}
use Rattle.polygons.specs.declared.extents.Extents.{Extents}
use Rattle.shapes.specs.declared.boxes.Boxes.{Boxes}

-- Where no box stands.
abbrev pub no_box : Extents
no_box = box (pos 0) (pos 0) (pos 0) (pos 0)

-- The box of kind t turned k quarter turns.
abbrev pub box_at : Boxes → ℕ → ℕ → Extents
box_at b t k = get_or b.of (t * 4 + k) no_box

-- The vertices of all parts of kind t, turned k quarter turns.
abbrev pub turned_vertices : List ℕ → ℕ → ℕ → List Vertex
turned_vertices s t k = concat (map (map (rotated k)) (kind_at (content s).kinds t).parts)

-- These are the least and the largest x and y over all vertices of each kind at each rotation.
pub record BoxesOf (s : List ℕ) (b : Boxes) : Type 0 where
  pub size : length b.of ≡ 32
  pub exact : (t k : ℕ) → t < kind_count (content s).kinds → k < 4 → box_at b t k ≡ extents_of (turned_vertices s t k)
