-- Cause 7, part by part.
use Rattle.std.specs.Prelude.{Bool, not, ◌||◌, List, ℕ, ◌+◌, drop}
use Rattle.model.specs.Content.{Part, Kind}
use Rattle.model.specs.Format.{byte_at, vertices, vertex_in_range}
use Rattle.model.specs.Geometry.{sound}
use Rattle.model.specs.Lists.{all, any}

-- "a part not sound, or a corner at -128"
unfoldable pub bad_part : Part → Bool
bad_part P = not (sound P) || not (all vertex_in_range P)

-- The part at byte o is bad.
unfoldable pub bad_at : List ℕ → ℕ → Bool
bad_at s o = bad_part (vertices (byte_at s o) (drop (o + 1) s))

-- Some part of the kind is bad.
unfoldable pub bad_kind : Kind → Bool
bad_kind k = any bad_part k.parts
