-- Pieces as they stand in a table of parts: a part has 20 numbers, the least and the largest x and y, and then x and y of up to eight vertices.
use Rattle.std.specs.Prelude.{Bool, not, List, map, ◌≡◌, ℕ, ◌+◌, ◌*◌, ◌≤◌, ◌<◌, ℤ, pos, length, get_or, take, drop}
use Rattle.model.specs.Content.{Part}
use Rattle.model.specs.Geometry.{separated}
use Rattle.model.specs.Lists.{any, below}
use Rattle.convexity.specs.Parts.{SoundPart}
use Rattle.polygons.specs.Boxes.{box, extents_of}
use Rattle.polygons.specs.Flat.{part_of}
use Rattle.polygons.specs.declared.extents.Extents.{Extents}
use Rattle.distances.specs.Compact.{Compact}
use Rattle.geometry.specs.declared.pieces.Piece.{Piece}

-- Part i of the piece.
unfoldable pub part_in : List ℤ → Piece → ℕ → Part
part_in table p i = part_of (take (get_or p.sizes i 0 * 2) (drop (p.first + i * 20 + 4) table))

-- All parts of the piece.
unfoldable pub parts_in : List ℤ → Piece → List Part
parts_in table p = map (part_in table p) (below p.count)

-- The box that the table has for part i.
unfoldable pub box_in : List ℤ → Piece → ℕ → Extents
box_in table p i =
    box (get_or table (p.first + i * 20) (pos 0)) (get_or table (p.first + i * 20 + 1) (pos 0)) (get_or table (p.first + i * 20 + 2) (pos 0))
    (get_or table (p.first + i * 20 + 3) (pos 0))

-- The piece has one to six parts of one to eight vertices each, within a table of 4096 numbers.
pub record Fitting (p : Piece) : Type 0 where
  pub some : 1 ≤ p.count
  pub few : p.count ≤ 6
  pub within : p.first + 120 ≤ 4096
  pub least : (i : ℕ) → i < p.count → 1 ≤ get_or p.sizes i 0
  pub short : (i : ℕ) → i < p.count → get_or p.sizes i 0 ≤ 8

-- It stands in the table, each part under its own box. Its parts are sound and their numbers small.
pub record Standing (table : List ℤ) (p : Piece) : Type 0 where
  pub size : length table ≡ 4096
  pub fitting : Fitting p
  pub boxed : (i : ℕ) → i < p.count → box_in table p i ≡ extents_of (part_in table p i)
  pub sound : (i : ℕ) → i < p.count → SoundPart (part_in table p i)
  pub compact : (i : ℕ) → i < p.count → Compact (part_in table p i)

-- The part P is not separated from some part of Qs.
unfoldable pub part_conflicts : ℕ → Part → List Part → Bool
part_conflicts gap P Qs = any (λ Q. not (separated gap P Q)) Qs
