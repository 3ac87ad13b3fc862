-- The parts that the theorems speak of, and how far apart they lie along a direction.
use Rattle.std.specs.Prelude.{true, ◌≡◌, List, [], ◌∷◌, map, ◌≤◌, ℤ, ◌-ℤ◌, length}
use Rattle.model.specs.Content.{Part}
use Rattle.model.specs.Geometry.{sound, Direction, along}
use Rattle.model.specs.Lists.{largest_z, smallest_z}

-- What the theorems ask of a part, and every part of an accepted job has: it is sound, with at least three corners. (The model's `sound` asks nothing of fewer.)
pub record SoundPart (P : Part) : Type 0 where
  pub is_sound : sound P ≡ true
  pub corners : 3 ≤ length P

-- Every part of the piece is.
abbrev pub SoundParts : List Part → Type 0
SoundParts [] = Unit {0}
SoundParts (P ∷ Ps) = SoundPart P × SoundParts Ps

-- How far Q lies beyond P along a direction, times the direction's length.
abbrev pub width : Part → Part → Direction → ℤ
width P Q d = smallest_z (map (along d) Q) -ℤ largest_z (map (along d) P)
