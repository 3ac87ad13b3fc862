-- The classes by rising id, as the places at which they begin.
use Rattle.std.specs.Prelude.{List, map, ◌≡◌, ℕ, ◌+◌, ◌≤◌, ◌<◌, length, get_or}
use Rattle.model.specs.Content.{SpacingClass}
use Rattle.model.specs.Format.{class_from, by_rising_id}
use Rattle.model.specs.Lists.{below}
use Rattle.records.specs.Classes.{classes_from}

-- The classes at the first k of the places.
abbrev pub classes_at_first : List ℕ → List ℕ → ℕ → List SpacingClass
classes_at_first s places k = map (λ i. class_from s (get_or places i 0)) (below k)

-- The first k of the places have room for a class.
abbrev pub Inside : List ℕ → List ℕ → ℕ → Type 0
Inside s places k = (i : ℕ) → i < k → get_or places i 0 + 3 ≤ length s

-- The first n of the places are those of the n classes from byte o on, by rising id.
pub record ByRisingId (s : List ℕ) (o n : ℕ) (places : List ℕ) : Type 0 where
  pub classes : classes_at_first s places n ≡ by_rising_id (classes_from s o n)
  pub inside : Inside s places n
  pub size : length places ≡ 8
