-- Document 02, "1/13 Clamp margin": what is nested is a job's content under what the host adds to it.
use Rattle.std.specs.Prelude.{Bool, List, ℕ, ltb}
use Rattle.model.specs.Content.{Board, SpacingClass, Kind, Job}

-- The fields of the content under their names, and the margin: "The host will pass a margin m of 0 to 63 with row, check and run."
pub record Problem : Type 0 where
  pub sheet : Board
  pub classes : List SpacingClass
  pub kinds : List Kind
  pub margin : ℕ

-- The content under a margin.
abbrev pub under : ℕ → Job → Problem
under m j = record { sheet = j.sheet; classes = j.classes; kinds = j.kinds; margin = m }

-- "13, margin above 63"
unfoldable pub cause13 : ℕ → Bool
cause13 m = ltb 63 m
