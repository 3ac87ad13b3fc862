-- How many entries of a layout the program looks at.
use Rattle.std.specs.Prelude.{List, ◌≡◌, ℕ, ◌≤◌}
use Rattle.model.specs.Content.{piece_count}
use Rattle.model.specs.Format.{refusal, content}

-- As many as an accepted job has pieces, and at most 12.
pub record Shown (s : List ℕ) (n : ℕ) : Type 0 where
  pub exact : refusal s ≡ 0 → n ≡ piece_count (content s).kinds
  pub few : n ≤ 12
