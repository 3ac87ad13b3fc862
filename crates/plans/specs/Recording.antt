-- The layout in the answer numbers.
use Rattle.std.specs.Prelude.{List, map, ℕ, ◌+◌, ◌*◌, ◌≤◌, ◌<◌}
use Rattle.model.specs.Content.{piece_count}
use Rattle.model.specs.Layout.{Layout, entry_of}
use Rattle.model.specs.Lists.{below}
use Rattle.model.specs.Problem.{Problem}
use Rattle.model.specs.Services.{numbers_in}
use Rattle.stepping.specs.Levels.{piece_kind, numbers_at}

-- Four numbers of two bytes as one of eight, the first one lowest.
abbrev pub four_in : ℕ → ℕ → ℕ → ℕ → ℕ
four_in a b c d = a + 65536 * (b + 65536 * (c + 65536 * d))

-- The layout of all pieces, each at the candidate of its number.
unfoldable pub layout_of : Problem → List ℕ → Layout
layout_of j ns = map (λ l. entry_of j (piece_kind j.kinds l) (numbers_at ns l)) (below (piece_count j.kinds))

-- It can be written: the numbers are small, and the buffer has room.
pub record Recordable (j : Problem) (ns out : List ℕ) : Type 0 where
  pub small : (l : ℕ) → l < piece_count j.kinds → numbers_at ns l < 4096
  pub fits : 4 * piece_count j.kinds ≤ numbers_in out
