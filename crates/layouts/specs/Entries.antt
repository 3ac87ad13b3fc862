-- The entries of a layout that is handed in, as the code holds them.
use Rattle.std.specs.Prelude.{List, map, ◌≡◌, ℕ, ◌<◌}
use Rattle.model.specs.Layout.{Layout, entry}
use Rattle.model.specs.Layout as Model
use Rattle.model.specs.Lists.{below}
use Rattle.model.specs.Services.{entry_in}
use Rattle.candidates.specs.Conflicts.{placement_at}
use Rattle.layouts.specs.declared.handed.Entry.{Entry}

-- The entry of the model.
abbrev pub as_entry : Entry → Model.Entry
as_entry e = entry e.kind (placement_at e.place)

-- "each four 16-bit numbers"
pub record Small (e : Entry) : Type 0 where
  pub kind : e.kind < 65536
  pub column : e.place.column < 65536
  pub row : e.place.row < 65536
  pub rotation : e.place.rotation < 65536

-- It is entry i of the layout whose bytes are s.
pub record EntryAt (s : List ℕ) (i : ℕ) (e : Entry) : Type 0 where
  pub same : as_entry e ≡ entry_in s i
  pub small : Small e

-- The first n entries of the layout whose bytes are s.
unfoldable pub entries_in : List ℕ → ℕ → Layout
entries_in s n = map (entry_in s) (below n)
