-- The pieces of the kinds in the table of turned parts.
use Rattle.std.specs.Prelude.{List, [], ◌≡◌, ℕ, ◌+◌, ◌*◌, ◌≤◌, ◌<◌, ℤ, length, get_or}
use Rattle.model.specs.Content.{kind_at}
use Rattle.model.specs.Format.{content}
use Rattle.geometry.specs.Pieces.{Fitting, Standing}
use Rattle.geometry.specs.declared.pieces.Piece.{Piece}

-- It is the piece of kind t, as it stands unturned.
pub record PieceOf (s : List ℕ) (t : ℕ) (p : Piece) : Type 0 where
  pub fitting : Fitting p
  pub first : p.first ≡ t * 120
  pub plane : p.first + 120 ≤ 1024
  pub count : p.count ≡ length (kind_at (content s).kinds t).parts
  pub size : (i : ℕ) → i < p.count → get_or p.sizes i 0 ≡ length (get_or (kind_at (content s).kinds t).parts i [])

-- The piece as it stands turned k quarter turns: in plane k.
abbrev pub turned_to : Piece → ℕ → Piece
turned_to p k = record { first = k * 1024 + p.first; count = p.count; sizes = p.sizes }

-- The piece stands in plane 0, and turned in each of the others.
pub record Turnable (table : List ℤ) (p : Piece) : Type 0 where
  pub plane : p.first + 120 ≤ 1024
  pub stands : (k : ℕ) → k < 4 → Standing table (turned_to p k)
