-- What a job says, free of its bytes: the board, the classes by rising id, the kinds of pieces.
use Rattle.std.specs.Prelude.{Bool, List, [], map, ℕ, ℤ, pos, length, get_or}
use Rattle.model.specs.Lists.{sum}

-- Document 01's "corner": "per corner x and y as signed bytes".
pub record Vertex : Type 0 where
  pub x : ℤ
  pub y : ℤ

abbrev pub vertex : ℤ → ℤ → Vertex
vertex x y = record { x = x; y = y }

-- A part is its corners, in the order of the file.
abbrev pub Part : Type 0
Part = List Vertex

-- Document 01's "type": "demand .., turn mask .., class mask .., number of parts .. Then each part".
pub record Kind : Type 0 where
  pub demand : ℕ
  pub rotations : ℕ
  pub classes : ℕ
  pub parts : List Part

abbrev pub kind : ℕ → ℕ → ℕ → List Part → Kind
kind d r c ps = record { demand = d; rotations = r; classes = c; parts = ps }

-- "Class, 3 bytes: id 0 to 7, rank 0 to 255, gap 0 to 63." Document 02, "3/13 Common cut": whether it is marked as common cut.
pub record SpacingClass : Type 0 where
  pub id : ℕ
  pub rank : ℕ
  pub gap : ℕ
  pub common_cut : Bool

abbrev pub spacing_class : ℕ → ℕ → ℕ → Bool → SpacingClass
spacing_class i r g c = record { id = i; rank = r; gap = g; common_cut = c }

-- "Board, 6 bytes: width W, length L, step g."
pub record Board : Type 0 where
  pub W : ℕ
  pub L : ℕ
  pub g : ℕ

abbrev pub board : ℕ → ℕ → ℕ → Board
board w l g = record { W = w; L = l; g = g }

-- "Read gives W, L, g, the classes by rising id, the types and N." (N follows from the types.)
pub record Job : Type 0 where
  pub sheet : Board
  pub classes : List SpacingClass
  pub kinds : List Kind

abbrev pub job : Board → List SpacingClass → List Kind → Job
job b cs ks = record { sheet = b; classes = cs; kinds = ks }

-- "the demands sum to N"
unfoldable pub piece_count : List Kind → ℕ
piece_count ks = sum (map (λ k. k.demand) ks)

-- "T types"
unfoldable pub kind_count : List Kind → ℕ
kind_count ks = length ks

-- Where no type stands: nothing is demanded of it and no turn is allowed it.
abbrev pub no_kind : Kind
no_kind = kind 0 0 0 []

-- The type of this index, "from 0".
unfoldable pub kind_at : List Kind → ℕ → Kind
kind_at ks t = get_or ks t no_kind

-- Where no corner stands.
abbrev pub origin : Vertex
origin = vertex (pos 0) (pos 0)
