-- Turned parts, kept for a whole call: a table of 4096 numbers, four planes of 1024. Plane k holds every part turned k quarter turns. A part has a slot of 20
-- numbers in a plane: its box, and x and y of up to eight vertices; part i of kind t has slot t × 6 + i.
use Rattle.std.specs.Prelude.{List, [], ◌∷◌, ◌++◌, map, ◌≡◌, ℕ, ◌+◌, ◌*◌, ◌<◌, ℤ, length, get_or, take, drop, set}
use Rattle.std.proofs.lemmas.List.Edits.{sets}
use Rattle.integers.specs.Byte.{signed}
use Rattle.model.specs.Content.{Vertex, vertex, Part, kind_at, kind_count}
use Rattle.model.specs.ContentFit.{ContentFit}
use Rattle.model.specs.Format.{byte_at, content}
use Rattle.model.specs.Geometry.{rotated}
use Rattle.polygons.specs.Boxes.{extents_of}
use Rattle.polygons.specs.declared.extents.Extents.{Extents}

-- x and y of each vertex in turn.
unfoldable pub numbers_of : Part → List ℤ
numbers_of [] = []
numbers_of (v ∷ P) = v.x ∷ v.y ∷ numbers_of P

-- The vertex whose two bytes begin at o.
abbrev pub vertex_in : List ℕ → ℕ → Vertex
vertex_in s o = vertex (signed (byte_at s o)) (signed (byte_at s (o + 1)))

-- The table with a vertex written at a place.
unfoldable pub with_vertex : List ℤ → ℕ → Vertex → List ℤ
with_vertex table to v = set (set table to v.x) (to + 1) v.y

-- The table with a part's vertices written from a place on.
abbrev pub with_part : List ℤ → ℕ → Part → List ℤ
with_part table to P = sets table to (numbers_of P)

-- The least and the largest x and y of a box.
abbrev pub sides_of : Extents → List ℤ
sides_of e = e.min_x ∷ e.max_x ∷ e.min_y ∷ e.max_y ∷ []

-- The table with a box written from a place on.
unfoldable pub with_box : List ℤ → ℕ → Extents → List ℤ
with_box table to e = set (set (set (set table to e.min_x) (to + 1) e.max_x) (to + 2) e.min_y) (to + 3) e.max_y

-- The numbers of a part's slot: its box and its vertices.
unfoldable pub slot_of : Part → List ℤ
slot_of P = sides_of (extents_of P) ++ numbers_of P

-- The table with a part's slot written from a place on.
abbrev pub with_slot : List ℤ → ℕ → Part → List ℤ
with_slot table to P = sets table to (slot_of P)

-- The place of slot q in plane k.
abbrev pub slot : ℕ → ℕ → ℕ
slot k q = k * 1024 + q * 20

-- A part stands, under its box, in slot q of plane k.
abbrev pub Holds : List ℤ → ℕ → ℕ → Part → Type 0
Holds table k q P = take (4 + length P * 2) (drop (slot k q) table) ≡ slot_of P

-- A slot of this table holds what it holds in the other one.
abbrev pub Kept : List ℤ → List ℤ → ℕ → Type 0
Kept old new q = (k : ℕ) → k < 4 → take 20 (drop (slot k q) new) ≡ take 20 (drop (slot k q) old)

-- The part P, turned, stands in slot q of each plane, and every other slot is as it was.
pub record PartTurned (P : Part) (q : ℕ) (old new : List ℤ) : Type 0 where
  pub held : (k : ℕ) → k < 4 → Holds new k q (map (rotated k) P)
  pub kept : (r : ℕ) → r < 48 → (r ≡ q → ⊥) → Kept old new r

-- The same of all parts of kind t of the job.
pub record KindTurned (s : List ℕ) (t : ℕ) (old new : List ℤ) : Type 0 where
  pub held : (i k : ℕ) → i < length (kind_at (content s).kinds t).parts → k < 4 → Holds new k (t * 6 + i) (map (rotated k) (get_or (kind_at (content s).kinds t).parts i []))
  pub kept : (r : ℕ) → r < t * 6 → Kept old new r

-- The table has the turned parts of all kinds of a job whose content is fit.
pub record TurnedOf (s : List ℕ) (table : List ℤ) : Type 0 where
  pub fit : ContentFit (content s)
  pub size : length table ≡ 4096
  pub held : (t i k : ℕ) → t < kind_count (content s).kinds → i < length (kind_at (content s).kinds t).parts → k < 4
      → Holds table k (t * 6 + i) (map (rotated k) (get_or (kind_at (content s).kinds t).parts i []))
