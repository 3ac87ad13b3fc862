-- Document 02, "4/13 Saving a job": the bytes of a content. "The written order is board, classes by rising id, types as given, then the trailer,
-- with no skipped bytes; an empty class list has offset 6." What the parts of a job are in bytes, document 01 says.
use Rattle.std.specs.Prelude.{cond, List, [], ◌∷◌, ◌++◌, map, ℕ, ◌+◌, ◌*◌, ◌-◌, ℤ, pos, negsuc, length}
use Rattle.words.specs.Number.{bytes}
use Rattle.model.specs.Content.{Vertex, Part, Kind, SpacingClass, Board, Job}
use Rattle.model.specs.Lists.{concat}

-- "Board, 6 bytes: width W, length L, step g, two bytes each"
unfoldable pub board_record : Board → List ℕ
board_record b = bytes 2 b.W ++ bytes 2 b.L ++ bytes 2 b.g

-- The third byte of a class: its gap, and 128 more where it is marked as common cut.
unfoldable pub gap_byte : SpacingClass → ℕ
gap_byte c = cond c.common_cut (128 + c.gap) c.gap

-- "Class, 3 bytes: id .., rank .., gap .."
unfoldable pub class_record : SpacingClass → List ℕ
class_record c = c.id ∷ c.rank ∷ gap_byte c ∷ []

-- "classes by rising id": so they stand in a content.
unfoldable pub class_list : List SpacingClass → List ℕ
class_list cs = concat (map class_record cs)

-- "x and y as signed bytes": a negative one as 256 plus it.
unfoldable pub signed_byte : ℤ → ℕ
signed_byte (pos n) = n
signed_byte (negsuc n) = 255 - n

-- "per corner x and y"
unfoldable pub vertex_bytes : Vertex → List ℕ
vertex_bytes v = signed_byte v.x ∷ signed_byte v.y ∷ []

-- "each part: number of corners .., and per corner x and y"
unfoldable pub part_bytes : Part → List ℕ
part_bytes P = length P ∷ concat (map vertex_bytes P)

-- "Type: demand .., turn mask .., class mask .., number of parts .. Then each part"
unfoldable pub kind_record : Kind → List ℕ
kind_record k = k.demand ∷ k.rotations ∷ k.classes ∷ length k.parts ∷ concat (map part_bytes k.parts)

-- "types as given"
unfoldable pub kind_list : List Kind → List ℕ
kind_list ks = concat (map kind_record ks)

-- The sections, "with no skipped bytes": the board at 0, the class list at 6, the type list behind it.
unfoldable pub section_bytes : Job → List ℕ
section_bytes j = board_record j.sheet ++ (class_list j.classes ++ kind_list j.kinds)

-- "A job ends in a trailer of 14 bytes that points back: offset of the board record (2), of the class list (2), of the type list (2),
-- length of the type list in bytes (2), number of classes (1), number of types (1), length of the whole job (2)", for so many classes, so
-- many types, a type list of so many bytes and a job of so many:
unfoldable pub pointer_bytes : ℕ → ℕ → ℕ → ℕ → List ℕ
pointer_bytes classes kinds size whole =
    bytes 2 0 ++ bytes 2 6 ++ bytes 2 (6 + classes * 3) ++ bytes 2 size ++ (classes ∷ kinds ∷ []) ++ bytes 2 whole

-- and "the mark 44 42 hexadecimal".
unfoldable pub trailer_bytes : ℕ → ℕ → ℕ → List ℕ
trailer_bytes classes kinds size = pointer_bytes classes kinds size (6 + classes * 3 + size + 14) ++ (0x44 ∷ 0x42 ∷ [])

-- The bytes of a content.
unfoldable pub written : Job → List ℕ
written j = section_bytes j ++ trailer_bytes (length j.classes) (length j.kinds) (length (kind_list j.kinds))
