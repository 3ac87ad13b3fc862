-- Document 01, "The job's bytes" and the sender's refusals 1 to 7.
use Rattle.std.specs.Prelude.{Bool, true, false, not, cond, ◌&&◌, ◌||◌, List, [], ◌∷◌, map, ℕ, zero, suc, ◌+◌, ◌*◌, ◌-◌, min, max, leb, ltb, eqb, negsuc, length, get_or, take, drop}
use Rattle.std.specs.Int.Signed.{le_z}
use Rattle.integers.specs.Byte.{signed}
use Rattle.words.specs.Bits.{test_bit}
use Rattle.words.specs.Number.{number_at}
use Rattle.model.specs.Content.{Vertex, vertex, Part, Kind, kind, SpacingClass, spacing_class, Board, board, Job, job}
use Rattle.model.specs.Geometry.{sound}
use Rattle.model.specs.Grid.{dots}
use Rattle.model.specs.Lists.{all, any, keep, concat, sum, below, between}

-- ---- Numbers

-- The byte at i.
unfoldable pub byte_at : List ℕ → ℕ → ℕ
byte_at s i = get_or s i 0

-- "Two-byte numbers are unsigned, low byte first."
unfoldable pub word_at : List ℕ → ℕ → ℕ
word_at s i = number_at 2 s i

-- ---- The trailer

-- "A job ends in a trailer of 14 bytes that points back": where it begins.
unfoldable pub trailer_at : List ℕ → ℕ
trailer_at s = length s - 14

-- "offset of the board record (2)"
unfoldable pub board_at : List ℕ → ℕ
board_at s = word_at s (trailer_at s)

-- "of the class list (2)"
unfoldable pub classes_at : List ℕ → ℕ
classes_at s = word_at s (trailer_at s + 2)

-- "of the type list (2)"
unfoldable pub kinds_at : List ℕ → ℕ
kinds_at s = word_at s (trailer_at s + 4)

-- "length of the type list in bytes (2)"
unfoldable pub kinds_length : List ℕ → ℕ
kinds_length s = word_at s (trailer_at s + 6)

-- "number of classes (1)"
unfoldable pub classes_stated : List ℕ → ℕ
classes_stated s = byte_at s (trailer_at s + 8)

-- "number of types (1)"
unfoldable pub kinds_stated : List ℕ → ℕ
kinds_stated s = byte_at s (trailer_at s + 9)

-- "length of the whole job (2)"
unfoldable pub length_stated : List ℕ → ℕ
length_stated s = word_at s (trailer_at s + 10)

-- "the mark 44 42 hexadecimal"
unfoldable pub marked : List ℕ → Bool
marked s = eqb (byte_at s (trailer_at s + 12)) 0x44 && eqb (byte_at s (trailer_at s + 13)) 0x42

-- ---- The sections

-- A section: its offset and its length in bytes.
pub record Section : Type 0 where
  pub offset : ℕ
  pub size : ℕ

abbrev pub section : ℕ → ℕ → Section
section o n = record { offset = o; size = n }

-- "Board, 6 bytes"
unfoldable pub board_section : List ℕ → Section
board_section s = section (board_at s) 6

-- "Class, 3 bytes"
unfoldable pub classes_section : List ℕ → Section
classes_section s = section (classes_at s) (classes_stated s * 3)

-- "length of the type list in bytes"
unfoldable pub kinds_section : List ℕ → Section
kinds_section s = section (kinds_at s) (kinds_length s)

-- "A section's offset plus its length is at most the trailer's offset, also where it is empty."
unfoldable pub in_place : List ℕ → Section → Bool
in_place s a = leb (a.offset + a.size) (trailer_at s)

-- Two sections share a byte: the later start lies before the earlier end.
unfoldable pub share_byte : Section → Section → Bool
share_byte a b = ltb (max a.offset b.offset) (min (a.offset + a.size) (b.offset + b.size))

-- ---- Board and classes

-- "Board, 6 bytes: width W, length L, step g, two bytes each": the record at byte o.
abbrev pub board_from : List ℕ → ℕ → Board
board_from s o = board (word_at s o) (word_at s (o + 2)) (word_at s (o + 4))

-- The board of the job.
unfoldable pub board_of : List ℕ → Board
board_of s = board_from s (board_at s)

-- Document 02, "3/13 Common cut": "A class gap byte of 128 to 191 .. marks the class as common cut".
unfoldable pub marks_cut : ℕ → Bool
marks_cut b = between 128 191 b

-- It "now means gap byte minus 128"; every other gap byte means itself.
unfoldable pub gap_meant : ℕ → ℕ
gap_meant b = cond (marks_cut b) (b - 128) b

-- "Class, 3 bytes: id .., rank .., gap ..": the class that three bytes say.
abbrev pub class_of_bytes : ℕ → ℕ → ℕ → SpacingClass
class_of_bytes i r b = spacing_class i r (gap_meant b) (marks_cut b)

-- The record at byte o.
abbrev pub class_from : List ℕ → ℕ → SpacingClass
class_from s o = class_of_bytes (byte_at s o) (byte_at s (o + 1)) (byte_at s (o + 2))

-- Record i of the class list.
unfoldable pub class_at : List ℕ → ℕ → SpacingClass
class_at s i = class_from s (classes_at s + i * 3)

-- The classes in the order of the file.
unfoldable pub classes_of : List ℕ → List SpacingClass
classes_of s = map (class_at s) (below (classes_stated s))

-- "the classes by rising id"
unfoldable pub by_rising_id : List SpacingClass → List SpacingClass
by_rising_id cs = concat (map (λ i. keep (λ c. eqb c.id i) cs) (below 8))

-- ---- Types

-- What a reader finds at the front of some bytes: a value and how many bytes it took, or nothing that can stand there.
pub data Got (A : Type 0) : Type 0 where
  bad : Got A
  got : A → ℕ → Got A

module _ {A : Type 0} where
  -- A value of k bytes in front of the values that follow it.
  unfoldable pub joined : A → ℕ → Got (List A) → Got (List A)
  joined a k bad = bad
  joined a k (got bs m) = got (a ∷ bs) (k + m)

  -- What a reader found first, and behind it what is read of the bytes that follow.
  unfoldable pub followed : Got A → (List ℕ → Got (List A)) → List ℕ → Got (List A)
  followed bad next s = bad
  followed (got a k) next s = joined a k (next (drop k s))

  -- n records, each from where the one before it ends.
  unfoldable pub many : (List ℕ → Got A) → ℕ → List ℕ → Got (List A)
  many f zero s = got [] 0
  many f (suc n) s = followed (f s) (many f n) s

-- "per corner x and y as signed bytes": n corners at the front of some bytes.
unfoldable pub vertices : ℕ → List ℕ → Part
vertices zero s = []
vertices (suc n) s = vertex (signed (byte_at s 0)) (signed (byte_at s 1)) ∷ vertices n (drop 2 s)

-- "each part: number of corners (3 to 8), and per corner x and y", from a piece of the type list that begins at the part.
unfoldable pub read_part : List ℕ → Got Part
read_part s =
    cond (between 3 8 (byte_at s 0) && leb (1 + byte_at s 0 * 2) (length s))
    (got (vertices (byte_at s 0) (drop 1 s)) (1 + byte_at s 0 * 2))
    bad

-- The four fields in front of a type's parts are there and in range: "demand (1 to 12), turn mask (1 to 15 ..), class mask ..,
-- number of parts (1 to 6)".
unfoldable pub head_in_range : List ℕ → Bool
head_in_range s =
    leb 4 (length s) && between 1 12 (byte_at s 0) && between 1 15 (byte_at s 1) && between 1 6 (byte_at s 3)

-- A type of these fields, with the parts that follow them.
unfoldable pub with_parts : List ℕ → Got (List Part) → Got Kind
with_parts s bad = bad
with_parts s (got ps m) = got (kind (byte_at s 0) (byte_at s 1) (byte_at s 2) ps) (4 + m)

-- "Type: demand .., turn mask .., class mask .., number of parts .. Then each part"
unfoldable pub read_kind : List ℕ → Got Kind
read_kind s =
    elim (head_in_range s) [
      | false ↦ bad
      | true ↦ with_parts s (many read_part (byte_at s 3) (drop 4 s))
    ]

-- The bytes of the type list.
unfoldable pub kind_bytes : List ℕ → List ℕ
kind_bytes s = take (kinds_length s) (drop (kinds_at s) s)

-- The type records, as many as the trailer states.
unfoldable pub kinds_got : List ℕ → Got (List Kind)
kinds_got s = many read_kind (kinds_stated s) (kind_bytes s)

-- ---- The content

-- The types that were read.
unfoldable pub kinds_in : Got (List Kind) → List Kind
kinds_in bad = []
kinds_in (got ks m) = ks

-- The content of a job's bytes.
unfoldable pub content : List ℕ → Job
content s = job (board_of s) (by_rising_id (classes_of s)) (kinds_in (kinds_got s))

-- ---- The causes of refusal by the job's sender, each beside its line

-- "1: fewer than 14 or more than 1024 bytes."
unfoldable pub cause1 : List ℕ → Bool
cause1 s = ltb (length s) 14 || ltb 1024 (length s)

-- "2: wrong mark or stated length."
unfoldable pub cause2 : List ℕ → Bool
cause2 s = not (marked s) || not (eqb (length_stated s) (length s))

-- "3: a section's offset plus length is past the trailer's offset, or two sections share a byte."
unfoldable pub cause3 : List ℕ → Bool
cause3 s =
    not (in_place s (board_section s))
    || not (in_place s (classes_section s))
    || not (in_place s (kinds_section s))
    || share_byte (board_section s) (classes_section s)
    || share_byte (board_section s) (kinds_section s)
    || share_byte (classes_section s) (kinds_section s)

-- "4: a board field out of range, or D above 1024." ("all 1 to 1000")
unfoldable pub cause4 : List ℕ → Bool
cause4 s =
    not (between 1 1000 (board_of s).W)
    || not (between 1 1000 (board_of s).L)
    || not (between 1 1000 (board_of s).g)
    || ltb 1024 (dots (board_of s))

-- "id 0 to 7, rank 0 to 255, gap 0 to 63". Document 02: "Refusal 5 now covers gap bytes 64 to 127 and above 191": the ones that mean a gap above 63.
unfoldable pub class_in_range : SpacingClass → Bool
class_in_range c = leb c.id 7 && leb c.rank 255 && leb c.gap 63

-- "No id and no rank occurs twice."
unfoldable pub distinct : List ℕ → Bool
distinct [] = true
distinct (n ∷ ns) = not (any (eqb n) ns) && distinct ns

-- "5: a class rule broken." ("At most 8 classes.")
unfoldable pub cause5 : List ℕ → Bool
cause5 s =
    ltb 8 (classes_stated s)
    || not (all class_in_range (classes_of s))
    || not (distinct (map (λ c. c.id) (classes_of s)))
    || not (distinct (map (λ c. c.rank) (classes_of s)))

-- Every class id that the mask names is that of a class.
unfoldable pub names_present : List SpacingClass → Kind → Bool
names_present cs k = all (λ i. not (test_bit k.classes i) || any (λ c. eqb c.id i) cs) (below 8)

-- What is wrong with the types that were read: "the demands sum to N, at most 12", "a class id named that is absent,
-- or records that do not fill the type list exactly". Where nothing could be read, a field is out of range or bytes are lacking.
unfoldable pub kinds_unfit : List SpacingClass → ℕ → Got (List Kind) → Bool
kinds_unfit cs size bad = true
kinds_unfit cs size (got ks m) =
    not (eqb m size) || ltb 12 (sum (map (λ k. k.demand) ks)) || not (all (names_present cs) ks)

-- "6: a type field, count or sum out of range, a class id named that is absent, or records that do not fill the type list exactly."
-- ("There are 1 to 8 types")
unfoldable pub cause6 : List ℕ → Bool
cause6 s = not (between 1 8 (kinds_stated s)) || kinds_unfit (classes_of s) (kinds_length s) (kinds_got s)

-- "-127 to 127"
unfoldable pub vertex_in_range : Vertex → Bool
vertex_in_range v = le_z (negsuc 126) v.x && le_z (negsuc 126) v.y

-- "7: a part not sound, or a corner at -128."
unfoldable pub cause7 : List ℕ → Bool
cause7 s = any (λ k. any (λ P. not (sound P) || not (all vertex_in_range P)) k.parts) (kinds_in (kinds_got s))

-- "They are tested as 1 to 7 .., each only after those before it." 0: "A job is accepted if its bytes give cause for none of its
-- sender's refusals."
unfoldable pub refusal : List ℕ → ℕ
refusal s =
    cond (cause1 s) 1
    (cond (cause2 s) 2
    (cond (cause3 s) 3
    (cond (cause4 s) 4
    (cond (cause5 s) 5
    (cond (cause6 s) 6
    (cond (cause7 s) 7
    0))))))
