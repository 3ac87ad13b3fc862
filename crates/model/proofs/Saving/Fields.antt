-- What the trailer of a written job says, and what stands where it points.
use mathlib.Core.Bool.{Bool, true, false, ◌&&◌}
use mathlib.Core.List.{List, [], ◌∷◌, ◌++◌, map, append_assoc, append-nil}
use mathlib.Core.Path.{◌≡◌, refl, sym, ap, ap₂, ◌∙◌}
use Prim.Native.Nat.{ℕ, zero, suc, ◌+◌, ◌*◌, ◌≤◌, ◌<◌}
use native.Mathlib.Nat.{add-zero, not-suc-le-zero}
use native.Mathlib.Omega.{arith}
use borrow.Author.Tests.{lt-leb}
use lib.Dec.{eqb, leb}
use lib.ListN.{length, get_or, take, drop, length-append, length-map}
use lib.Seq.{take-append_seam, drop-append_seam, get_or-append-add, ext_get_or}
use Rattle.words.proofs.Place.{number_at-second}
use Rattle.words.specs.Number.{value, bytes, number_at}
use Rattle.model.proofs.CommonCut.{meant}
use Rattle.model.proofs.Lists.{length-below, get_or-map-below}
use Rattle.model.specs.Content.{Kind, SpacingClass, spacing_class, Board, board, Job}
use Rattle.model.specs.Format.{byte_at, word_at, trailer_at, board_at, classes_at, kinds_at, kinds_length, classes_stated, kinds_stated, length_stated, marked, board_from, board_of, marks_cut, gap_meant, class_of_bytes, class_from, class_at, classes_of, kind_bytes, kinds_got, got, many, read_kind}
use Rattle.model.specs.Lists.{concat, below, between}
use Rattle.model.specs.ContentFit.{Each, BoardFit, ClassFit, KindFit}
use Rattle.model.specs.Saving.{kind_record, kind_list, gap_byte, class_record, class_list, board_record, section_bytes, pointer_bytes, trailer_bytes, written}
use Rattle.model.proofs.Records.{between-of}
use Rattle.model.proofs.Saving.Reading.{many-written, kind-written}

-- ---- Sizes

pub board-size : (b : Board) → length (board_record b) ≡ 6
unfolding board_record bytes
board-size b = refl

pub classes-size : (cs : List SpacingClass) → length (class_list cs) ≡ length cs * 3
unfolding class_list class_record concat
classes-size [] = refl
classes-size (c ∷ cs) = omega (arith, classes-size cs)

trailer_size : (c n m : ℕ) → length (trailer_bytes c n m) ≡ 14
unfolding trailer_bytes pointer_bytes bytes
trailer_size c n m = refl

-- ---- The trailer's numbers, with anything behind them

module _ (c n m w : ℕ) (rest : List ℕ) where
  word0 : word_at (pointer_bytes c n m w ++ rest) 0 ≡ 0
  unfolding pointer_bytes bytes word_at number_at value
  word0 = omega arith

  word2 : word_at (pointer_bytes c n m w ++ rest) 2 ≡ 6
  unfolding pointer_bytes bytes word_at number_at value
  word2 = omega arith

  word4 : 6 + c * 3 < 65536 → word_at (pointer_bytes c n m w ++ rest) 4 ≡ 6 + c * 3
  unfolding pointer_bytes bytes word_at number_at value
  word4 h = omega arith

  word6 : m < 65536 → word_at (pointer_bytes c n m w ++ rest) 6 ≡ m
  unfolding pointer_bytes bytes word_at number_at value
  word6 h = omega arith

  byte8 : byte_at (pointer_bytes c n m w ++ rest) 8 ≡ c
  unfolding pointer_bytes bytes byte_at
  byte8 = refl

  byte9 : byte_at (pointer_bytes c n m w ++ rest) 9 ≡ n
  unfolding pointer_bytes bytes byte_at
  byte9 = refl

  word10 : w < 65536 → word_at (pointer_bytes c n m w ++ rest) 10 ≡ w
  unfolding pointer_bytes bytes word_at number_at value
  word10 h = omega arith

  -- The bytes behind them.
  byte12 : (i : ℕ) → byte_at (pointer_bytes c n m w ++ rest) (12 + i) ≡ byte_at rest i
  unfolding pointer_bytes bytes byte_at
  byte12 i = get_or-append-add (pointer_bytes c n m w) rest i 0

-- ---- A trailer of 14 bytes, behind anything

module _ (p t : List ℕ) (size : length t ≡ 14) where
  trailer_behind : trailer_at (p ++ t) ≡ length p
  unfolding trailer_at
  trailer_behind = omega (arith, length-append p t)

  byte_behind : (k : ℕ) → byte_at (p ++ t) (trailer_at (p ++ t) + k) ≡ byte_at t k
  unfolding byte_at
  byte_behind k = ap (λ o. byte_at (p ++ t) (o + k)) trailer_behind ∙ get_or-append-add p t k 0

  word_behind : (k : ℕ) → word_at (p ++ t) (trailer_at (p ++ t) + k) ≡ word_at t k
  unfolding word_at
  word_behind k = ap (λ o. word_at (p ++ t) (o + k)) trailer_behind ∙ number_at-second 2 p t k

-- ---- Sections, with anything before and behind them

-- The bytes of a section.
section-there : (p q r : List ℕ) → take (length q) (drop (length p) (p ++ (q ++ r))) ≡ q
section-there p q r = ap (take (length q)) (drop-append_seam p (q ++ r)) ∙ take-append_seam q r

-- The board that stands at a place.
board-there : (p r : List ℕ) (b : Board) → BoardFit b → board_from (p ++ (board_record b ++ r)) (length p) ≡ b
unfolding board_record bytes word_at number_at value
board-there p r b h =
    let s : List ℕ = p ++ (board_record b ++ r) in
    let at : (k : ℕ) → word_at s (length p + k) ≡ word_at (board_record b ++ r) k = number_at-second 2 p (board_record b ++ r) in
    let w : word_at (board_record b ++ r) 0 ≡ b.W = omega (arith, h.width_most) in
    let l : word_at (board_record b ++ r) 2 ≡ b.L = omega (arith, h.length_most) in
    let g : word_at (board_record b ++ r) 4 ≡ b.g = omega (arith, h.step_most) in
    let first : word_at s (length p) ≡ b.W = ap (word_at s) (sym (add-zero (length p))) ∙ at 0 ∙ w in
    let second : word_at s (length p + 2) ≡ b.L = at 2 ∙ l in
    let third : word_at s (length p + 4) ≡ b.g = at 4 ∙ g in
    λ i. board (first i) (second i) (third i)

-- The gap byte of a class means its gap, and marks it if it is marked.
module _ (i r g : ℕ) (small : g ≤ 63) where
  abbrev class_of : Bool → SpacingClass
  class_of t = spacing_class i r g t

  byte_decoded : (t : Bool) → (marks_cut (gap_byte (class_of t)) ≡ t) × (gap_meant (gap_byte (class_of t)) ≡ g)
  unfolding gap_byte marks_cut between
  byte_decoded true =
      let m : marks_cut (128 + g) ≡ true = between-of 128 191 (128 + g) (omega arith) (omega arith) in
      (m, meant (128 + g) true m ∙ omega arith)
  byte_decoded false =
      let m : marks_cut g ≡ false = ap (λ b. b && leb g 191) (lt-leb 128 g (omega arith)) in
      (m, meant g false m)

-- The three bytes of a class say what it is.
class-decoded : (c : SpacingClass) → ClassFit c → class_of_bytes c.id c.rank (gap_byte c) ≡ c
class-decoded c h =
    let d = byte_decoded c.id c.rank c.gap h.gap_most c.common_cut in
    ap₂ (spacing_class c.id c.rank) d.1 d.0

-- Class i of the list that stands at a place.
abbrev class_in : List ℕ → ℕ → ℕ → SpacingClass
class_in s o i = class_from s (o + i * 3)

class-of_bytes : (s t : List ℕ) (o i m k : ℕ) → ((n : ℕ) → byte_at s (o + i * 3 + n) ≡ byte_at t (m + k * 3 + n)) → class_in s o i ≡ class_in t m k
class-of_bytes s t o i m k f =
    let a : byte_at s (o + i * 3) ≡ byte_at t (m + k * 3) = ap (byte_at s) (sym (add-zero (o + i * 3))) ∙ f 0 ∙ ap (byte_at t) (add-zero (m + k * 3)) in
    let b = f 1 in
    let c = f 2 in
    rw (a, b, c)

-- The classes at the front of some bytes.
class-there_first : (cs : List SpacingClass) (i : ℕ) (rest : List ℕ) (d : SpacingClass) → Each ClassFit cs → i < length cs
    → class_in (class_list cs ++ rest) 0 i ≡ get_or cs i d
unfolding class_list class_record concat byte_at
class-there_first [] i rest d f h = absurd (not-suc-le-zero h)
class-there_first (c ∷ cs) zero rest d f h = class-decoded c f.0
class-there_first (c ∷ cs) (suc i) rest d f h =
    let s : List ℕ = class_list (c ∷ cs) ++ rest in
    class-of_bytes s (class_list cs ++ rest) 0 (suc i) 0 i (λ n. ap (byte_at s) (up (0 + suc i * 3 + n) (0 + i * 3 + n) (omega arith)))
    ∙ class-there_first cs i rest d f.1 (omega arith)
  where
    up : (m n : ℕ) → m ≡ 3 + n → m ≡ suc (suc (suc n))
    up m n e = omega arith

-- The classes that stand at a place.
classes-there : (p r : List ℕ) (cs : List SpacingClass) → Each ClassFit cs
    → map (class_in (p ++ (class_list cs ++ r)) (length p)) (below (length cs)) ≡ cs
unfolding byte_at
classes-there p r cs f =
    let s : List ℕ = p ++ (class_list cs ++ r) in
    let none : SpacingClass = class_of_bytes 0 0 0 in
    let long : length (map (class_in s (length p)) (below (length cs))) ≡ length cs =
    length-map (below (length cs)) (class_in s (length p)) ∙ length-below (length cs) in
    ext_get_or none (map (class_in s (length p)) (below (length cs))) cs long
    (λ i h.
    let l : i < length cs = rw long at h in
    get_or-map-below (class_in s (length p)) (length cs) i none l
    ∙ class-of_bytes s (class_list cs ++ r) (length p) i 0 i
    (λ n. ap (byte_at s) (omega arith) ∙ get_or-append-add p (class_list cs ++ r) (0 + i * 3 + n) 0)
    ∙ class-there_first cs i r none f l)

-- ---- In the job

module _ (j : Job) where
  abbrev cs : List SpacingClass
  cs = j.classes

  abbrev ks : List Kind
  ks = j.kinds

  abbrev tail : List ℕ
  tail = trailer_bytes (length cs) (length ks) (length (kind_list ks))

  abbrev whole : ℕ
  whole = 6 + length cs * 3 + length (kind_list ks) + 14

  abbrev mark : List ℕ
  mark = 0x44 ∷ 0x42 ∷ []

  pub sections_size : length (section_bytes j) ≡ 6 + length cs * 3 + length (kind_list ks)
  unfolding section_bytes
  sections_size =
      rw (length-append (board_record j.sheet), length-append (class_list cs), board-size, classes-size) (omega arith)

  pub written-size : length (written j) ≡ 6 + length cs * 3 + length (kind_list ks) + 14
  unfolding written
  written-size = rw (length-append (section_bytes j), sections_size, trailer_size)

  -- ---- The trailer

  pub trailer_at_lem : trailer_at (written j) ≡ length (section_bytes j)
  unfolding written
  trailer_at_lem = trailer_behind (section_bytes j) tail (trailer_size (length cs) (length ks) (length (kind_list ks)))

  byte_field : (k : ℕ) → byte_at (written j) (trailer_at (written j) + k) ≡ byte_at tail k
  unfolding written
  byte_field = byte_behind (section_bytes j) tail (trailer_size (length cs) (length ks) (length (kind_list ks)))

  word_field : (k : ℕ) → word_at (written j) (trailer_at (written j) + k) ≡ word_at tail k
  unfolding written
  word_field = word_behind (section_bytes j) tail (trailer_size (length cs) (length ks) (length (kind_list ks)))

  pub classes-stated : classes_stated (written j) ≡ length cs
  unfolding classes_stated trailer_bytes
  classes-stated = byte_field 8 ∙ byte8 (length cs) (length ks) (length (kind_list ks)) whole mark

  pub kinds-stated : kinds_stated (written j) ≡ length ks
  unfolding kinds_stated trailer_bytes
  kinds-stated = byte_field 9 ∙ byte9 (length cs) (length ks) (length (kind_list ks)) whole mark

  mark_field : (i : ℕ) → byte_at (written j) (trailer_at (written j) + (12 + i)) ≡ byte_at mark i
  unfolding trailer_bytes
  mark_field i = byte_field (12 + i) ∙ byte12 (length cs) (length ks) (length (kind_list ks)) whole mark i

  pub is_marked : marked (written j) ≡ true
  unfolding marked byte_at
  is_marked = ap₂ (λ a b. eqb a 0x44 && eqb b 0x42) (mark_field 0) (mark_field 1)

  -- The job is its sections, one after the other, and the trailer.
  in_order_lem : written j ≡ board_record j.sheet ++ (class_list cs ++ (kind_list ks ++ tail))
  unfolding written section_bytes
  in_order_lem = simp append_assoc

  -- What stands before the types.
  abbrev front : List ℕ
  front = board_record j.sheet ++ class_list cs

  front_size : length front ≡ 6 + length cs * 3
  front_size = length-append (board_record j.sheet) (class_list cs) ∙ ap₂ (λ a b. a + b) (board-size j.sheet) (classes-size cs)

  in_two : written j ≡ front ++ (kind_list ks ++ tail)
  in_two = in_order_lem ∙ sym (append_assoc (board_record j.sheet) (class_list cs) (kind_list ks ++ tail))

  pub board-at : board_at (written j) ≡ 0
  unfolding board_at trailer_bytes
  board-at =
      ap (word_at (written j)) (sym (add-zero (trailer_at (written j)))) ∙ word_field 0
      ∙ word0 (length cs) (length ks) (length (kind_list ks)) whole mark

  pub classes-at : classes_at (written j) ≡ 6
  unfolding classes_at trailer_bytes
  classes-at = word_field 2 ∙ word2 (length cs) (length ks) (length (kind_list ks)) whole mark

  -- ---- The sections

  pub board-written : BoardFit j.sheet → board_of (written j) ≡ j.sheet
  unfolding board_of
  board-written h =
      ap₂ board_from in_order_lem board-at ∙ board-there [] (class_list cs ++ (kind_list ks ++ tail)) j.sheet h

  pub classes-written : Each ClassFit cs → classes_of (written j) ≡ cs
  unfolding classes_of class_at
  classes-written h =
      ap (λ n. map (class_at (written j)) (below n)) classes-stated
      ∙ ap₂ (λ s o. map (class_in s o) (below (length cs))) in_order_lem (classes-at ∙ sym (board-size j.sheet))
      ∙ classes-there (board_record j.sheet) (kind_list ks ++ tail) cs h

  module _ (short : length (written j) ≤ 1024) where
    small : 6 + length cs * 3 + length (kind_list ks) + 14 ≤ 1024
    small = omega (arith, written-size)

    pub kinds-at : kinds_at (written j) ≡ 6 + length cs * 3
    unfolding kinds_at trailer_bytes
    kinds-at = word_field 4 ∙ word4 (length cs) (length ks) (length (kind_list ks)) whole mark (omega (arith, small))

    pub kinds-length : kinds_length (written j) ≡ length (kind_list ks)
    unfolding kinds_length trailer_bytes
    kinds-length = word_field 6 ∙ word6 (length cs) (length ks) (length (kind_list ks)) whole mark (omega (arith, small))

    pub length-stated : length_stated (written j) ≡ length (written j)
    unfolding length_stated trailer_bytes
    length-stated = word_field 10 ∙ word10 (length cs) (length ks) (length (kind_list ks)) whole mark (omega (arith, small)) ∙ sym written-size

    pub kind-bytes : kind_bytes (written j) ≡ kind_list ks
    unfolding kind_bytes
    kind-bytes =
        ap₂ (λ n o. take n (drop o (written j))) kinds-length (kinds-at ∙ sym front_size)
        ∙ ap (λ s. take (length (kind_list ks)) (drop (length front) s)) in_two
        ∙ section-there front (kind_list ks) tail

    pub kinds-written : Each (KindFit cs) ks → kinds_got (written j) ≡ got ks (length (kind_list ks))
    unfolding kinds_got kind_list
    kinds-written h =
        ap₂ (λ n s. many read_kind n s) kinds-stated kind-bytes
        ∙ ap (many read_kind (length ks)) (sym (append-nil (kind_list ks)))
        ∙ many-written read_kind kind_record (KindFit cs) (kind-written cs) ks h []
