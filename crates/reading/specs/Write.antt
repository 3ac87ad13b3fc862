-- The numbers that read writes, part by part.
use Rattle.std.specs.Prelude.{cond, List, [], ◌∷◌, ◌++◌, map, ℕ, length}
use Rattle.model.specs.Content.{SpacingClass, Job, kind_count, piece_count}
use Rattle.model.specs.Format.{marks_cut, gap_meant, many, read_part, read_kind}
use Rattle.model.specs.Lists.{concat}
use Rattle.model.specs.Services.{class_numbers, part_numbers, kind_numbers}
use Rattle.records.specs.Records.{values_of}

-- The numbers of the n parts at the front.
abbrev pub parts_numbers : ℕ → List ℕ → List ℕ
parts_numbers n s = concat (map part_numbers (values_of (many read_part n s)))

-- The numbers of the n types at the front.
abbrev pub kinds_numbers : ℕ → List ℕ → List ℕ
kinds_numbers n s = concat (map kind_numbers (values_of (many read_kind n s)))

-- What a gap byte says: the gap, and the mark behind it.
abbrev pub gap_numbers : ℕ → List ℕ
gap_numbers b = gap_meant b ∷ cond (marks_cut b) 1 0 ∷ []

-- The numbers of classes.
abbrev pub classes_numbers : List SpacingClass → List ℕ
classes_numbers cs = concat (map class_numbers cs)

-- What stands in the answer in front of the types.
abbrev pub front_numbers : Job → List ℕ
front_numbers j = j.sheet.W ∷ j.sheet.L ∷ j.sheet.g ∷ length j.classes ∷ classes_numbers j.classes

-- The types and the number of pieces.
abbrev pub back_numbers : Job → List ℕ
back_numbers j = (kind_count j.kinds ∷ concat (map kind_numbers j.kinds)) ++ (piece_count j.kinds ∷ [])
