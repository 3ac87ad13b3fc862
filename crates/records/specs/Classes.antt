-- The classes that stand in a job's bytes from a place on, and what is asked of them.
use Rattle.std.specs.Prelude.{Bool, not, cond, ◌||◌, List, map, ℕ, zero, suc, ◌+◌, ◌*◌, ltb, eqb}
use Rattle.model.specs.Content.{SpacingClass}
use Rattle.model.specs.Format.{byte_at, class_from, class_in_range, distinct}
use Rattle.model.specs.Lists.{all, keep, concat, below}

-- The n classes from byte o on.
abbrev pub classes_from : List ℕ → ℕ → ℕ → List SpacingClass
classes_from s o n = map (λ i. class_from s (o + i * 3)) (below n)

unfoldable pub all_in_range : List ℕ → ℕ → ℕ → Bool
all_in_range s o n = all class_in_range (classes_from s o n)

-- Entry i of the column that begins at byte o: one field of every record.
abbrev pub entry_at : List ℕ → ℕ → ℕ → ℕ
entry_at s o i = byte_at s (o + i * 3)

unfoldable pub distinct_column : List ℕ → ℕ → ℕ → Bool
distinct_column s o n = distinct (map (entry_at s o) (below n))

-- Cause 5 of the classes: ids stand in the column of the first bytes, ranks in that of the second.
unfoldable pub classes_unfit : List ℕ → ℕ → ℕ → Bool
classes_unfit s o n = ltb 8 n || not (all_in_range s o n) || not (distinct_column s o n) || not (distinct_column s (o + 1) n)

-- The first number from i on, of k, of which the test holds, and i + k where it holds of none.
unfoldable pub first_from : (ℕ → Bool) → ℕ → ℕ → ℕ
first_from p i zero = i
first_from p i (suc k) = cond (p i) i (first_from p (suc i) k)

-- Entry i of the column is this value.
unfoldable pub has_id : List ℕ → ℕ → ℕ → ℕ → Bool
has_id s o value i = eqb (entry_at s o i) value

-- The index of the first of n entries that is this value, and n where there is none.
unfoldable pub index_of : List ℕ → ℕ → ℕ → ℕ → ℕ
index_of s o n value = first_from (has_id s o value) 0 n

-- The classes of this id.
abbrev pub classes_of_id : ℕ → List SpacingClass → List SpacingClass
classes_of_id i cs = keep (λ c. eqb c.id i) cs

-- The classes of the ids below i, by rising id.
abbrev pub risen_below : ℕ → List SpacingClass → List SpacingClass
risen_below i cs = concat (map (λ i. keep (λ c. eqb c.id i) cs) (below i))
