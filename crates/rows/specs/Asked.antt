-- The row that is asked for, by the model.
use Rattle.std.specs.Prelude.{Bool, List, ℕ}
use Rattle.model.specs.Services.{row_bit, row_words}
use Rattle.candidates.specs.Prepared.{problem_in}
use Rattle.rows.specs.declared.asked.Asked.{Asked}

-- "a bit is set where that type's candidate of that number exists and is in conflict"
abbrev pub bit_for : Asked → ℕ → Bool
bit_for a m = row_bit (problem_in a.prepared.now) a.kind a.number a.other m

abbrev pub words_for : Asked → List ℕ
words_for a = row_words (problem_in a.prepared.now) a.kind a.number a.other
