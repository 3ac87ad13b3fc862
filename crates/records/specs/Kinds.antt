-- What is asked of the type list.
use Rattle.std.specs.Prelude.{Bool, not, ◌||◌, List, ℕ, eqb, length}
use Rattle.words.specs.Bits.{test_bit}
use Rattle.model.specs.Content.{SpacingClass}
use Rattle.model.specs.Format.{kinds_unfit, many, read_kind}
use Rattle.model.specs.Lists.{all, any, below}

-- The class mask names this id.
abbrev pub named : ℕ → ℕ → Bool
named mask i = test_bit mask i

-- There is a class of this id.
unfoldable pub present : List SpacingClass → ℕ → Bool
present cs i = any (λ c. eqb c.id i) cs

-- The mask does not name this id, or there is a class of it.
unfoldable pub not_absent : List SpacingClass → ℕ → ℕ → Bool
not_absent cs mask i = not (test_bit mask i) || present cs i

-- Every id that the mask names is that of a class.
unfoldable pub absent_none : List SpacingClass → ℕ → Bool
absent_none cs mask = all (not_absent cs mask) (below 8)

unfoldable pub list_unfit : List SpacingClass → List ℕ → ℕ → Bool
list_unfit cs list n = kinds_unfit cs (length list) (many read_kind n list)
