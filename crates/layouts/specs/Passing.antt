-- What the code tests of a layout's order, by the number of a board's rows. The laws say that this is the model's `in_order`.
use Rattle.std.specs.Prelude.{Bool, cond, List, ℕ, ◌+◌, ◌*◌, ltb, eqb}
use Rattle.model.specs.Layout.{Entry}
use Rattle.model.specs.Services.{entry_in}

-- "Its number is (c × R + r) × 4 + turn", on a board of so many rows.
abbrev pub number_by : ℕ → Entry → ℕ
number_by rows e = (e.place.column * rows + e.place.row) * 4 + e.place.rotation

-- "ordered by type, and within a type by strictly rising candidate number"
unfoldable pub in_order_by : ℕ → Entry → Entry → Bool
in_order_by rows e f = cond (eqb e.kind f.kind) (ltb (number_by rows e) (number_by rows f)) (ltb e.kind f.kind)

-- Entry i of the layout whose bytes are s stands in order before the next one.
abbrev pub ordered_at : ℕ → List ℕ → ℕ → Bool
ordered_at rows s i = in_order_by rows (entry_in s i) (entry_in s (i + 1))
