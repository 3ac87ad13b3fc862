-- Records as the readers of the code see them: how many bytes they take, and what they hold.
use Rattle.std.specs.Prelude.{List, [], ◌≡◌, ℕ, Option, Some, None}
use Rattle.model.specs.Format.{Got, bad, got}

module _ {A : Type 0} where
  -- The bytes that were taken. A part and a kind take some, so 0 says that none can stand there.
  unfoldable pub size_of : Got A → ℕ
  size_of bad = 0
  size_of (got a k) = k

  -- How many bytes were taken, if there was something to read.
  unfoldable pub taken : Got A → Option ℕ
  taken bad = None
  taken (got a k) = Some k

  -- What was read.
  unfoldable pub value_of : A → Got A → A
  value_of d bad = d
  value_of d (got a k) = a

  -- The records that were read.
  unfoldable pub values_of : Got (List A) → List A
  values_of bad = []
  values_of (got xs k) = xs

  -- The records could be read, and took m bytes.
  abbrev pub Reads : Got (List A) → ℕ → Type 0
  Reads g m = g ≡ got (values_of g) m
