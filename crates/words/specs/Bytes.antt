-- Lists of bytes.
use Rattle.std.specs.Prelude.{List, ℕ, ◌<◌, get_or}

-- Every element is a byte. (Past the end stands 0, which is one.)
abbrev pub AreBytes : List ℕ → Type 0
AreBytes s = (i : ℕ) → get_or s i 0 < 256
