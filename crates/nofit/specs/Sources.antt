-- The bits of a string by what it is filled from.
use Rattle.std.specs.Prelude.{Bool, ℕ}
use Rattle.nofit.specs.Filling.{conflict_at_dot, blocked_at_dot, blocked_turned, blocked_bit}
use Rattle.nofit.specs.declared.patterns.Dot.{Dot}
use Rattle.nofit.specs.declared.patterns.Facing.{Facing}
use Rattle.nofit.specs.declared.patterns.Source.{Source}

-- The two pieces are in conflict at the offset of a dot; bit z is set, which belongs to this dot; the same by the bit's number alone.
abbrev pub conflict_facing : Facing → Dot → Bool
conflict_facing f d = conflict_at_dot f.turned.now f.pattern f.placed.piece f.other.piece d

abbrev pub blocked_facing : Facing → ℕ → Dot → Bool
blocked_facing f z d = blocked_at_dot f.turned.now f.pattern f.placed.piece f.other.piece z d

abbrev pub bit_facing : Facing → ℕ → Bool
bit_facing f z = blocked_turned f.turned.now f.pattern f.placed.piece f.other.piece z

-- Bit z of the string.
abbrev pub source_bit : Source → ℕ → Bool
source_bit f z = blocked_bit f.turned.now f.pattern f.placed.piece f.other z
