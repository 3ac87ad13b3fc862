-- Cause 3 of the sections that were read.
use mathlib.Core.Bool.{Bool, not, ◌||◌}
use mathlib.Core.List.{List}
use mathlib.Core.Path.{◌≡◌}
use Prim.Native.Nat.{ℕ, ◌+◌, ◌*◌}
use lib.Dec.{leb}
use Rattle.model.specs.Format.{section, trailer_at, board_at, classes_at, classes_stated, kinds_at, kinds_length, in_place, share_byte, board_section, classes_section, kinds_section, cause3}

-- A test of each of three sections, and a test of each two of them, where offsets and sizes are those of the job.
pub judged : (s : List ℕ) (at b m c n k l : ℕ) (in1 in2 in3 share1 share2 share3 : Bool)
    → in1 ≡ leb (b + m) at → in2 ≡ leb (c + n) at → in3 ≡ leb (k + l) at
    → share1 ≡ share_byte (section b m) (section c n) → share2 ≡ share_byte (section b m) (section k l) → share3 ≡ share_byte (section c n) (section k l)
    → at ≡ trailer_at s → b ≡ board_at s → m ≡ 6 → c ≡ classes_at s → n ≡ classes_stated s * 3 → k ≡ kinds_at s → l ≡ kinds_length s
    → (not in1 || not in2 || not in3 || share1 || share2 || share3) ≡ cause3 s
unfolding cause3 in_place board_section classes_section kinds_section
judged s at b m c n k l in1 in2 in3 share1 share2 share3 e1 e2 e3 f1 f2 f3 ea eb em ec en ek el =
    rw (e1, e2, e3, f1, f2, f3, ea, eb, em, ec, en, ek, el)
