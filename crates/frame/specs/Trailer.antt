-- What the trailer that was read says.
use Rattle.std.specs.Prelude.{List, ◌≡◌, ℕ, ◌<◌}
use Rattle.model.specs.Format.{trailer_at, board_at, classes_at, kinds_at, kinds_length, classes_stated, kinds_stated, length_stated, marked}
use Rattle.frame.specs.declared.trailer.Trailer.{Trailer}

-- The fields are those of the job's bytes, and none is larger than its bytes allow.
pub record TrailerOf (s : List ℕ) (t : Trailer) : Type 0 where
  pub board : t.board ≡ board_at s
  pub classes : t.classes ≡ classes_at s
  pub kinds : t.kinds ≡ kinds_at s
  pub kinds_length : t.kinds_length ≡ kinds_length s
  pub class_count : t.class_count ≡ classes_stated s
  pub kind_count : t.kind_count ≡ kinds_stated s
  pub stated : t.stated ≡ length_stated s
  pub marked : t.marked ≡ marked s
  pub place : t.at ≡ trailer_at s
  pub board_fits : t.board < 65536
  pub classes_fit : t.classes < 65536
  pub kinds_fit : t.kinds < 65536
  pub kinds_length_fits : t.kinds_length < 65536
  pub class_count_fits : t.class_count < 256
  pub kind_count_fits : t.kind_count < 256
