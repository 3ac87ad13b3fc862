use mathlib.Core.Path.{refl, ◌∙◌}
use Rattle.frame.proofs.TrailerLaws.{marked-is}
use Rattle.model.specs.Format.{trailer_at, board_at, classes_at, kinds_at}
use Rattle.model.specs.Format.{kinds_length, classes_stated, kinds_stated, length_stated}
use Rattle.frame.proofs.trailer.read_trailer.Goals as goal

pub returns : goal.returns
unfolding trailer_at board_at classes_at kinds_at kinds_length classes_stated kinds_stated length_stated
returns c =
    record {
      board = c.word.ensures.0;
      classes = c.word-2.ensures.0;
      kinds = c.word-3.ensures.0;
      kinds_length = c.word-4.ensures.0;
      class_count = c.byte.ensures.0;
      kind_count = c.byte-2.ensures.0;
      stated = c.word-5.ensures.0;
      marked = c.ends_with.ensures.value ∙ marked-is c.args.job.now c.requires;
      place = refl;
      board_fits = c.word.ensures.1;
      classes_fit = c.word-2.ensures.1;
      kinds_fit = c.word-3.ensures.1;
      kinds_length_fits = c.word-4.ensures.1;
      class_count_fits = c.byte.ensures.1;
      kind_count_fits = c.byte-2.ensures.1;
    }
