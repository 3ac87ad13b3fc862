use mathlib.Core.Bool.{◌&&◌}
use mathlib.Core.Path.{ap, ap₂, ◌∙◌}
use lib.Dec.{leb}
use Rattle.model.specs.Format.{gap_meant, class_in_range}
use Rattle.records.proofs.classes.in_range.Goals as goal

pub returns : goal.returns
unfolding class_in_range
returns c = ap₂ ◌&&◌ (ap₂ ◌&&◌ (ap (λ n. leb n 7) c.byte.ensures.0) (ap (λ n. leb n 255) c.byte-2.ensures.0)) (ap (λ n. leb n 63) (c.gap_meant.ensures ∙ ap gap_meant c.byte-3.ensures.0))
