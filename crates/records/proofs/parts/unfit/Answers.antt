use mathlib.Core.Bool.{not, ◌||◌}
use mathlib.Core.Path.{sym, ap, ap₂, ◌∙◌}
use native.Mathlib.Omega.{arith}
use Rattle.model.specs.Format.{vertex_in_range}
use Rattle.model.specs.Geometry.{sound}
use Rattle.model.specs.Lists.{all}
use Rattle.records.proofs.PartLaws.{part-in, unfit_same}
use Rattle.records.proofs.parts.unfit.Goals as goal

pub returns : goal.returns
returns c =
    let e = part-in c.args.part.now c.args.n _ _ (omega arith) c.requires.1 c.corners_in-all.ensures in
    ap₂ (λ a b. not a || not b) (c.sound.ensures ∙ ap sound e) (c.in_range.ensures ∙ ap (all vertex_in_range) e)
    ∙ sym (unfit_same c.args.part.now c.args.n)
