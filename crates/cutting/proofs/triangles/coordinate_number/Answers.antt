use mathlib.Core.Path.{ap, ◌∙◌}
use native.Mathlib.Omega.{arith}
use mir.Syntax.{w8, w16}
use mir.Val.{of_z}
use mir.ValLaws.{to_z-of_z}
use borrow.Author.Rules.{sfits_of}
use Rattle.cutting.proofs.TriangleLaws.{coordinate-bits}
use Rattle.cutting.proofs.triangles.coordinate_number.Goals as goal

pub returns : goal.returns
returns c = (
  c.from-2.ensures ∙ c.cast_unsigned.ensures
      ∙ ap (of_z w16) (to_z-of_z w16 c.from.result (sfits_of c.from.type_inv) ∙ c.from.ensures ∙ to_z-of_z w8 c.args.z
      c.ranges.z)
      ∙ coordinate-bits c.args.z,
  omega (arith, c.cast_unsigned.type_inv, c.from-2.ensures),
)
