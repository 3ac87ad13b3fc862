-- `polygons::extents::join` meets its contract: each side is the smaller or the larger of the two boxes'. Assumes
-- nothing.
use mathlib.Core.Path.{◌∙◌}
use borrow.Author.Rules.{sfits_of}
use mir.Syntax.{w16}
use mir.ValLaws.{to_z-of_z}
use Rattle.std.specs.Int.{int_max, int_min}
use Rattle.integers.proofs.Machine.{read₂}
use Rattle.polygons.specs.Boxes.{joined}
use Rattle.polygons.proofs.BoxLaws.{same-box, min-is, max-is}
use Rattle.polygons.proofs.extents.join.Goals as goal

pub returns : goal.returns
unfolding joined
returns c =
    let e = c.struct_told-1.given in
    let f = c.struct_told-2-1.given in
    same-box
    (to_z-of_z w16 _ (sfits_of c.min.type_inv) ∙ c.min.ensures.value
    ∙ read₂ w16 c.args.e.min_x c.args.f.min_x (sfits_of e.0.1) (sfits_of f.0.1)
    int_min ∙ min-is c.args.e.min_x c.args.f.min_x)
    (to_z-of_z w16 _ (sfits_of c.max.type_inv) ∙ c.max.ensures.value
    ∙ read₂ w16 c.args.e.max_x c.args.f.max_x (sfits_of e.1.0.1) (sfits_of f.1.0.1)
    int_max ∙ max-is c.args.e.max_x c.args.f.max_x)
    (to_z-of_z w16 _ (sfits_of c.min-2.type_inv) ∙ c.min-2.ensures.value
    ∙ read₂ w16 c.args.e.min_y c.args.f.min_y (sfits_of e.1.1.0.1) (sfits_of f.1.1.0.1)
    int_min ∙ min-is c.args.e.min_y c.args.f.min_y)
    (to_z-of_z w16 _ (sfits_of c.max-2.type_inv) ∙ c.max-2.ensures.value
    ∙ read₂ w16 c.args.e.max_y c.args.f.max_y (sfits_of e.1.1.1.0.1) (sfits_of f.1.1.1.0.1)
    int_max ∙ max-is c.args.e.max_y c.args.f.max_y)
