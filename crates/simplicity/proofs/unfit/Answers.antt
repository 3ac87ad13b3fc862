use mathlib.Core.Path.{sym, ap, ◌∙◌}
use native.Mathlib.Omega.{arith}
use lib.ListN.{length}
use mir.Syntax.{w64}
use mir.ValLaws.{to_z-of_z}
use borrow.Author.Rules.{sfits_of}
use Rattle.simplicity.proofs.CornerLaws.{outline-is, outline_length}
use Rattle.simplicity.proofs.RefusalLaws.{refused, at_least, at_most, room, judged}
use Rattle.simplicity.proofs.unfit.Goals as goal

pub returns-then-miscounted : goal.returns-then-miscounted
returns-then-miscounted c = refused c.args.outline.now (sym c.miscounted.ensures ∙ c.if-miscounted.true)

pub corners_in-all-requires : goal.corners_in-all-requires
corners_in-all-requires c = omega (arith, room c.args.outline.now (sym c.miscounted.ensures ∙ c.if-miscounted.false))

pub shared_whole_as_front-corners : goal.shared_whole_as_front-corners
shared_whole_as_front-corners c = (
  at_most c.args.outline.now (sym c.miscounted.ensures ∙ c.if-miscounted.false),
  omega
      arith,
)

pub edges_meet-requires : goal.edges_meet-requires
edges_meet-requires c =
    omega (
      arith,
      at_least c.args.outline.now (sym c.miscounted.ensures ∙ c.if-miscounted.false),
      ap length c.corners_in-all.ensures,
      outline_length c.args.outline.now,
    )

pub returns : goal.returns
returns c =
    judged c.args.outline.now (sym c.miscounted.ensures ∙ c.if-miscounted.false) _ (c.corners_in-all.ensures ∙
    outline-is c.args.outline.now) _ _ _
    c.in_range.ensures (to_z-of_z w64 _ (sfits_of c.doubled_area.type_inv) ∙ c.doubled_area.ensures)
    c.edges_meet.ensures
