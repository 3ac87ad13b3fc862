-- `shapes::turned::turn_vertex` meets its contract. Assumes nothing.
use mathlib.Core.Path.{ap, ◌∙◌}
use borrow.Author.Rules.{rules, sfits_of}
use Rattle.model.specs.Format.{byte_at}
use Rattle.model.specs.Geometry.{rotated}
use Rattle.shapes.specs.Turned.{with_vertex}
use Rattle.shapes.proofs.TurnLaws.{byte_small, vertex-as_is}
use Rattle.shapes.proofs.turned.turn_vertex.Goals as goal

pub put_rotated-requires : goal.put_rotated-requires
put_rotated-requires c = (
  search rules,
  search rules,
  byte_small _ _ (c.shared_slice_known-1.given _) (sfits_of c.signed_byte-x.type_inv) c.signed_byte-x.ensures,
  byte_small _ _ (c.shared_slice_known-1.given _) (sfits_of c.signed_byte-y.type_inv) c.signed_byte-y.ensures,
)

pub returns : goal.returns
unfolding byte_at
returns c =
    c.put_rotated.ensures
    ∙ ap (λ v. with_vertex c.args.turned.now c.args.to (rotated c.args.k v))
    (vertex-as_is _ _ _ _ (sfits_of c.signed_byte-x.type_inv) c.signed_byte-x.ensures
    (sfits_of c.signed_byte-y.type_inv) c.signed_byte-y.ensures)
