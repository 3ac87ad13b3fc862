use mathlib.Core.Path.{ap₂, ◌∙◌}
use borrow.Author.Rules.{sfits_of}
use mir.Syntax.{w8}
use mir.ValLaws.{to_z-of_z}
use Rattle.model.specs.Content.{vertex}
use Rattle.records.proofs.CornerLaws.{byte-read}
use Rattle.records.proofs.corners.Corner.read.Goals as goal

pub returns : goal.returns
returns c =
    ap₂ vertex (to_z-of_z w8 c.cast_signed.result (sfits_of c.cast_signed.type_inv) ∙ byte-read c.args.bytes.now _ _
    (c.type_inv.bytes _) c.cast_signed.ensures)
    (to_z-of_z w8 c.cast_signed-2.result (sfits_of c.cast_signed-2.type_inv) ∙ byte-read c.args.bytes.now _ _
    (c.type_inv.bytes _) c.cast_signed-2.ensures)
