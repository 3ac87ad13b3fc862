-- `integers::byte_to_i16` meets its contract.
use mathlib.Core.Path.{sym, ◌∙◌}
use mir.Syntax.{w8, w16}
use mir.ValLaws.{to_z-of_z}
use borrow.Author.Rules.{sfits_of}
use Rattle.integers.proofs.Bytes.{signed-to_z}
use Rattle.integers.proofs.byte_to_i16.Goals as goal

pub returns : goal.returns
returns c =
    to_z-of_z w16 c.from.result (sfits_of c.from.type_inv) ∙ c.from.ensures
    ∙ to_z-of_z w8 c.cast_signed.result (sfits_of c.cast_signed.type_inv) ∙ c.cast_signed.ensures
    ∙ sym (signed-to_z c.args.b c.ranges.b)
