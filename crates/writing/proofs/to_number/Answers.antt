use mathlib.Core.Path.{ap, ◌∙◌}
use borrow.Author.Rules.{sfits_of}
use mir.Syntax.{w16}
use mir.Val.{of_z}
use mir.ValLaws.{to_z-of_z}
use Rattle.integers.specs.Byte.{signed}
use Rattle.writing.specs.Numbers.{as_number}
use Rattle.writing.proofs.NumberLaws.{coordinate-bits}
use Rattle.writing.proofs.to_number.Goals as goal

pub returns-then-coordinate : goal.returns-then-coordinate
unfolding as_number
returns-then-coordinate c =
    rw c.if-coordinate.true
    (c.cast_unsigned.ensures ∙ ap (of_z w16) (to_z-of_z w16 c.byte_to_i16.result (sfits_of c.byte_to_i16.type_inv)
    ∙ c.byte_to_i16.ensures)
    ∙ coordinate-bits (signed c.args.b))

pub returns-else-coordinate : goal.returns-else-coordinate
unfolding as_number
returns-else-coordinate c = rw c.if-coordinate.false c.from.ensures
