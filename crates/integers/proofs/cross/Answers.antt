-- `integers::cross` meets its contract: the opposite of a 16-bit number fits 32 bits, and the dot product with the turned vector is the cross product. Assumes nothing.
use mathlib.Core.Path.{refl, ◌∙◌}
use borrow.Author.Rules.{sfits_of}
use lib.IntN.{ℤ, pos, ◌+ℤ◌, ◌-ℤ◌, ◌*ℤ◌}
use mir.Syntax.{w16, w32, w64}
use mir.Val.{SFits}
use mir.ValLaws.{to_z-of_z}
use Rattle.integers.proofs.Machine.{cast_gives, op_gives}
use Rattle.integers.proofs.Sizes.{sized}
use Rattle.integers.proofs.Solver.{ring, #, ◌⊞◌, ◌⊟◌, ◌⊠◌, ◌≈◌}
use Rattle.integers.proofs.cross.Goals as goal

-- the opposite of a number of 16 bits
opposite-fits : (z : ℤ) → SFits w16 z → SFits w32 (pos 0 -ℤ z)
opposite-fits = sized w16 w32 1 (λ z. # (pos 0) ⊟ z) tt

pub returns : goal.returns
returns c =
    to_z-of_z w64 c.dot.result (sfits_of c.dot.type_inv) ∙ c.dot.ensures
    ∙ (λ i. cast_gives w32 c.ranges.by tt i *ℤ to_z-of_z w16 c.args.ax c.ranges.ax i
    +ℤ op_gives {w = w32} {x = pos 0} refl (cast_gives w32 c.ranges.bx tt) ◌-ℤ◌ (opposite-fits c.args.bx c.ranges.bx) i *ℤ to_z-of_z w16 c.args.ay c.ranges.ay i)
    ∙ ring 4 (λ ax ay bx by. by ⊠ ax ⊞ (# (pos 0) ⊟ bx) ⊠ ay ≈ ax ⊠ by ⊟ ay ⊠ bx) tt c.args.ax c.args.ay c.args.bx c.args.by
