-- `integers::dot` meets its contract: products of 32-bit and 16-bit numbers and their sum fit 64 bits. Assumes nothing.
use mir.Syntax.{w64}
use lib.IntN.{◌+ℤ◌, ◌*ℤ◌}
use Rattle.integers.proofs.Machine.{cast_gives, op_fits, op_gives}
use Rattle.integers.proofs.Products.{product_fits, products_fit}
use Rattle.integers.proofs.dot.Goals as goal

pub overflow_add-result : goal.overflow_add-result
overflow_add-result c =
    op_fits {w = w64} (op_gives {w = w64} (cast_gives w64 c.ranges.ax tt) (cast_gives w64 c.ranges.bx tt) ◌*ℤ◌ (product_fits c.ranges.ax c.ranges.bx tt))
    (op_gives {w = w64} (cast_gives w64 c.ranges.ay tt) (cast_gives w64 c.ranges.by tt) ◌*ℤ◌ (product_fits c.ranges.ay c.ranges.by tt)) ◌+ℤ◌
    (products_fit c.ranges.ax c.ranges.bx c.ranges.ay c.ranges.by tt)

pub returns : goal.returns
returns c =
    op_gives {w = w64} (op_gives {w = w64} (cast_gives w64 c.ranges.ax tt) (cast_gives w64 c.ranges.bx tt) ◌*ℤ◌ (product_fits c.ranges.ax c.ranges.bx tt))
    (op_gives {w = w64} (cast_gives w64 c.ranges.ay tt) (cast_gives w64 c.ranges.by tt) ◌*ℤ◌ (product_fits c.ranges.ay c.ranges.by tt)) ◌+ℤ◌
    (products_fit c.ranges.ax c.ranges.bx c.ranges.ay c.ranges.by tt)
