-- `bounding::lowering::lower` meets its contract.
use native.Mathlib.Omega.{arith}
use Rattle.bounding.proofs.lowering.lower.Goals as goal

pub trim-requires : goal.trim-requires
trim-requires c = c.requires

pub shrink-requires : goal.shrink-requires
shrink-requires c = (
  c.requires.plan_of.0,
  c.requires.plan_of.1,
  omega (
    arith,
    c.trim.auto.work,
    c.requires.admitted.0,
  ),
)

pub returns : goal.returns
returns c = record {
  trimmed = c.trim.ensures;
  shrunk = rw (c.requires.plan_of.0.types, c.requires.plan_of.0.words) at
      c.shrink.ensures;
}
