use mathlib.Core.Path.{◌≡◌, subst}
use Prim.Native.Nat.{◌+◌, ◌-◌}
use native.Mathlib.Omega.{arith}
use Rattle.bounding.specs.Trimmed.{Shrunk}
use Rattle.bounding.proofs.Bounds.{shrunk-none, shrunk-more}
use Rattle.bounding.proofs.shrinking.shrink.Goals as goal

pub loop-k-init : goal.loop-k-init
loop-k-init c = shrunk-none _ _ _ _

pub is_clear-requires : goal.is_clear-requires
is_clear-requires c = (
  c.requires.0,
  omega (arith, c.requires.1, c.loop-k.invariant.within, c.loop-k-test.true),
  c.requires.2,
)

pub returns-then-not-is_clear : goal.returns-then-not-is_clear
returns-then-not-is_clear c =
    let e : c.loop-k.k ≡ c.loop-k.k - 1 + 1 = omega (arith, c.loop-k-test.true) in
    subst (Shrunk c.args.plan.now.types c.args.plan.now.words c.args.span c.args.work.now) e c.loop-k.invariant

pub loop-k-preserved : goal.loop-k-preserved
loop-k-preserved c = shrunk-more _ _ _ c.loop-k.k _ c.loop-k.invariant c.loop-k-test.true
    (c.is_clear.ensures c.if-not-is_clear.false)

pub returns : goal.returns
returns c =
    let e : c.loop-k.k ≡ 0 = omega (arith, c.loop-k-test.false) in
    subst (Shrunk c.args.plan.now.types c.args.plan.now.words c.args.span c.args.work.now) e c.loop-k.invariant
