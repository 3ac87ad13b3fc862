use mathlib.Core.Bool.{◌&&◌}
use mathlib.Core.Path.{◌≡◌, sym, subst}
use Prim.Native.Nat.{ℕ, ◌+◌, ◌*◌}
use native.Mathlib.Omega.{arith}
use Rattle.words.specs.Sets.{member}
use Rattle.plans.specs.Planned.{planned}
use Rattle.live_sets.specs.Narrowing.{Filled}
use Rattle.live_sets.proofs.Filling.{filled-begin}
use Rattle.bounding.specs.Trimmed.{ends_below}
use Rattle.bounding.proofs.Bounds.{word_admitted, word_trimmed}
use borrow.Author.Rules.{rules}
use Rattle.bounding.proofs.trimming.trim_set.Goals as goal

pub loop-k-init : goal.loop-k-init
loop-k-init c = (λ i. (c.type_inv.work i).fits, filled-begin _ _ _)

pub trim_word-requires : goal.trim_word-requires
trim_word-requires c = (
  c.requires.0,
  omega (arith, c.requires.1.few),
  word_admitted (planned c.args.job.now c.args.plan.now) c.args.bound c.args.u c.args.at c.args.words c.args.work.now
      c.loop-k.work c.requires.1 c.loop-k.k (omega arith) c.loop-k.invariant.1 c.get_u64-w.result
      c.get_u64-w.ensures c.loop-k.invariant.0,
)

pub loop-k-preserved : goal.loop-k-preserved
loop-k-preserved c = (
  λ i. (c.type_inv.work i).fits,
  subst (Filled c.args.at (c.loop-k.k + 1) (λ m. member c.args.work.now (c.args.at * 64 + m) && ends_below
      (planned c.args.job.now c.args.plan.now) c.args.bound c.args.u m) c.args.work.now) (sym c.put_u64.ensures)
      (word_trimmed (planned c.args.job.now c.args.plan.now) c.args.bound c.args.u c.args.at c.args.words c.args.work.now
      c.loop-k.work c.requires.1 c.loop-k.k (omega arith) c.loop-k.invariant.1 c.get_u64-w.result
      c.get_u64-w.ensures c.trim_word.result c.trim_word.ensures (search rules) c.loop-k.auto.work),
)

pub returns : goal.returns
returns c =
    let e : c.loop-k.k ≡ c.args.words = omega arith in
    subst (λ (k : ℕ). Filled c.args.at k (λ m. member c.args.work.now (c.args.at * 64 + m) && ends_below
    (planned c.args.job.now c.args.plan.now) c.args.bound c.args.u m) c.args.work.now c.loop-k.work) e
    c.loop-k.invariant.1
