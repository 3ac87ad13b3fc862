use mathlib.Core.Path.{◌≡◌}
use Prim.Native.Nat.{◌*◌}
use native.Mathlib.Omega.{arith}
use Rattle.model.specs.Candidate.{is_candidate}
use Rattle.job.specs.View.{problem_of}
use Rattle.live_sets.proofs.Filling.{filled-begin, filled_next, bits-where}
use borrow.Author.Rules.{rules}
use Rattle.root.proofs.beginning.fill.Goals as goal

pub loop-k-init : goal.loop-k-init
loop-k-init c = filled-begin _ _ _

pub fill_word-w-requires : goal.fill_word-w-requires
fill_word-w-requires c = record { viewed = c.requires.viewed; u_bound = (c.requires.fillable.kind, omega (arith, c.requires.fillable.few)) }

pub loop-k-preserved : goal.loop-k-preserved
loop-k-preserved c =
    let j = problem_of c.args.job.now c.args.view.now in
    rw c.put_u64.ensures (filled_next c.args.to c.loop-k.k (is_candidate j c.args.u) c.args.work.now c.loop-k.work
    c.fill_word-w.result c.loop-k.invariant (omega (arith, c.requires.fillable.fits, c.loop-k.auto.work)) (search rules)
    (bits-where (is_candidate j c.args.u) (c.loop-k.k * 64) c.fill_word-w.result c.fill_word-w.ensures))

pub returns : goal.returns
returns c = let e : c.loop-k.k ≡ c.args.words = omega arith in rw e at c.loop-k.invariant
