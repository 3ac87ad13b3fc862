-- `plans::plan::work_words` meets its contract.
use mathlib.Core.List.{List}
use mathlib.Core.Path.{◌≡◌}
use Prim.Native.Nat.{ℕ, ◌*◌, ◌≤◌}
use native.Mathlib.Nat.{mul-le-mul}
use native.Mathlib.Omega.{arith}
use Rattle.model.specs.Services.{work_words}
use Rattle.model.proofs.Accepted.{accepted-kinds}
use Rattle.job.specs.View.{problem_of, Viewed}
use Rattle.job.specs.declared.View.{View}
use Rattle.stepping.proofs.Limits.{few-pieces, few-work}
use Rattle.plans.proofs.plan.work_words.Goals as goal

few_sets : (s : List ℕ) (v : View) → Viewed s v → v.kinds * v.pieces ≤ 96
few_sets s v x = rw (x.view.kinds, x.view.pieces) (mul-le-mul (accepted-kinds s x.accepted).few-kinds (few-pieces s x.accepted))

-- All words, and that they are few.
words : (c : goal.After-set_words) → (c.args.view.kinds * c.args.view.pieces * c.set_words.result ≡ work_words (problem_of c.args.job.now c.args.view))
    × (c.args.view.kinds * c.args.view.pieces * c.set_words.result ≤ 6144)
unfolding work_words
words c =
    let e : c.args.view.kinds * c.args.view.pieces * c.set_words.result ≡ work_words (problem_of c.args.job.now c.args.view) = rw (c.requires.view.kinds, c.requires.view.pieces, c.set_words.ensures.0) in
    (e, rw e (few-work c.args.job.now c.requires.accepted c.args.view.margin))

pub overflow_mul-result : goal.overflow_mul-result
overflow_mul-result c = omega (arith, few_sets c.args.job.now c.args.view c.requires)

pub overflow_mul-result-2 : goal.overflow_mul-result-2
overflow_mul-result-2 c = omega (arith, words c)

pub returns : goal.returns
returns c = words c
