-- `plans::plan::set_words` meets its contract.
use mathlib.Core.List.{List}
use mathlib.Core.Path.{◌≡◌}
use Prim.Native.Nat.{ℕ, ◌*◌, ◌≤◌}
use native.Mathlib.Omega.{arith}
use Rattle.model.specs.Format.{content}
use Rattle.model.specs.Grid.{dots, set_words}
use Rattle.model.proofs.Accepted.{accepted-dots}
use Rattle.job.specs.View.{Viewed}
use Rattle.job.specs.declared.View.{View}
use Rattle.stepping.proofs.Limits.{few_words}
use Rattle.plans.proofs.plan.set_words.Goals as goal

-- The board has few dots.
few : (s : List ℕ) (v : View) → Viewed s v → (v.columns * v.rows ≡ dots (content s).sheet) × (v.columns * v.rows ≤ 1024)
unfolding dots
few s v x =
    let e : v.columns * v.rows ≡ dots (content s).sheet = rw (x.view.columns, x.view.rows) in
    (e, rw e (accepted-dots s x.accepted))

pub overflow_mul-view : goal.overflow_mul-view
overflow_mul-view c = omega (arith, few c.args.job.now c.args.view c.requires)

pub returns : goal.returns
unfolding set_words
returns c =
    let e : c.div_ceil.result ≡ set_words (content c.args.job.now).sheet = omega (arith, c.div_ceil.ensures, few c.args.job.now c.args.view c.requires) in
    (e, rw e (few_words c.args.job.now c.requires.accepted))
