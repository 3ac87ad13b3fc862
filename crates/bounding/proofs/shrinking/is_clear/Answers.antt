use mathlib.Core.Path.{refl, sym, ◌∙◌}
use Prim.Native.Nat.{ℕ, ◌+◌, ◌*◌, ◌≤◌, ◌<◌}
use native.Mathlib.Omega.{arith}
use lib.ListN.{length}
use borrow.Author.Count.{below_more}
use Rattle.model.proofs.Lists.{not_both}
use Rattle.bounding.proofs.Bounds.{word_fits}
use Rattle.bounding.proofs.shrinking.is_clear.Goals as goal
use Rattle.bounding.proofs.shrinking.is_clear.Goals.{Start}

-- Word k of a kind's set lies in the work words.
fits : (c : Start) (u : ℕ) → u < c.args.plan.now.types
    → ((u * c.args.plan.now.words + c.args.k) * 8 + 8 ≤ length c.args.work.now) × (u * c.args.plan.now.words + c.args.k ≤ 6144)
fits c u h = word_fits _ _ c.requires.0 _ c.requires.2 u c.args.k h c.requires.1

pub overflow_mul-u : goal.overflow_mul-u
overflow_mul-u c = omega (arith, fits (goal.at.overflow_mul-u c).Start c.loop-u.u (omega arith))

pub overflow_add-u : goal.overflow_add-u
overflow_add-u c = omega (arith, fits (goal.at.overflow_add-u c).Start c.loop-u.u (omega arith))

pub overflow_mul-u-in-loop-u : goal.overflow_mul-u-in-loop-u
overflow_mul-u-in-loop-u c = omega (arith, fits (goal.at.overflow_mul-u-in-loop-u c).Start c.loop-u.u (omega arith))

pub get_u64-requires : goal.get_u64-requires
get_u64-requires c = (fits (goal.at.get_u64-requires c).Start c.loop-u.u (omega arith)).0

pub returns-then-get_u64-ne0 : goal.returns-then-get_u64-ne0
returns-then-get_u64-ne0 c e = absurd (not_both e refl)

pub loop-u-preserved : goal.loop-u-preserved
loop-u-preserved c = below_more _ c.loop-u.u c.loop-u.invariant (sym c.get_u64.ensures ∙ c.if-get_u64-ne0.false)

pub returns : goal.returns
returns c e u h = c.loop-u.invariant u (omega arith)
