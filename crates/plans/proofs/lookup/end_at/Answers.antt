-- `plans::lookup::end_at` meets its contract.
use mathlib.Core.Path.{◌≡◌, sym, ap, ◌∙◌, subst}
use Prim.Native.Nat.{◌*◌, ◌≤◌, ◌<◌}
use native.Mathlib.Omega.{arith}
use lib.IntN.{pos, ◌+ℤ◌}
use lib.ListN.{get_or}
use Rattle.model.specs.Candidate.{natural}
use Rattle.candidates.specs.declared.conflicts.Placed.{Placed}
use Rattle.plans.proofs.PlanLaws.{candidate-kind, kinds-few, near, end_is}
use borrow.Author.Rules.{rules}
use Rattle.plans.specs.Planned.{no_kind, planned}
use Rattle.plans.proofs.lookup.end_at.Goals as goal
use Rattle.plans.proofs.lookup.end_at.Goals.{Start}

-- The kind is one of eight, and the place is near.
kind_low : (c : Start) → c.args.u < 8
kind_low c = omega (arith, candidate-kind (planned c.args.job.now c.args.plan.now) c.args.u c.args.m c.requires.1, kinds-few c.args.job.now c.args.plan.now c.requires.0)

turn : (c : Start) → c.args.place.rotation < 4
turn c = subst (λ (a : Placed). a.rotation < 4) (sym c.requires.2) (omega arith)

across : (c : Start) → c.args.place.column * c.args.plan.now.step ≤ 1000
across c =
    subst (λ (a : Placed). a.column * c.args.plan.now.step ≤ 1000) (sym c.requires.2)
    (near c.args.job.now c.args.plan.now c.requires.0 c.args.u c.args.m c.requires.1).across

pub offset_bounds-plan-u : goal.offset_bounds-plan-u
offset_bounds-plan-u c = omega (arith, kind_low (goal.at.offset_bounds-plan-u c).Start)

pub bounds-plan-u : goal.bounds-plan-u
bounds-plan-u c = omega (arith, kind_low (goal.at.bounds-plan-u c).Start)

pub overflow_mul-place : goal.overflow_mul-place
overflow_mul-place c = omega (arith, across (goal.at.overflow_mul-place c).Start)

pub end_of-requires : goal.end_of-requires
end_of-requires c = across (goal.at.end_of-requires c).Start

pub returns : goal.returns
returns c =
    let e : c.end_of.result ≡ natural (get_or (get_or c.args.plan.now.kind c.args.u no_kind).ends c.args.place.rotation (pos 0) +ℤ pos (c.args.place.column * c.args.plan.now.step)) =
    c.end_of.ensures ∙ search rules in
    e
    ∙ ap (λ (a : Placed). natural (get_or (get_or c.args.plan.now.kind c.args.u no_kind).ends a.rotation (pos 0) +ℤ pos (a.column * c.args.plan.now.step))) c.requires.2
    ∙ end_is c.args.job.now c.args.plan.now c.requires.0 c.args.u c.args.m c.requires.1
