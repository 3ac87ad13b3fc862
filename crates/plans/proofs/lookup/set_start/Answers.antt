-- `plans::lookup::set_start` meets its contract.
use mathlib.Core.List.{List}
use mathlib.Core.Path.{◌≡◌}
use Prim.Native.Nat.{ℕ, ◌+◌, ◌*◌, ◌≤◌, ◌<◌}
use native.Mathlib.Nat.{mul-le-mul}
use native.Mathlib.Omega.{arith}
use Rattle.model.specs.Content.{kind_count, piece_count}
use Rattle.model.specs.Format.{content}
use Rattle.model.proofs.Accepted.{accepted-kinds}
use Rattle.stepping.specs.Slots.{set_start}
use Rattle.stepping.proofs.Limits.{few-pieces, few_words}
use Rattle.stepping.proofs.Slots.{start_fits}
use Rattle.plans.specs.Planned.{PlanOf, planned}
use Rattle.plans.specs.declared.plan.Plan.{Plan}
use Rattle.plans.proofs.lookup.set_start.Goals as goal

-- So few sets stand before that of level l and kind u, and so few words.
few_sets : (s : List ℕ) (p : Plan) (l u : ℕ) → PlanOf s p → l < piece_count (content s).kinds
    → u < kind_count (content s).kinds → l * p.types + u ≤ 96
few_sets s p l u plan level kind =
    let few_kinds : p.types ≤ 8 = omega (arith, plan.types, (accepted-kinds s plan.accepted).few-kinds) in
    let few_levels : l ≤ 11 = omega (arith, level, few-pieces s plan.accepted) in
    omega (arith, mul-le-mul few_levels few_kinds, kind, plan.types, few_kinds)

few_before : (s : List ℕ) (p : Plan) (l u : ℕ) → PlanOf s p → l < piece_count (content s).kinds
    → u < kind_count (content s).kinds → (l * p.types + u) * p.words ≤ 6144
few_before s p l u plan level kind =
    let few : p.words ≤ 64 = omega (arith, plan.words, few_words s plan.accepted) in
    mul-le-mul (few_sets s p l u plan level kind) few

pub overflow_mul-result : goal.overflow_mul-result
overflow_mul-result c =
    omega (arith, few_sets c.args.job.now c.args.plan.now c.args.l c.args.u c.requires.0 c.requires.1 c.requires.2)

pub overflow_add-result : goal.overflow_add-result
overflow_add-result c =
    omega (arith, few_sets c.args.job.now c.args.plan.now c.args.l c.args.u c.requires.0 c.requires.1 c.requires.2)

pub overflow_mul-result-2 : goal.overflow_mul-result-2
overflow_mul-result-2 c =
    omega (arith, few_before c.args.job.now c.args.plan.now c.args.l c.args.u c.requires.0 c.requires.1 c.requires.2)

pub returns : goal.returns
unfolding set_start
returns c =
    let s = c.args.job.now in
    let k = c.requires.0.types in
    let w = c.requires.0.words in
    let e : (c.args.l * c.args.plan.now.types + c.args.u) * c.args.plan.now.words ≡ set_start (planned s c.args.plan.now) c.args.l
    c.args.u = rw (k, w) in
    record {
      place = e;
      within = rw e (start_fits (planned s c.args.plan.now) c.args.l c.args.u c.requires.1 c.requires.2);
      few = few_before s c.args.plan.now c.args.l c.args.u c.requires.0 c.requires.1 c.requires.2;
    }
