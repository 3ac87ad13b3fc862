-- `bounding::trimming::trim_next` meets its contract.
use mathlib.Core.List.{List}
use mathlib.Core.Path.{◌≡◌, ap}
use Prim.Native.Nat.{ℕ, ◌*◌, ◌/◌, ◌%◌, ◌≤◌, ◌<◌}
use native.Mathlib.Nat.{mul-le-mul}
use native.Mathlib.Omega.{arith}
use Rattle.model.specs.Content.{kind_count, piece_count}
use Rattle.model.specs.Format.{content}
use Rattle.model.specs.Search.{copies_left}
use Rattle.plans.proofs.PlanLaws.{kinds-few, words-few}
use Rattle.plans.specs.Planned.{PlanOf, planned}
use Rattle.plans.specs.declared.plan.Plan.{Plan}
use Rattle.stepping.specs.Levels.{pieces_from}
use Rattle.stepping.proofs.Limits.{few-pieces}
use Rattle.bounding.proofs.Bounds.{some-kind, set-level, set-kind, set-trimmed, set-skipped}
use Rattle.bounding.proofs.trimming.trim_next.Goals as goal

module _ (s : List ℕ) (p : Plan) (o : PlanOf s p) (i : ℕ) (h : i < piece_count (content s).kinds * kind_count
    (content s).kinds) where
  -- There is a kind; the level and the kind of the set are few.
  level : i / p.types < piece_count (content s).kinds
  level = rw (o.types) (set-level (planned s p) i h)

  kind : i % p.types < kind_count (content s).kinds
  kind = rw (o.types) (set-kind (planned s p) i h)

  few : ((0 < p.types) × (i / p.types < 12)) × ((i % p.types < 8) × (i ≤ 96))
  few =
      let k = kinds-few s p o in
      let n = few-pieces s o.accepted in (
        (rw (o.types) (some-kind (planned s p) i h), omega (arith, level, n)),
        (omega (arith, kind, k), omega (arith, h, mul-le-mul n k)),
      )

  -- The copies left, by the kinds of the job.
  told : copies_left (i % p.types) (pieces_from (content s).kinds (i / p.types))
      ≡ copies_left (i % kind_count (content s).kinds) (pieces_from (content s).kinds (i / kind_count (content s).kinds))
  told = ap (λ (n : ℕ). copies_left (i % n) (pieces_from (content s).kinds (i / n))) o.types

pub nonzero_div-level : goal.nonzero_div-level
nonzero_div-level c = omega (arith, few c.args.job.now c.args.plan.now c.requires.plan_of.0 c.args.i c.requires.plan_of.2)

pub nonzero_rem-u : goal.nonzero_rem-u
nonzero_rem-u c = omega (arith, few c.args.job.now c.args.plan.now c.requires.plan_of.0 c.args.i c.requires.plan_of.2)

pub copies_left-requires : goal.copies_left-requires
copies_left-requires c = (
  c.requires.plan_of.0,
  level c.args.job.now c.args.plan.now c.requires.plan_of.0 c.args.i c.requires.plan_of.2,
  (few c.args.job.now c.args.plan.now c.requires.plan_of.0 c.args.i c.requires.plan_of.2).1.0,
)

pub overflow_mul-i : goal.overflow_mul-i
overflow_mul-i c =
    omega (arith, mul-le-mul (few c.args.job.now c.args.plan.now c.requires.plan_of.0 c.args.i c.requires.plan_of.2).1.1 (words-few c.args.job.now c.args.plan.now c.requires.plan_of.0))

pub trim_set-requires : goal.trim_set-requires
trim_set-requires c = (
  c.requires.plan_of.0,
  rw (c.requires.plan_of.0.types, c.requires.plan_of.0.words)
      (c.requires.trimmable (omega (
        arith,
        c.if-copies_left-gt0.true,
        c.copies_left.ensures,
        told c.args.job.now c.args.plan.now c.requires.plan_of.0 c.args.i c.requires.plan_of.2,
      ))),
)

pub returns-then-copies_left-gt0 : goal.returns-then-copies_left-gt0
returns-then-copies_left-gt0 c =
    set-trimmed (planned c.args.job.now c.args.plan.now) c.args.i c.requires.plan_of.2 c.args.bound c.args.span
    c.requires.plan_of.1
    c.args.work.now _ _ _ c.requires.plan_of.0.types c.requires.plan_of.0.words c.trim_set.ensures

pub returns-else-copies_left-gt0 : goal.returns-else-copies_left-gt0
returns-else-copies_left-gt0 c =
    set-skipped (planned c.args.job.now c.args.plan.now) c.args.i c.requires.plan_of.2 _ _ _
    (omega (
      arith,
      c.if-copies_left-gt0.false,
      c.copies_left.ensures,
      told c.args.job.now c.args.plan.now c.requires.plan_of.0 c.args.i c.requires.plan_of.2,
    ))
