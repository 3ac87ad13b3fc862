use mathlib.Core.Path.{◌≡◌, sym, subst}
use Prim.Native.Nat.{ℕ, ◌<◌}
use native.Mathlib.Omega.{arith}
use lib.IntN.{ℤ}
use lib.ListN.{length}
use Rattle.integers.proofs.Order.{lt_z_true, lt_z_false}
use Rattle.model.specs.Content.{Part}
use Rattle.model.specs.Geometry.{Direction, along, direction}
use Rattle.polygons.specs.Flat.{part_of}
use Rattle.polygons.proofs.Flat.{part_length}
use Rattle.directions.proofs.Leading.{Leading, leading_first, leading_new, leading_old, leading_last}
use Rattle.directions.proofs.Sizes.{said, small_vertex}
use Rattle.directions.proofs.along.furthest.Goals as goal
use Rattle.directions.proofs.along.furthest.Goals.{then-most-here, else-most-here}

pub loop-k-init : goal.loop-k-init
loop-k-init c =
    leading_first (along (direction c.args.d.a c.args.d.b)) (part_of c.args.p.now) _
    (omega (arith, c.requires, part_length c.args.p.now))
    (said tt (small_vertex _ c.vertex.ensures.0 c.vertex.ensures.1 c.along-most.ensures))

-- the vertex kept and its place, by their locals
kept : (d : Direction) (P : Part) (k n m : ℕ) (u v : ℤ) → m ≡ n → v ≡ u → Leading (along d) P k n u
    → Leading (along d) P k m v
kept d P k n m u v e f l =
    subst (λ z. Leading (along d) P k z v) (sym e) (subst (λ z. Leading (along d) P k n z) (sym f) l)

pub loop-k-preserved : goal.loop-k-preserved
loop-k-preserved c =
    let part : Part = part_of c.args.p.now in
    let d : Direction = direction c.args.d.a c.args.d.b in
    let v = c.vertex-in-loop-k in
    let reached = said tt (small_vertex d v.ensures.0 v.ensures.1 c.along-here.ensures) in
    let inside : c.loop-k.k < length part = omega (arith, part_length c.args.p.now) in
    elim c.if-most-here.branch [
      | then-most-here w ↦ kept d part _ _ _ _ _ w.best-is w.most-is
          (leading_new (along d) part c.loop-k.k _ _ _ c.loop-k.invariant inside reached
          (lt_z_true _ _ w.if-most-here.true))
      | else-most-here w ↦ kept d part _ _ _ _ _ w.best-is w.most-is
          (leading_old (along d) part c.loop-k.k _ _ _ c.loop-k.invariant inside reached
          (lt_z_false _ _ w.if-most-here.false))
    ]

pub returns : goal.returns
returns c =
    leading_last (direction c.args.d.a c.args.d.b) (part_of c.args.p.now) c.loop-k.k c.loop-k.best _
    c.loop-k.invariant (omega (arith, part_length c.args.p.now))
