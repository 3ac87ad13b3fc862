use mathlib.Core.Path.{sym, ◌∙◌, ap, subst}
use Prim.Native.Nat.{◌+◌}
use native.Mathlib.Omega.{arith}
use Rattle.polygons.specs.Boxes.{joined}
use Rattle.polygons.specs.Flat.{part_of}
use Rattle.polygons.proofs.BoxLaws.{Covering, covers-none, covers-first, covers-next, covers-last}
use Rattle.polygons.proofs.Flat.{part_length}
use Rattle.polygons.proofs.extents.bounds.Goals as goal

pub returns-then-n-eq0 : goal.returns-then-n-eq0
returns-then-n-eq0 c = c.point.ensures ∙ covers-none (part_of c.args.p.now) (omega (arith, part_length c.args.p.now))

pub loop-k-init : goal.loop-k-init
loop-k-init c =
    let p = c.args.p.now in
    subst (Covering (part_of p) 1) (sym c.corner-e.ensures) (covers-first (part_of p) (omega (arith, part_length p)))

pub loop-k-preserved : goal.loop-k-preserved
loop-k-preserved c =
    let l = c.loop-k in
    let p = c.args.p.now in
    subst (Covering (part_of p) (l.k + 1)) (sym (c.join-e.ensures ∙ ap (joined l.e) c.corner.ensures))
    (covers-next (part_of p) l.k l.e (omega (arith, part_length p)) l.invariant)

pub returns : goal.returns
returns c =
    let p = c.args.p.now in
    covers-last (part_of p) c.loop-k.k c.loop-k.e (omega (arith, part_length p)) c.loop-k.invariant
