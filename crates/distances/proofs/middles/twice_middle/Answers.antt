-- `distances::middles::twice_middle` meets its contract: the sum of two small vertices is small. Assumes nothing.
use Prim.Native.Nat.{◌/◌}
use native.Mathlib.Omega.{arith}
use borrow.Author.Rules.{rules}
use lib.ListN.{length}
use mir.Syntax.{w16}
use mir.Val.{SFits}
use Rattle.polygons.proofs.Flat.{part_length}
use Rattle.distances.proofs.DistanceLaws.{bits_are, sum_held, sum_size}
use Rattle.distances.proofs.middles.twice_middle.Goals as goal

pub vertex-first-requires : goal.vertex-first-requires
vertex-first-requires c = omega (arith, c.args.p.is_sound.corners, part_length c.args.p.numbers.now)

pub vertex-half-requires : goal.vertex-half-requires
vertex-half-requires c = omega (arith, c.args.p.is_sound.corners, part_length c.args.p.numbers.now)

pub overflow_add-result : goal.overflow_add-result
overflow_add-result c =
    let first = c.vertex-first in
    let half = c.vertex-half in
    let f : SFits w16 first.result.x = search rules in
    let h : SFits w16 half.result.x = search rules in
    sum_held (bits_are f first.ensures.0) (bits_are h half.ensures.0)
    (c.args.p.compact 0 (omega (arith, c.args.p.is_sound.corners))).0
    (c.args.p.compact (length c.args.p.numbers.now / 4)
    (omega (arith, c.args.p.is_sound.corners, part_length c.args.p.numbers.now))).0

pub overflow_add-result-2 : goal.overflow_add-result-2
overflow_add-result-2 c =
    let first = c.vertex-first in
    let half = c.vertex-half in
    let f : SFits w16 first.result.y = search rules in
    let h : SFits w16 half.result.y = search rules in
    sum_held (bits_are f first.ensures.1) (bits_are h half.ensures.1)
    (c.args.p.compact 0 (omega (arith, c.args.p.is_sound.corners))).1
    (c.args.p.compact (length c.args.p.numbers.now / 4)
    (omega (arith, c.args.p.is_sound.corners, part_length c.args.p.numbers.now))).1

pub returns : goal.returns
returns c =
    let first = c.vertex-first in
    let half = c.vertex-half in
    let fx : SFits w16 first.result.x = search rules in
    let hx : SFits w16 half.result.x = search rules in
    let fy : SFits w16 first.result.y = search rules in
    let hy : SFits w16 half.result.y = search rules in
    let u = c.args.p.compact 0 (omega (arith, c.args.p.is_sound.corners)) in
    let w = c.args.p.compact (length c.args.p.numbers.now / 4)
    (omega (arith, c.args.p.is_sound.corners, part_length c.args.p.numbers.now)) in (
      sum_size (bits_are fx first.ensures.0) (bits_are hx half.ensures.0) u.0 w.0,
      sum_size (bits_are fy first.ensures.1) (bits_are hy half.ensures.1) u.1 w.1,
    )
