-- One corner goes, and the rest is cut likewise.
use mathlib.Core.List.{[], ◌∷◌}
use mathlib.Core.Path.{◌≡◌, ◌∙◌, sym, ap, subst}
use Prim.Native.Nat.{ℕ, ◌-◌, ◌<◌}
use native.Mathlib.Omega.{arith}
use lib.ListN.{length, take}
use Rattle.std.specs.Prelude.{IfSome}
use Rattle.outlines.specs.Outline.{triangle_at}
use Rattle.outlines.specs.Service.{triangles_numbers}
use Rattle.outlines.specs.Numbered.{place_at}
use Rattle.writing.specs.Numbers.{with_numbers_at}
use Rattle.cutting.proofs.RestLaws.{rest-length}
use Rattle.cutting.proofs.TriangleLaws.{Goes, no_triangle, two_left, flat_goes, ear_there, some_there, ear_goes, triangles-written}
use Rattle.cutting.proofs.triangles.+cut_off.Goals as goal
use Rattle.cutting.proofs.triangles.+cut_off.Goals.{After-without-left, After-without-left-2}

-- The rest, without the ear.
ear_step : (t : ℕ) (c : After-without-left-2 t)
    → Goes c.args.corners.now (take (length c.args.corners.now - 1) c.without-left-2.result)
    (triangle_at (place_at c.args.corners.now c.unwrap-ear.result) ∷ [])
ear_step t c =
    ear_goes c.args.corners.now (omega arith) c.requires.cut_to_the_end c.first_in_line.result c.in_default.is
    c.first_in_line.ensures.value
    c.first_ear.result c.unwrap-ear.result _ c.first_ear.ensures.value c.unwrap-ear.ensures c.without-left-2.ensures

ear_size : (t : ℕ) (c : After-without-left-2 t) → length (take (length c.args.corners.now - 1) c.without-left-2.result)
    ≡ length c.args.corners.now - 1
ear_size t c = rest-length c.args.corners.now _ c.unwrap-ear.result c.without-left-2.ensures
    (subst (λ r. IfSome r (λ i. i < length c.args.corners.now)) c.unwrap-ear.ensures c.first_ear.ensures.within)

-- The rest, without a corner in line.
flat_step : (t : ℕ) (c : After-without-left t) → Goes c.args.corners.now (take (length c.args.corners.now - 1)
    c.without-left.result) []
flat_step t c =
    flat_goes c.args.corners.now (omega arith) c.requires.cut_to_the_end c.first_in_line.result c.in-Some.flat _
    c.first_in_line.ensures.value c.in-Some.is
    c.without-left.ensures

flat_size : (t : ℕ) (c : After-without-left t) → length (take (length c.args.corners.now - 1) c.without-left.result)
    ≡ length c.args.corners.now - 1
flat_size t c = rest-length c.args.corners.now _ c.in-Some.flat c.without-left.ensures c.in-Some.ensures.within

pub returns-then-n-eq2-clause-value : goal.returns-then-n-eq2-clause-value
returns-then-n-eq2-clause-value t c = (sym (ap length (two_left c.args.corners.now c.if-n-eq2.true)), omega arith)

pub returns-then-n-eq2-clause-answer_after : goal.returns-then-n-eq2-clause-answer_after
returns-then-n-eq2-clause-answer_after t c =
    no_triangle c.args.at c.args.answer.now
    ∙ ap (λ ts. with_numbers_at c.args.at (triangles_numbers ts) c.args.answer.now) (sym (two_left c.args.corners.now
    c.if-n-eq2.true))

pub cut_off-requires : goal.cut_off-requires
cut_off-requires t c =
    let at = (goal.at.cut_off-requires t c).After-without-left in
    let size = flat_size t at in
    (omega arith, (omega arith, (flat_step t at).cut))

pub returns-in-Some-clause-value : goal.returns-in-Some-clause-value
returns-in-Some-clause-value t c =
    let at = (goal.at.returns-in-Some-clause-value t c).After-without-left in
    let size = flat_size t at in
    (c.cut_off.ensures.value.0 ∙ ap length (sym (flat_step t at).whole), omega arith)

pub returns-in-Some-clause-answer_after : goal.returns-in-Some-clause-answer_after
returns-in-Some-clause-answer_after t c =
    let at = (goal.at.returns-in-Some-clause-answer_after t c).After-without-left in
    c.cut_off.ensures.answer_after ∙ ap (λ ts. with_numbers_at c.args.at (triangles_numbers ts) c.args.answer.now)
    (sym (flat_step t at).whole)

pub unwrap-ear-requires : goal.unwrap-ear-requires
unwrap-ear-requires t c =
    some_there c.first_ear.result
    (ear_there c.args.corners.now (omega arith) c.requires.cut_to_the_end c.first_in_line.result c.in_default.is
    c.first_in_line.ensures.value
    c.first_ear.result c.first_ear.ensures.value)

pub cut_off-requires-2 : goal.cut_off-requires-2
cut_off-requires-2 t c =
    let at = (goal.at.cut_off-requires-2 t c).After-without-left-2 in
    let size = ear_size t at in
    (omega arith, (omega arith, (ear_step t at).cut))

pub returns-clause-value : goal.returns-clause-value
returns-clause-value t c =
    let at = (goal.at.returns-clause-value t c).After-without-left-2 in
    let size = ear_size t at in
    (omega (arith, c.cut_off-2.ensures.value, ap length (ear_step t at).whole), omega arith)

pub returns-clause-answer_after : goal.returns-clause-answer_after
returns-clause-answer_after t c =
    let at = (goal.at.returns-clause-answer_after t c).After-without-left-2 in
    triangles-written _ _ _ (ear_step t at).whole c.args.at c.args.answer.now _ _ c.put_triangle.ensures
    c.cut_off-2.ensures.answer_after
