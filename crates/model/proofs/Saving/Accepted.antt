-- A fit job, written, is accepted and reads back.
use mathlib.Core.Bool.{true, false, not, ◌||◌}
use mathlib.Core.List.{List}
use mathlib.Core.Path.{◌≡◌, refl, ap, ◌∙◌}
use Prim.Native.Nat.{ℕ, ◌+◌, ◌*◌, ◌≤◌, min, max}
use native.Mathlib.Omega.{arith}
use borrow.Author.Tests.{le-leb, le-ltb, eq-eqb}
use lib.ListN.{length}
use Rattle.model.proofs.Lists.{and_both}
use Rattle.model.specs.Content.{Vertex, Part, SpacingClass, Job, job, piece_count, kind_count}
use Rattle.model.specs.Format.{trailer_at, board_at, classes_at, kinds_at, kinds_length, classes_stated, board_section, classes_section, kinds_section, in_place, share_byte, by_rising_id, kinds_in, content, cause1, cause2, cause3, cause4, cause5, cause6, cause7, class_in_range, names_present, kinds_unfit, vertex_in_range, refusal}
use Rattle.model.specs.Geometry.{sound}
use Rattle.model.specs.Lists.{all}
use Rattle.model.specs.ContentFit.{ClassFit, VertexFit, PartFit, ContentFit}
use Rattle.model.specs.Saving.{kind_list, written}
use Rattle.model.proofs.Records.{between-of}
use Rattle.model.proofs.Saving.Fields.{written-size, sections_size, trailer_at_lem, classes-stated, kinds-stated, is_marked, board-at, classes-at, kinds-at, kinds-length, length-stated, board-written, classes-written, kinds-written}
use Rattle.model.proofs.Saving.Order.{by_id-stays}
use Rattle.model.proofs.Saving.Signed.{above-least}
use Rattle.model.proofs.Saving.Sizes.{few-classes, fit_length}
use Rattle.model.proofs.Saving.Each.{or_both, not_of, each_map, each_all, each-any, rising-distinct}

class-in_range : (c : SpacingClass) → ClassFit c → class_in_range c ≡ true
unfolding class_in_range
class-in_range c h = and_both _ _ (and_both _ _ (le-leb _ _ h.id_most) (le-leb _ _ h.rank_most)) (le-leb _ _ h.gap_most)

vertex-in_range : (v : Vertex) → VertexFit v → vertex_in_range v ≡ true
unfolding vertex_in_range
vertex-in_range v h = and_both _ _ (above-least v.x h.x_small) (above-least v.y h.y_small)

part-passes : (P : Part) → PartFit P → (not (sound P) || not (all vertex_in_range P)) ≡ false
part-passes P h = or_both _ _ (not_of _ h.is_sound) (not_of _ (each_all vertex_in_range P (each_map vertex-in_range P h.corners)))

module _ (j : Job) (fit : ContentFit j) where
  short : length (written j) ≤ 1024
  short = omega (arith, fit_length j fit)

  no1 : cause1 (written j) ≡ false
  unfolding cause1
  no1 =
      let l : 14 ≤ length (written j) = omega (arith, written-size j) in
      or_both _ _ (le-ltb _ _ l) (le-ltb _ _ short)

  no2 : cause2 (written j) ≡ false
  unfolding cause2
  no2 = or_both _ _ (not_of _ (is_marked j)) (not_of _ (eq-eqb _ _ (length-stated j short)))

  size : trailer_at (written j) ≡ 6 + length j.classes * 3 + length (kind_list j.kinds)
  size = trailer_at_lem j ∙ sections_size j

  no3 : cause3 (written j) ≡ false
  unfolding cause3 in_place share_byte board_section classes_section kinds_section
  no3 =
      let s : List ℕ = written j in
      let t = size in
      let b = board-at j in
      let c = classes-at j in
      let n = classes-stated j in
      let k = kinds-at j short in
      let m = kinds-length j short in
      let p1 : board_at s + 6 ≤ trailer_at s = omega arith in
      let p2 : classes_at s + classes_stated s * 3 ≤ trailer_at s = omega arith in
      let p3 : kinds_at s + kinds_length s ≤ trailer_at s = omega arith in
      let q1 : min (board_at s + 6) (classes_at s + classes_stated s * 3) ≤ max (board_at s) (classes_at s) = omega arith in
      let q2 : min (board_at s + 6) (kinds_at s + kinds_length s) ≤ max (board_at s) (kinds_at s) = omega arith in
      let q3 : min (classes_at s + classes_stated s * 3) (kinds_at s + kinds_length s) ≤ max (classes_at s) (kinds_at s) = omega arith in
      or_both _ _
      (or_both _ _
      (or_both _ _
      (or_both _ _ (or_both _ _ (not_of _ (le-leb _ _ p1)) (not_of _ (le-leb _ _ p2))) (not_of _ (le-leb _ _ p3)))
      (le-ltb _ _ q1))
      (le-ltb _ _ q2))
      (le-ltb _ _ q3)

  no4 : cause4 (written j) ≡ false
  unfolding cause4
  no4 =
      let h = fit.sheet in
      rw (board-written j h)
      (or_both _ _
      (or_both _ _
      (or_both _ _ (not_of _ (between-of 1 1000 _ h.width_least h.width_most)) (not_of _ (between-of 1 1000 _ h.length_least h.length_most)))
      (not_of _ (between-of 1 1000 _ h.step_least h.step_most)))
      (le-ltb _ _ h.dots_most))

  no5 : cause5 (written j) ≡ false
  unfolding cause5
  no5 =
      rw (classes-stated j, classes-written j fit.classes)
      (or_both _ _
      (or_both _ _
      (or_both _ _ (le-ltb _ _ (few-classes j fit)) (not_of _ (each_all class_in_range j.classes (each_map class-in_range j.classes fit.classes))))
      (not_of _ (rising-distinct 0 _ fit.by_id)))
      (not_of _ fit.ranks))

  no6 : cause6 (written j) ≡ false
  unfolding cause6 kinds_unfit kind_count piece_count
  no6 =
      rw (kinds-stated j, classes-written j fit.classes, kinds-length j short, kinds-written j short fit.kinds)
      (or_both _ _
      (not_of _ (between-of 1 8 (length j.kinds) fit.kinds_least fit.kinds_most))
      (or_both _ _
      (or_both _ _ (not_of _ (eq-eqb (length (kind_list j.kinds)) _ refl)) (le-ltb _ _ fit.pieces))
      (not_of _ (each_all (names_present j.classes) j.kinds (each_map (λ k h. h.present) j.kinds fit.kinds)))))

  no7 : cause7 (written j) ≡ false
  unfolding cause7 kinds_in
  no7 =
      rw (kinds-written j short fit.kinds)
      (each-any _ j.kinds
      (each_map (λ k h. each-any (λ P. not (sound P) || not (all vertex_in_range P)) k.parts (each_map part-passes k.parts h.parts)) j.kinds fit.kinds))

  -- A fit job, written, is accepted.
  pub fit-accepted : refusal (written j) ≡ 0
  unfolding refusal
  fit-accepted = rw (no1, no2, no3, no4, no5, no6, no7)

  -- A fit job, written and read back, has the same content.
  pub fit-content : content (written j) ≡ j
  unfolding content kinds_in
  fit-content =
      let b = board-written j fit.sheet in
      let c = ap by_rising_id (classes-written j fit.classes)
      ∙ by_id-stays j.classes fit.by_id (each_map (λ c h. omega (arith, h.id_most)) j.classes fit.classes) in
      let k = ap kinds_in (kinds-written j short fit.kinds) in
      λ i. job (b i) (c i) (k i)
