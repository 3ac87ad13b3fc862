-- Cause 14 from the tests that are made one after the other.
use mathlib.Core.Bool.{Bool, true, false, not, ◌||◌}
use mathlib.Core.List.{List}
use mathlib.Core.Path.{◌≡◌, sym, ap, ◌∙◌}
use Prim.Native.Nat.{ℕ, ◌/◌, ◌%◌, ◌≤◌}
use native.Mathlib.Omega.{arith}
use borrow.Author.Tests.{leb-true, eqb-true, not-false}
use lib.Dec.{leb}
use lib.IntN.{ℤ, pos}
use lib.ListN.{length}
use lib.Signed.{le_z}
use Rattle.model.specs.Content.{Vertex}
use Rattle.model.specs.Format.{vertex_in_range}
use Rattle.model.specs.Lists.{all, between}
use Rattle.model.proofs.Lists.{and_left, and_right, or_left, or_right}
use Rattle.outlines.specs.Outline.{doubled_area, edges_meet, outline_in, count_unfit, odd_byte, out_of_range, area_unfit, cause14}

module _ (s : List ℕ) where
  -- The count is refused.
  pub refused : (count_unfit s || odd_byte s) ≡ true → true ≡ cause14 s
  unfolding cause14
  refused e = sym (ap (λ b. b || out_of_range (outline_in s) || area_unfit (outline_in s) || edges_meet (outline_in s))
      e)

  -- Where nothing is refused, the count is not.
  pub counted : cause14 s ≡ false → (count_unfit s || odd_byte s) ≡ false
  unfolding cause14
  counted e =
      let b = count_unfit s || odd_byte s in
      let c = out_of_range (outline_in s) in
      let d = area_unfit (outline_in s) in
      or_left b c (or_left (b || c) d (or_left (b || c || d) (edges_meet (outline_in s)) e))

  module _ (e : (count_unfit s || odd_byte s) ≡ false) where
    in_count : between 3 8 (length s / 2) ≡ true
    unfolding count_unfit
    in_count = not-false _ (or_left (count_unfit s) (odd_byte s) e)

    even : length s % 2 ≡ 0
    unfolding odd_byte
    even = eqb-true (length s % 2) 0 (not-false _ (or_right (count_unfit s) (odd_byte s) e))

    -- It is not: there are at least three corners, and at most eight, which there is room for.
    pub at_least : 3 ≤ length s / 2
    unfolding between
    at_least = leb-true 3 (length s / 2) (and_left (leb 3 (length s / 2)) (leb (length s / 2) 8) in_count)

    pub at_most : length s / 2 ≤ 8
    unfolding between
    at_most = leb-true (length s / 2) 8 (and_right (leb 3 (length s / 2)) (leb (length s / 2) 8) in_count)

    pub room : length s ≤ 16
    room = omega (arith, at_most, even)

    -- The corners are judged.
    pub judged : (P : List Vertex) → P ≡ outline_in s → (inside met : Bool) (area : ℤ) → inside ≡ all vertex_in_range P
        → area ≡ doubled_area P
        → met ≡ edges_meet P → (not inside || le_z area (pos 0) || met) ≡ cause14 s
    unfolding cause14 out_of_range area_unfit
    judged P same inside met area ei ea em =
        (λ i. not (ei i) || le_z (ea i) (pos 0) || em i)
        ∙ ap (λ P. not (all vertex_in_range P) || le_z (doubled_area P) (pos 0) || edges_meet P) same
        ∙ sym (ap (λ b. b || out_of_range (outline_in s) || area_unfit (outline_in s) || edges_meet (outline_in s)) e)
