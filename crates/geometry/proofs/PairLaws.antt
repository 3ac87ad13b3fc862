-- The test of a pair by the normals of its parts and by distances is the model's. Assumes nothing.
use mathlib.Core.Bool.{Bool, true, false, ◌&&◌, ◌||◌, and-true, and_assoc}
use mathlib.Core.List.{map}
use mathlib.Core.Path.{◌≡◌, refl, sym, ap, ap₂, ◌∙◌}
use Prim.Native.Nat.{ℕ, ◌<◌}
use lib.IntN.{ℤ, pos, ◌+ℤ◌, ◌-ℤ◌, ◌*ℤ◌}
use lib.ListN.{length}
use lib.Signed.{le_z}
use Rattle.std.specs.Prelude.{Option, None, Some}
use Rattle.std.specs.Option.{unwrap_or}
use Rattle.integers.proofs.Solver.{ring, #, ◌⊞◌, ◌⊟◌, ◌⊠◌, ◌≈◌}
use Rattle.model.specs.Content.{vertex, Part}
use Rattle.model.specs.Geometry.{Direction, normals, along, separates, disjoint, corners_clear, separated}
use Rattle.model.specs.Lists.{any, largest_z, smallest_z}
use Rattle.model.proofs.Conflict.{disjoint-groups, separated-symmetric}
use Rattle.model.proofs.Extremes.{le_z_same}
use Rattle.model.proofs.Lists.{and_both}
use Rattle.model.proofs.Moves.{largest-shifted, smallest_shifted, normals-shifted, clear-shifted-corner, separated-shifted, unmoved}
use Rattle.model.proofs.Tests.{any_same}
use Rattle.convexity.proofs.Clear.{clear_zero}
use Rattle.polygons.specs.Flat.{shifted}
use Rattle.geometry.specs.Apart.{both_clear, Beside}
use Rattle.directions.specs.Directions.{separates_moved}
use Rattle.distances.proofs.MiddleLaws.{tells}

-- ---- the normals

-- Q, which has a vertex, is moved by (dx, dy)
module _ (P Q : Part) (dx dy : ℤ) (some_q : 0 < length Q) where
  -- a normal of P
  clears_first : (d : Direction) → separates_moved P Q (vertex dx dy) d ≡ separates P (map (shifted dx dy) Q) d
  unfolding separates_moved separates
  clears_first d = ap (le_z (largest_z (map (along d) P))) (sym (smallest_shifted d dx dy Q some_q))

  -- a normal of Q, with the parts changed over
  clears_second : (d : Direction) → separates_moved Q P (vertex (pos 0 -ℤ dx) (pos 0 -ℤ dy)) d ≡ separates (map (shifted dx dy) Q) P d
  unfolding separates_moved separates along
  clears_second d =
      across (largest_z (map (along d) Q)) (smallest_z (map (along d) P)) d.a d.b dx dy
      ∙ ap (λ s. le_z s (smallest_z (map (along d) P))) (sym (largest-shifted d dx dy Q some_q))
    where
      across : (l s A B x y : ℤ) → le_z l (s +ℤ (A *ℤ (pos 0 -ℤ x) +ℤ B *ℤ (pos 0 -ℤ y))) ≡ le_z (l +ℤ (A *ℤ x +ℤ B *ℤ y)) s
      across l s A B x y =
          le_z_same l (s +ℤ (A *ℤ (pos 0 -ℤ x) +ℤ B *ℤ (pos 0 -ℤ y))) (l +ℤ (A *ℤ x +ℤ B *ℤ y)) s
          (ring 6 (λ l s A B x y. (s ⊞ (A ⊠ (# (pos 0) ⊟ x) ⊞ B ⊠ (# (pos 0) ⊟ y))) ⊟ l ≈ s ⊟ (l ⊞ (A ⊠ x ⊞ B ⊠ y))) tt l s A B x y)

  -- all of them
  disjoint-is : disjoint P (map (shifted dx dy) Q)
      ≡ (any (separates_moved P Q (vertex dx dy)) (normals P) || any (separates_moved Q P (vertex (pos 0 -ℤ dx) (pos 0 -ℤ dy))) (normals Q))
  disjoint-is =
      disjoint-groups P (map (shifted dx dy) Q)
      ∙ ap₂ ◌||◌ (sym (any_same _ _ clears_first (normals P)))
      (ap (any (separates (map (shifted dx dy) Q) P)) (normals-shifted dx dy Q) ∙ sym (any_same _ _ clears_second (normals Q)))

-- ---- the three tests of the model

module _ (gap : ℕ) (P Q : Part) where
  pub both_none : gap ≡ 0 → true ≡ both_clear gap P Q
  both_none g = rw g (sym (and_both _ _ (clear_zero P Q) (clear_zero Q P)))

  pub both_first : corners_clear gap Q P ≡ true → corners_clear gap P Q ≡ both_clear gap P Q
  both_first e = sym (ap (λ t. corners_clear gap P Q && t) e ∙ and-true (corners_clear gap P Q))

-- P moved back, for Q moved
module _ (gap : ℕ) (P Q : Part) (dx dy : ℤ) where
  pub clear-back : corners_clear gap (map (shifted (pos 0 -ℤ dx) (pos 0 -ℤ dy)) P) Q ≡ corners_clear gap P (map (shifted dx dy) Q)
  clear-back = sym (clear-shifted-corner gap Q P dx dy (pos 0) (pos 0)) ∙ ap (λ (R : Part). corners_clear gap R (map (shifted dx dy) Q)) (unmoved P)

-- ---- what is told without the edges of the second part

module _ (gap : ℕ) (P Q : Part) (dx dy : ℤ) (some_p : 0 < length P) (some_q : 0 < length Q) where
  abbrev first_edges : Bool
  first_edges = any (separates_moved P Q (vertex dx dy)) (normals P)

  abbrev second_edges : Bool
  second_edges = any (separates_moved Q P (vertex (pos 0 -ℤ dx) (pos 0 -ℤ dy))) (normals Q)

  abbrev apart : Bool
  apart = separated gap P (map (shifted dx dy) Q)

  -- the three tests of the model in two groups
  separated-is : (a b : Bool) → first_edges ≡ a → second_edges ≡ b → apart ≡ ((a || b) && both_clear gap P (map (shifted dx dy) Q))
  unfolding separated
  separated-is a b e f =
      and_assoc (disjoint P (map (shifted dx dy) Q)) (corners_clear gap P (map (shifted dx dy) Q)) (corners_clear gap (map (shifted dx dy) Q) P)
      ∙ ap (λ t. t && both_clear gap P (map (shifted dx dy) Q)) (disjoint-is P Q dx dy some_q ∙ ap₂ ◌||◌ e f)

  -- an edge of P separates, and the distances decide
  pub beside_some : first_edges ≡ true → (b : Bool) → b ≡ both_clear gap P (map (shifted dx dy) Q) → Beside gap P Q dx dy (Some b)
  beside_some h b e = record { tells = tells (separated-is true second_edges h refl ∙ sym e); none = λ z. cc }

  -- told without the edges of P, of which none separates
  pub second-says : first_edges ≡ false → (s : Option Bool) → Beside gap Q P (pos 0 -ℤ dx) (pos 0 -ℤ dy) s → unwrap_or s false ≡ apart
  second-says z None u = sym (separated-is false false z (u.none refl))
  second-says z (Some t) u =
      sym (u.tells.is t refl)
      ∙ sym (separated-shifted gap Q P some_q some_p dx dy (pos 0) (pos 0))
      ∙ ap (separated gap (map (shifted dx dy) Q)) (unmoved P)
      ∙ separated-symmetric gap (map (shifted dx dy) Q) P
