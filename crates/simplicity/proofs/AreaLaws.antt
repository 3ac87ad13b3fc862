-- The doubled area as the sum over the corner numbers, and its size.
use mathlib.Core.List.{List, [], ◌∷◌}
use mathlib.Core.Path.{◌≡◌, refl, sym, ap, ap₂, subst, ◌∙◌}
use mathlib.Core.Logic.{⊎_elim}
use Prim.Native.Nat.{ℕ, zero, suc, ◌+◌, ◌*◌, ◌≤◌, ◌<◌}
use native.Mathlib.Numerals.{add-one}
use native.Mathlib.Omega.{arith}
use lib.IntN.{ℤ, pos, nat_abs, ◌+ℤ◌, ◌-ℤ◌, ◌*ℤ◌}
use lib.ListN.{length, get_or}
use mir.Syntax.{w8, w64}
use mir.Val.{SFits, to_z, of_z}
use mir.ValLaws.{to_z-of_z}
use Rattle.integers.proofs.Absolute.{nat_abs-+ℤ}
use Rattle.integers.proofs.Sizes.{bounded, size_of, fits-64}
use Rattle.integers.proofs.Solver.{ring, #, ◌⊞◌, ◌⊟◌, ◌⊠◌, ◌≈◌}
use Rattle.model.specs.Content.{Vertex, origin}
use Rattle.model.specs.Geometry.{vertex_at, following}
use Rattle.outlines.specs.Outline.{last_of, path_sum, edge_sum, det, doubled_area}
use Rattle.outlines.proofs.Places.{last_get_or, following-is}
use Rattle.simplicity.specs.Corners.{sum_below, edge_area}
use Rattle.records.proofs.CornerLaws.{following-of}

-- ---- Sums over the numbers below k

-- The first number taken out.
sum-front : (f : ℕ → ℤ) (k : ℕ) → sum_below f (suc k) ≡ f 0 +ℤ sum_below (λ i. f (suc i)) k
unfolding sum_below
sum-front f zero = ring 1 (λ a. # (pos 0) ⊞ a ≈ a ⊞ # (pos 0)) tt (f 0)
sum-front f (suc k) =
    ap (λ z. z +ℤ f (suc k)) (sum-front f k)
    ∙ ring 3 (λ a b c. a ⊞ b ⊞ c ≈ a ⊞ (b ⊞ c)) tt (f 0) (sum_below (λ i. f (suc i)) k) (f (suc k))

-- Functions that agree below k.
sum_same : (f g : ℕ → ℤ) (k : ℕ) → ((i : ℕ) → i < k → f i ≡ g i) → sum_below f k ≡ sum_below g k
unfolding sum_below
sum_same f g zero h = refl
sum_same f g (suc k) h = ap₂ (λ a b. a +ℤ b) (sum_same f g k (λ i l. h i (omega arith))) (h k (omega arith))

-- ---- Sums over the edges

module _ (F : Vertex → Vertex → ℤ) where
  path_sum_lem : (a : Vertex) (bs : List Vertex) → path_sum F a bs ≡ sum_below (λ i. F (get_or (a ∷ bs) i origin)
      (get_or (a ∷ bs) (suc i) origin)) (length bs)
  unfolding sum_below
  path_sum_lem a [] = refl
  path_sum_lem a (b ∷ bs) =
      ap (λ z. F a b +ℤ z) (path_sum_lem b bs)
      ∙ sym (sum-front (λ i. F (get_or (a ∷ b ∷ bs) i origin) (get_or (a ∷ b ∷ bs) (suc i) origin)) (length bs))

  -- The sum over the edges is the sum over the corner numbers.
  pub edge_sum_lem : (P : List Vertex) → edge_sum F P ≡ sum_below (λ i. F (vertex_at P i)
      (vertex_at P (following P i))) (length P)
  unfolding vertex_at sum_below
  edge_sum_lem [] = refl
  edge_sum_lem (a ∷ bs) = ap₂ (λ y z. y +ℤ z) (path_sum_lem a bs ∙ sum_same _ _ (length bs) inner) outer
    where
      P : List Vertex
      P = a ∷ bs

      inner : (i : ℕ) → i < length bs → F (get_or P i origin) (get_or P (suc i) origin) ≡ F (get_or P i origin)
          (get_or P (following P i) origin)
      inner i h = ⊎_elim (λ r. absurd (omega (arith, r.0, h))) (λ r. ap (λ j. F (get_or P i origin)
          (get_or P j origin)) (sym r.1)) (following-is P i)

      outer : F (last_of a bs) a ≡ F (get_or P (length bs) origin) (get_or P (following P (length bs)) origin)
      outer = ⊎_elim (λ r. ap₂ F (last_get_or a (a ∷ bs) (length bs) refl) (ap (λ j. get_or P j origin) (sym r.1)))
          (λ r. absurd (r.0 refl)) (following-is P (length bs))

-- The doubled area of an outline.
pub area_is : (P : List Vertex) → sum_below (edge_area P) (length P) ≡ doubled_area P
unfolding doubled_area edge_area
area_is P =
    sym (edge_sum_lem det P
    ∙ sum_same (λ i. det (vertex_at P i) (vertex_at P (following P i))) (edge_area P) (length P)
    (λ i h. ap (λ q. det (vertex_at P i) (vertex_at P q)) (following-of P i)))

-- What an edge adds, from the coordinates of its ends.
pub det-is : (a b : Vertex) (z ax ay bx by : ℤ) → z ≡ ax *ℤ by -ℤ ay *ℤ bx → ax ≡ a.x → ay ≡ a.y → bx ≡ b.x → by ≡ b.y
    → z ≡ det a b
unfolding det
det-is a b z ax ay bx by e p q r t = rw (e, p, q, r, t)

-- ---- Sizes

-- Coordinates of bytes are at most 128 away from 0, and so an edge adds at most 2 ^ 15.
pub edge_small : (a b : Vertex) → SFits w8 a.x → SFits w8 a.y → SFits w8 b.x → SFits w8 b.y → nat_abs (det a b) ≤ 32768
unfolding det
edge_small a b p q r t =
    bounded (128 ∷ 128 ∷ 128 ∷ 128 ∷ []) 4 (λ p q r t. p ⊠ t ⊟ q ⊠ r) a.x a.y b.x b.y (size_of w8 a.x p)
    (size_of w8 a.y q) (size_of w8 b.x r)
    (size_of w8 b.y t)

-- One edge more, of up to eight, in 64 bits.
module _ (P : List Vertex) (k : ℕ) (h : k < 8) (a d : ℤ) (small : nat_abs a ≤ k * 32768) (more : nat_abs d ≤ 32768)
  where
    sum-small : nat_abs (a +ℤ d) ≤ (k + 1) * 32768
    sum-small = let z = nat_abs-+ℤ a d in omega (arith, z)

    pub more_fits : SFits w64 (a +ℤ d)
    more_fits = fits-64 (a +ℤ d) (omega (arith, sum-small))

    pub more_is : a ≡ sum_below (edge_area P) k → d ≡ edge_area P k
        → (to_z w64 (of_z w64 (a +ℤ d)) ≡ sum_below (edge_area P) (k + 1)) × (nat_abs (to_z w64 (of_z w64 (a +ℤ d))) ≤
        (k + 1) * 32768)
    unfolding sum_below
    more_is ea ed =
        let e = to_z-of_z w64 (a +ℤ d) more_fits in (
          e ∙ ap₂ ◌+ℤ◌ ea ed ∙ ap (sum_below (edge_area P)) (sym (add-one k)),
          subst (λ z. nat_abs z ≤ (k + 1) * 32768)
              (sym e) sum-small,
        )
