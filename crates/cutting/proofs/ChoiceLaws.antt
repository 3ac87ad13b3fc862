-- The corner that goes next, by the numbers of the corners.
use mathlib.Core.Bool.{Bool, true, false, not, cond, ◌&&◌, ◌||◌}
use mathlib.Core.List.{List, []}
use mathlib.Core.Logic.{⊎_elim}
use mathlib.Core.Path.{◌≡◌, refl, sym, ap, subst, ◌∙◌}
use Prim.Native.Nat.{ℕ, zero, suc, ◌+◌, ◌<◌, ◌≤◌, zero-le}
use native.Mathlib.Omega.{arith}
use lib.Dec.{eqb}
use lib.ListN.{length}
use Rattle.std.specs.List.{find, range_with_len}
use Rattle.std.specs.Option.{option_map}
use Rattle.std.specs.Prelude.{Option, None, Some, IfSome}
use Rattle.words.proofs.Cases.{le_or_lt}
use Rattle.model.specs.Content.{Vertex}
use Rattle.model.specs.Geometry.{cross, strictly_left, vertex_at}
use Rattle.model.specs.Lists.{all, below}
use Rattle.model.proofs.Folds.{all_same}
use Rattle.records.specs.Parts.{next_of}
use Rattle.outlines.specs.Outline.{is_zero, holds, first_where}
use Rattle.outlines.specs.Numbered.{others}
use Rattle.outlines.proofs.Places.{spared, line_at, ear_at, first-at, first-none}
use Rattle.simplicity.specs.Corners.{previous_of, before, after}
use Rattle.records.proofs.CornerLaws.{following-of}
use Rattle.simplicity.proofs.CornerLaws.{previous-of}
use Rattle.cutting.specs.Choice.{is_spared, in_line_at, is_ear_at, found}

-- ---- The first number of which a test holds

module _ (p : ℕ → Bool) where
  -- r is the lowest of the k numbers from i on of which the test holds, if there is one.
  abbrev Lowest : ℕ → ℕ → Option ℕ → Type 0
  Lowest i k None = (j : ℕ) → i ≤ j → j < i + k → p j ≡ false
  Lowest i k (Some m) = ((i ≤ m) × (m < i + k)) × ((p m ≡ true) × ((j : ℕ) → i ≤ j → j < m → p j ≡ false))

  lowest : (i k : ℕ) → Lowest i k (find p (range_with_len i k))
  lowest i zero = λ j l m. absurd (omega arith)
  lowest i (suc k) = go (p i) refl (find p (range_with_len (i + 1) k)) (lowest (i + 1) k)
    where
      later : p i ≡ false → (n : ℕ) → ((j : ℕ) → i + 1 ≤ j → j < n → p j ≡ false) → (j : ℕ) → i ≤ j → j < n → p j
          ≡ false
      later e n h j l m = ⊎_elim (λ q. let x : j ≡ i = omega arith in ap p x ∙ e) (λ q. h j (omega arith) m)
          (le_or_lt j i)

      go : (b : Bool) → p i ≡ b → (r : Option ℕ) → Lowest (i + 1) k r → Lowest i (suc k) (cond b (Some i) r)
      go true e r h = ((omega arith, omega arith), (e, λ j l m. absurd (omega arith)))
      go false e None h = later e (i + suc k) (λ j l m. h j l (omega arith))
      go false e (Some m) h = ((omega (arith, h.0), omega (arith, h.0)), (h.1.0, later e m h.1.1))

pub mapped-same : (r : Option ℕ) → r ≡ option_map (λ x. x) r
mapped-same None = refl
mapped-same (Some m) = refl

-- The corner that is found by a test of the numbers is the one that the definition finds.
pub found-first : (test : Vertex → List Vertex → Bool) (P : List Vertex) (r : Option ℕ)
    → r ≡ find (λ i. test (vertex_at P i) (others P i)) (range_with_len 0 (length P))
    → (first_where test [] P ≡ found P r) × IfSome r (λ i. i < length P)
found-first test P r e = go r (subst (Lowest (λ i. test (vertex_at P i) (others P i)) 0 (length P)) (sym e)
    (lowest (λ i. test (vertex_at P i) (others P i)) 0 (length P)))
  where
    go : (r : Option ℕ) → Lowest (λ i. test (vertex_at P i) (others P i)) 0 (length P) r
        → (first_where test [] P ≡ found P r) × IfSome r (λ i. i < length P)
    go None h = (first-none test P (λ j l. h j zero-le (omega arith)), tt)
    go (Some m) h = let l : m < length P = omega (arith, h.0) in (
      first-at test P m l (λ j k. h.1.1 j zero-le k) h.1.0,
      l,
    )

-- ---- The two tests

module _ (P : List Vertex) (i : ℕ) (h : i < length P) where
  -- Corner i is in line with its neighbours.
  pub line-is : 2 ≤ length P → is_zero (cross (before P i) (vertex_at P i) (after P i)) ≡ in_line_at P i
  line-is two =
      sym (line_at P i h two
      ∙ (λ k. is_zero (cross (vertex_at P (previous-of P i k)) (vertex_at P i) (vertex_at P (following-of P i k)))))

  spared_is : (j : ℕ) → spared P i j ≡ is_spared P (previous_of (length P) i) i (next_of (length P) i) j
  unfolding is_spared
  spared_is j =
      λ k. eqb j i || eqb j (previous-of P i k) || eqb j (following-of P i k)
      || not (holds (vertex_at P (previous-of P i k)) (vertex_at P i) (vertex_at P (following-of P i k))
      (vertex_at P j))

  -- Corner i is an ear.
  pub ear_is : 3 ≤ length P
      → (strictly_left (before P i) (vertex_at P i) (after P i)
      && all (is_spared P (previous_of (length P) i) i (next_of (length P) i)) (below (length P)))
      ≡ is_ear_at P i
  ear_is three =
      sym (ear_at P i h three
      ∙ (λ k. strictly_left (vertex_at P (previous-of P i k)) (vertex_at P i) (vertex_at P (following-of P i k))
      && all_same (spared P i) (is_spared P (previous_of (length P) i) i (next_of (length P) i)) (length P)
      (λ j l. spared_is j) k))
