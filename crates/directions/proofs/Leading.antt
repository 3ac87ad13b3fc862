-- The vertex furthest along a direction, one after the other. Assumes nothing.
use mathlib.Core.Path.{◌≡◌, sym, subst}
use Prim.Native.Nat.{ℕ, ◌+◌, ◌≤◌, ◌<◌}
use native.Mathlib.Omega.{arith}
use borrow.Author.Count.{below_none, below_more}
use lib.IntN.{ℤ}
use lib.ListN.{length}
use lib.Signed.{◌≤ℤ◌, ◌<ℤ◌}
use Rattle.integers.proofs.Order.{le_z_true, ≤ℤ-trans, ≤ℤ-antisym, ≡-≤ℤ, <ℤ-≤ℤ}
use Rattle.model.specs.Content.{Vertex, Part}
use Rattle.model.specs.Geometry.{Direction, vertex_at, along}
use Rattle.directions.specs.Directions.{Furthest}
use Rattle.directions.proofs.EdgeLaws.{all-within, one_within}

-- vertex n, at z, lies furthest of those before k
pub record Leading (f : Vertex → ℤ) (P : Part) (k n : ℕ) (z : ℤ) : Type 0 where
  pub within : k ≤ length P
  pub before : n < k
  pub place : z ≡ f (vertex_at P n)
  pub first : (j : ℕ) → j < k → f (vertex_at P j) ≤ℤ z

module _ (f : Vertex → ℤ) (P : Part) where
  -- the first vertex begins
  pub leading_first : (z : ℤ) → 0 < length P → z ≡ f (vertex_at P 0) → Leading f P 1 0 z
  leading_first z h e = record { within = h; before = omega arith; place = e; first = below_more _ 0 (below_none _) (≡-≤ℤ (sym e)) }

  -- the next one lies further,
  pub leading_new : (k n : ℕ) (z y : ℤ) → Leading f P k n z → k < length P → y ≡ f (vertex_at P k) → z <ℤ y → Leading f P (k + 1) k y
  leading_new k n z y l h e g =
      record { within = omega arith; before = omega arith; place = e; first = below_more _ k (λ j i. ≤ℤ-trans (l.first j i) (<ℤ-≤ℤ g)) (≡-≤ℤ (sym e)) }

  -- or does not
  pub leading_old : (k n : ℕ) (z y : ℤ) → Leading f P k n z → k < length P → y ≡ f (vertex_at P k) → y ≤ℤ z → Leading f P (k + 1) n z
  leading_old k n z y l h e g =
      record { within = omega arith; before = omega (arith, l.before); place = l.place; first = below_more _ k l.first (subst (λ w. w ≤ℤ z) e g) }

-- after the last one it is the furthest of all
pub leading_last : (d : Direction) (P : Part) (k n : ℕ) (z : ℤ) → Leading (along d) P k n z → length P ≤ k → Furthest P d n
leading_last d P k n z l h =
    let inside : n < length P = omega (arith, l.within, l.before) in
    record {
      inside = inside;
      most = ≤ℤ-antisym (le_z_true _ _ (all-within (along d) P (along d (vertex_at P n)) (omega (arith, l.within, l.before)) (λ j i. subst (λ w. along d (vertex_at P j) ≤ℤ w) l.place (l.first j (omega arith)))))
          (one_within (along d) P n inside);
    }
