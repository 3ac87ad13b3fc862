-- A flat run of numbers as a part: its vertices by their places. Assumes nothing.
use mathlib.Core.List.{List, [], ◌∷◌}
use mathlib.Core.Path.{◌≡◌, refl, sym, ap, ◌∙◌}
use Prim.Native.Nat.{ℕ, zero, suc, ◌+◌, ◌*◌, ◌/◌, ◌<◌}
use native.Mathlib.Nat.{not-suc-le-zero}
use native.Mathlib.Omega.{arith}
use lib.IntN.{ℤ, pos}
use lib.ListN.{length, get_or}
use Rattle.model.specs.Content.{vertex}
use Rattle.model.specs.Geometry.{vertex_at}
use Rattle.polygons.specs.Flat.{part_of}

-- two numbers a vertex
pub part_length : (l : List ℤ) → length (part_of l) ≡ length l / 2
unfolding part_of
part_length [] = refl
part_length (x ∷ []) = refl
part_length (x ∷ y ∷ l) = let h = part_length l in omega arith

-- vertex k stands at 2 k and 2 k + 1
pub part_at : (l : List ℤ) (k : ℕ) → 2 * k + 1 < length l → vertex_at (part_of l) k ≡ vertex (get_or l (2 * k) (pos 0)) (get_or l (2 * k + 1) (pos 0))
unfolding part_of vertex_at
part_at [] k h = absurd (not-suc-le-zero h)
part_at (x ∷ []) k h = let z : ⊥ = omega arith in absurd z
part_at (x ∷ y ∷ l) zero h = refl
part_at (x ∷ y ∷ l) (suc k) h =
    part_at l k (omega arith) ∙ ap (λ s. vertex s (get_or l (2 * k + 1) (pos 0))) (sym (at (2 * suc k) (2 * k) (omega arith)))
    ∙ ap (λ s. vertex (get_or (x ∷ y ∷ l) (2 * suc k) (pos 0)) s) (sym (at (2 * suc k + 1) (2 * k + 1) (omega arith)))
  where
    at : (m n : ℕ) → m ≡ suc (suc n) → get_or (x ∷ y ∷ l) m (pos 0) ≡ get_or l n (pos 0)
    at m n e = ap (λ s. get_or (x ∷ y ∷ l) s (pos 0)) e
