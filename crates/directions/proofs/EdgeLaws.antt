-- The edges of a part one after the other, and the vertices of a part against a limit along a direction. Assumes nothing.
use mathlib.Core.Bool.{Bool, true, false}
use mathlib.Core.List.{[], ◌∷◌, map}
use mathlib.Core.Path.{◌≡◌, refl, sym, ap, ◌∙◌}
use Prim.Native.Nat.{ℕ, suc, ◌+◌, ◌<◌}
use native.Mathlib.Numerals.{add-one}
use native.Mathlib.Omega.{arith}
use lib.IntN.{ℤ, pos, ◌+ℤ◌, ◌-ℤ◌}
use lib.ListN.{length, get_or}
use lib.Signed.{le_z, ◌≤ℤ◌, ◌<ℤ◌, ≤ℤ_refl}
use Rattle.integers.proofs.Certificates.{order, ◌⊢◌by◌, hyp, ◌⊕◌}
use Rattle.integers.proofs.Order.{le_z_true, le_z_false, le_le_z, lt_le_z, clash, ≤ℤ-antisym}
use Rattle.integers.proofs.Solver.{#, ◌⊞◌, ◌⊟◌, ◌⊠◌, ◌≲◌, ◌≺◌}
use Rattle.model.specs.Content.{Vertex, Part, origin}
use Rattle.model.specs.Geometry.{Direction, vertex_at, following, outward_normal, normals, along}
use Rattle.model.specs.Lists.{any, below, largest_z, smallest_z}
use Rattle.model.proofs.Box.{all_above, all-below-bound}
use Rattle.model.proofs.Lists.{all-at, all_of}
use Rattle.model.proofs.Tests.{any-map}
use Rattle.convexity.proofs.Members.{in_any, in_none, in_below, below_in}
use Rattle.convexity.specs.Parts.{SoundPart}
use Rattle.convexity.proofs.Clear.{good}
use Rattle.convexity.proofs.Edges.{area_e}
use Rattle.convexity.proofs.Places.{edge_at, in_edges, in_part, following-step, following-last}
use Rattle.polygons.specs.Flat.{normal_of}

-- ---- the edges

-- The test of the normals, edge by edge: none passes, and one does.
module _ (t : Direction → Bool) (P : Part) where
  pub no_normal : ((j : ℕ) → j < length P → t (normal_of P j) ≡ false) → any t (normals P) ≡ false
  unfolding normals normal_of
  no_normal f = any-map t (normal_of P) (below (length P)) ∙ in_none (λ i. t (normal_of P i)) (below (length P)) (λ j i. f j (below_in (length P) j i))

  pub some-normal : (k : ℕ) → k < length P → t (normal_of P k) ≡ true → any t (normals P) ≡ true
  unfolding normals normal_of
  some-normal k h e = any-map t (normal_of P) (below (length P)) ∙ in_any (λ i. t (normal_of P i)) (below (length P)) k (in_below (length P) k h) e

-- the next vertex, by the place of its y
pub next_inside : (P : Part) (k : ℕ) → suc k < length P → k + 1 ≡ following P k
next_inside P k h = add-one k ∙ sym (following-step P k h)

pub next_first : (P : Part) (k : ℕ) → suc k ≡ length P → 0 ≡ following P k
next_first P k h = sym (following-last P k h)

-- the normal of an edge, by the vertices that it joins
pub normal_at : (P : Part) (k m : ℕ) → m ≡ following P k → outward_normal (vertex_at P k) (vertex_at P m) ≡ normal_of P k
unfolding normal_of
normal_at P k m e = ap (λ i. outward_normal (vertex_at P k) (vertex_at P i)) e

-- ---- the vertices against a limit

module _ (f : Vertex → ℤ) (P : Part) where
  -- no vertex lies before it, so the least does not
  pub all-beyond : (z : ℤ) → 0 < length P → ((j : ℕ) → j < length P → z ≤ℤ f (vertex_at P j)) → le_z z (smallest_z (map f P)) ≡ true
  unfolding vertex_at
  all-beyond z h g = sym (all_above f P h z) ∙ all_of (λ v. le_z z (f v)) P origin (λ j k. le_le_z z (f (get_or P j origin)) (g j k))

  -- one vertex lies before it, so the least does
  pub one_before : (z : ℤ) (j : ℕ) → j < length P → f (vertex_at P j) <ℤ z → le_z z (smallest_z (map f P)) ≡ false
  unfolding vertex_at
  one_before z j k b = go (le_z z (smallest_z (map f P))) refl
    where
      go : (t : Bool) → le_z z (smallest_z (map f P)) ≡ t → le_z z (smallest_z (map f P)) ≡ false
      go false e = e
      go true e =
          absurd (clash (le_z_true z (f (get_or P j origin)) (all-at (λ v. le_z z (f v)) P origin (all_above f P (omega arith) z ∙ e) j k)) b)

  -- no vertex exceeds it, so the largest does not
  pub all-within : (z : ℤ) → 0 < length P → ((j : ℕ) → j < length P → f (vertex_at P j) ≤ℤ z) → le_z (largest_z (map f P)) z ≡ true
  unfolding vertex_at
  all-within z h g = sym (all-below-bound f P h z) ∙ all_of (λ v. le_z (f v) z) P origin (λ j k. le_le_z (f (get_or P j origin)) z (g j k))

  -- no vertex exceeds the largest
  pub one_within : (j : ℕ) → j < length P → f (vertex_at P j) ≤ℤ largest_z (map f P)
  unfolding vertex_at
  one_within j k =
      let z : ℤ = largest_z (map f P) in
      le_z_true (f (get_or P j origin)) z (all-at (λ v. le_z (f v) z) P origin (all-below-bound f P (omega arith) z ∙ le_le_z z z (≤ℤ_refl z)) j k)

-- a vertex that is too near already refutes the direction, since the furthest is no nearer
pub refuted : (near far way low : ℤ) → near ≤ℤ far → le_z (near -ℤ way) low ≡ false → le_z far (low +ℤ way) ≡ false
refuted near far way low h e =
    lt_le_z far (low +ℤ way)
    (order 4 (λ n f w l. (n ≲ f) ∷ (l ≺ n ⊟ w) ∷ [] ⊢ l ⊞ w ≺ f by hyp 0 ⊕ hyp 1) tt near far way low h (le_z_false (near -ℤ way) low e))

-- and where the furthest is no further, it is all that is asked
pub confirmed : (near far way low : ℤ) → far ≡ near → le_z (near -ℤ way) low ≡ true → le_z far (low +ℤ way) ≡ true
confirmed near far way low h e =
    ap (λ z. le_z z (low +ℤ way)) h
    ∙ le_le_z near (low +ℤ way) (order 3 (λ n w l. (n ⊟ w ≲ l) ∷ [] ⊢ n ≲ l ⊞ w by hyp 0) tt near way low (le_z_true (near -ℤ way) low e))

-- ---- the edges of a sound part

-- the normal of edge k
module _ (P : Part) (is_sound : SoundPart P) (k : ℕ) (h : k < length P) where
  no_further : (j : ℕ) → j < length P → along (normal_of P k) (vertex_at P j) ≤ℤ along (normal_of P k) (vertex_at P k)
  unfolding along normal_of outward_normal
  no_further j l =
      order 6 (λ px py qx qy rx ry. (# (pos 0) ≲ area_e px py qx qy rx ry) ∷ [] ⊢ (qy ⊟ py) ⊠ rx ⊞ (px ⊟ qx) ⊠ ry ≲ (qy ⊟ py) ⊠ px ⊞ (px ⊟ qx) ⊠ py by hyp 0) tt
      (vertex_at P k).x (vertex_at P k).y (vertex_at P (following P k)).x (vertex_at P (following P k)).y (vertex_at P j).x (vertex_at P j).y
      ((good is_sound).weak (edge_at P k) (vertex_at P j) (in_edges P k h) (in_part P j l))

  -- no vertex lies further along it than the edge's own
  pub own_furthest : largest_z (map (along (normal_of P k)) P) ≡ along (normal_of P k) (vertex_at P k)
  own_furthest =
      ≤ℤ-antisym (le_z_true _ _ (all-within (along (normal_of P k)) P (along (normal_of P k) (vertex_at P k)) (omega arith) no_further)) (one_within (along (normal_of P k)) P k h)
