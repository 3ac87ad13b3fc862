-- The sizes of what is computed along a direction: no operation wraps. Assumes nothing.
use mathlib.Core.List.{[], ◌∷◌}
use mathlib.Core.Path.{◌≡◌, refl, sym, ◌∙◌, ap, subst}
use Prim.Native.Nat.{ℕ, suc, ◌+◌, ◌≤◌, ◌^◌}
use native.Mathlib.Nat.{le_trans, le-suc, le_of_eq, pow-succ'}
use native.Mathlib.Omega.{arith}
use lib.Dec.{T, leb, leb→le}
use lib.IntN.{ℤ, neg_ℤ, nat_abs, ◌+ℤ◌, ◌-ℤ◌, ◌*ℤ◌}
use lib.Pow.{pow_mono}
use mir.Syntax.{w16, w32, w64}
use mir.Val.{SFits, to_z, of_z}
use mir.ValLaws.{to_z-of_z}
use Rattle.integers.proofs.Absolute.{nat_abs-+ℤ, nat_abs-negℤ}
use Rattle.integers.proofs.Machine.{op_gives}
use Rattle.integers.proofs.Sizes.{bounded, size_of, fits-64}
use Rattle.integers.proofs.Solver.{◌⊞◌, ◌⊠◌}
use Rattle.model.specs.Content.{Vertex, vertex}
use Rattle.model.specs.Geometry.{Direction, along}
use Rattle.directions.specs.Directions.{Small}

-- ---- results that are small

-- the same result, under another name for its value
pub small-as : {u v : ℤ} {k : ℕ} {r : ℤ} → u ≡ v → Small u k r → Small v k r
small-as e h = record { value = h.value ∙ e; size = h.size }

-- the same value, under another name for the result
pub small_at : {v : ℤ} {k : ℕ} {x z : ℤ} → x ≡ z → Small v k z → Small v k x
small_at {v} {k} {x} {z} e h = subst (Small v k) (sym e) h

-- a wider bound
pub small-more : {v : ℤ} {k : ℕ} {r : ℤ} → Small v k r → Small v (suc k) r
small-more {v} {k} {r} h = record { value = h.value; size = le_trans h.size (pow_mono (le-suc k)) }

-- it fits 64 bits, so it is what the bits of a local say
module _ {v : ℤ} {k : ℕ} {r : ℤ} (h : Small v k r) (t : T (leb k 62)) where
  pub small-fits : SFits w64 r
  small-fits = fits-64 r (le_trans h.size (pow_mono (leb→le k 62 t)))

  pub small-read : to_z w64 (of_z w64 r) ≡ r
  small-read = to_z-of_z w64 r small-fits

-- sums and differences of two
module _ {u v : ℤ} {k : ℕ} {x y : ℤ} (h : Small u k x) (g : Small v k y) where
  both : (n : ℕ) → n ≤ nat_abs x + nat_abs y → n ≤ 2 ^ suc k
  both n l = omega (arith, h.size, g.size, pow-succ' 2 k)

  pub small-sum : Small (u +ℤ v) (suc k) (x +ℤ y)
  small-sum = record { value = λ i. h.value i +ℤ g.value i; size = both (nat_abs (x +ℤ y)) (nat_abs-+ℤ x y) }

  pub small-difference : Small (u -ℤ v) (suc k) (x -ℤ y)
  small-difference =
      record { value = λ i. h.value i -ℤ g.value i; size = both (nat_abs (x -ℤ y)) (le_trans (nat_abs-+ℤ x (neg_ℤ y)) (le_of_eq (ap (λ n. nat_abs x + n) (nat_abs-negℤ y)))) }

-- how far a vertex lies along a direction, under its coordinates' other names
pub small_vertex : (d : Direction) {v : Vertex} {x y : ℤ} {k : ℕ} {r : ℤ} → x ≡ v.x → y ≡ v.y
    → Small (along d (vertex x y)) k r → Small (along d v) k r
small_vertex d ex ey = small-as (λ i. along d (vertex (ex i) (ey i)))

-- ---- a × x + b × y

pub dot_small : {a b x y r : ℤ} → SFits w32 a → SFits w32 b → SFits w16 x → SFits w16 y
    → r ≡ to_z w32 (of_z w32 a) *ℤ to_z w16 (of_z w16 x) +ℤ to_z w32 (of_z w32 b) *ℤ to_z w16 (of_z w16 y) → Small (a *ℤ x +ℤ b *ℤ y) 47 r
dot_small {a} {b} {x} {y} {r} ha hb hx hy e = small_at is (record { value = refl; size = size })
  where
    is : r ≡ a *ℤ x +ℤ b *ℤ y
    is = e ∙ (λ i. to_z-of_z w32 a ha i *ℤ to_z-of_z w16 x hx i +ℤ to_z-of_z w32 b hb i *ℤ to_z-of_z w16 y hy i)

    size : nat_abs (a *ℤ x +ℤ b *ℤ y) ≤ 2 ^ 47
    size = bounded (2 ^ 31 ∷ 2 ^ 31 ∷ 2 ^ 15 ∷ 2 ^ 15 ∷ []) 4 (λ a b x y. a ⊠ x ⊞ b ⊠ y) a b x y (size_of w32 a ha) (size_of w32 b hb) (size_of w16 x hx) (size_of w16 y hy)

-- ---- places along a direction

-- a number as it is read from the bits of a local
abbrev pub read : ℤ → ℤ
read z = to_z w64 (of_z w64 z)

-- a place less a move
module _ {N M n m : ℤ} (hn : Small N 47 n) (hm : Small M 47 m) where
  pub less_gives : read (read n -ℤ read m) ≡ N -ℤ M
  less_gives = op_gives (small-read hn tt) (small-read hm tt) ◌-ℤ◌ (small-fits (small-difference hn hm) tt) ∙ (small-difference hn hm).value

-- a number as it stands in a local
module _ {k : ℕ} {N n : ℤ} (t : T (leb k 62)) (h : Small N k n) where
  pub said : read n ≡ N
  said = small-read h t ∙ h.value
