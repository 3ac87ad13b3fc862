-- A layout's entries: how many are of a kind, and the order of two. Assumes nothing.
use mathlib.Core.Bool.{Bool, true, false, cond}
use mathlib.Core.List.{List, map}
use mathlib.Core.Path.{◌≡◌, refl}
use Prim.Native.Nat.{ℕ, zero, suc, ◌+◌, ◌*◌, ◌≤◌, ◌<◌}
use native.Mathlib.Nat.{mul-le-mul}
use native.Mathlib.Omega.{arith}
use borrow.Author.Tests.{eq-eqb, ne_eqb}
use lib.Dec.{ltb, eqb}
use lib.ListN.{length}
use Rattle.std.specs.List.{filter, range_with_len}
use Rattle.model.specs.Layout.{Entry, copies}
use Rattle.model.specs.Lists.{count_of, rising, below}
use Rattle.model.specs.Services.{entry_in}
use Rattle.layouts.specs.Entries.{entries_in}
use Rattle.layouts.specs.Passing.{number_by, in_order_by}

-- ---- copies

module _ (p : Entry → Bool) (f : ℕ → Entry) where
  counted : (i k : ℕ) → length (filter (λ m. p (f m)) (range_with_len i k)) ≡ count_of p (map f (rising i k))
  unfolding count_of rising
  counted i zero = refl
  counted i (suc k) = go (counted (suc i) k) (p (f i)) refl
    where
      go : length (filter (λ m. p (f m)) (range_with_len (suc i) k)) ≡ count_of p (map f (rising (suc i) k))
          → (b : Bool) → p (f i) ≡ b
          → length (filter (λ m. p (f m)) (range_with_len i (suc k)))
          ≡ cond (p (f i)) 1 0 + count_of p (map f (rising (suc i) k))
      go rest true e = let n : i + 1 ≡ suc i = omega arith in rw (e, n) (omega (arith, rest))
      go rest false e = let n : i + 1 ≡ suc i = omega arith in rw (e, n) (omega (arith, rest))

pub copies_counted : (t : ℕ) (s : List ℕ) (n : ℕ) → length (filter (λ i. eqb (entry_in s i).kind t) (range_with_len 0
    n)) ≡ copies t (entries_in s n)
unfolding copies entries_in below
copies_counted t s n = counted (λ e. eqb e.kind t) (entry_in s) 0 n

-- ---- the number of an entry

pub product_small : (a b : ℕ) → a < 65536 → b ≤ 1001 → a * b ≤ 65601536
product_small a b h l = let p : a * b ≤ 65536 * 1001 = mul-le-mul {n₂ = 65536} {m₂ = 1001} (omega arith) l in omega
    arith

-- ---- two entries

module _ (rows : ℕ) (e f : Entry) where
  pub order_within : e.kind ≡ f.kind → ltb (number_by rows e) (number_by rows f) ≡ in_order_by rows e f
  unfolding in_order_by
  order_within h = rw (eq-eqb e.kind f.kind h)

  pub order_between : (e.kind ≡ f.kind → ⊥) → ltb e.kind f.kind ≡ in_order_by rows e f
  unfolding in_order_by
  order_between h = rw (ne_eqb e.kind f.kind h)
