-- Words of everyday mathematics about lists and tests, as functions that compute.
use Rattle.std.specs.Prelude.{Bool, true, false, cond, ◌&&◌, ◌||◌, List, [], ◌∷◌, ◌++◌, ℕ, zero, suc, ◌+◌, leb, ℤ, pos}
use Prim.Native.Nat as Nat
use Rattle.integers.specs.Extrema.{max_z, min_z}

module _ {A : Type 0} where
  -- The test holds of every element.
  unfoldable pub all : (A → Bool) → List A → Bool
  all p [] = true
  all p (x ∷ xs) = p x && all p xs

  -- The test holds of some element.
  unfoldable pub any : (A → Bool) → List A → Bool
  any p [] = false
  any p (x ∷ xs) = p x || any p xs

  -- The elements of which the test holds, in their order.
  unfoldable pub keep : (A → Bool) → List A → List A
  keep p [] = []
  keep p (x ∷ xs) = cond (p x) (x ∷ keep p xs) (keep p xs)

  -- How many elements the test holds of.
  unfoldable pub count_of : (A → Bool) → List A → ℕ
  count_of p [] = 0
  count_of p (x ∷ xs) = cond (p x) 1 0 + count_of p xs

  -- The elements of all the lists, one list after the other.
  unfoldable pub concat : List (List A) → List A
  concat [] = []
  concat (xs ∷ xss) = xs ++ concat xss

-- The sum of the numbers.
unfoldable pub sum : List ℕ → ℕ
sum [] = 0
sum (n ∷ ns) = n + sum ns

-- The largest of the numbers, and 0 if there is none.
unfoldable pub largest : List ℕ → ℕ
largest [] = 0
largest (n ∷ ns) = Nat.max n (largest ns)

-- k numbers that rise by one, from i on.
unfoldable pub rising : ℕ → ℕ → List ℕ
rising i zero = []
rising i (suc k) = i ∷ rising (suc i) k

-- The numbers below n, rising.
unfoldable pub below : ℕ → List ℕ
below n = rising 0 n

-- The number lies from lo to hi, both included.
unfoldable pub between : ℕ → ℕ → ℕ → Bool
between lo hi n = leb lo n && leb n hi

-- The largest of z and the integers.
unfoldable pub largest_from : ℤ → List ℤ → ℤ
largest_from z [] = z
largest_from z (w ∷ ws) = largest_from (max_z z w) ws

-- The smallest of z and the integers.
unfoldable pub smallest_from : ℤ → List ℤ → ℤ
smallest_from z [] = z
smallest_from z (w ∷ ws) = smallest_from (min_z z w) ws

-- The largest of the integers. (Of none, 0: every part has a corner.)
unfoldable pub largest_z : List ℤ → ℤ
largest_z [] = pos 0
largest_z (z ∷ zs) = largest_from z zs

-- The smallest of the integers. (Of none, 0: every part has a corner.)
unfoldable pub smallest_z : List ℤ → ℤ
smallest_z [] = pos 0
smallest_z (z ∷ zs) = smallest_from z zs
