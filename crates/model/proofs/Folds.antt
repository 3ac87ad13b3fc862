-- The list words of specs/Lists over lists put together, and over one element more at the end: the laws of loops that count up.
use mathlib.Core.Bool.{Bool, true, false, cond, ◌&&◌, ◌||◌, and_assoc, or_assoc, and-true, or-false}
use mathlib.Core.List.{List, [], ◌∷◌, ◌++◌, map, append_assoc, append-nil}
use mathlib.Core.Path.{◌≡◌, refl, sym, ap, ap₂, ◌∙◌}
use Prim.Native.Nat.{ℕ, zero, suc, ◌+◌, ◌-◌, ◌<◌, ◌≤◌, max}
use native.Mathlib.Nat.{not-suc-le-zero, le_of_suc-le-suc, add-zero, add-suc, suc-add, zero-add, add_assoc, max_comm}
use native.Mathlib.Numerals.{add-one}
use native.Mathlib.Omega.{arith}
use lib.ListN.{length, get_or, take}
use lib.Seq.{take-suc}
use Rattle.model.specs.Lists.{all, any, keep, concat, sum, largest, rising, below}

pub map-append : {A B : Type 0} (f : A → B) (xs ys : List A) → map f (xs ++ ys) ≡ map f xs ++ map f ys
map-append f [] ys = refl
map-append f (x ∷ xs) ys = ap (λ r. f x ∷ r) (map-append f xs ys)

pub map_same : {A B : Type 0} (f g : A → B) (xs : List A) → ((x : A) → f x ≡ g x) → map f xs ≡ map g xs
map_same f g [] h = refl
map_same f g (x ∷ xs) h = rw (h x, map_same f g xs h)

-- Element i of a mapped list, whatever stands past the ends.
pub get_or-map-at : {A B : Type 0} (f : A → B) (xs : List A) (i : ℕ) (d : A) (e : B) → i < length xs → get_or (map f xs) i e ≡ f (get_or xs i d)
get_or-map-at f [] i d e h = absurd (not-suc-le-zero h)
get_or-map-at f (x ∷ xs) zero d e h = refl
get_or-map-at f (x ∷ xs) (suc i) d e h = get_or-map-at f xs i d e (le_of_suc-le-suc h)

module _ {A : Type 0} where
  pub all_append : (p : A → Bool) (xs ys : List A) → all p (xs ++ ys) ≡ (all p xs && all p ys)
  unfolding all
  all_append p [] ys = refl
  all_append p (x ∷ xs) ys = rw (all_append p xs ys) (sym (and_assoc (p x) (all p xs) (all p ys)))

  pub any_append : (p : A → Bool) (xs ys : List A) → any p (xs ++ ys) ≡ (any p xs || any p ys)
  unfolding any
  any_append p [] ys = refl
  any_append p (x ∷ xs) ys = rw (any_append p xs ys) (sym (or_assoc (p x) (any p xs) (any p ys)))

  pub keep_append : (p : A → Bool) (xs ys : List A) → keep p (xs ++ ys) ≡ keep p xs ++ keep p ys
  unfolding keep
  keep_append p [] ys = refl
  keep_append p (x ∷ xs) ys = go (keep_append p xs ys) (p x)
    where
      go : keep p (xs ++ ys) ≡ keep p xs ++ keep p ys → (b : Bool)
          → cond b (x ∷ keep p (xs ++ ys)) (keep p (xs ++ ys)) ≡ cond b (x ∷ keep p xs) (keep p xs) ++ keep p ys
      go ih true = ap (λ r. x ∷ r) ih
      go ih false = ih

  pub concat-append : (xss yss : List (List A)) → concat (xss ++ yss) ≡ concat xss ++ concat yss
  unfolding concat
  concat-append [] yss = refl
  concat-append (xs ∷ xss) yss = rw (concat-append xss yss) (sym (append_assoc xs (concat xss) (concat yss)))

  -- One element more.
  pub all_more : (p : A → Bool) (xs : List A) (x : A) → all p (xs ++ (x ∷ [])) ≡ (all p xs && p x)
  unfolding all
  all_more p xs x = all_append p xs (x ∷ []) ∙ ap (λ b. all p xs && b) (and-true (p x))

  pub any-more : (p : A → Bool) (xs : List A) (x : A) → any p (xs ++ (x ∷ [])) ≡ (any p xs || p x)
  unfolding any
  any-more p xs x = any_append p xs (x ∷ []) ∙ ap (λ b. any p xs || b) (or-false (p x))

  pub concat-more : (xss : List (List A)) (xs : List A) → concat (xss ++ (xs ∷ [])) ≡ concat xss ++ xs
  unfolding concat
  concat-more xss xs = concat-append xss (xs ∷ []) ∙ ap (λ r. concat xss ++ r) (append-nil xs)

  -- No element, where the test holds of none.
  pub keep-none : (p : A → Bool) (xs : List A) → any p xs ≡ false → keep p xs ≡ []
  unfolding keep any
  keep-none p [] e = refl
  keep-none p (x ∷ xs) e = go (keep-none p xs) (p x) e
    where
      go : (any p xs ≡ false → keep p xs ≡ []) → (b : Bool) → (b || any p xs) ≡ false → cond b (x ∷ keep p xs) (keep p xs) ≡ []
      go ih true h = let z : true ≡ false = h in cc
      go ih false h = ih h

  -- A test of no element holds of one that stands in the list.
  pub any_at : (p : A → Bool) (xs : List A) (d : A) → any p xs ≡ false → (i : ℕ) → i < length xs → p (get_or xs i d) ≡ false
  unfolding any
  any_at p [] d e i h = absurd (not-suc-le-zero h)
  any_at p (x ∷ xs) d e zero h = go (p x) e
    where
      go : (b : Bool) → (b || any p xs) ≡ false → b ≡ false
      go true h = h
      go false h = refl
  any_at p (x ∷ xs) d e (suc i) h = any_at p xs d (go (p x) e) i (le_of_suc-le-suc h)
    where
      go : (b : Bool) → (b || any p xs) ≡ false → any p xs ≡ false
      go true h = let z : true ≡ false = h in cc
      go false h = h

pub sum-append : (ns ms : List ℕ) → sum (ns ++ ms) ≡ sum ns + sum ms
unfolding sum
sum-append [] ms = sym (zero-add (sum ms))
sum-append (n ∷ ns) ms = rw (sum-append ns ms) (sym (add_assoc n (sum ns) (sum ms)))

pub sum_more : (ns : List ℕ) (n : ℕ) → sum (ns ++ (n ∷ [])) ≡ sum ns + n
unfolding sum
sum_more ns n = sum-append ns (n ∷ []) ∙ ap (λ m. sum ns + m) (add-zero n)

largest-more : (ns : List ℕ) (n : ℕ) → largest (ns ++ (n ∷ [])) ≡ max (largest ns) n
unfolding largest
largest-more [] n = max_comm n 0
largest-more (m ∷ ns) n = ap (max m) (largest-more ns n) ∙ omega arith

-- ---- Rising numbers

pub rising-more : (i k : ℕ) → rising i (suc k) ≡ rising i k ++ ((i + k) ∷ [])
unfolding rising
rising-more i zero = rw add-zero
rising-more i (suc k) = ap (λ r. i ∷ r) (rising-more (suc i) k ∙ ap (λ m. rising (suc i) k ++ (m ∷ [])) (suc-add i k ∙ sym (add-suc i k)))

-- The numbers from i on, and then those from further on.
pub rising-append : (i n k : ℕ) → rising i (n + k) ≡ rising i n ++ rising (i + n) k
unfolding rising
rising-append i zero k = rw (zero-add, add-zero)
rising-append i (suc n) k = rw (suc-add, rising, rising-append (suc i) n k, suc-add, add-suc)

pub below_more : (n : ℕ) → below (n + 1) ≡ below n ++ (n ∷ [])
unfolding below
below_more n = ap (rising 0) (add-one n) ∙ rising-more 0 n ∙ ap (λ m. rising 0 n ++ (m ∷ [])) (zero-add n)

-- The first of the numbers from i on, where there is one.
pub rising-first : (i n : ℕ) → i < n → rising i (n - i) ≡ i ∷ rising (i + 1) (n - (i + 1))
unfolding rising
rising-first i n h =
    let e : n - i ≡ suc (n - (i + 1)) = omega arith in
    ap (rising i) e ∙ ap (λ m. i ∷ rising m (n - (i + 1))) (sym (add-one i))

-- Functions that agree below n.
map-rising-same : {A : Type 0} (f g : ℕ → A) (i k : ℕ) → ((m : ℕ) → m < i + k → f m ≡ g m) → map f (rising i k) ≡ map g (rising i k)
unfolding rising
map-rising-same f g i zero h = refl
map-rising-same f g i (suc k) h = rw (h i (omega arith), map-rising-same f g (suc i) k (λ m l. h m (omega arith)))

pub map-below-same : {A : Type 0} (f g : ℕ → A) (n : ℕ) → ((m : ℕ) → m < n → f m ≡ g m) → map f (below n) ≡ map g (below n)
unfolding below
map-below-same f g n h = map-rising-same f g 0 n (λ m l. h m (omega arith))

module _ {A : Type 0} (f : ℕ → A) where
  pub map-below-more : (n : ℕ) → map f (below (n + 1)) ≡ map f (below n) ++ (f n ∷ [])
  map-below-more n = ap (map f) (below_more n) ∙ map-append f (below n) (n ∷ [])

  -- The lists of one element more, put together.
  pub concat-below-more : {B : Type 0} (g : A → List B) (n : ℕ) → concat (map g (map f (below (n + 1)))) ≡ concat (map g (map f (below n))) ++ g (f n)
  concat-below-more g n =
      ap (λ l. concat (map g l)) (map-below-more n) ∙ ap concat (map-append g (map f (below n)) (f n ∷ []))
      ∙ concat-more (map g (map f (below n))) (g (f n))

  -- The largest, of one element more.
  pub largest-below-more : (g : A → ℕ) (n : ℕ) → largest (map g (map f (below (n + 1)))) ≡ max (largest (map g (map f (below n)))) (g (f n))
  largest-below-more g n =
      ap (λ l. largest (map g l)) (map-below-more n) ∙ ap largest (map-append g (map f (below n)) (f n ∷ []))
      ∙ largest-more (map g (map f (below n))) (g (f n))

  pub all-below-more : (p : A → Bool) (n : ℕ) → all p (map f (below (n + 1))) ≡ (all p (map f (below n)) && p (f n))
  all-below-more p n = ap (all p) (map-below-more n) ∙ all_more p (map f (below n)) (f n)

  pub any-below-more : (p : A → Bool) (n : ℕ) → any p (map f (below (n + 1))) ≡ (any p (map f (below n)) || p (f n))
  any-below-more p n = ap (any p) (map-below-more n) ∙ any-more p (map f (below n)) (f n)

pub all-numbers_more : (p : ℕ → Bool) (n : ℕ) → all p (below (n + 1)) ≡ (all p (below n) && p n)
all-numbers_more p n = ap (all p) (below_more n) ∙ all_more p (below n) n

pub any-take-more : {A : Type 0} (p : A → Bool) (xs : List A) (d : A) (i : ℕ) → i < length xs → any p (take (i + 1) xs) ≡ (any p (take i xs) || p (get_or xs i d))
any-take-more p xs d i h = ap (λ m. any p (take m xs)) (add-one i) ∙ ap (any p) (take-suc xs i d h) ∙ any-more p (take i xs) (get_or xs i d)

-- Tests that agree below n.
pub all_same : (p q : ℕ → Bool) (n : ℕ) → ((i : ℕ) → i < n → p i ≡ q i) → all p (below n) ≡ all q (below n)
unfolding all below rising
all_same p q n h = go 0 n (λ i a b. h i (omega arith))
  where
    go : (i k : ℕ) → ((j : ℕ) → i ≤ j → j < i + k → p j ≡ q j) → all p (rising i k) ≡ all q (rising i k)
    go i zero h = refl
    go i (suc k) h = ap₂ (λ a b. a && b) (h i (omega arith) (omega arith)) (go (suc i) k (λ j a b. h j (omega arith) (omega arith)))
