-- Laws of the list words of specs/Lists.
use mathlib.Core.Bool.{Bool, true, false, cond, ◌&&◌, ◌||◌, true≢false}
use mathlib.Core.List.Memᴰ
use mathlib.Core.List.{List, [], ◌∷◌, ◌++◌, map, Memᴰ, reverse, reverse_aux}
use mathlib.Core.Logic.{◌⊎◌, inl, inr, ⊎_elim}
use mathlib.Core.Path.{◌≡◌, refl, sym, ap, ◌∙◌, subst}
use Prim.Native.Nat.{ℕ, zero, suc, ◌+◌, ◌<◌, ◌≤◌}
use native.Mathlib.Nat.{not-suc-le-zero, le_of_suc-le-suc, add-zero, add-suc, suc-add, zero-add}
use native.Mathlib.Omega.{arith}
use lib.ListN.{length, get_or}
use Rattle.model.specs.Lists.{all, count_of, rising, below}

-- Both of two tests hold.
pub and_left : (a b : Bool) → (a && b) ≡ true → a ≡ true
and_left true b e = refl
and_left false b e = e

pub and_right : (a b : Bool) → (a && b) ≡ true → b ≡ true
and_right true b e = e
and_right false true e = refl
and_right false false e = e

pub and_both : (a b : Bool) → a ≡ true → b ≡ true → (a && b) ≡ true
and_both a b p q = rw (p, q)

-- A choice by cases is the same as one by `cond`.
pub by_cond : {A : Type 0} (c : Bool) (x y : A) → ◌≡◌ {A = A} (elim c as (λ _. A) [ false ↦ y | true ↦ x ]) (cond c x y)
by_cond true x y = refl
by_cond false x y = refl

-- All four of four tests hold.
pub and_four : (a b c d : Bool) → (a && b && c && d) ≡ true → (a ≡ true) × (b ≡ true) × (c ≡ true) × (d ≡ true)
and_four a b c d e =
    let abc = and_left (a && b && c) d e in
    let ab = and_left (a && b) c abc in
    (and_left a b ab, and_right a b ab, and_right (a && b) c abc, and_right (a && b && c) d e)

module _ {A : Type 0} where
  -- What holds of all elements holds of each, and the other way round.
  pub all-at : (p : A → Bool) (xs : List A) (d : A) → all p xs ≡ true → (i : ℕ) → i < length xs → p (get_or xs i d) ≡ true
  unfolding all
  all-at p [] d e i h = absurd (not-suc-le-zero h)
  all-at p (x ∷ xs) d e zero h = and_left (p x) (all p xs) e
  all-at p (x ∷ xs) d e (suc i) h = all-at p xs d (and_right (p x) (all p xs) e) i (le_of_suc-le-suc h)

  pub all_of : (p : A → Bool) (xs : List A) (d : A) → ((i : ℕ) → i < length xs → p (get_or xs i d) ≡ true) → all p xs ≡ true
  unfolding all
  all_of p [] d f = refl
  all_of p (x ∷ xs) d f =
      and_both (p x) (all p xs) (f zero (omega arith)) (all_of p xs d (λ i h. f (suc i) (omega arith)))

-- The numbers from i on, k of them.
pub length-rising : (i k : ℕ) → length (rising i k) ≡ k
unfolding rising
length-rising i zero = refl
length-rising i (suc k) = ap suc (length-rising (suc i) k)

pub get_or-rising : (i k m d : ℕ) → m < k → get_or (rising i k) m d ≡ i + m
unfolding rising
get_or-rising i zero m d h = absurd (not-suc-le-zero h)
get_or-rising i (suc k) zero d h = sym (add-zero i)
get_or-rising i (suc k) (suc m) d h = get_or-rising (suc i) k m d (le_of_suc-le-suc h) ∙ suc-add i m ∙ sym (add-suc i m)

pub length-below : (n : ℕ) → length (below n) ≡ n
unfolding below
length-below n = length-rising 0 n

pub get_or-below : (n i d : ℕ) → i < n → get_or (below n) i d ≡ i
unfolding below
get_or-below n i d h = get_or-rising 0 n i d h ∙ zero-add i

-- A test of every number below n.
pub all-below : (p : ℕ → Bool) (n : ℕ) → all p (below n) ≡ true → (i : ℕ) → i < n → p i ≡ true
all-below p n e i h = rw (get_or-below n i 0 h) at (all-at p (below n) 0 e i (rw (length-below n) h))

pub below_all : (p : ℕ → Bool) (n : ℕ) → ((i : ℕ) → i < n → p i ≡ true) → all p (below n) ≡ true
below_all p n f = all_of p (below n) 0 (λ i h. let k : i < n = rw (length-below n) at h in rw (get_or-below n i 0 k) (f i k))

-- ---- Counting

-- A Bool that is not both.
pub not_both : {b : Bool} → b ≡ true → b ≡ false → ⊥
not_both p q = true≢false (sym p ∙ q)

module _ {A : Type 0} where
  -- A test that holds wherever another does counts no fewer.
  pub count_of-mono : (p q : A → Bool) → ((x : A) → p x ≡ true → q x ≡ true) → (xs : List A) → count_of p xs ≤ count_of q xs
  unfolding count_of
  count_of-mono p q f [] = omega arith
  count_of-mono p q f (x ∷ xs) = go (p x) (q x) refl refl (count_of-mono p q f xs)
    where
      go : (a b : Bool) → p x ≡ a → q x ≡ b → count_of p xs ≤ count_of q xs → count_of p (x ∷ xs) ≤ count_of q (x ∷ xs)
      go true true d e h = rw (d, e) (omega arith)
      go true false d e h = absurd (not_both (f x d) e)
      go false true d e h = rw (d, e) (omega arith)
      go false false d e h = rw (d, e) (omega arith)

  -- What holds of all elements holds of each of them.
  pub all-mem : (p : A → Bool) (xs : List A) (a : A) → all p xs ≡ true → Memᴰ a xs → p a ≡ true
  unfolding all
  all-mem p (x ∷ xs) a e (Memᴰ.head q) = subst (λ (y : A). p y ≡ true) (sym q) (and_left (p x) (all p xs) e)
  all-mem p (x ∷ xs) a e (Memᴰ.tail d) = all-mem p xs a (and_right (p x) (all p xs) e) d
  all-mem p [] a e x'' = elim x'' [ ]

  -- And it counts more if it holds of an element of which the other does not.
  pub count_of-more : (p q : A → Bool) → ((x : A) → p x ≡ true → q x ≡ true) → (xs : List A) (a : A) → Memᴰ a xs → p a ≡ false → q a ≡ true
      → suc (count_of p xs) ≤ count_of q xs
  unfolding count_of
  count_of-more p q f (x ∷ xs) a (Memᴰ.head e) h k =
      let hx : p x ≡ false = rw e at h in
      let kx : q x ≡ true = rw e at k in
      rw (hx, kx) (omega (arith, count_of-mono p q f xs))
  count_of-more p q f (x ∷ xs) a (Memᴰ.tail m) h k = go (p x) (q x) refl refl (count_of-more p q f xs a m h k)
    where
      go : (a b : Bool) → p x ≡ a → q x ≡ b → suc (count_of p xs) ≤ count_of q xs → suc (count_of p (x ∷ xs)) ≤ count_of q (x ∷ xs)
      go true true d e h = rw (d, e) (omega arith)
      go true false d e h = absurd (not_both (f x d) e)
      go false true d e h = rw (d, e) (omega arith)
      go false false d e h = rw (d, e) (omega arith)
  count_of-more p q f [] a x3 h k = elim x3 [ ]

-- An element of a list of results is the result of an element.
pub mem_map : {A B : Type 0} (f : A → B) (xs : List A) (b : B) → Memᴰ b (map f xs) → (a : A) × Memᴰ a xs × (b ≡ f a)
mem_map f (x ∷ xs) b (Memᴰ.head q) = (x, Memᴰ.head refl, q)
mem_map f (x ∷ xs) b (Memᴰ.tail d) = let r = mem_map f xs b d in (r.0, Memᴰ.tail r.1, r.2)
mem_map {A = A} {B = B} f [] b x' = elim x' [ ]

module _ {A : Type 0} (f : ℕ → A) where
  -- Element t of a function over numbers that rise, and over the numbers below k.
  get_or-map-rising : (i k t : ℕ) (d : A) → t < k → get_or (map f (rising i k)) t d ≡ f (i + t)
  unfolding rising
  get_or-map-rising i zero t d h = absurd (not-suc-le-zero h)
  get_or-map-rising i (suc k) zero d h = ap f (sym (add-zero i))
  get_or-map-rising i (suc k) (suc t) d h = get_or-map-rising (suc i) k t d (le_of_suc-le-suc h) ∙ ap f (suc-add i t ∙ sym (add-suc i t))

  pub get_or-map-below : (k t : ℕ) (d : A) → t < k → get_or (map f (below k)) t d ≡ f t
  unfolding below
  get_or-map-below k t d h = get_or-map-rising 0 k t d h ∙ ap f (zero-add t)

module _ {A : Type 0} where
  -- A function over numbers that rise from one more.
  map-rising-suc : (f : ℕ → A) (i k : ℕ) → map f (rising (suc i) k) ≡ map (λ t. f (suc t)) (rising i k)
  unfolding rising
  map-rising-suc f i zero = refl
  map-rising-suc f i (suc k) = ap {B = List A} (λ (r : List A). f (suc i) ∷ r) (map-rising-suc f (suc i) k)

-- A function of each element, by the element's index.
pub map-by_index : {A : Type 0} (f : A → ℕ) (xs : List A) (d : A) → map (λ t. f (get_or xs t d)) (rising 0 (length xs)) ≡ map f xs
unfolding rising
map-by_index f [] d = refl
map-by_index f (x ∷ xs) d =
    ap (λ (r : List ℕ). f x ∷ r) (map-rising-suc (λ t. f (get_or (x ∷ xs) t d)) 0 (length xs) ∙ map-by_index f xs d)

-- What is in a list laid the other way round, in front of another, is in one of the two.
mem_reverse_aux : {A : Type 0} (xs ys : List A) (a : A) → Memᴰ a (reverse_aux xs ys) → Memᴰ a xs ⊎ Memᴰ a ys
mem_reverse_aux [] ys a h = inr h
mem_reverse_aux (x ∷ xs) ys a h =
    ⊎_elim (λ d. inl (Memᴰ.tail d)) (λ d. ⊎_elim (λ e. inl (Memᴰ.head e)) (λ m. inr m) (Memᴰ.cases_cons d)) (mem_reverse_aux xs (x ∷ ys) a h)

-- What is in a list laid the other way round is in the list.
pub mem_reverse : {A : Type 0} (xs : List A) (a : A) → Memᴰ a (reverse xs) → Memᴰ a xs
mem_reverse xs a h = ⊎_elim (λ d. d) (λ d. absurd (Memᴰ.not-nil d)) (mem_reverse_aux xs [] a h)

-- A test of all of two lists is a test of all of the second.
pub all_back : {A : Type 0} (p : A → Bool) (xs ys : List A) → all p (xs ++ ys) ≡ true → all p ys ≡ true
unfolding all
all_back p [] ys h = h
all_back p (x ∷ xs) ys h = all_back p xs ys (and_right (p x) (all p (xs ++ ys)) h)

-- Of two tests neither holds: not the first, not the second.
pub or_left : (a b : Bool) → (a || b) ≡ false → a ≡ false
or_left true b e = e
or_left false b e = refl

pub or_right : (a b : Bool) → (a || b) ≡ false → b ≡ false
or_right true b e = absurd (not_both refl e)
or_right false b e = e
