-- Laws of the largest and the smallest of a list of integers. What the two have in common is proved once, of a fold.
-- Assumes nothing.
use mathlib.Core.Bool.{Bool, true, false, ◌&&◌, and_assoc}
use mathlib.Core.List.{List, [], ◌∷◌, ◌++◌, map}
use mathlib.Core.Path.{◌≡◌, refl, sym, ap, ◌∙◌}
use Prim.Native.Nat.{◌<◌}
use native.Mathlib.Nat.{not-suc-le-zero}
use lib.IntN.{ℤ, neg_ℤ, ◌+ℤ◌, ◌-ℤ◌}
use lib.ListN.{length, length-map}
use lib.Signed.{le_z, ◌≤ℤ◌, ◌<ℤ◌, <ℤ-≤ℤ_trans}
use Rattle.integers.specs.Extrema.{max_z, min_z}
use Rattle.integers.proofs.Solver.{◌⊟◌, ◌≈◌, ◌≲◌, ◌≺◌}
use Rattle.integers.proofs.Certificates.{order, ◌⊢◌by◌, hyp, ◌⊕◌}
use Rattle.integers.proofs.Order.{≤ℤ-trans, ≤ℤ-<ℤ_trans, ≤ℤ-antisym, le_z_true, le_z_false, le_le_z, lt_le_z}
use Rattle.integers.proofs.Extrema.{max_upper_left, max_upper_right, max_least, max-+ℤ, min_lower-left, min_lower-right, min_greatest, min-+ℤ, negℤ_max, negℤ_min}
use Rattle.model.specs.Lists.{all, largest_from, smallest_from, largest_z, smallest_z}

-- ---- tests of order

-- two tests of order agree if the differences that they test do
pub le_z_same : (a b c d : ℤ) → b -ℤ a ≡ d -ℤ c → le_z a b ≡ le_z c d
le_z_same a b c d e = go (le_z c d) refl
  where
    up : (a b c d : ℤ) → a ≤ℤ b → b -ℤ a ≡ d -ℤ c → c ≤ℤ d
    up = order 4 (λ a b c d. (a ≲ b) ∷ (b ⊟ a ≈ d ⊟ c) ∷ [] ⊢ c ≲ d by hyp 0 ⊕ hyp 1) tt

    go : (t : Bool) → le_z c d ≡ t → le_z a b ≡ t
    go true h = le_le_z a b (up c d a b (le_z_true c d h) (sym e))
    go false h = lt_le_z a b (down (le_z_false c d h))
      where
        down : d <ℤ c → b <ℤ a
        down k = order 4 (λ a b c d. (d ≺ c) ∷ (b ⊟ a ≈ d ⊟ c) ∷ [] ⊢ b ≺ a by hyp 0 ⊕ hyp 1) tt a b c d k e

-- the larger is at most c exactly if both are
pub max_test : (c a b : ℤ) → le_z (max_z a b) c ≡ (le_z a c && le_z b c)
max_test c a b = go (le_z a c) (le_z b c) refl refl
  where
    go : (s t : Bool) → le_z a c ≡ s → le_z b c ≡ t → le_z (max_z a b) c ≡ (s && t)
    go true true h k = le_le_z (max_z a b) c (max_least a b c (le_z_true a c h) (le_z_true b c k))
    go true false h k = lt_le_z (max_z a b) c (<ℤ-≤ℤ_trans (le_z_false b c k) (max_upper_right a b))
    go false t h k = lt_le_z (max_z a b) c (<ℤ-≤ℤ_trans (le_z_false a c h) (max_upper_left a b))

-- the smaller is at least c exactly if both are
pub min_test : (c a b : ℤ) → le_z c (min_z a b) ≡ (le_z c a && le_z c b)
min_test c a b = go (le_z c a) (le_z c b) refl refl
  where
    go : (s t : Bool) → le_z c a ≡ s → le_z c b ≡ t → le_z c (min_z a b) ≡ (s && t)
    go true true h k = le_le_z c (min_z a b) (min_greatest a b c (le_z_true c a h) (le_z_true c b k))
    go true false h k = lt_le_z c (min_z a b) (≤ℤ-<ℤ_trans (min_lower-right a b) (le_z_false c b k))
    go false t h k = lt_le_z c (min_z a b) (≤ℤ-<ℤ_trans (min_lower-left a b) (le_z_false c a h))

-- ---- a fold F of an operation

module _ (op : ℤ → ℤ → ℤ) (F : ℤ → List ℤ → ℤ) (none : (z : ℤ) → F z [] ≡ z) (more : (z w : ℤ) (ws : List ℤ) → F z (w ∷ ws) ≡ F (op z w) ws) where
  -- a number added to all is added to the result
  fold_add : ((a b c : ℤ) → op (a +ℤ c) (b +ℤ c) ≡ op a b +ℤ c) → (c z : ℤ) (ws : List ℤ) → F (z +ℤ c) (map (λ w. w +ℤ c) ws) ≡ F z ws +ℤ c
  fold_add h c z [] = none (z +ℤ c) ∙ ap (λ s. s +ℤ c) (sym (none z))
  fold_add h c z (w ∷ ws) =
      more (z +ℤ c) (w +ℤ c) (map (λ w. w +ℤ c) ws)
      ∙ ap (λ s. F s (map (λ w. w +ℤ c) ws)) (h z w c)
      ∙ fold_add h c (op z w) ws
      ∙ ap (λ s. s +ℤ c) (sym (more z w ws))

  -- a test that the operation passes exactly if both its operands do, the fold passes exactly if all do
  fold_test : (t : ℤ → Bool) → ((a b : ℤ) → t (op a b) ≡ (t a && t b)) → (z : ℤ) (ws : List ℤ) → t (F z ws) ≡ (t z && all t ws)
  unfolding all
  fold_test t h z [] = ap t (none z) ∙ sym (and_true (t z))
    where
      and_true : (b : Bool) → (b && true) ≡ b
      and_true true = refl
      and_true false = refl
  fold_test t h z (w ∷ ws) =
      ap t (more z w ws) ∙ fold_test t h (op z w) ws ∙ ap (λ s. s && all t ws) (h z w) ∙ and_assoc (t z) (t w) (all t ws)

  -- the fold of an appended list goes on where the first ends
  fold_append : (z : ℤ) (ws us : List ℤ) → F z (ws ++ us) ≡ F (F z ws) us
  fold_append z [] us = ap (λ s. F s us) (sym (none z))
  fold_append z (w ∷ ws) us = more z w (ws ++ us) ∙ fold_append (op z w) ws us ∙ ap (λ s. F s us) (sym (more z w ws))

  -- the first number moves out
  fold_out : ((a b c : ℤ) → op (op a b) c ≡ op a (op b c)) → (a b : ℤ) (ws : List ℤ) → F (op a b) ws ≡ op a (F b ws)
  fold_out h a b [] = none (op a b) ∙ ap (op a) (sym (none b))
  fold_out h a b (w ∷ ws) =
      more (op a b) w ws ∙ ap (λ s. F s ws) (h a b w) ∙ fold_out h a (op b w) ws ∙ ap (op a) (sym (more b w ws))

-- the larger and the smaller are associative: each is at most, or at least, c exactly if all three are
max_assoc : (a b c : ℤ) → max_z (max_z a b) c ≡ max_z a (max_z b c)
max_assoc a b c =
    ≤ℤ-antisym
    (max_least _ _ _ (max_least _ _ _ (max_upper_left _ _) (≤ℤ-trans (max_upper_left b c) (max_upper_right _ _))) (≤ℤ-trans (max_upper_right b c) (max_upper_right _ _)))
    (max_least _ _ _ (≤ℤ-trans (max_upper_left a b) (max_upper_left _ _)) (max_least _ _ _ (≤ℤ-trans (max_upper_right a b) (max_upper_left _ _)) (max_upper_right _ _)))

min_assoc : (a b c : ℤ) → min_z (min_z a b) c ≡ min_z a (min_z b c)
min_assoc a b c =
    ≤ℤ-antisym
    (min_greatest _ _ _ (≤ℤ-trans (min_lower-left _ _) (min_lower-left a b)) (min_greatest _ _ _ (≤ℤ-trans (min_lower-left _ _) (min_lower-right a b)) (min_lower-right _ _)))
    (min_greatest _ _ _ (min_greatest _ _ _ (min_lower-left _ _) (≤ℤ-trans (min_lower-right _ _) (min_lower-left b c))) (≤ℤ-trans (min_lower-right _ _) (min_lower-right b c)))

largest-none : (z : ℤ) → largest_from z [] ≡ z
unfolding largest_from
largest-none z = refl

pub largest-more : (z w : ℤ) (ws : List ℤ) → largest_from z (w ∷ ws) ≡ largest_from (max_z z w) ws
unfolding largest_from
largest-more z w ws = refl

smallest_none : (z : ℤ) → smallest_from z [] ≡ z
unfolding smallest_from
smallest_none z = refl

pub smallest_more : (z w : ℤ) (ws : List ℤ) → smallest_from z (w ∷ ws) ≡ smallest_from (min_z z w) ws
unfolding smallest_from
smallest_more z w ws = refl

-- ---- the largest and the smallest of a list

-- a number added to all of some numbers
pub largest-add : (c : ℤ) (xs : List ℤ) → 0 < length xs → largest_z (map (λ z. z +ℤ c) xs) ≡ largest_z xs +ℤ c
unfolding largest_z
largest-add c [] h = absurd (not-suc-le-zero h)
largest-add c (z ∷ zs) h = fold_add max_z largest_from largest-none largest-more max-+ℤ c z zs

pub smallest_add : (c : ℤ) (xs : List ℤ) → 0 < length xs → smallest_z (map (λ z. z +ℤ c) xs) ≡ smallest_z xs +ℤ c
unfolding smallest_z
smallest_add c [] h = absurd (not-suc-le-zero h)
smallest_add c (z ∷ zs) h = fold_add min_z smallest_from smallest_none smallest_more min-+ℤ c z zs

-- the largest of some numbers is at most c exactly if all are
pub largest-test : (c : ℤ) (xs : List ℤ) → 0 < length xs → le_z (largest_z xs) c ≡ all (λ z. le_z z c) xs
unfolding largest_z all
largest-test c [] h = absurd (not-suc-le-zero h)
largest-test c (z ∷ zs) h = fold_test max_z largest_from largest-none largest-more (λ z. le_z z c) (max_test c) z zs

-- the smallest of some numbers is at least c exactly if all are
pub smallest_test : (c : ℤ) (xs : List ℤ) → 0 < length xs → le_z c (smallest_z xs) ≡ all (le_z c) xs
unfolding smallest_z all
smallest_test c [] h = absurd (not-suc-le-zero h)
smallest_test c (z ∷ zs) h = fold_test min_z smallest_from smallest_none smallest_more (le_z c) (min_test c) z zs

-- of two lists, each with a number
pub largest-append : (xs ys : List ℤ) → 0 < length xs → 0 < length ys → largest_z (xs ++ ys) ≡ max_z (largest_z xs) (largest_z ys)
unfolding largest_z
largest-append [] ys h k = absurd (not-suc-le-zero h)
largest-append (x ∷ xs) [] h k = absurd (not-suc-le-zero k)
largest-append (x ∷ xs) (y ∷ ys) h k =
    fold_append max_z largest_from largest-none largest-more x xs (y ∷ ys)
    ∙ largest-more (largest_from x xs) y ys
    ∙ fold_out max_z largest_from largest-none largest-more max_assoc (largest_from x xs) y ys

pub smallest_append : (xs ys : List ℤ) → 0 < length xs → 0 < length ys → smallest_z (xs ++ ys) ≡ min_z (smallest_z xs) (smallest_z ys)
unfolding smallest_z
smallest_append [] ys h k = absurd (not-suc-le-zero h)
smallest_append (x ∷ xs) [] h k = absurd (not-suc-le-zero k)
smallest_append (x ∷ xs) (y ∷ ys) h k =
    fold_append min_z smallest_from smallest_none smallest_more x xs (y ∷ ys)
    ∙ smallest_more (smallest_from x xs) y ys
    ∙ fold_out min_z smallest_from smallest_none smallest_more min_assoc (smallest_from x xs) y ys

-- negation turns the largest into the smallest
smallest_from-negated : (z : ℤ) (ws : List ℤ) → smallest_from (neg_ℤ z) (map neg_ℤ ws) ≡ neg_ℤ (largest_from z ws)
unfolding smallest_from largest_from
smallest_from-negated z [] = refl
smallest_from-negated z (w ∷ ws) = ap (λ s. smallest_from s (map neg_ℤ ws)) (sym (negℤ_max z w)) ∙ smallest_from-negated (max_z z w) ws

pub smallest_negated : (xs : List ℤ) → smallest_z (map neg_ℤ xs) ≡ neg_ℤ (largest_z xs)
unfolding smallest_z largest_z
smallest_negated [] = refl
smallest_negated (z ∷ zs) = smallest_from-negated z zs

-- and the smallest into the largest
largest_from-negated : (z : ℤ) (ws : List ℤ) → largest_from (neg_ℤ z) (map neg_ℤ ws) ≡ neg_ℤ (smallest_from z ws)
unfolding smallest_from largest_from
largest_from-negated z [] = refl
largest_from-negated z (w ∷ ws) = ap (λ s. largest_from s (map neg_ℤ ws)) (sym (negℤ_min z w)) ∙ largest_from-negated (min_z z w) ws

pub largest-negated : (xs : List ℤ) → largest_z (map neg_ℤ xs) ≡ neg_ℤ (smallest_z xs)
unfolding smallest_z largest_z
largest-negated [] = refl
largest-negated (z ∷ zs) = largest_from-negated z zs

-- ---- of the images under a function

-- an element's image under g goes through h where the element goes through s
pub map-through : {A B : Type 0} (g : A → B) (s : A → A) (h : B → B) → ((x : A) → g (s x) ≡ h (g x)) → (xs : List A) → map g (map s xs) ≡ map h (map g xs)
map-through g s h e [] = refl
map-through {B = B} g s h e (x ∷ xs) = ap (λ (z : B). z ∷ map g (map s xs)) (e x) ∙ ap (λ (zs : List B). h (g x) ∷ zs) (map-through g s h e xs)

-- where s adds c to what g gives, it adds c to the largest and to the smallest of some
module _ {A : Type 0} (g : A → ℤ) (s : A → A) (c : ℤ) (e : (x : A) → g (s x) ≡ g x +ℤ c) (xs : List A) (some : 0 < length xs) where
  given : 0 < length (map g xs)
  given = rw (length-map xs g) some

  pub largest-through : largest_z (map g (map s xs)) ≡ largest_z (map g xs) +ℤ c
  largest-through = ap largest_z (map-through g s (λ z. z +ℤ c) e xs) ∙ largest-add c (map g xs) given

  pub smallest_through : smallest_z (map g (map s xs)) ≡ smallest_z (map g xs) +ℤ c
  smallest_through = ap smallest_z (map-through g s (λ z. z +ℤ c) e xs) ∙ smallest_add c (map g xs) given
