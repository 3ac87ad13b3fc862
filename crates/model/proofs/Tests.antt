-- Laws of a test that some element of a list passes, or that all do: over an appended list, a mapped list, lists put together, a list in another order, two
-- lists. Assumes nothing.
use mathlib.Core.Bool.{Bool, true, false, ◌&&◌, ◌||◌, or_assoc}
use mathlib.Core.List.{List, [], ◌∷◌, ◌++◌, map, Permᴰ}
use mathlib.Core.Path.{◌≡◌, refl, sym, ap, ◌∙◌}
use Rattle.model.specs.Lists.{all, any}

-- the first two of three tests change places
pub or_swap : (a b c : Bool) → (a || (b || c)) ≡ (b || (a || c))
or_swap true true c = refl
or_swap true false c = refl
or_swap false b c = refl

module _ {A : Type 0} where
  -- in a list appended to another
  pub any_append : (p : A → Bool) (xs ys : List A) → any p (xs ++ ys) ≡ (any p xs || any p ys)
  unfolding any
  any_append p [] ys = refl
  any_append p (x ∷ xs) ys = ap (λ t. p x || t) (any_append p xs ys) ∙ sym (or_assoc (p x) (any p xs) (any p ys))

  -- the same elements in another order give the same answer
  pub any-reordered : (p : A → Bool) {xs ys : List A} → Permᴰ xs ys → any p xs ≡ any p ys
  unfolding any
  any-reordered p Permᴰ.nil = refl
  any-reordered p (Permᴰ.cons {b = b} {l₁ = l} e d) = ap (λ x. p x || any p l) e ∙ ap (λ t. p b || t) (any-reordered p d)
  any-reordered p (Permᴰ.swap {a = a} {b = b} {a' = a'} {b' = b'} {l = l} e f) =
      or_swap (p a) (p b) (any p l) ∙ ap (λ x. p x || (p a || any p l)) f ∙ ap (λ x. p a' || (p x || any p l)) e
  any-reordered p (Permᴰ.trans d f) = any-reordered p d ∙ any-reordered p f

  -- two tests that agree
  pub any_same : (p q : A → Bool) → ((x : A) → p x ≡ q x) → (xs : List A) → any p xs ≡ any q xs
  unfolding any
  any_same p q h [] = refl
  any_same p q h (x ∷ xs) = ap (λ t. t || any p xs) (h x) ∙ ap (λ t. q x || t) (any_same p q h xs)

  pub all-each : (p q : A → Bool) → ((x : A) → p x ≡ q x) → (xs : List A) → all p xs ≡ all q xs
  unfolding all
  all-each p q h [] = refl
  all-each p q h (x ∷ xs) = ap (λ t. t && all p xs) (h x) ∙ ap (λ t. q x && t) (all-each p q h xs)

  -- a test that nothing passes
  pub any_none : (xs : List A) → any (λ x. false) xs ≡ false
  unfolding any
  any_none [] = refl
  any_none (x ∷ xs) = any_none xs

  -- one of two tests
  pub any-or : (p q : A → Bool) (xs : List A) → any (λ x. p x || q x) xs ≡ (any p xs || any q xs)
  unfolding any
  any-or p q [] = refl
  any-or p q (x ∷ xs) =
      or_assoc (p x) (q x) (any (λ x. p x || q x) xs)
      ∙ ap (λ t. p x || (q x || t)) (any-or p q xs)
      ∙ ap (λ t. p x || t) (or_swap (q x) (any p xs) (any q xs))
      ∙ sym (or_assoc (p x) (any p xs) (q x || any q xs))

module _ {A B : Type 0} where
  -- of the images of the elements
  pub all_map : (p : B → Bool) (f : A → B) (xs : List A) → all p (map f xs) ≡ all (λ x. p (f x)) xs
  unfolding all
  all_map p f [] = refl
  all_map p f (x ∷ xs) = ap (λ t. p (f x) && t) (all_map p f xs)

  pub any-map : (p : B → Bool) (f : A → B) (xs : List A) → any p (map f xs) ≡ any (λ x. p (f x)) xs
  unfolding any
  any-map p f [] = refl
  any-map p f (x ∷ xs) = ap (λ t. p (f x) || t) (any-map p f xs)

  -- some pair of an element of xs and one of ys, whichever list is gone through first
  pub any-pair : (p : A → B → Bool) (xs : List A) (ys : List B) → any (λ x. any (p x) ys) xs ≡ any (λ y. any (λ x. p x y) xs) ys
  unfolding any
  any-pair p [] ys = sym (any_none ys)
  any-pair p (x ∷ xs) ys = ap (λ t. any (p x) ys || t) (any-pair p xs ys) ∙ sym (any-or (p x) (λ y. any (λ x. p x y) xs) ys)
