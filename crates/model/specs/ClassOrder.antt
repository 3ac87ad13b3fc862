-- Demand 2: "The order of the classes in a job changes no result." What it is for two jobs to differ in nothing else.
use Rattle.std.specs.Prelude.{true, List, [], ◌∷◌, ◌⊎◌, ◌≡◌, ℕ, ◌+◌, ◌*◌, ◌≤◌, ◌<◌, length}
use Rattle.model.specs.Format.{byte_at, classes_at, classes_stated, classes_of, classes_section, in_place}

-- One list has the elements of the other in another order: neighbours change places, as often as one likes.
pub data Permuted {A : Type 0} : List A → List A → Type 0 where
  end : Permuted [] []
  behind : {x : A} {xs ys : List A} → Permuted xs ys → Permuted (x ∷ xs) (x ∷ ys)
  change : {x y : A} {xs : List A} → Permuted (x ∷ y ∷ xs) (y ∷ x ∷ xs)
  chain : {xs ys zs : List A} → Permuted xs ys → Permuted ys zs → Permuted xs zs

-- The bytes s and t differ only in the order of their class records. The class list stands before the trailer.
pub record SameButClassOrder (s t : List ℕ) : Type 0 where
  pub same_length : length s ≡ length t
  pub list_in_place : in_place s (classes_section s) ≡ true
  pub same-outside : (i : ℕ) → (i < classes_at s) ⊎ (classes_at s + classes_stated s * 3 ≤ i) → byte_at s i ≡ byte_at t i
  pub reordered : Permuted (classes_of s) (classes_of t)
