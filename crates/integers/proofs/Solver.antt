-- A solver for equations of integers: both sides are written as expressions, brought to one normal form by computation, and compared.
-- `ring 2 (λ a b. (a ⊞ b) ⊠ (a ⊟ b) ≈ a ⊠ a ⊟ b ⊠ b) tt` proves (a b : ℤ) → (a +ℤ b) *ℤ (a -ℤ b) ≡ a *ℤ a -ℤ b *ℤ b. Assumes nothing.
use mathlib.Core.Path.{◌≡◌, refl, sym, ◌∙◌, ap}
use mathlib.Core.Bool.{Bool, true, false}
use mathlib.Core.List.{List, [], ◌∷◌}
use Prim.Native.Nat.{ℕ, zero, suc}
use lib.Dec.{T, eqb, eqb→eq}
use lib.IntN.{ℤ, pos, negsuc, neg_ℤ, ◌+ℤ◌, ◌*ℤ◌, +ℤ_idl, +ℤ_idr, zero-*ℤ, *ℤ-zero, *ℤ_comm, -ℤ-+ℤ_cancel}
use lib.Signed.{◌≤ℤ◌, ◌<ℤ◌}
use Rattle.integers.proofs.Ring.{swap_middle, +ℤ-*ℤ, *ℤ-+ℤ, *ℤ-assoc, one_*ℤ, minus_one_*ℤ}

infixl 60 ◌⊞◌ ◌⊟◌
infixl 70 ◌⊠◌
infix 80 ⊖◌
-- an expression: a variable by its number, a constant, a sum, a product, a negation
pub data Expr : Type 0 where
  v : ℕ → Expr
  # : ℤ → Expr
  ◌⊞◌ : Expr → Expr → Expr
  ◌⊠◌ : Expr → Expr → Expr
  ⊖◌ : Expr → Expr

-- a difference
abbrev pub ◌⊟◌ : Expr → Expr → Expr
a ⊟ b = a ⊞ ⊖ b

-- the values of n variables
abbrev pub Env : ℕ → Type 0
Env zero = Unit {0}
Env (suc n) = ℤ × Env n

-- the value of variable i; 0 where there is none
abbrev pub lookup : (n : ℕ) → Env n → ℕ → ℤ
lookup zero ρ i = pos 0
lookup (suc n) ρ zero = ρ.0
lookup (suc n) ρ (suc i) = lookup n ρ.1 i

-- the value of an expression
abbrev pub eval : (n : ℕ) → Env n → Expr → ℤ
eval n ρ (v i) = lookup n ρ i
eval n ρ (# z) = z
eval n ρ (a ⊞ b) = eval n ρ a +ℤ eval n ρ b
eval n ρ (a ⊠ b) = eval n ρ a *ℤ eval n ρ b
eval n ρ (⊖ a) = neg_ℤ (eval n ρ a)

-- a polynomial in n + 1 variables: the list of its coefficients, polynomials in n variables, by rising powers of the first variable
abbrev pub Pol : ℕ → Type 0
Pol zero = ℤ
Pol (suc n) = List (Pol n)

-- ---- lists of coefficients

-- the value of such a list at x, by Horner's rule; f gives the coefficients' values
abbrev pub horner : {A : Type 0} → (A → ℤ) → ℤ → List A → ℤ
horner f x [] = pos 0
horner f x (a ∷ cs) = f a +ℤ x *ℤ horner f x cs

-- coefficient by coefficient
abbrev each : {A : Type 0} → (A → A) → List A → List A
each g [] = []
each g (a ∷ cs) = g a ∷ each g cs

-- the sum of two lists of coefficients, the longer tail kept
abbrev add_list : {A : Type 0} → (A → A → A) → List A → List A → List A
add_list add [] bs = bs
add_list add (a ∷ cs) [] = a ∷ cs
add_list add (a ∷ cs) (b ∷ bs) = add a b ∷ add_list add cs bs

-- the rest of the first list is one power higher: o is the coefficient 0
abbrev mul_list : {A : Type 0} → (A → A → A) → (A → A → A) → A → List A → List A → List A
mul_list add mul o [] bs = []
mul_list add mul o (a ∷ cs) bs = add_list add (each (mul a) bs) (o ∷ mul_list add mul o cs bs)

-- both tests pass; the second waits for the first
abbrev pub both : Bool → Bool → Bool
both true b = b
both false b = false

-- a test passes at each coefficient
abbrev pub all : {A : Type 0} → (A → Bool) → List A → Bool
all f [] = true
all f (a ∷ cs) = both (f a) (all f cs)

-- the first of two tests that pass
pub both_left : (a b : Bool) → T (both a b) → T a
both_left true b t = tt
both_left false b t = t

-- and the second
pub both_right : (a b : Bool) → T (both a b) → T b
both_right true b t = t
both_right false b t = absurd t

-- x · (a + b) with the sums regrouped, one step of Horner's rule
step-add : (x a b p q : ℤ) → (a +ℤ b) +ℤ x *ℤ (p +ℤ q) ≡ (a +ℤ x *ℤ p) +ℤ (b +ℤ x *ℤ q)
step-add x a b p q = ap (λ s. (a +ℤ b) +ℤ s) (*ℤ-+ℤ x p q) ∙ swap_middle a b (x *ℤ p) (x *ℤ q)

-- a factor moves out of one step
step_scale : (x c a p : ℤ) → c *ℤ a +ℤ x *ℤ (c *ℤ p) ≡ c *ℤ (a +ℤ x *ℤ p)
step_scale x c a p =
    ap (λ s. c *ℤ a +ℤ s) (sym (*ℤ-assoc x c p) ∙ ap (λ s. s *ℤ p) (*ℤ_comm x c) ∙ *ℤ-assoc c x p) ∙ sym (*ℤ-+ℤ c a (x *ℤ p))

module _ {A : Type 0} (f : A → ℤ) (x : ℤ) where
  -- a factor of each coefficient is a factor of the value
  horner_each : (g : A → A) (c : ℤ) → ((a : A) → f (g a) ≡ c *ℤ f a) → (cs : List A) → horner f x (each g cs) ≡ c *ℤ horner f x cs
  horner_each g c h [] = sym (*ℤ-zero c)
  horner_each g c h (a ∷ cs) =
      ap (λ s. s +ℤ x *ℤ horner f x (each g cs)) (h a) ∙ ap (λ s. c *ℤ f a +ℤ x *ℤ s) (horner_each g c h cs) ∙ step_scale x c (f a) (horner f x cs)

  -- the sum of lists has the sum of the values
  horner_add : (add : A → A → A) → ((a b : A) → f (add a b) ≡ f a +ℤ f b) → (cs bs : List A) → horner f x (add_list add cs bs) ≡ horner f x cs +ℤ horner f x bs
  horner_add add h [] bs = sym (+ℤ_idl (horner f x bs))
  horner_add add h (a ∷ cs) [] = sym (+ℤ_idr (horner f x (a ∷ cs)))
  horner_add add h (a ∷ cs) (b ∷ bs) =
      ap (λ s. s +ℤ x *ℤ horner f x (add_list add cs bs)) (h a b) ∙ ap (λ s. (f a +ℤ f b) +ℤ x *ℤ s) (horner_add add h cs bs)
      ∙ step-add x (f a) (f b) (horner f x cs) (horner f x bs)

  -- the product of lists has the product of the values
  horner_mul : (add mul : A → A → A) (o : A) → ((a b : A) → f (add a b) ≡ f a +ℤ f b) → ((a b : A) → f (mul a b) ≡ f a *ℤ f b) → f o ≡ pos 0
      → (cs bs : List A) → horner f x (mul_list add mul o cs bs) ≡ horner f x cs *ℤ horner f x bs
  horner_mul add mul o h k e [] bs = sym (zero-*ℤ (horner f x bs))
  horner_mul add mul o h k e (a ∷ cs) bs =
      horner_add add h (each (mul a) bs) (o ∷ mul_list add mul o cs bs)
      ∙ ap (λ s. s +ℤ horner f x (o ∷ mul_list add mul o cs bs)) (horner_each (mul a) (f a) (k a) bs)
      ∙ ap (λ s. f a *ℤ horner f x bs +ℤ (s +ℤ x *ℤ horner f x (mul_list add mul o cs bs))) e
      ∙ ap (λ s. f a *ℤ horner f x bs +ℤ s) (+ℤ_idl (x *ℤ horner f x (mul_list add mul o cs bs)))
      ∙ ap (λ s. f a *ℤ horner f x bs +ℤ x *ℤ s) (horner_mul add mul o h k e cs bs)
      ∙ ap (λ s. f a *ℤ horner f x bs +ℤ s) (sym (*ℤ-assoc x (horner f x cs) (horner f x bs)))
      ∙ sym (+ℤ-*ℤ (f a) (x *ℤ horner f x cs) (horner f x bs))

  -- coefficients that are all 0 have the value 0
  pub horner_all : (t : A → Bool) → ((a : A) → T (t a) → f a ≡ pos 0) → (cs : List A) → T (all t cs) → horner f x cs ≡ pos 0
  horner_all t h [] u = refl
  horner_all t h (a ∷ cs) u =
      ap (λ s. s +ℤ x *ℤ horner f x cs) (h a (both_left (t a) (all t cs) u))
      ∙ ap (λ s. pos 0 +ℤ x *ℤ s) (horner_all t h cs (both_right (t a) (all t cs) u)) ∙ +ℤ_idl (x *ℤ pos 0) ∙ *ℤ-zero x

-- ---- polynomials

-- the value of a polynomial
abbrev pub eval_p : (n : ℕ) → Env n → Pol n → ℤ
eval_p zero ρ p = p
eval_p (suc n) ρ p = horner (eval_p n ρ.1) ρ.0 p

-- a constant polynomial
abbrev constant : (n : ℕ) → ℤ → Pol n
constant zero z = z
constant (suc n) z = constant n z ∷ []

-- the polynomial 0
abbrev null : (n : ℕ) → Pol n
null zero = pos 0
null (suc n) = []

-- the polynomial that is variable i
abbrev variable : (n : ℕ) → ℕ → Pol n
variable zero i = pos 0
variable (suc n) zero = null n ∷ constant n (pos 1) ∷ []
variable (suc n) (suc i) = variable n i ∷ []

-- the sum of two polynomials
abbrev add_p : (n : ℕ) → Pol n → Pol n → Pol n
add_p zero p q = p +ℤ q
add_p (suc n) p q = add_list (add_p n) p q

-- their product
abbrev mul_p : (n : ℕ) → Pol n → Pol n → Pol n
mul_p zero p q = p *ℤ q
mul_p (suc n) p q = mul_list (add_p n) (mul_p n) (null n) p q

-- the negation of one
abbrev neg_p : (n : ℕ) → Pol n → Pol n
neg_p zero p = neg_ℤ p
neg_p (suc n) p = each (neg_p n) p

-- the test that an integer is 0
abbrev is_zero : ℤ → Bool
is_zero (pos k) = eqb k 0
is_zero (negsuc k) = false

-- the test that every coefficient is 0
abbrev pub is_null : (n : ℕ) → Pol n → Bool
is_null zero p = is_zero p
is_null (suc n) p = all (is_null n) p

-- the normal form of an expression
abbrev pub normal : (n : ℕ) → Expr → Pol n
normal n (v i) = variable n i
normal n (# z) = constant n z
normal n (a ⊞ b) = add_p n (normal n a) (normal n b)
normal n (a ⊠ b) = mul_p n (normal n a) (normal n b)
normal n (⊖ a) = neg_p n (normal n a)

-- ---- each operation on polynomials has the value of the operation on integers

-- a list of one coefficient has that coefficient's value
single : (a x : ℤ) → a +ℤ x *ℤ pos 0 ≡ a
single a x = ap (λ s. a +ℤ s) (*ℤ-zero x) ∙ +ℤ_idr a

-- the polynomial 0 is 0
null_is : (n : ℕ) (ρ : Env n) → eval_p n ρ (null n) ≡ pos 0
null_is zero ρ = refl
null_is (suc n) ρ = refl

-- a constant is its value
constant_is : (n : ℕ) (ρ : Env n) (z : ℤ) → eval_p n ρ (constant n z) ≡ z
constant_is zero ρ z = refl
constant_is (suc n) ρ z = single (eval_p n ρ.1 (constant n z)) ρ.0 ∙ constant_is n ρ.1 z

-- a variable is its value
variable_is : (n : ℕ) (ρ : Env n) (i : ℕ) → eval_p n ρ (variable n i) ≡ lookup n ρ i
variable_is zero ρ i = refl
variable_is (suc n) ρ zero =
    ap (λ s. s +ℤ ρ.0 *ℤ horner (eval_p n ρ.1) ρ.0 (constant n (pos 1) ∷ [])) (null_is n ρ.1)
    ∙ +ℤ_idl (ρ.0 *ℤ horner (eval_p n ρ.1) ρ.0 (constant n (pos 1) ∷ []))
    ∙ ap (λ s. ρ.0 *ℤ s) (single (eval_p n ρ.1 (constant n (pos 1))) ρ.0 ∙ constant_is n ρ.1 (pos 1))
    ∙ *ℤ_comm ρ.0 (pos 1) ∙ one_*ℤ ρ.0
variable_is (suc n) ρ (suc i) = single (eval_p n ρ.1 (variable n i)) ρ.0 ∙ variable_is n ρ.1 i

-- a sum
add_p-is : (n : ℕ) (ρ : Env n) (p q : Pol n) → eval_p n ρ (add_p n p q) ≡ eval_p n ρ p +ℤ eval_p n ρ q
add_p-is zero ρ p q = refl
add_p-is (suc n) ρ p q = horner_add (eval_p n ρ.1) ρ.0 (add_p n) (add_p-is n ρ.1) p q

-- a product
mul_p-is : (n : ℕ) (ρ : Env n) (p q : Pol n) → eval_p n ρ (mul_p n p q) ≡ eval_p n ρ p *ℤ eval_p n ρ q
mul_p-is zero ρ p q = refl
mul_p-is (suc n) ρ p q =
    horner_mul (eval_p n ρ.1) ρ.0 (add_p n) (mul_p n) (null n) (add_p-is n ρ.1) (mul_p-is n ρ.1) (null_is n ρ.1) p q

-- a negation, as the product with −1
minus_is : (n : ℕ) (ρ : Env n) (p : Pol n) → eval_p n ρ (neg_p n p) ≡ negsuc 0 *ℤ eval_p n ρ p
minus_is zero ρ p = sym (minus_one_*ℤ p)
minus_is (suc n) ρ p = horner_each (eval_p n ρ.1) ρ.0 (neg_p n) (negsuc 0) (minus_is n ρ.1) p

-- a negation
neg_p-is : (n : ℕ) (ρ : Env n) (p : Pol n) → eval_p n ρ (neg_p n p) ≡ neg_ℤ (eval_p n ρ p)
neg_p-is n ρ p = minus_is n ρ p ∙ minus_one_*ℤ (eval_p n ρ p)

-- an integer that passes the test is 0
is_zero-is : (z : ℤ) → T (is_zero z) → z ≡ pos 0
is_zero-is (pos k) t = ap pos (eqb→eq k 0 t)
is_zero-is (negsuc k) t = absurd t

-- a polynomial that passes the test is 0 everywhere
pub is_null_is : (n : ℕ) (ρ : Env n) (p : Pol n) → T (is_null n p) → eval_p n ρ p ≡ pos 0
is_null_is zero ρ p t = is_zero-is p t
is_null_is (suc n) ρ p t = horner_all (eval_p n ρ.1) ρ.0 (is_null n) (is_null_is n ρ.1) p t

-- the normal form has the expression's value
pub normal_is : (n : ℕ) (ρ : Env n) (e : Expr) → eval_p n ρ (normal n e) ≡ eval n ρ e
normal_is n ρ (v i) = variable_is n ρ i
normal_is n ρ (# z) = constant_is n ρ z
normal_is n ρ (a ⊞ b) =
    add_p-is n ρ (normal n a) (normal n b) ∙ ap (λ s. s +ℤ eval_p n ρ (normal n b)) (normal_is n ρ a) ∙ ap (λ s. eval n ρ a +ℤ s) (normal_is n ρ b)
normal_is n ρ (a ⊠ b) =
    mul_p-is n ρ (normal n a) (normal n b) ∙ ap (λ s. s *ℤ eval_p n ρ (normal n b)) (normal_is n ρ a) ∙ ap (λ s. eval n ρ a *ℤ s) (normal_is n ρ b)
normal_is n ρ (⊖ a) = neg_p-is n ρ (normal n a) ∙ ap neg_ℤ (normal_is n ρ a)

-- ---- the front end: functions of n variables

-- a function of n expressions
abbrev pub Fun : ℕ → Type 0 → Type 0
Fun zero X = X
Fun (suc n) X = Expr → Fun n X

-- that function at the variables k, k + 1, ..
abbrev pub from : {X : Type 0} (n k : ℕ) → Fun n X → X
from zero k f = f
from (suc n) k f = from n (suc k) (f (v k))

-- for all values of n variables
abbrev pub All : (n : ℕ) → (Env n → Type 0) → Type 0
All zero P = P tt
All (suc n) P = (x : ℤ) → All n (λ ρ. P (x, ρ))

-- from a function of the environment, one of each value in turn
pub all_of : (n : ℕ) (P : Env n → Type 0) → ((ρ : Env n) → P ρ) → All n P
all_of zero P h = h tt
all_of (suc n) P h = λ x. all_of n (λ ρ. P (x, ρ)) (λ ρ. h (x, ρ))

infix 50 ◌≈◌ ◌≲◌ ◌≺◌
-- a relation of two expressions: equal, at most, less; and the one that never holds
pub data Relation : Type 0 where
  ◌≈◌ ◌≲◌ ◌≺◌ : Expr → Expr → Relation
  never : Relation

-- what a relation says of the variables' values
abbrev pub Holds : (n : ℕ) → Relation → Env n → Type 0
Holds n (a ≈ b) ρ = eval n ρ a ≡ eval n ρ b
Holds n (a ≲ b) ρ = eval n ρ a ≤ℤ eval n ρ b
Holds n (a ≺ b) ρ = eval n ρ a <ℤ eval n ρ b
Holds n never ρ = ⊥

-- the test of an equation: the difference of its sides is 0 in normal form
abbrev pub Solved : (n : ℕ) → Relation → Type 0
Solved n (a ≈ b) = T (is_null n (normal n (a ⊟ b)))
Solved n (a ≲ b) = ⊥
Solved n (a ≺ b) = ⊥
Solved n never = ⊥

-- two integers whose difference is 0 are equal
pub same : (x y : ℤ) → x +ℤ neg_ℤ y ≡ pos 0 → x ≡ y
same x y h = sym (-ℤ-+ℤ_cancel x y) ∙ ap (λ s. s +ℤ y) h ∙ +ℤ_idl y

-- an expression whose normal form is 0 has the value 0
pub null_value : (n : ℕ) (ρ : Env n) (e : Expr) → T (is_null n (normal n e)) → eval n ρ e ≡ pos 0
null_value n ρ e t = sym (normal_is n ρ e) ∙ is_null_is n ρ (normal n e) t

-- an equation whose test passes holds at all values
solved : (n : ℕ) (q : Relation) → Solved n q → (ρ : Env n) → Holds n q ρ
solved n (a ≈ b) t ρ = same (eval n ρ a) (eval n ρ b) (null_value n ρ (a ⊟ b) t)
solved n (a ≲ b) t ρ = absurd t
solved n (a ≺ b) t ρ = absurd t
solved n never t ρ = absurd t

-- an equation of n integers, from the test that both sides have the same normal form: `tt`
pub ring : (n : ℕ) (f : Fun n Relation) → Solved n (from n 0 f) → All n (Holds n (from n 0 f))
ring n f t = all_of n (Holds n (from n 0 f)) (solved n (from n 0 f) t)
