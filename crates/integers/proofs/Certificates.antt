-- Inequalities of integers by certificates: what follows from hypotheses is proved by a sum of products of them and of squares, checked by the ring's normal form.
-- `order 2 (λ x y. (# (pos 0) ≲ x) ∷ (# (pos 0) ≲ y) ∷ [] ⊢ # (pos 0) ≲ x ⊠ y ⊞ x ⊠ x by hyp 0 ⊗ hyp 1 ⊕ sqr x) tt`
-- proves (x y : ℤ) → pos 0 ≤ℤ x → pos 0 ≤ℤ y → pos 0 ≤ℤ (x *ℤ y +ℤ x *ℤ x).
-- The goal may be `never`, where the hypotheses contradict each other. Assumes nothing.
use mathlib.Core.Path.{◌≡◌, refl, sym, ◌∙◌, ap, subst}
use mathlib.Core.Bool.{Bool, true, false}
use mathlib.Core.List.{List, [], ◌∷◌}
use Prim.Native.Nat.{ℕ, zero, suc}
use lib.Dec.{T}
use lib.IntN.{ℤ, pos, negsuc, ◌+ℤ◌, ◌-ℤ◌, ◌*ℤ◌, +ℤ_invr, *ℤ-zero, +ℤ_idr, -ℤ-+ℤ_cancel}
use lib.Signed.{◌≤ℤ◌, non_neg}
use Rattle.integers.proofs.Solver.{Expr, #, ◌⊞◌, ◌⊟◌, ◌⊠◌, Env, eval, Pol, eval_p, normal, normal_is, is_null, is_null_is, null_value, both, both_left, both_right, all, horner_all, Relation, ◌≈◌, ◌≲◌, ◌≺◌, never, Holds, Fun, from, All, all_of, same}
use Rattle.integers.proofs.Slack.{le_slack, slack_le, lt_slack, slack_lt, nonneg_pos, nonneg-+ℤ, nonneg_*ℤ, nonneg_square}

infixl 60 ◌⊕◌
infixl 70 ◌⊗◌
-- what is not negative: hypothesis i's slack, a square, a natural number, sums and products of such; and hypothesis i, an equation, times any factor
pub data Certificate : Type 0 where
  hyp : ℕ → Certificate
  sqr : Expr → Certificate
  num : ℕ → Certificate
  times : ℕ → Expr → Certificate
  ◌⊕◌ ◌⊗◌ : Certificate → Certificate → Certificate

-- what a relation leaves on its right side, at least 0 if it holds
abbrev slack : Relation → Expr
slack (a ≈ b) = b ⊟ a
slack (a ≲ b) = b ⊟ a
slack (a ≺ b) = b ⊟ a ⊟ # (pos 1)
slack never = # (negsuc 0)

-- the difference of an equation's sides; of any other relation 0
abbrev gap : Relation → Expr
gap (a ≈ b) = b ⊟ a
gap (a ≲ b) = # (pos 0)
gap (a ≺ b) = # (pos 0)
gap never = # (pos 0)

-- hypothesis i; one that says 0 = 0 where there is none
abbrev pick : List Relation → ℕ → Relation
pick [] i = # (pos 0) ≈ # (pos 0)
pick (h ∷ hs) zero = h
pick (h ∷ hs) (suc i) = pick hs i

-- the number that a certificate shows to be at least 0
abbrev value : List Relation → Certificate → Expr
value hs (hyp i) = slack (pick hs i)
value hs (sqr e) = e ⊠ e
value hs (num k) = # (pos k)
value hs (times i e) = e ⊠ gap (pick hs i)
value hs (c ⊕ d) = value hs c ⊞ value hs d
value hs (c ⊗ d) = value hs c ⊠ value hs d

-- a certificate of equations alone: its value is 0
abbrev exact : Certificate → Bool
exact (hyp i) = false
exact (sqr e) = false
exact (num k) = false
exact (times i e) = true
exact (c ⊕ d) = both (exact c) (exact d)
exact (c ⊗ d) = false

-- a polynomial is a constant that is not negative
abbrev is_nat : (n : ℕ) → Pol n → Bool
is_nat zero p = non_neg p
is_nat (suc n) [] = true
is_nat (suc n) (p ∷ ps) = both (is_nat n p) (all (is_null n) ps)

-- ---- soundness

-- the test of a sign
nonneg_is : (z : ℤ) → T (non_neg z) → pos 0 ≤ℤ z
nonneg_is (pos k) t = nonneg_pos k
nonneg_is (negsuc k) t = absurd t

-- a polynomial that is such a constant is at least 0 everywhere
is_nat-is : (n : ℕ) (ρ : Env n) (p : Pol n) → T (is_nat n p) → pos 0 ≤ℤ eval_p n ρ p
is_nat-is zero ρ p t = nonneg_is p t
is_nat-is (suc n) ρ [] t = nonneg_pos 0
is_nat-is (suc n) ρ (p ∷ ps) t =
    subst (λ s. pos 0 ≤ℤ s) (sym rest) (is_nat-is n ρ.1 p (both_left (is_nat n p) (all (is_null n) ps) t))
  where
    rest : eval_p (suc n) ρ (p ∷ ps) ≡ eval_p n ρ.1 p
    rest =
        ap (λ s. eval_p n ρ.1 p +ℤ ρ.0 *ℤ s) (horner_all (eval_p n ρ.1) ρ.0 (is_null n) (is_null_is n ρ.1) ps (both_right (is_nat n p) (all (is_null n) ps) t))
        ∙ ap (λ s. eval_p n ρ.1 p +ℤ s) (*ℤ-zero ρ.0) ∙ +ℤ_idr (eval_p n ρ.1 p)

-- the hypotheses, each an argument of the goal
abbrev pub Under : (n : ℕ) → List Relation → Env n → Type 0 → Type 0
Under n [] ρ X = X
Under n (h ∷ hs) ρ X = Holds n h ρ → Under n hs ρ X

-- all hypotheses at once
abbrev Hold : (n : ℕ) → List Relation → Env n → Type 0
Hold n [] ρ = Unit {0}
Hold n (h ∷ hs) ρ = Holds n h ρ × Hold n hs ρ

-- a goal under all hypotheses at once is one under each in turn
under : (n : ℕ) (hs : List Relation) (ρ : Env n) (X : Type 0) → (Hold n hs ρ → X) → Under n hs ρ X
under n [] ρ X f = f tt
under n (h ∷ hs) ρ X f = λ x. under n hs ρ X (λ xs. f (x, xs))

-- the difference of equals is 0
equal_zero : {x y : ℤ} → x ≡ y → y -ℤ x ≡ pos 0
equal_zero {x} {y} h = ap (λ s. y -ℤ s) h ∙ +ℤ_invr y

-- a relation that holds has a slack of at least 0
slack_nonneg : (n : ℕ) (ρ : Env n) (r : Relation) → Holds n r ρ → pos 0 ≤ℤ eval n ρ (slack r)
slack_nonneg n ρ (a ≈ b) h = subst (λ s. pos 0 ≤ℤ s) (sym (equal_zero h)) (nonneg_pos 0)
slack_nonneg n ρ (a ≲ b) h = le_slack h
slack_nonneg n ρ (a ≺ b) h = lt_slack h
slack_nonneg n ρ never h = absurd h

-- and a gap of 0
gap-zero : (n : ℕ) (ρ : Env n) (r : Relation) → Holds n r ρ → eval n ρ (gap r) ≡ pos 0
gap-zero n ρ (a ≈ b) h = equal_zero h
gap-zero n ρ (a ≲ b) h = refl
gap-zero n ρ (a ≺ b) h = refl
gap-zero n ρ never h = refl

-- each hypothesis holds where all do
picked : (n : ℕ) (ρ : Env n) (hs : List Relation) (i : ℕ) → Hold n hs ρ → Holds n (pick hs i) ρ
picked n ρ [] i h = refl
picked n ρ (r ∷ hs) zero h = h.0
picked n ρ (r ∷ hs) (suc i) h = picked n ρ hs i h.1

module _ (n : ℕ) (ρ : Env n) (hs : List Relation) (h : Hold n hs ρ) where
  -- a multiple of an equation is 0
  times_zero : (i : ℕ) (e : Expr) → eval n ρ (value hs (times i e)) ≡ pos 0
  times_zero i e = ap (λ s. eval n ρ e *ℤ s) (gap-zero n ρ (pick hs i) (picked n ρ hs i h)) ∙ *ℤ-zero (eval n ρ e)

  -- a certificate's value is at least 0
  value-nonneg : (c : Certificate) → pos 0 ≤ℤ eval n ρ (value hs c)
  value-nonneg (hyp i) = slack_nonneg n ρ (pick hs i) (picked n ρ hs i h)
  value-nonneg (sqr e) = nonneg_square (eval n ρ e)
  value-nonneg (num k) = nonneg_pos k
  value-nonneg (times i e) = subst (λ s. pos 0 ≤ℤ s) (sym (times_zero i e)) (nonneg_pos 0)
  value-nonneg (c ⊕ d) = nonneg-+ℤ (eval n ρ (value hs c)) (eval n ρ (value hs d)) (value-nonneg c) (value-nonneg d)
  value-nonneg (c ⊗ d) = nonneg_*ℤ (eval n ρ (value hs c)) (eval n ρ (value hs d)) (value-nonneg c) (value-nonneg d)

  -- a certificate of equations has the value 0
  exact-zero : (c : Certificate) → T (exact c) → eval n ρ (value hs c) ≡ pos 0
  exact-zero (hyp i) t = absurd t
  exact-zero (sqr e) t = absurd t
  exact-zero (num k) t = absurd t
  exact-zero (times i e) t = times_zero i e
  exact-zero (c ⊕ d) t =
      ap (λ s. s +ℤ eval n ρ (value hs d)) (exact-zero c (both_left (exact c) (exact d) t))
      ∙ ap (λ s. pos 0 +ℤ s) (exact-zero d (both_right (exact c) (exact d) t))
  exact-zero (c ⊗ d) t = absurd t

-- ---- the front end

infix 40 ◌⊢◌by◌
-- hypotheses, a goal, and its certificate
pub data Claim : Type 0 where
  ◌⊢◌by◌ : List Relation → Relation → Certificate → Claim

-- what the goal's slack has beyond the certificate's value
abbrev excess : List Relation → Relation → Certificate → Expr
excess hs g c = slack g ⊟ value hs c

-- the test: of an inequality, that this is a natural number; of an equation, that it is 0 and the certificate is one of equations
abbrev Certified : (n : ℕ) → List Relation → Relation → Certificate → Bool
Certified n hs (a ≈ b) c = both (exact c) (is_null n (normal n (excess hs (a ≈ b) c)))
Certified n hs (a ≲ b) c = is_nat n (normal n (excess hs (a ≲ b) c))
Certified n hs (a ≺ b) c = is_nat n (normal n (excess hs (a ≺ b) c))
Certified n hs never c = is_nat n (normal n (excess hs never c))

-- the test of a claim, as a type
abbrev pub Valid : (n : ℕ) → Claim → Type 0
Valid n (hs ⊢ g by c) = T (Certified n hs g c)

-- what a claim says of the values of its variables
abbrev pub Follows : (n : ℕ) → Claim → Env n → Type 0
Follows n (hs ⊢ g by c) ρ = Under n hs ρ (Holds n g ρ)

-- a number that is at least another, which is at least 0
above : (x y : ℤ) → pos 0 ≤ℤ (x -ℤ y) → pos 0 ≤ℤ y → pos 0 ≤ℤ x
above x y h k = subst (λ s. pos 0 ≤ℤ s) (-ℤ-+ℤ_cancel x y) (nonneg-+ℤ (x -ℤ y) y h k)

module _ (n : ℕ) (ρ : Env n) (hs : List Relation) (h : Hold n hs ρ) (c : Certificate) where
  -- an expression that the certificate bounds from below is at least 0
  bounded : (e : Expr) → T (is_nat n (normal n (e ⊟ value hs c))) → pos 0 ≤ℤ eval n ρ e
  bounded e t =
      above (eval n ρ e) (eval n ρ (value hs c))
      (subst (λ s. pos 0 ≤ℤ s) (normal_is n ρ (e ⊟ value hs c)) (is_nat-is n ρ (normal n (e ⊟ value hs c)) t)) (value-nonneg n ρ hs h c)

  -- the goal holds where the test passes
  certified : (g : Relation) → T (Certified n hs g c) → Holds n g ρ
  certified (a ≈ b) t =
      sym (same (eval n ρ b) (eval n ρ a)
      (same (eval n ρ (b ⊟ a)) (eval n ρ (value hs c)) (null_value n ρ (excess hs (a ≈ b) c) (both_right (exact c) (is_null n (normal n (excess hs (a ≈ b) c))) t))
      ∙ exact-zero n ρ hs h c (both_left (exact c) (is_null n (normal n (excess hs (a ≈ b) c))) t)))
  certified (a ≲ b) t = slack_le (eval n ρ a) (eval n ρ b) (bounded (b ⊟ a) t)
  certified (a ≺ b) t = slack_lt (eval n ρ a) (eval n ρ b) (bounded (b ⊟ a ⊟ # (pos 1)) t)
  certified never t = (bounded (# (negsuc 0)) t).le

-- a claim whose test passes holds at all values
follows : (n : ℕ) (q : Claim) → Valid n q → (ρ : Env n) → Follows n q ρ
follows n (hs ⊢ g by c) t ρ = under n hs ρ (Holds n g ρ) (λ h. certified n ρ hs h c g t)

-- the normal form of what the test looks at
abbrev left : (n : ℕ) → Claim → Pol n
left n (hs ⊢ g by c) = normal n (excess hs g c)

-- what a certificate leaves of the goal, as a polynomial, to look at where it is refused: state that it is `[]` by `refl`, and the refusal shows it
abbrev pub remainder : (n : ℕ) → Fun n Claim → Pol n
remainder n f = left n (from n 0 f)

-- what follows from the hypotheses by the certificate, whose test computes: `tt`
pub order : (n : ℕ) (f : Fun n Claim) → Valid n (from n 0 f) → All n (Follows n (from n 0 f))
order n f t = all_of n (Follows n (from n 0 f)) (follows n (from n 0 f) t)
