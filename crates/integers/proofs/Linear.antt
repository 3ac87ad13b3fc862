-- Integers for `omega`, which reads natural numbers alone: an integer x is pp x − nn x, and a relation of integers is one of such parts.
-- `linear 3 (λ x y z. (x ⊞ # (pos 3) ≲ y) ∷ (y ≺ z) ∷ [] ⊩ x ⊞ # (pos 4) ≲ z) x y z (omega arith)` proves (x +ℤ pos 3) ≤ℤ y → y <ℤ z → (x +ℤ pos 4) ≤ℤ z.
-- In place, hypotheses and goal are read by the set `integers`: `omega integers`. Assumes nothing.
use mathlib.Core.Path.{◌≡◌, refl, sym, ◌∙◌, ap, subst}
use mathlib.Core.List.{List, [], ◌∷◌}
use Prim.Native.Nat.{ℕ, suc, ◌+◌, ◌*◌, ◌≤◌, ◌<◌}
use native.Mathlib.Omega.{arith}
use lib.IntN.{ℤ, pos, negsuc, neg_ℤ, ◌+ℤ◌, ◌-ℤ◌, ◌*ℤ◌, +ℤ_idl, +ℤ_idr}
use lib.Signed.{◌≤ℤ◌, ◌<ℤ◌}
use Rattle.integers.proofs.Solver.{Expr, v, #, ◌⊞◌, ◌⊟◌, ◌⊠◌, ⊖◌, Env, lookup, eval, Relation, ◌≈◌, ◌≲◌, ◌≺◌, never, Holds, Fun, from, All, all_of, ring}
use Rattle.integers.proofs.Certificates.{order, ◌⊢◌by◌, hyp, times, Under}
use Rattle.integers.proofs.Order.{pos-≤ℤ, ≤ℤ-pos, pos_<ℤ, <ℤ-pos}

-- the part of an integer above 0
abbrev pub pp : ℤ → ℕ
pp (pos n) = n
pp (negsuc n) = 0

-- the part below 0
abbrev pub nn : ℤ → ℕ
nn (pos n) = 0
nn (negsuc n) = suc n

-- a − b, for two naturals
abbrev diff : ℕ → ℕ → ℤ
diff a b = pos a -ℤ pos b

-- an integer is the difference of its parts
pub parts-of : (z : ℤ) → z ≡ pos (pp z) -ℤ pos (nn z)
parts-of (pos n) = sym (+ℤ_idr (pos n))
parts-of (negsuc n) = sym (+ℤ_idl (negsuc n))

-- ---- relations of differences are relations of naturals

-- a − b ≤ c − d, from a + d ≤ c + b
diff-≤ℤ : (a b c d : ℕ) → a + d ≤ c + b → diff a b ≤ℤ diff c d
diff-≤ℤ a b c d h =
    order 4 (λ a b c d. (a ⊞ d ≲ c ⊞ b) ∷ [] ⊢ a ⊟ b ≲ c ⊟ d by hyp 0) tt (pos a) (pos b) (pos c) (pos d) (pos-≤ℤ h)

-- and back
≤ℤ-diff : (a b c d : ℕ) → diff a b ≤ℤ diff c d → a + d ≤ c + b
≤ℤ-diff a b c d h =
    ≤ℤ-pos (order 4 (λ a b c d. (a ⊟ b ≲ c ⊟ d) ∷ [] ⊢ a ⊞ d ≲ c ⊞ b by hyp 0) tt (pos a) (pos b) (pos c) (pos d) h)

-- a − b < c − d, from a + d < c + b
diff_<ℤ : (a b c d : ℕ) → a + d < c + b → diff a b <ℤ diff c d
diff_<ℤ a b c d h =
    order 4 (λ a b c d. (a ⊞ d ≺ c ⊞ b) ∷ [] ⊢ a ⊟ b ≺ c ⊟ d by hyp 0) tt (pos a) (pos b) (pos c) (pos d) (pos_<ℤ h)

-- and back
<ℤ-diff : (a b c d : ℕ) → diff a b <ℤ diff c d → a + d < c + b
<ℤ-diff a b c d h =
    <ℤ-pos (order 4 (λ a b c d. (a ⊟ b ≺ c ⊟ d) ∷ [] ⊢ a ⊞ d ≺ c ⊞ b by hyp 0) tt (pos a) (pos b) (pos c) (pos d) h)

-- a − b = c − d, from a + d = c + b
diff-≡ : (a b c d : ℕ) → a + d ≡ c + b → diff a b ≡ diff c d
diff-≡ a b c d h =
    order 4 (λ a b c d. (a ⊞ d ≈ c ⊞ b) ∷ [] ⊢ a ⊟ b ≈ c ⊟ d by times 0 (# (pos 1))) tt (pos a) (pos b) (pos c) (pos d) (ap pos h)

-- and back
≡-diff : (a b c d : ℕ) → diff a b ≡ diff c d → a + d ≡ c + b
≡-diff a b c d h =
    ap pp (order 4 (λ a b c d. (a ⊟ b ≈ c ⊟ d) ∷ [] ⊢ a ⊞ d ≈ c ⊞ b by times 0 (# (pos 1))) tt (pos a) (pos b) (pos c) (pos d) h)

-- ---- by reflection

-- the parts of an expression, from the parts of its variables
abbrev parts : (n : ℕ) → Env n → Expr → ℕ × ℕ
parts n ρ (v i) = (pp (lookup n ρ i), nn (lookup n ρ i))
parts n ρ (# z) = (pp z, nn z)
parts n ρ (a ⊞ b) = ((parts n ρ a).0 + (parts n ρ b).0, (parts n ρ a).1 + (parts n ρ b).1)
parts n ρ (a ⊠ b) =
    ((parts n ρ a).0 * (parts n ρ b).0 + (parts n ρ a).1 * (parts n ρ b).1, (parts n ρ a).0 * (parts n ρ b).1 + (parts n ρ a).1 * (parts n ρ b).0)
parts n ρ (⊖ a) = ((parts n ρ a).1, (parts n ρ a).0)

-- an expression has the value of the difference of its parts
parts_is : (n : ℕ) (ρ : Env n) (e : Expr) → eval n ρ e ≡ diff (parts n ρ e).0 (parts n ρ e).1
parts_is n ρ (v i) = parts-of (lookup n ρ i)
parts_is n ρ (# z) = parts-of z
parts_is n ρ (a ⊞ b) =
    ap (λ s. s +ℤ eval n ρ b) (parts_is n ρ a) ∙ ap (λ s. diff (parts n ρ a).0 (parts n ρ a).1 +ℤ s) (parts_is n ρ b)
    ∙ ring 4 (λ a b c d. (a ⊟ b) ⊞ (c ⊟ d) ≈ (a ⊞ c) ⊟ (b ⊞ d)) tt (pos (parts n ρ a).0) (pos (parts n ρ a).1) (pos (parts n ρ b).0) (pos (parts n ρ b).1)
parts_is n ρ (a ⊠ b) =
    ap (λ s. s *ℤ eval n ρ b) (parts_is n ρ a) ∙ ap (λ s. diff (parts n ρ a).0 (parts n ρ a).1 *ℤ s) (parts_is n ρ b)
    ∙ ring 4 (λ a b c d. (a ⊟ b) ⊠ (c ⊟ d) ≈ (a ⊠ c ⊞ b ⊠ d) ⊟ (a ⊠ d ⊞ b ⊠ c)) tt (pos (parts n ρ a).0) (pos (parts n ρ a).1) (pos (parts n ρ b).0) (pos (parts n ρ b).1)
parts_is n ρ (⊖ a) =
    ap neg_ℤ (parts_is n ρ a) ∙ ring 2 (λ a b. ⊖ (a ⊟ b) ≈ b ⊟ a) tt (pos (parts n ρ a).0) (pos (parts n ρ a).1)

-- a relation, said of the parts
abbrev Parted : (n : ℕ) → Relation → Env n → Type 0
Parted n (a ≈ b) ρ = (parts n ρ a).0 + (parts n ρ b).1 ≡ (parts n ρ b).0 + (parts n ρ a).1
Parted n (a ≲ b) ρ = (parts n ρ a).0 + (parts n ρ b).1 ≤ (parts n ρ b).0 + (parts n ρ a).1
Parted n (a ≺ b) ρ = (parts n ρ a).0 + (parts n ρ b).1 < (parts n ρ b).0 + (parts n ρ a).1
Parted n never ρ = ⊥

-- a relation R of two integers, carried to the differences of their parts and back
module _ (n : ℕ) (ρ : Env n) (R : ℤ → ℤ → Type 0) (a b : Expr) where
  -- from the values to the parts
  into : R (eval n ρ a) (eval n ρ b) → R (diff (parts n ρ a).0 (parts n ρ a).1) (diff (parts n ρ b).0 (parts n ρ b).1)
  into h = subst (λ s. R (diff (parts n ρ a).0 (parts n ρ a).1) s) (parts_is n ρ b) (subst (λ s. R s (eval n ρ b)) (parts_is n ρ a) h)

  -- from the parts to the values
  back : R (diff (parts n ρ a).0 (parts n ρ a).1) (diff (parts n ρ b).0 (parts n ρ b).1) → R (eval n ρ a) (eval n ρ b)
  back h = subst (λ s. R (eval n ρ a) s) (sym (parts_is n ρ b)) (subst (λ s. R s (diff (parts n ρ b).0 (parts n ρ b).1)) (sym (parts_is n ρ a)) h)

-- a relation that holds, holds of the parts
parted : (n : ℕ) (ρ : Env n) (r : Relation) → Holds n r ρ → Parted n r ρ
parted n ρ (a ≈ b) h = ≡-diff _ _ _ _ (into n ρ (λ x y. x ≡ y) a b h)
parted n ρ (a ≲ b) h = ≤ℤ-diff _ _ _ _ (into n ρ (λ x y. x ≤ℤ y) a b h)
parted n ρ (a ≺ b) h = <ℤ-diff _ _ _ _ (into n ρ (λ x y. x <ℤ y) a b h)
parted n ρ never h = h

-- a relation that holds of the parts, holds
joined : (n : ℕ) (ρ : Env n) (r : Relation) → Parted n r ρ → Holds n r ρ
joined n ρ (a ≈ b) h = back n ρ (λ x y. x ≡ y) a b (diff-≡ _ _ _ _ h)
joined n ρ (a ≲ b) h = back n ρ (λ x y. x ≤ℤ y) a b (diff-≤ℤ _ _ _ _ h)
joined n ρ (a ≺ b) h = back n ρ (λ x y. x <ℤ y) a b (diff_<ℤ _ _ _ _ h)
joined n ρ never h = h

infix 40 ◌⊩◌
-- hypotheses and a goal
pub data Sequent : Type 0 where
  ◌⊩◌ : List Relation → Relation → Sequent

-- the hypotheses, said of the parts, each an argument of the goal
abbrev UnderParts : (n : ℕ) → List Relation → Env n → Type 0 → Type 0
UnderParts n [] ρ X = X
UnderParts n (h ∷ hs) ρ X = Parted n h ρ → UnderParts n hs ρ X

-- from the sequent of the parts follows the sequent of the integers
abbrev pub Reduced : (n : ℕ) → Sequent → Env n → Type 0
Reduced n (hs ⊩ g) ρ = UnderParts n hs ρ (Parted n g ρ) → Under n hs ρ (Holds n g ρ)

-- by the hypotheses in turn
reduce : (n : ℕ) (hs : List Relation) (g : Relation) (ρ : Env n) → UnderParts n hs ρ (Parted n g ρ) → Under n hs ρ (Holds n g ρ)
reduce n [] g ρ f = joined n ρ g f
reduce n (h ∷ hs) g ρ f = λ x. reduce n hs g ρ (f (parted n ρ h x))

-- a sequent follows from the sequent of its parts
reduced : (n : ℕ) (q : Sequent) (ρ : Env n) → Reduced n q ρ
reduced n (hs ⊩ g) ρ = reduce n hs g ρ

-- a goal of integers, from the goal of their parts, which `omega arith` proves where it is linear
pub linear : (n : ℕ) (f : Fun n Sequent) → All n (Reduced n (from n 0 f))
linear n f = all_of n (Reduced n (from n 0 f)) (reduced n (from n 0 f))

-- ---- in place: the rules by which `omega` reads a hypothesis of integers, and turns a goal

-- a hypothesis x ≤ y
pub ≤ℤ→ : {x y : ℤ} → x ≤ℤ y → pp x + nn y ≤ pp y + nn x
≤ℤ→ {x} {y} = parted 2 (x, (y, tt)) (v 0 ≲ v 1)

-- a hypothesis x < y
pub <ℤ→ : {x y : ℤ} → x <ℤ y → pp x + nn y < pp y + nn x
<ℤ→ {x} {y} = parted 2 (x, (y, tt)) (v 0 ≺ v 1)

-- a hypothesis x = y
pub ≡ℤ→ : {x y : ℤ} → x ≡ y → pp x + nn y ≡ pp y + nn x
≡ℤ→ {x} {y} = parted 2 (x, (y, tt)) (v 0 ≈ v 1)

-- a goal x ≤ y
pub →≤ℤ : (x y : ℤ) → pp x + nn y ≤ pp y + nn x → x ≤ℤ y
→≤ℤ x y = joined 2 (x, (y, tt)) (v 0 ≲ v 1)

-- a goal x < y
pub →<ℤ : (x y : ℤ) → pp x + nn y < pp y + nn x → x <ℤ y
→<ℤ x y = joined 2 (x, (y, tt)) (v 0 ≺ v 1)

-- a goal x = y
pub →≡ℤ : (x y : ℤ) → pp x + nn y ≡ pp y + nn x → x ≡ y
→≡ℤ x y = joined 2 (x, (y, tt)) (v 0 ≈ v 1)

-- what `omega` does not know of the parts of a sum, a difference and a negation: listed with their arguments
pub parts-+ℤ : (x y : ℤ) → pp (x +ℤ y) + (nn x + nn y) ≡ (pp x + pp y) + nn (x +ℤ y)
parts-+ℤ x y = parted 3 (x, (y, (x +ℤ y, tt))) (v 2 ≈ v 0 ⊞ v 1) refl

-- of a difference
pub parts--ℤ : (x y : ℤ) → pp (x -ℤ y) + (nn x + pp y) ≡ (pp x + nn y) + nn (x -ℤ y)
parts--ℤ x y = parted 3 (x, (y, (x -ℤ y, tt))) (v 2 ≈ v 0 ⊟ v 1) refl

pub ruleset integers = (≤ℤ→, <ℤ→, ≡ℤ→, →≤ℤ, →<ℤ, →≡ℤ, arith)
