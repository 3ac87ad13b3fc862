-- Classes laid out by rising id: which classes those are, that they rise, and that classes which rise stay as they are.
use mathlib.Core.Bool.{true, false, not}
use mathlib.Core.List.{List, [], ◌∷◌, ◌++◌, map}
use mathlib.Core.Logic.{◌⊎◌, inl, inr}
use mathlib.Core.Path.{◌≡◌, refl, sym, ap, ap₂, subst, ◌∙◌}
use Prim.Native.Nat.{ℕ, zero, suc, ◌+◌, ◌≤◌, ◌<◌}
use native.Mathlib.Omega.{arith}
use borrow.Author.Tests.{eqb-true, eqb-false, eq-eqb, ne_eqb, not-true}
use lib.Dec.{eqb}
use lib.ListN.{length}
use Rattle.words.proofs.Cases.{true_or_false}
use Rattle.model.proofs.Lists.{and_left, and_right, not_both, or_left, or_right}
use Rattle.model.specs.ClassOrder.{Permuted, end, behind, change, chain}
use Rattle.model.specs.Content.{SpacingClass}
use Rattle.model.specs.Format.{by_rising_id, distinct}
use Rattle.model.specs.Lists.{any, keep, concat, rising, below}
use Rattle.model.specs.ContentFit.{Each, RisingFrom}

-- Numbers that rise from lo rise from every number that is not above it.
from-lower : (lo lo' : ℕ) (ns : List ℕ) → lo' ≤ lo → RisingFrom lo ns → RisingFrom lo' ns
from-lower lo lo' [] l h = tt
from-lower lo lo' (n ∷ ns) l h = (omega (arith, h.0), h.1)

-- ---- Lists in another order

module _ {A : Type 0} where
  permuted_same : (xs : List A) → Permuted xs xs
  permuted_same [] = end
  permuted_same (x ∷ xs) = behind (permuted_same xs)

  permuted_behind : (xs : List A) {ys zs : List A} → Permuted ys zs → Permuted (xs ++ ys) (xs ++ zs)
  permuted_behind [] r = r
  permuted_behind (x ∷ xs) r = behind (permuted_behind xs r)

  -- An element goes to the place between two lists.
  permuted_between : (x : A) (xs ys : List A) → Permuted (x ∷ (xs ++ ys)) (xs ++ (x ∷ ys))
  permuted_between x [] ys = permuted_same (x ∷ ys)
  permuted_between x (y ∷ xs) ys = chain change (behind (permuted_between x xs ys))

  pub length-permuted : {xs ys : List A} → Permuted xs ys → length xs ≡ length ys
  length-permuted end = refl
  length-permuted (behind r) = ap suc (length-permuted r)
  length-permuted change = refl
  length-permuted (chain r q) = length-permuted r ∙ length-permuted q

-- ---- The classes of an id, and those of the n ids from lo on

abbrev of_id : List SpacingClass → ℕ → List SpacingClass
of_id cs i = keep (λ c. eqb c.id i) cs

abbrev laid : List SpacingClass → ℕ → ℕ → List SpacingClass
laid cs lo n = concat (map (λ i. keep (λ c. eqb c.id i) cs) (rising lo n))

by_id-laid : (cs : List SpacingClass) → by_rising_id cs ≡ laid cs 0 8
unfolding by_rising_id below
by_id-laid cs = refl

of_id-same : (c : SpacingClass) (cs : List SpacingClass) (i : ℕ) → c.id ≡ i → of_id (c ∷ cs) i ≡ c ∷ of_id cs i
unfolding keep
of_id-same c cs i e = rw (eq-eqb c.id i e)

of_id-other : (c : SpacingClass) (cs : List SpacingClass) (i : ℕ) → (c.id ≡ i → ⊥) → of_id (c ∷ cs) i ≡ of_id cs i
unfolding keep
of_id-other c cs i e = rw (ne_eqb c.id i e)

laid_suc : (cs : List SpacingClass) (lo n : ℕ) → laid cs lo (suc n) ≡ of_id cs lo ++ laid cs (suc lo) n
unfolding concat rising
laid_suc cs lo n = refl

laid_zero : (cs : List SpacingClass) (lo : ℕ) → laid cs lo 0 ≡ []
unfolding concat rising
laid_zero cs lo = refl

-- A class of a lower id adds nothing.
laid_other : (c : SpacingClass) (cs : List SpacingClass) (lo n : ℕ) → c.id < lo → laid (c ∷ cs) lo n ≡ laid cs lo n
laid_other c cs lo zero h = laid_zero (c ∷ cs) lo ∙ sym (laid_zero cs lo)
laid_other c cs lo (suc n) h =
    laid_suc (c ∷ cs) lo n
    ∙ ap₂ (λ a b. a ++ b) (of_id-other c cs lo (λ e. omega arith)) (laid_other c cs (suc lo) n (omega arith))
    ∙ sym (laid_suc cs lo n)

-- ---- The same classes

laid_more : (c : SpacingClass) (cs : List SpacingClass) (lo n : ℕ) → lo ≤ c.id → c.id < lo + n → Permuted (c ∷ laid cs lo n) (laid (c ∷ cs) lo n)
laid_more c cs lo zero l h = absurd (omega arith)
laid_more c cs lo (suc n) l h = go (true_or_false (eqb c.id lo)) (laid_more c cs (suc lo) n)
  where
    go : (eqb c.id lo ≡ true) ⊎ (eqb c.id lo ≡ false)
        → (suc lo ≤ c.id → c.id < suc lo + n → Permuted (c ∷ laid cs (suc lo) n) (laid (c ∷ cs) (suc lo) n))
        → Permuted (c ∷ laid cs lo (suc n)) (laid (c ∷ cs) lo (suc n))
    go (inl e) ih =
        let i : c.id ≡ lo = eqb-true _ _ e in
        let q : laid (c ∷ cs) lo (suc n) ≡ c ∷ laid cs lo (suc n) =
        laid_suc (c ∷ cs) lo n
        ∙ ap₂ (λ a b. a ++ b) (of_id-same c cs lo i) (laid_other c cs (suc lo) n (omega arith))
        ∙ ap (λ r. c ∷ r) (sym (laid_suc cs lo n)) in
        subst (Permuted (c ∷ laid cs lo (suc n))) (sym q) (permuted_same (c ∷ laid cs lo (suc n)))
    go (inr e) ih =
        let f : c.id ≡ lo → ⊥ = eqb-false _ _ e in
        let q : laid (c ∷ cs) lo (suc n) ≡ of_id cs lo ++ laid (c ∷ cs) (suc lo) n =
        laid_suc (c ∷ cs) lo n ∙ ap (λ r. r ++ laid (c ∷ cs) (suc lo) n) (of_id-other c cs lo f) in
        subst (λ r. Permuted r (laid (c ∷ cs) lo (suc n))) (ap (λ r. c ∷ r) (sym (laid_suc cs lo n)))
        (subst (Permuted (c ∷ (of_id cs lo ++ laid cs (suc lo) n))) (sym q)
        (chain (permuted_between c (of_id cs lo) (laid cs (suc lo) n)) (permuted_behind (of_id cs lo) (ih (omega arith) (omega arith)))))

laid_none : (lo n : ℕ) → laid [] lo n ≡ []
unfolding keep
laid_none lo zero = laid_zero [] lo
laid_none lo (suc n) = laid_suc [] lo n ∙ laid_none (suc lo) n

laid_permuted : (n : ℕ) (cs : List SpacingClass) → Each (λ c. c.id < n) cs → Permuted cs (laid cs 0 n)
laid_permuted n [] h = subst (Permuted []) (sym (laid_none 0 n)) end
laid_permuted n (c ∷ cs) h = chain (behind (laid_permuted n cs h.1)) (laid_more c cs 0 n (omega arith) (omega (arith, h.0)))

-- Classes of ids 0 to 7 by rising id are these classes in another order.
pub by_id-permuted : (cs : List SpacingClass) → Each (λ c. c.id ≤ 7) cs → Permuted cs (by_rising_id cs)
by_id-permuted cs h = subst (Permuted cs) (sym (by_id-laid cs)) (laid_permuted 8 cs (below-eight cs h))
  where
    below-eight : (ds : List SpacingClass) → Each (λ c. c.id ≤ 7) ds → Each (λ c. c.id < 8) ds
    below-eight [] h = tt
    below-eight (d ∷ ds) h = (omega (arith, h.0), below-eight ds h.1)

-- ---- They rise

-- No class has the id that none of the ids is.
of_id-absent : (i : ℕ) (cs : List SpacingClass) → any (eqb i) (map (λ c. c.id) cs) ≡ false → of_id cs i ≡ []
unfolding any keep
of_id-absent i [] h = refl
of_id-absent i (c ∷ cs) h =
    of_id-other c cs i (λ e. not_both (eq-eqb i c.id (sym e)) (or_left _ _ h)) ∙ of_id-absent i cs (or_right (eqb i c.id) _ h)

-- Of distinct ids one class at most has the id i.
abbrev One : ℕ → List SpacingClass → Type 0
One i ds = (ds ≡ []) ⊎ ((c : SpacingClass) × (ds ≡ c ∷ []) × (c.id ≡ i))

of_id-one : (i : ℕ) (cs : List SpacingClass) → distinct (map (λ c. c.id) cs) ≡ true → One i (of_id cs i)
unfolding keep distinct
of_id-one i [] h = inl refl
of_id-one i (c ∷ cs) h = go (true_or_false (eqb c.id i)) (of_id-one i cs (and_right (not (any (eqb c.id) (map (λ c. c.id) cs))) _ h))
  where
    go : (eqb c.id i ≡ true) ⊎ (eqb c.id i ≡ false) → One i (of_id cs i) → One i (of_id (c ∷ cs) i)
    go (inl e) r =
        let q : c.id ≡ i = eqb-true _ _ e in
        let none : any (eqb c.id) (map (λ c. c.id) cs) ≡ false = not-true _ (and_left (not (any (eqb c.id) (map (λ c. c.id) cs))) _ h) in
        let absent : any (eqb i) (map (λ c. c.id) cs) ≡ false = rw q at none in
        inr (c, of_id-same c cs i q ∙ ap (λ r. c ∷ r) (of_id-absent i cs absent), q)
    go (inr e) r = subst (One i) (sym (of_id-other c cs i (eqb-false _ _ e))) r

laid_rises : (cs : List SpacingClass) → distinct (map (λ c. c.id) cs) ≡ true → (lo n : ℕ) → RisingFrom lo (map (λ c. c.id) (laid cs lo n))
laid_rises cs h lo zero = subst (λ r. RisingFrom lo (map (λ c. c.id) r)) (sym (laid_zero cs lo)) tt
laid_rises cs h lo (suc n) = subst (λ r. RisingFrom lo (map (λ c. c.id) r)) (sym (laid_suc cs lo n)) (go (of_id-one lo cs h) (laid_rises cs h (suc lo) n))
  where
    go : One lo (of_id cs lo) → RisingFrom (suc lo) (map (λ c. c.id) (laid cs (suc lo) n))
        → RisingFrom lo (map (λ c. c.id) (of_id cs lo ++ laid cs (suc lo) n))
    go (inl e) r = rw e (from-lower (suc lo) lo (map (λ c. c.id) (laid cs (suc lo) n)) (omega arith) r)
    go (inr (c, e, q)) r = rw e (omega (arith, q), rw q r)

-- Classes of distinct ids rise by id when laid out so.
pub by_id-rises : (cs : List SpacingClass) → distinct (map (λ c. c.id) cs) ≡ true → RisingFrom 0 (map (λ c. c.id) (by_rising_id cs))
by_id-rises cs h = subst (λ r. RisingFrom 0 (map (λ c. c.id) r)) (sym (by_id-laid cs)) (laid_rises cs h 0 8)

-- ---- Classes that rise

-- They have no id below the first.
of_id-lower : (i lo : ℕ) (cs : List SpacingClass) → i < lo → RisingFrom lo (map (λ c. c.id) cs) → of_id cs i ≡ []
unfolding keep
of_id-lower i lo [] l h = refl
of_id-lower i lo (c ∷ cs) l h =
    of_id-other c cs i (λ e. omega (arith, h.0)) ∙ of_id-lower i (suc c.id) cs (omega (arith, h.0)) h.1

laid_stays : (n lo : ℕ) (cs : List SpacingClass) → RisingFrom lo (map (λ c. c.id) cs) → Each (λ c. c.id < lo + n) cs → laid cs lo n ≡ cs
laid_stays zero lo [] h b = laid_zero [] lo
laid_stays zero lo (c ∷ cs) h b = absurd (omega (arith, h.0, b.0))
laid_stays (suc n) lo [] h b = laid_none lo (suc n)
laid_stays (suc n) lo (c ∷ cs) h b = go (true_or_false (eqb c.id lo)) (laid_stays n (suc lo))
  where
    wider : (ds : List SpacingClass) → Each (λ c. c.id < lo + suc n) ds → Each (λ c. c.id < suc lo + n) ds
    wider [] w = tt
    wider (d ∷ ds) w = (omega (arith, w.0), wider ds w.1)

    go : (eqb c.id lo ≡ true) ⊎ (eqb c.id lo ≡ false)
        → ((ds : List SpacingClass) → RisingFrom (suc lo) (map (λ c. c.id) ds) → Each (λ c. c.id < suc lo + n) ds → laid ds (suc lo) n ≡ ds)
        → laid (c ∷ cs) lo (suc n) ≡ c ∷ cs
    go (inl e) ih =
        let q : c.id ≡ lo = eqb-true _ _ e in
        let up : RisingFrom (suc lo) (map (λ c. c.id) cs) = rw q at h.1 in
        laid_suc (c ∷ cs) lo n
        ∙ ap₂ (λ a b. a ++ b) (of_id-same c cs lo q ∙ ap (λ r. c ∷ r) (of_id-lower lo (suc lo) cs (omega arith) up)) (laid_other c cs (suc lo) n (omega arith))
        ∙ ap (λ r. c ∷ r) (ih cs up (wider cs b.1))
    go (inr e) ih =
        let f : c.id ≡ lo → ⊥ = eqb-false _ _ e in
        let up : RisingFrom (suc lo) (map (λ c. c.id) (c ∷ cs)) = (omega (arith, h.0, f), h.1) in
        laid_suc (c ∷ cs) lo n
        ∙ ap (λ r. r ++ laid (c ∷ cs) (suc lo) n) (of_id-lower lo (suc lo) (c ∷ cs) (omega arith) up)
        ∙ ih (c ∷ cs) up (wider (c ∷ cs) b)

-- Classes that rise by id, to 7 at most, are by rising id as they stand.
pub by_id-stays : (cs : List SpacingClass) → RisingFrom 0 (map (λ c. c.id) cs) → Each (λ c. c.id < 8) cs → by_rising_id cs ≡ cs
by_id-stays cs h b = by_id-laid cs ∙ laid_stays 8 0 cs h b
