-- What holds of all classes holds of a type's best-ranked class, and the type names it.
use mathlib.Core.Bool.{Bool, true, false, cond}
use mathlib.Core.List.{List, [], ◌∷◌}
use mathlib.Core.Option.{some, some-injective, some-ne-none}
use mathlib.Core.Path.{◌≡◌, refl, sym, subst}
use Rattle.model.specs.Content.{SpacingClass, Kind}
use Rattle.model.specs.Gap.{names, outranks, better, best_from, best_ranked, best_class}
use Rattle.model.specs.Lists.{all, keep}
use Rattle.model.proofs.Lists.{and_left, and_right, and_both}

module _ (p : SpacingClass → Bool) where
  pub all_keep : (q : SpacingClass → Bool) (cs : List SpacingClass) → all p cs ≡ true → all p (keep q cs) ≡ true
  unfolding all keep
  all_keep q [] e = refl
  all_keep q (c ∷ cs) e = go (q c) (all_keep q cs (and_right (p c) _ e))
    where
      go : (b : Bool) → all p (keep q cs) ≡ true → all p (cond b (c ∷ keep q cs) (keep q cs)) ≡ true
      go true ih = and_both (p c) (all p (keep q cs)) (and_left (p c) (all p cs) e) ih
      go false ih = ih

  all-kept : (cs : List SpacingClass) → all p (keep p cs) ≡ true
  unfolding all keep
  all-kept [] = refl
  all-kept (c ∷ cs) = go (p c) refl (all-kept cs)
    where
      go : (b : Bool) → p c ≡ b → all p (keep p cs) ≡ true → all p (cond b (c ∷ keep p cs) (keep p cs)) ≡ true
      go true e ih = and_both (p c) _ e ih
      go false e ih = ih

  best-from : (c : SpacingClass) (cs : List SpacingClass) → p c ≡ true → all p cs ≡ true → p (best_from c cs) ≡ true
  unfolding all best_from better
  best-from c [] h e = h
  best-from c (d ∷ cs) h e = go (outranks d c) (best-from c cs h (and_right (p d) _ e)) (best-from d cs (and_left _ _ e) (and_right (p d) _ e))
    where
      go : (b : Bool) → p (best_from c cs) ≡ true → p (best_from d cs) ≡ true → p (best_from (cond b d c) cs) ≡ true
      go true a b = b
      go false a b = a

  of_all : (cs : List SpacingClass) (c : SpacingClass) → best_ranked cs ≡ some c → all p cs ≡ true → p c ≡ true
  unfolding all best_ranked
  of_all [] c e h = absurd (some-ne-none c (sym e))
  of_all (d ∷ cs) c e h = subst (λ x. p x ≡ true) (some-injective _ c e) (best-from d cs (and_left _ _ h) (and_right (p d) _ h))

  -- What holds of all classes holds of a type's best-ranked one.
  pub best-holds : (cs : List SpacingClass) (k : Kind) (c : SpacingClass) → best_class cs k ≡ some c → all p cs ≡ true → p c ≡ true
  unfolding best_class
  best-holds cs k c e h = of_all (keep (names k) cs) c e (all_keep (names k) cs h)

-- The type names it.
pub best-named : (cs : List SpacingClass) (k : Kind) (c : SpacingClass) → best_class cs k ≡ some c → names k c ≡ true
unfolding best_class
best-named cs k c e = of_all (names k) (keep (names k) cs) c e (all-kept (names k) cs)
