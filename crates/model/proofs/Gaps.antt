-- What holds of the gaps of an accepted job: no type has one above 63.
use mathlib.Core.Bool.{Bool, true, ◌&&◌}
use mathlib.Core.List.{List, [], ◌∷◌, map}
use mathlib.Core.Option.{Option, none, some}
use mathlib.Core.Path.{◌≡◌, refl, ◌∙◌}
use Prim.Native.Nat.{ℕ, ◌≤◌}
use native.Mathlib.Omega.{arith}
use borrow.Author.Tests.{leb-true}
use lib.Dec.{leb, eqb}
use Rattle.model.specs.Content.{SpacingClass, Kind}
use Rattle.model.specs.Format.{content, classes_of, by_rising_id, class_in_range, refusal}
use Rattle.model.specs.Gap.{best_class, largest_gap, gap_or, kind_gap}
use Rattle.model.specs.Lists.{all, keep, concat, largest, below}
use Rattle.model.proofs.Causes.{no_cause, classes-in_range}
use Rattle.model.proofs.Folds.{all_append}
use Rattle.model.proofs.Lists.{and_left, and_right, and_both}
use Rattle.model.proofs.Ranks.{all_keep, best-holds}

module _ (p : SpacingClass → Bool) where
  pub all-risen : (cs : List SpacingClass) (is : List ℕ) → all p cs ≡ true → all p (concat (map (λ i. keep (λ c. eqb c.id i) cs) is)) ≡ true
  unfolding all concat
  all-risen cs [] e = refl
  all-risen cs (i ∷ is) e = all_append p (keep (λ c. eqb c.id i) cs) _ ∙ and_both _ _ (all_keep p (λ c. eqb c.id i) cs e) (all-risen cs is e)

class-gap : (c : SpacingClass) → class_in_range c ≡ true → c.gap ≤ 63
unfolding class_in_range
class-gap c e = leb-true c.gap 63 (and_right (leb c.id 7 && leb c.rank 255) _ e)

largest-small : (cs : List SpacingClass) → all class_in_range cs ≡ true → largest_gap cs ≤ 63
unfolding all largest_gap largest
largest-small [] e = omega arith
largest-small (c ∷ cs) e =
    let one = class-gap c (and_left _ _ e) in
    let others = largest-small cs (and_right (class_in_range c) _ e) in
    omega arith

pub gap-most : (s : List ℕ) → refusal s ≡ 0 → (k : Kind) → kind_gap (content s).classes k ≤ 63
unfolding kind_gap gap_or content by_rising_id
gap-most s e k = go (best_class (by_rising_id (classes_of s)) k) refl
  where
    in_range : all class_in_range (by_rising_id (classes_of s)) ≡ true
    in_range = all-risen class_in_range (classes_of s) (below 8) (classes-in_range s (no_cause s e).no5)

    go : (b : Option SpacingClass) → best_class (by_rising_id (classes_of s)) k ≡ b → gap_or (largest_gap (by_rising_id (classes_of s))) b ≤ 63
    go none q = largest-small _ in_range
    go (some c) q = class-gap c (best-holds class_in_range _ k c q in_range)
