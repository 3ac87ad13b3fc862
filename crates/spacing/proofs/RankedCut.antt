-- Document 02, "8/13 Common cut against ranks": the gap of a pair is as the request says, and what changed by it, whatever the classes and the types; the request's two examples.
use mathlib.Core.Bool.{Bool, true, false, not, cond, ◌&&◌, true≢false}
use mathlib.Core.List.{List, [], ◌∷◌}
use mathlib.Core.Logic.{⊎_elim}
use mathlib.Core.Option.{Option, none, some}
use mathlib.Core.Path.{◌≡◌, refl, sym, ap, ap₂, ◌∙◌}
use Prim.Native.Nat.{ℕ, max}
use borrow.Author.Tests.{eqb-true, eq-eqb, not-true}
use lib.Dec.{eqb}
use Rattle.words.proofs.Cases.{true_or_false}
use Rattle.model.specs.Content.{SpacingClass, spacing_class, Part, Kind, kind}
use Rattle.model.specs.Gap.{names, best_class, kind_gap, same_marked, share_cut, pair_gap}
use Rattle.model.specs.Lists.{all, any}
use Rattle.model.specs.Opened.{opened}
use Rattle.spacing.specs.RankedCut.{SameBest, share_marked, earlier_gap, RanksFirst}
use Rattle.model.proofs.Lists.{and_left, and_right, and_both, or_left, or_right}
use Rattle.model.proofs.Ranks.{best-holds, best-named}
use Rattle.spacing.proofs.SameClass.{best-same}

-- A test that holds of no element fails of each.
none-holds : (p : SpacingClass → Bool) (cs : List SpacingClass) → any p cs ≡ false → all (λ c. not (p c)) cs ≡ true
unfolding any all
none-holds p [] e = refl
none-holds p (c ∷ cs) e = and_both _ _ (ap not (or_left (p c) (any p cs) e)) (none-holds p cs (or_right (p c) (any p cs) e))

module _ (cs : List SpacingClass) (k m : Kind) where
  -- The test that the definition makes is the request's condition.
  same-best : share_cut cs k m ≡ true → SameBest cs k m
  unfolding share_cut same_marked
  same-best e = go (best_class cs k) (best_class cs m) refl refl e
    where
      go : (a b : Option SpacingClass) → best_class cs k ≡ a → best_class cs m ≡ b → same_marked a b ≡ true → SameBest cs k m
      go none b p q e = absurd (true≢false (sym e))
      go (some c) none p q e = absurd (true≢false (sym e))
      go (some c) (some d) p q e =
          let both = and_left (eqb c.id d.id && c.common_cut) d.common_cut e in
          let one : c ≡ d = best-same cs k m c d p q (eqb-true _ _ (and_left (eqb c.id d.id) c.common_cut both)) in
          record { class = c; of_first = p; of_second = q ∙ ap some (sym one); marked = and_right (eqb c.id d.id) c.common_cut both }

  best-shares : SameBest cs k m → share_cut cs k m ≡ true
  unfolding share_cut same_marked
  best-shares b = ap₂ same_marked b.of_first b.of_second ∙ rw (eq-eqb b.class.id b.class.id refl, b.marked)

  -- A best-ranked class that is the same and marked is a marked class that is shared.
  best-is_shared : SameBest cs k m → share_marked cs k m ≡ true
  unfolding share_marked
  best-is_shared b = ⊎_elim (λ e. e) (λ e. absurd (true≢false (sym holds ∙ not-true _ (best-holds (λ c. not (test c)) cs k b.class b.of_first (none-holds test cs e))))) (true_or_false (any test cs))
    where
      test : SpacingClass → Bool
      test c = c.common_cut && names k c && names m c

      holds : test b.class ≡ true
      holds = and_both _ _ (and_both _ _ b.marked (best-named cs k b.class b.of_first)) (best-named cs m b.class b.of_second)

  pub ranks-first : RanksFirst cs k m
  unfolding pair_gap earlier_gap
  ranks-first =
      record {
        cut = cut;
        uncut = uncut;
        others = λ e n. (by_mark e, uncut n);
        unshared = λ e. uncut (λ b. true≢false (sym (best-is_shared b) ∙ e)) ∙ sym (by_mark e);
        still_cut = λ b. cut b ∙ sym (by_mark (best-is_shared b));
      }
    where
      gap : ℕ
      gap = max (kind_gap cs k) (kind_gap cs m)

      cut : SameBest cs k m → cond (share_cut cs k m) 0 gap ≡ 0
      cut b = ap (λ t. cond t 0 gap) (best-shares b)

      uncut : (SameBest cs k m → ⊥) → cond (share_cut cs k m) 0 gap ≡ gap
      uncut n = ⊎_elim (λ e. absurd (n (same-best e))) (ap (λ t. cond t 0 gap)) (true_or_false (share_cut cs k m))

      by_mark : {t : Bool} → share_marked cs k m ≡ t → cond (share_marked cs k m) 0 gap ≡ cond t 0 gap
      by_mark e = ap (λ t. cond t 0 gap) e

-- ---- "Two examples": class 0 has rank 1 and gap 3, marked class 2 has rank 9. A mask of 5 names both, and 4 class 2 alone; whatever else is said of the types.

abbrev pub coated : ℕ → List SpacingClass
coated gap = spacing_class 0 1 3 false ∷ spacing_class 2 9 gap true ∷ []

module _ (d e r q : ℕ) (Ps Qs : List Part) where
  -- "both pieces in class 0 (rank 1, gap 3) and marked class 2 (rank 9) go from 0 to 3": whatever the gap of class 2.
  pub both_in_both : (gap : ℕ) → (earlier_gap (coated gap) (kind d r 5 Ps) (kind e q 5 Qs) ≡ 0) × (pair_gap (coated gap) (kind d r 5 Ps) (kind e q 5 Qs) ≡ 3)
  unfolding opened share_marked earlier_gap
  both_in_both gap = (refl, refl)

  -- "one in both and one in class 2 alone, gap 1, also go from 0 to 3."
  pub one_in_both : (earlier_gap (coated 1) (kind d r 5 Ps) (kind e q 4 Qs) ≡ 0) × (pair_gap (coated 1) (kind d r 5 Ps) (kind e q 4 Qs) ≡ 3)
  unfolding opened share_marked earlier_gap
  one_in_both = (refl, refl)
