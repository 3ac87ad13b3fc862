-- No two entries of a layout are in conflict, entry by entry. Assumes nothing.
use mathlib.Core.Bool.{Bool, true, false, not, ◌&&◌}
use mathlib.Core.List.{List, [], ◌∷◌, ◌++◌, map}
use mathlib.Core.Path.{◌≡◌, refl, sym, ap, ap₂, ◌∙◌}
use Prim.Native.Nat.{ℕ, zero, suc}
use native.Mathlib.Numerals.{add-one}
use Rattle.model.specs.Content.{piece_count}
use Rattle.model.specs.Layout.{Entry, Layout, conflict, apart}
use Rattle.model.specs.Lists.{all, rising, below}
use Rattle.model.specs.Problem.{Problem}
use Rattle.model.specs.Services.{entry_in, layout_in}
use Rattle.model.proofs.Folds.{all_more, map-below-more, all-numbers_more}
use Rattle.model.proofs.Tests.{all_map}
use Rattle.layouts.specs.Entries.{entries_in}
use Rattle.layouts.proofs.AdmissionLaws.{layout_is}

middle : (a b c d : Bool) → (a && b && (c && d)) ≡ (a && c && (b && d))
middle false b c d = refl
middle true true true d = refl
middle true true false d = refl
middle true false true d = refl
middle true false false d = refl

module _ (j : Problem) where
  apart-last : (es : Layout) (f : Entry) → apart j (es ++ (f ∷ [])) ≡ (apart j es && all (λ e. not (conflict j e f)) es)
  unfolding apart all
  apart-last [] f = refl
  apart-last (e ∷ es) f =
      ap₂ ◌&&◌ (all_more (λ g. not (conflict j e g)) es f) (apart-last es f)
      ∙ middle (all (λ g. not (conflict j e g)) es) (not (conflict j e f)) (apart j es) (all (λ g. not (conflict j g
      f)) es)

  -- Entry k is clear of those before it.
  abbrev pub clear_at : List ℕ → ℕ → Bool
  clear_at s k = all (λ i. not (conflict j (entry_in s i) (entry_in s k))) (below k)

  apart_none : (s : List ℕ) → all (clear_at s) (below 0) ≡ apart j (map (entry_in s) (below 0))
  unfolding apart all below rising
  apart_none s = refl

  apart-below : (s : List ℕ) (n : ℕ) → all (clear_at s) (below n) ≡ apart j (entries_in s n)
  unfolding entries_in
  apart-below s zero = apart_none s
  apart-below s (suc n) =
      ap (λ m. all (clear_at s) (below m)) (sym (add-one n))
      ∙ all-numbers_more (clear_at s) n
      ∙ ap₂ ◌&&◌ (apart-below s n) (sym (all_map (λ e. not (conflict j e (entry_in s n))) (entry_in s) (below n)))
      ∙ sym (apart-last (map (entry_in s) (below n)) (entry_in s n))
      ∙ ap (apart j) (sym (map-below-more (entry_in s) n))
      ∙ ap (λ m. apart j (map (entry_in s) (below m))) (add-one n)

  pub apart_is : (s : List ℕ) (n : ℕ) → n ≡ piece_count j.kinds → all (clear_at s) (below n) ≡ apart j (layout_in j s)
  apart_is s n e = apart-below s n ∙ ap (apart j) (layout_is j s n e)
