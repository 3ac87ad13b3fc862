-- The entries of a layout, one by one, and the largest of their ends. Assumes nothing.
use mathlib.Core.Bool.{Bool, true}
use mathlib.Core.List.{List, map}
use mathlib.Core.Path.{◌≡◌, refl, sym, ap, ap₂, subst, ◌∙◌}
use Prim.Native.Nat.{ℕ, ◌+◌, ◌<◌, max}
use lib.ListN.{length-map}
use Rattle.model.specs.Content.{piece_count}
use Rattle.model.specs.Layout.{Entry, no_entry}
use Rattle.model.specs.Lists.{all, largest, rising, below}
use Rattle.model.specs.Problem.{Problem}
use Rattle.model.specs.Services.{entry_in, layout_in}
use Rattle.model.proofs.Folds.{largest-below-more}
use Rattle.model.proofs.Lists.{all-at, length-below, get_or-map-below}
use Rattle.model.proofs.Tests.{all_map}
use Rattle.layouts.specs.Entries.{entries_in}

-- ---- all entries

pub layout_is : (j : Problem) (s : List ℕ) (n : ℕ) → n ≡ piece_count j.kinds → entries_in s n ≡ layout_in j s
unfolding entries_in layout_in
layout_is j s n e = ap (λ (m : ℕ). map (entry_in s) (below m)) e

pub entries_at : (p : Entry → Bool) (s : List ℕ) (n i : ℕ) → all p (entries_in s n) ≡ true → i < n
    → p (entry_in s i) ≡ true
unfolding entries_in
entries_at p s n i e h =
    subst (λ (x : Entry). p x ≡ true) (get_or-map-below (entry_in s) n i no_entry h)
    (all-at p (map (entry_in s) (below n)) no_entry e i (rw (length-map, length-below) h))

module _ (j : Problem) (s : List ℕ) (n : ℕ) (e : n ≡ piece_count j.kinds) (p : Entry → Bool) where
  -- A test of all entries by their places.
  pub all_by_place : all (λ i. p (entry_in s i)) (below n) ≡ all p (layout_in j s)
  unfolding entries_in
  all_by_place = sym (all_map p (entry_in s) (below n)) ∙ ap (all p) (layout_is j s n e)

  -- What holds of all holds of each.
  pub each_of : all p (layout_in j s) ≡ true → (i : ℕ) → i < n → p (entry_in s i) ≡ true
  each_of h i l = entries_at p s n i (ap (all p) (layout_is j s n e) ∙ h) l

-- ---- the largest

pub largest-none : (f : Entry → ℕ) (s : List ℕ) → 0 ≡ largest (map f (entries_in s 0))
unfolding largest entries_in below rising
largest-none f s = refl

pub largest-next : (f : Entry → ℕ) (s : List ℕ) (i m k r : ℕ) → m ≡ largest (map f (entries_in s i)) → k
    ≡ f (entry_in s i) → r ≡ max m k
    → r ≡ largest (map f (entries_in s (i + 1)))
unfolding entries_in
largest-next f s i m k r e g q = q ∙ ap₂ max e g ∙ sym (largest-below-more (entry_in s) f i)
