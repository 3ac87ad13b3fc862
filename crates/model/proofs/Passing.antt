-- The Bool that the engine computes of a layout, `passes`, holds exactly if the proposition `Passes` does.
use mathlib.Core.Bool.{Bool, true, false, not, cond}
use mathlib.Core.List.{[], ◌∷◌}
use mathlib.Core.Logic.{inl, inr}
use mathlib.Core.Path.{◌≡◌, refl, ap}
use Prim.Native.Nat.{ℕ, zero, suc, ◌<◌}
use native.Mathlib.Nat.{not-suc-le-zero, le_of_suc-le-suc}
use native.Mathlib.Omega.{arith}
use borrow.Author.Tests.{ltb-true, eqb-true, eq-eqb, ne_eqb, lt-ltb, not-true}
use lib.Dec.{ltb, eqb}
use lib.ListN.{length}
use Rattle.model.specs.Content.{kind_at, kind_count}
use Rattle.model.specs.Layout.{Entry, Layout, entry_at, no_entry, entry_number, is_entry, conflict, in_order, ordered, copies, demand_met, apart, passes, Precedes, Passes}
use Rattle.model.specs.Lists.{all}
use Rattle.model.specs.Problem.{Problem}
use Rattle.model.proofs.Lists.{and_left, and_right, and_both, and_four, all-at, all_of, all-below, below_all}

module _ (j : Problem) where
  -- ---- Order of two entries
  pub precedes : (e f : Entry) → in_order j e f ≡ true → Precedes j e f
  unfolding in_order
  precedes e f h = go (eqb e.kind f.kind) refl h
    where
      go : (c : Bool) → eqb e.kind f.kind ≡ c
          → cond c (ltb (entry_number j e) (entry_number j f)) (ltb e.kind f.kind) ≡ true → Precedes j e f
      go true q t = inr (eqb-true _ _ q, ltb-true _ _ t)
      go false q t = inl (ltb-true _ _ t)

  in_order_lem : (e f : Entry) → Precedes j e f → in_order j e f ≡ true
  unfolding in_order
  in_order_lem e f (inl h) = rw (ne_eqb e.kind f.kind (λ q. omega arith)) (lt-ltb _ _ h)
  in_order_lem e f (inr h) = rw (eq-eqb e.kind f.kind h.0) (lt-ltb _ _ h.1)

  -- ---- Each entry before the next
  ordered_at_lem : (es : Layout) → ordered j es ≡ true → (i : ℕ) → suc i < length es → Precedes j (entry_at es i) (entry_at es (suc i))
  unfolding ordered
  ordered_at_lem [] t i h = absurd (not-suc-le-zero h)
  ordered_at_lem (e ∷ []) t i h = absurd (not-suc-le-zero (le_of_suc-le-suc h))
  ordered_at_lem (e ∷ f ∷ es) t zero h = precedes e f (and_left _ _ t)
  ordered_at_lem (e ∷ f ∷ es) t (suc i) h = ordered_at_lem (f ∷ es) (and_right (in_order j e f) _ t) i (le_of_suc-le-suc h)

  ordered_of : (es : Layout) → ((i : ℕ) → suc i < length es → Precedes j (entry_at es i) (entry_at es (suc i))) → ordered j es ≡ true
  unfolding ordered
  ordered_of [] p = refl
  ordered_of (e ∷ []) p = refl
  ordered_of (e ∷ f ∷ es) p =
      and_both _ _ (in_order_lem e f (p zero (omega arith))) (ordered_of (f ∷ es) (λ i h. p (suc i) (omega arith)))

  -- ---- No two in conflict
  apart-at : (es : Layout) → apart j es ≡ true → (i k : ℕ) → i < k → k < length es → conflict j (entry_at es i) (entry_at es k) ≡ false
  unfolding apart
  apart-at [] t i k h l = absurd (not-suc-le-zero l)
  apart-at (e ∷ es) t i zero h l = absurd (not-suc-le-zero h)
  apart-at (e ∷ es) t zero (suc k) h l =
      not-true _ (all-at (λ f. not (conflict j e f)) es no_entry (and_left _ _ t) k (le_of_suc-le-suc l))
  apart-at (e ∷ es) t (suc i) (suc k) h l = apart-at es (and_right (all (λ f. not (conflict j e f)) es) _ t) i k (le_of_suc-le-suc h) (le_of_suc-le-suc l)

  apart_of : (es : Layout) → ((i k : ℕ) → i < k → k < length es → conflict j (entry_at es i) (entry_at es k) ≡ false) → apart j es ≡ true
  unfolding apart
  apart_of [] p = refl
  apart_of (e ∷ es) p =
      and_both _ _ (all_of (λ f. not (conflict j e f)) es no_entry (λ k h. ap not (p zero (suc k) (omega arith) (omega arith))))
      (apart_of es (λ i k h l. p (suc i) (suc k) (omega arith) (omega arith)))

  -- ---- Passing
  pub passes-sound : (es : Layout) → passes j es ≡ true → Passes j es
  unfolding passes demand_met
  passes-sound es t =
      let parts = and_four (ordered j es) (demand_met j es) (all (is_entry j) es) (apart j es) t in
      record {
        rising = ordered_at_lem es parts.0;
        demanded = λ i h. eqb-true _ _ (all-below (λ t. eqb (copies t es) (kind_at j.kinds t).demand) (kind_count j.kinds) parts.1 i h);
        offered = all-at (is_entry j) es no_entry parts.2;
        clear = apart-at es parts.3;
      }

  pub passes-complete : (es : Layout) → Passes j es → passes j es ≡ true
  unfolding passes demand_met
  passes-complete es p =
      and_both _ _
      (and_both _ _
      (and_both _ _ (ordered_of es p.rising) (below_all _ (kind_count j.kinds) (λ t h. eq-eqb _ _ (p.demanded t h))))
      (all_of (is_entry j) es no_entry p.offered))
      (apart_of es p.clear)
