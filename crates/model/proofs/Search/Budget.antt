-- The walk under a budget: when it is stopped, how many steps it takes, and what it then holds.
use mathlib.Core.Bool.{true, false}
use mathlib.Core.Logic.{◌↔◌, ◌⊎◌, inl, inr, ⊎_elim}
use mathlib.Core.Option.{Option, none, some, some-injective, some-ne-none}
use mathlib.Core.Path.{◌≡◌, refl, sym, ap, ◌∙◌, subst}
use Prim.Native.Nat.{ℕ, ◌≤◌, ◌<◌, min}
use native.Mathlib.Nat.{min_comm}
use native.Mathlib.Omega.{arith}
use borrow.Author.Tests.{ltb-true, ltb-false, lt-ltb, le-ltb}
use lib.ListN.{length, length-take}
use lib.Seq.{take_all}
use Rattle.model.specs.Demand3.{Completed, Counts, BestOf}
use Rattle.model.specs.Layout.{Layout, layout_length}
use Rattle.model.specs.Problem.{Problem}
use Rattle.model.specs.Search.{steps_from, steps_needed, is_stopped, steps_taken, best_after, held}
use Rattle.model.proofs.Search.Completions.{Shorter, NoShorter, shorter_not}
use Rattle.model.proofs.Accepted.{Sensible}
use Rattle.model.proofs.Search.Walk.{Laid, BeginLaid, held-or_completed, completed-laid, completed-no_shorter}

module _ (j : Problem) (begin : Option Layout) (budget : ℕ) where
  -- Stopped exactly if more steps are needed than the budget.
  pub stopped-exactly : (is_stopped j begin budget ≡ true) ↔ (budget < steps_needed j begin)
  unfolding is_stopped
  stopped-exactly = (ltb-true budget (steps_needed j begin), lt-ltb budget (steps_needed j begin))

  -- Not stopped exactly if the budget covers the steps needed.
  pub not_stopped-exactly : (is_stopped j begin budget ≡ false) ↔ (steps_needed j begin ≤ budget)
  unfolding is_stopped
  not_stopped-exactly = (ltb-false budget (steps_needed j begin), le-ltb budget (steps_needed j begin))

  -- The steps taken are "as many as it needs, or the whole budget if that is less".
  pub steps-taken : length (steps_taken j begin budget) ≡ min (steps_needed j begin) budget
  unfolding steps_taken steps_needed
  steps-taken = length-take budget (steps_from j begin) ∙ min_comm budget (length (steps_from j begin))

  -- Where it is not stopped, it takes all its steps.
  pub all-taken : is_stopped j begin budget ≡ false → steps_taken j begin budget ≡ steps_from j begin
  unfolding steps_taken steps_needed
  all-taken e = take_all budget (steps_from j begin) (not_stopped-exactly.0 e)

  -- And then it holds what the whole walk holds.
  pub all_held : is_stopped j begin budget ≡ false → held j begin budget ≡ best_after begin (steps_from j begin)
  unfolding held
  all_held e = ap (best_after begin) (all-taken e)

module _ (j : Problem) (ok : Sensible j) (begin : Option Layout) (budget : ℕ) where
  -- The steps taken complete none and what the walk began with stays, or they complete some, all of which pass and are shorter than it, and the shortest is held.
  held-from : ((held j begin budget ≡ begin) × ((es : Layout) → Completed (steps_taken j begin budget) es → ⊥))
      ⊎ ((es : Layout) × (held j begin budget ≡ some es) × Completed (steps_taken j begin budget) es
      × ((fs : Layout) → Completed (steps_taken j begin budget) fs → layout_length j es ≤ layout_length j fs) × Laid j es × Shorter j (layout_length j es) begin)
  unfolding held steps_taken
  held-from =
      ⊎_elim
      (λ q. inl (q, λ es c. shorter_not j _ begin (completed-laid j ok begin budget es c).1 (subst (NoShorter j (layout_length j es)) q (completed-no_shorter j ok begin budget es c))))
      (λ r.
      inr (
        r.0,
        r.2,
        r.1,
        (λ fs c. subst (NoShorter j (layout_length j fs)) r.2 (completed-no_shorter j ok begin budget fs c)),
        (completed-laid j ok begin budget r.0 r.1).0,
        (completed-laid j ok begin budget r.0 r.1).1,
      ))
      (held-or_completed begin (steps_taken j begin budget))

  -- The layout is the one that the walk began with, and the steps taken complete none, or it is the shortest that they complete.
  abbrev Is : Option Layout → Layout → Type 0
  Is h es = ((h ≡ some es) × ((fs : Layout) → Completed (steps_taken j begin budget) fs → ⊥))
      ⊎ (Completed (steps_taken j begin budget) es × ((fs : Layout) → Completed (steps_taken j begin budget) fs → layout_length j es ≤ layout_length j fs) × Laid j es × Shorter j (layout_length j es) h)

  held-is : (es : Layout) → held j begin budget ≡ some es → Is begin es
  held-is es e =
      ⊎_elim (λ r. inl (sym r.0 ∙ e, r.1))
      (λ r.
      let q : r.0 ≡ es = some-injective r.0 es (sym r.1 ∙ e) in
      inr (rw (← q) (r.2, r.3, r.4, r.5)))
      held-from

  -- It passes and has N entries, if what the walk began with does.
  pub held-laid : BeginLaid j begin → (es : Layout) → held j begin budget ≡ some es → Laid j es
  held-laid l es e = ⊎_elim (λ r. subst (BeginLaid j) r.0 l) (λ r. r.2) (held-is es e)

  -- What is held under a budget is "the best layout of the steps taken".
  pub held-best : (es : Layout) → held j begin budget ≡ some es → BestOf j begin (steps_taken j begin budget) es
  held-best es e = go begin refl (held-is es e)
    where
      go : (h : Option Layout) → begin ≡ h → Is h es → BestOf j h (steps_taken j begin budget) es
      go none q (inl r) = absurd (some-ne-none es (sym r.0))
      go none q (inr r) = record { counts = r.0; shortest = r.1 }
      go (some given) q (inl r) =
          let same : given ≡ es = some-injective given es r.0 in
          record {
            counts = inl (sym same);
            shortest = λ fs c. ⊎_elim (λ d. let e : layout_length j fs ≡ layout_length j es = ap (layout_length j) (d ∙ same) in omega arith) (λ d. absurd (r.1 fs d)) c;
          }
      go (some given) q (inr r) =
          record {
            counts = inr r.0;
            shortest = λ fs c. ⊎_elim (λ d. let l : layout_length j es < layout_length j given = r.3 in rw d (omega arith)) (r.1 fs) c;
          }

  -- Where nothing is held, the walk began with none and the steps taken completed none.
  pub held_none : held j begin budget ≡ none → (es : Layout) → Counts begin (steps_taken j begin budget) es → ⊥
  held_none e es =
      ⊎_elim
      (λ r. let q : begin ≡ none = sym r.0 ∙ e in
      subst (λ (h : Option Layout). Counts h (steps_taken j begin budget) es → ⊥) (sym q) (r.1 es))
      (λ r. absurd (some-ne-none r.0 (sym r.1 ∙ e))) held-from
