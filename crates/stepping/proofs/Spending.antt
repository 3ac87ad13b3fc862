-- Steps taken one by one under a budget are the first steps of the walk, as many as the budget allows.
use mathlib.Core.Bool.{true, false}
use mathlib.Core.List.{List, [], ◌∷◌, ◌++◌}
use mathlib.Core.Option.{Option}
use mathlib.Core.Path.{◌≡◌, refl, sym, ap, ◌∙◌}
use Prim.Native.Nat.{ℕ, zero, suc, ◌-◌, ◌≤◌, ◌<◌}
use native.Mathlib.Omega.{arith}
use borrow.Author.Tests.{lt-ltb, le-ltb}
use lib.Dec.{ltb, leb-suc-suc}
use lib.ListN.{length, take, length-take}
use lib.Seq.{take-nil}
use Rattle.model.specs.Layout.{Layout}
use Rattle.model.specs.Problem.{Problem}
use Rattle.model.specs.Search.{Step, latest, best_after, steps_from, steps_needed, steps_taken, is_stopped, held}
use Rattle.model.specs.Services.{step_count, verdict}
use Rattle.stepping.specs.Spending.{Spent, spent, spend, onward, answer_of}

-- ---- One step

-- No step to take: nothing changes.
pub spend-end : (k : ℕ) (h : Option Layout) → spend k h [] ≡ spent k h false
unfolding spend
spend-end k h = refl

-- A step to take with the budget spent: the walk stops.
pub spend-stops : (h : Option Layout) (s : Step) (ss : List Step) → spend 0 h (s ∷ ss) ≡ spent 0 h true
unfolding spend
spend-stops h s ss = refl

-- A step taken: one less is left, and the layout that it completes is held.
pub spend-step : (k : ℕ) (h : Option Layout) (s : Step) (ss : List Step) → 0 < k
    → spend k h (s ∷ ss) ≡ spend (k - 1) (latest h s.completes) ss
unfolding spend
spend-step zero h s ss p = absurd (omega arith)
spend-step (suc k) h s ss p = ap (λ (m : ℕ). spend m (latest h s.completes) ss) (omega arith)

-- ---- All steps

-- The walk stops if there are more steps than the budget allows.
pub spend-stopped : (k : ℕ) (h : Option Layout) (ss : List Step) → (spend k h ss).stopped ≡ ltb k (length ss)
unfolding spend
spend-stopped k h [] = sym (le-ltb k 0 (omega arith))
spend-stopped zero h (s ∷ ss) = sym (lt-ltb 0 (suc (length ss)) (omega arith))
spend-stopped (suc k) h (s ∷ ss) = spend-stopped k (latest h s.completes) ss ∙ sym (leb-suc-suc (suc k) (length ss))

-- The layout held is the best after the steps that the budget allows.
pub spend-held : (k : ℕ) (h : Option Layout) (ss : List Step) → (spend k h ss).held ≡ best_after h (take k ss)
unfolding spend best_after
spend-held k h [] = rw take-nil
spend-held zero h (s ∷ ss) = refl
spend-held (suc k) h (s ∷ ss) = spend-held k (latest h s.completes) ss

-- What is left of the budget.
pub spend-left : (k : ℕ) (h : Option Layout) (ss : List Step) → (spend k h ss).left ≡ k - length ss
unfolding spend
spend-left k h [] = omega arith
spend-left zero h (s ∷ ss) = omega arith
spend-left (suc k) h (s ∷ ss) = spend-left k (latest h s.completes) ss ∙ omega arith

-- It does not grow, and nothing is left where the walk stops.
pub spend-left-le : (k : ℕ) (h : Option Layout) (ss : List Step) → (spend k h ss).left ≤ k
spend-left-le k h ss = omega (arith, spend-left k h ss)

-- ---- Steps after steps

-- Steps, and then further steps.
pub spend-append : (k : ℕ) (h : Option Layout) (ss ts : List Step) → spend k h (ss ++ ts) ≡ onward (spend k h ss) ts
unfolding spend onward
spend-append k h [] ts = refl
spend-append zero h (s ∷ ss) ts = refl
spend-append (suc k) h (s ∷ ss) ts = spend-append k (latest h s.completes) ss ts

-- A walk that stopped takes no further step.
pub onward-stopped : (w : Spent) (ss : List Step) → w.stopped ≡ true → onward w ss ≡ w
unfolding onward
onward-stopped w ss e = rw e

-- One that did not goes on with what is left and held.
pub onward-goes : (w : Spent) (ss : List Step) → w.stopped ≡ false → onward w ss ≡ spend w.left w.held ss
unfolding onward
onward-goes w ss e = rw e

-- ---- The whole walk

module _ (j : Problem) (begin : Option Layout) (budget : ℕ) where
  -- Whether the walk stopped is what spending says.
  pub stopped-spent : is_stopped j begin budget ≡ (spend budget begin (steps_from j begin)).stopped
  unfolding is_stopped steps_needed
  stopped-spent = sym (spend-stopped budget begin (steps_from j begin))

  -- So is the layout held.
  pub held-spent : held j begin budget ≡ (spend budget begin (steps_from j begin)).held
  unfolding held steps_taken
  held-spent = sym (spend-held budget begin (steps_from j begin))

  -- The steps told are the budget less what is left of it.
  pub steps-spent : step_count j begin budget ≡ budget - (spend budget begin (steps_from j begin)).left
  unfolding step_count steps_taken
  steps-spent = rw (spend-left budget begin (steps_from j begin), length-take) (omega arith)

  -- What a run answers is what spending says.
  pub verdict-spent : verdict j begin budget ≡ answer_of j budget (spend budget begin (steps_from j begin))
  unfolding verdict answer_of
  verdict-spent = rw (stopped-spent, held-spent, steps-spent)
