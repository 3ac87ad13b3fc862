-- The walk under a budget, one step at a time: what is left of the budget, the layout held, and whether it stopped.
use Rattle.std.specs.Prelude.{Bool, true, false, cond, List, [], ◌∷◌, ℕ, zero, suc, ◌-◌}
use Rattle.std.proofs.Math.Option.{Option}
use Rattle.model.specs.Layout.{Layout}
use Rattle.model.specs.Problem.{Problem}
use Rattle.model.specs.Search.{Step, latest}
use Rattle.model.specs.Services.{held_as, finished_as}
use Rattle.model.specs.declared.Outcome.{Outcome}
use Rattle.model.specs.declared.Outcome.TheVariants as O

-- The state of a walk under a budget.
pub record Spent : Type 0 where
  pub left : ℕ
  pub held : Option Layout
  pub stopped : Bool

abbrev pub spent : ℕ → Option Layout → Bool → Spent
spent k h b = record { left = k; held = h; stopped = b }

-- The steps, taken one by one with k of the budget left and h held: "the walk stops when it would take a candidate with the budget already
-- spent", and "a complete layout becomes the best".
unfoldable pub spend : ℕ → Option Layout → List Step → Spent
spend k h [] = spent k h false
spend zero h (s ∷ ss) = spent 0 h true
spend (suc k) h (s ∷ ss) = spend k (latest h s.completes) ss

-- Further steps: none if it stopped, else with what is left and held.
unfoldable pub onward : Spent → List Step → Spent
onward w ss = cond w.stopped w (spend w.left w.held ss)

-- What a run of this budget answers where the walk left this.
unfoldable pub answer_of : Problem → ℕ → Spent → Outcome
answer_of j budget w =
    cond w.stopped (O.Stopped (held_as j w.held) (budget - w.left)) (finished_as j w.held (budget - w.left))
