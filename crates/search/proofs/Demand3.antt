-- The third demand of the run service. The contract of `run` (src/run.rt) says three things at all inputs: its answer, and the final bytes of the work
-- words and of the answer numbers, are those of the model's `run`. Whatever keeps these three promises meets the third demand, for every accepted job, every margin
-- of 0 to 63, every given layout that passes or none, every budget and long enough buffers, whatever these hold: this is the theorem below, by the model's `demand3`.
use mathlib.Core.List.{List}
use mathlib.Core.Path.{◌≡◌}
use Prim.Native.Nat.{ℕ}
use Rattle.model.specs.Demand3.{Fit, Demand3}
use Rattle.model.specs.Format.{content}
use Rattle.model.specs.Problem.{under}
use Rattle.model.specs.Services.{given_layout, run_outcome, run}
use Rattle.std.specs.Prelude.{Result}
use Rattle.model.specs.declared.Outcome.{Outcome}
use Rattle.model.specs.declared.Refusal.{Refusal}
use Rattle.model.proofs.Search.Demand3.{demand3}

pub run-meets-demand3 : (job : List ℕ) (margin budget : ℕ) (given work answer work' answer' : List ℕ) (r : Result Outcome Refusal) → Fit job margin given work answer
    → r ≡ (run job margin budget given work answer).answer → work' ≡ (run job margin budget given work answer).work → answer' ≡ (run job margin budget given work answer).out
    → Demand3 (under margin (content job)) (given_layout (under margin (content job)) given) budget (run_outcome r work' answer')
run-meets-demand3 job margin budget given work answer work' answer' r fit told cleared held = rw (told, cleared, held) (demand3 job margin budget given work answer fit)
