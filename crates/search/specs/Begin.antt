-- What a run begins with.
use Rattle.std.specs.Prelude.{true, false, List, ◌≡◌, ℕ, ◌+◌, ◌≤◌, Result, Ok, Err, Option, is_some, unwrap_or}
use Rattle.model.specs.Problem.{Problem}
use Rattle.model.specs.Services.{given_layout, given_unfit}
use Rattle.model.specs.declared.Refusal.{Refusal}
use Rattle.model.specs.declared.Refusal.TheVariants as R
use Rattle.stepping.specs.LiveSets.{bound_of}
use Rattle.walks.specs.Walk.{held_of}

-- A run begins with the layout in the buffer, which ends here, or with none, where it gives none.
pub record BeginsWith (j : Problem) (layout : List ℕ) (best : Option ℕ) : Type 0 where
  pub fit : given_unfit j layout ≡ false
  pub held : held_of j (is_some best) layout ≡ given_layout j layout
  pub bound-is : unwrap_or best (j.sheet.L + 1) ≡ bound_of j (given_layout j layout)
  pub within : unwrap_or best (j.sheet.L + 1) ≤ j.sheet.L + 1

-- The layout in the buffer is refused, or the run begins with it.
abbrev pub GivenBy : Problem → List ℕ → Result (Option ℕ) Refusal → Type 0
GivenBy j layout (Ok best) = BeginsWith j layout best
GivenBy j layout (Err r) = (given_unfit j layout ≡ true) × (r ≡ R.Layout)
