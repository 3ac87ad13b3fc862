-- Document 02, "6/13 Carrying a stopped run across": a run checks the layout that it is given, as check does, before it looks at its buffers.
use mathlib.Core.Bool.{Bool, true, false, cond}
use mathlib.Core.List.{List, [], ◌∷◌}
use mathlib.Core.Option.{none, some}
use mathlib.Core.Path.{◌≡◌, refl}
use Prim.Native.Nat.{ℕ}
use lib.Dec.{eqb}
use Rattle.std.specs.Prelude.{Result, Ok, Err}
use Rattle.model.specs.Format.{content}
use Rattle.model.specs.Problem.{under}
use Rattle.model.specs.Refusal.{numbered}
use Rattle.model.specs.Services.{RunOutcome, run_outcome, refusal_under, cause11, check_content, check, layout_in, given_layout, given_unfit, run_from, run_content, run}
use Rattle.model.specs.declared.Refusal.{Refusal}
use Rattle.model.proofs.Lists.{by_cond}

module _ (s : List ℕ) (m budget : ℕ) (work out : List ℕ) where
  -- "a buffer of no bytes gives none": the run begins without a best, as document 01 has it.
  pub run-without_given : run s m budget [] work out
      ≡ cond (eqb (refusal_under m s) 0) (run_from (under m (content s)) none budget work out) (run_outcome (Err (numbered (refusal_under m s))) work out)
  unfolding run run_content given_unfit given_layout
  run-without_given = by_cond (eqb (refusal_under m s) 0) _ _

  module _ (b : ℕ) (bs : List ℕ) where
    -- What follows what check says of the given layout: its refusal, before anything is looked at, or the walk with this layout as best.
    abbrev pub after_check : Result ℕ Refusal → RunOutcome
    after_check (Err r) = run_outcome (Err r) work out
    after_check (Ok len) = run_from (under m (content s)) (some (layout_in (under m (content s)) (b ∷ bs))) budget work out

    -- "A given layout is checked under the present rules and refused by 11 if it does not pass."
    pub run-checks : run s m budget (b ∷ bs) work out ≡ after_check (check s m (b ∷ bs))
    unfolding run run_content given_unfit given_layout check check_content
    run-checks = go (eqb (refusal_under m s) 0) refl (cause11 (under m (content s)) (b ∷ bs)) refl
      where
        go : (a : Bool) → eqb (refusal_under m s) 0 ≡ a → (c : Bool) → cause11 (under m (content s)) (b ∷ bs) ≡ c → run s m budget (b ∷ bs) work out ≡ after_check (check s m (b ∷ bs))
        go false e c d = rw (e, run, check)
        go true e true d = rw (e, d, run, run_content, check)
        go true e false d = rw (e, d, run, run_content, check)
