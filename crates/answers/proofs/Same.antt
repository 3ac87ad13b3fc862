-- Of a `Refusal` it is what the definition says.
use mathlib.Core.Path.{◌≡◌, refl}
use Rattle.std.specs.Prelude.{ℕ, Result, Ok, Err}
use Rattle.model.specs.Answers.{fields, run_word, written_word}
use Rattle.model.specs.Refusal.{number}
use Rattle.model.specs.declared.Outcome.{Outcome}
use Rattle.model.specs.declared.Refusal.{Refusal}
use Rattle.answers.specs.Refused.{unless_refused}

pub same : {A B : Type 0} (f : Result A Refusal → B) (a : Result A Refusal)
    → unless_refused f (λ r. f (Err r)) a ≡ f a
same f (Ok a) = refl
same f (Err r) = refl

pub written_same : (a : Result ℕ Refusal)
    → unless_refused written_word (λ r. fields (number r) 0 0 0) a ≡ written_word a
written_same a = same written_word a

pub run_same : (a : Result Outcome Refusal) → unless_refused run_word (λ r. fields (number r) 0 0 0) a ≡ run_word a
run_same a = same run_word a
