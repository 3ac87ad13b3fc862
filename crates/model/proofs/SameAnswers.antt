-- Two jobs that are refused by the same number, and have the same content where they are accepted, get the same answers.
use mathlib.Core.Bool.{Bool, true, false, cond}
use mathlib.Core.List.{List}
use mathlib.Core.Path.{◌≡◌, refl, sym, ap, ◌∙◌}
use Prim.Native.Nat.{ℕ}
use borrow.Author.Tests.{eqb-true}
use lib.Dec.{eqb}
use Rattle.std.specs.Prelude.{Err}
use Rattle.model.specs.Content.{Job}
use Rattle.model.specs.Format.{content, refusal}
use Rattle.model.specs.Problem.{Problem, under, cause13}
use Rattle.model.specs.Refusal.{numbered}
use Rattle.model.specs.SameAnswers.{SameAnswers}
use Rattle.model.specs.Services.{write_outcome, read_content, read, save_content, save, refusal_under, row_content, conflict_row, check_content, check, run_outcome, run_content, run}
use Rattle.model.proofs.Lists.{by_cond}
use Rattle.model.proofs.Margin.{accepted-under}

-- Under a margin, too, both are refused by the same number.
pub under_same : (s t : List ℕ) → refusal s ≡ refusal t → (m : ℕ) → refusal_under m s ≡ refusal_under m t
unfolding refusal_under
under_same s t e m = ap {B = ℕ} (λ n. elim (eqb n 0) [
  | false ↦ n
  | true ↦ cond (cause13 m) 13 0
]) e

-- An answer made of the number of a refusal, or, where that is 0, of an accepted job is the same for both, if the number is and what the job gives.
pub alike : {A : Type 0} (refused : ℕ → A) (a b : ℕ) (x y : A) → a ≡ b → (a ≡ 0 → x ≡ y) → cond (eqb a 0) x (refused a) ≡ cond (eqb b 0) y (refused b)
alike {A} refused a b x y q f = go (eqb a 0) refl
  where
    go : (c : Bool) → eqb a 0 ≡ c → cond (eqb a 0) x (refused a) ≡ cond (eqb b 0) y (refused b)
    go true e = rw (f (eqb-true a 0 e), q)
    go false e = rw (q, rw q at e)

module _ (s t : List ℕ) (same-refusal : refusal s ≡ refusal t) (same-content : refusal s ≡ 0 → content s ≡ content t) where
  alike_read : {A : Type 0} (refused : ℕ → A) (accepted : Job → A)
      → cond (eqb (refusal s) 0) (accepted (content s)) (refused (refusal s)) ≡ cond (eqb (refusal t) 0) (accepted (content t)) (refused (refusal t))
  alike_read refused accepted = alike refused (refusal s) (refusal t) _ _ same-refusal (λ e. ap accepted (same-content e))

  alike-under : (m : ℕ) {A : Type 0} (refused : ℕ → A) (accepted : Problem → A)
      → cond (eqb (refusal_under m s) 0) (accepted (under m (content s))) (refused (refusal_under m s))
      ≡ cond (eqb (refusal_under m t) 0) (accepted (under m (content t))) (refused (refusal_under m t))
  alike-under m refused accepted =
      alike refused (refusal_under m s) (refusal_under m t) _ _ (under_same s t same-refusal m) (λ e. ap (λ j. accepted (under m j)) (same-content ((accepted-under s m).0 e).0))

  read_same : (out : List ℕ) → read s out ≡ read t out
  unfolding read
  read_same out =
      by_cond (eqb (refusal s) 0) _ _ ∙ alike_read (λ n. write_outcome (Err (numbered n)) out) (λ j. read_content j out)
      ∙ sym (by_cond (eqb (refusal t) 0) _ _)

  save-same : (out : List ℕ) → save s out ≡ save t out
  unfolding save
  save-same out =
      by_cond (eqb (refusal s) 0) _ _ ∙ alike_read (λ n. write_outcome (Err (numbered n)) out) (λ j. save_content j out)
      ∙ sym (by_cond (eqb (refusal t) 0) _ _)

  row_same : (m k n u : ℕ) (out : List ℕ) → conflict_row s m k n u out ≡ conflict_row t m k n u out
  unfolding conflict_row
  row_same m k n u out =
      by_cond (eqb (refusal_under m s) 0) _ _ ∙ alike-under m (λ n. write_outcome (Err (numbered n)) out) (λ j. row_content j k n u out)
      ∙ sym (by_cond (eqb (refusal_under m t) 0) _ _)

  check-same : (m : ℕ) (layout : List ℕ) → check s m layout ≡ check t m layout
  unfolding check
  check-same m layout =
      by_cond (eqb (refusal_under m s) 0) _ _ ∙ alike-under m (λ n. Err (numbered n)) (λ j. check_content j layout)
      ∙ sym (by_cond (eqb (refusal_under m t) 0) _ _)

  run-same : (m budget : ℕ) (given work out : List ℕ) → run s m budget given work out ≡ run t m budget given work out
  unfolding run
  run-same m budget given work out =
      by_cond (eqb (refusal_under m s) 0) _ _ ∙ alike-under m (λ n. run_outcome (Err (numbered n)) work out) (λ j. run_content j budget given work out)
      ∙ sym (by_cond (eqb (refusal_under m t) 0) _ _)

  pub same-answers : SameAnswers s t
  same-answers = record { reading = read_same; saving = save-same; rows = row_same; checking = check-same; running = run-same }
