-- Document 02, "4/13 Saving a job": "Any accepted job, written and read back, has the same content .. Two accepted jobs are written to equal bytes exactly
-- when their content is equal". Said of contents first, and of accepted jobs from that. A job is a list of bytes (AreBytes), as every slice of bytes is.
use mathlib.Core.List.{List}
use mathlib.Core.Logic.{◌⊎◌, inl, inr, ◌↔◌}
use mathlib.Core.Path.{◌≡◌, sym, ap, subst, ◌∙◌}
use Prim.Native.Nat.{ℕ, ◌≤◌}
use native.Mathlib.Omega.{arith}
use borrow.Author.Tests.{le-ltb, eq-eqb}
use lib.ListN.{length}
use Rattle.std.specs.Prelude.{Ok}
use Rattle.words.specs.Bytes.{AreBytes}
use Rattle.model.specs.Content.{Job}
use Rattle.model.specs.ContentFit.{ContentFit}
use Rattle.model.specs.Format.{content, refusal}
use Rattle.model.specs.SameAnswers.{SameAnswers}
use Rattle.model.specs.Saving.{written}
use Rattle.model.specs.Services.{content_numbers, write_outcome, with_bytes, save_content, save}
use Rattle.model.proofs.SameAnswers.{same-answers}
use Rattle.model.proofs.Saving.Accepted.{fit-accepted, fit-content}
use Rattle.model.proofs.Saving.Bytes.{fit-bytes}
use Rattle.model.proofs.Saving.Kept.{content-fit, saved_length}
use Rattle.model.proofs.Saving.Told.{numbers_equal}
use Rattle.model.proofs.Saving.Sizes.{fit_length}

-- ---- Of a fit content: it is written to an accepted job which has it (`fit-accepted`, `fit-content`, Accepted), to at most 892 bytes (`fit_length`, Sizes; `fit-bytes`, Bytes)

-- Contents that are fit are written to equal bytes exactly when they are equal.
pub fit-equal : (j k : Job) → ContentFit j → ContentFit k → (written j ≡ written k) ↔ (j ≡ k)
fit-equal j k f h = (λ q. sym (fit-content j f) ∙ ap content q ∙ fit-content k h, λ q. ap written q)

-- Fit contents are exactly the contents of accepted jobs.
pub fit-exactly : (j : Job) → ContentFit j ↔ ((s : List ℕ) × AreBytes s × (refusal s ≡ 0) × (content s ≡ j))
fit-exactly j = (λ f. (written j, fit-bytes j f, fit-accepted j f, fit-content j f), λ p. subst ContentFit p.3 (content-fit p.0 p.2 p.1))

-- ---- Of an accepted job: its content is fit (`content-fit`, Kept), and written it is never longer than before (`saved_length`, Kept)

module _ (s : List ℕ) (b : AreBytes s) (e : refusal s ≡ 0) where
  -- Written, it is accepted,
  pub saved_accepted : refusal (written (content s)) ≡ 0
  saved_accepted = fit-accepted (content s) (content-fit s e b)

  -- "written and read back, has the same content".
  pub saved_content : content (written (content s)) ≡ content s
  saved_content = fit-content (content s) (content-fit s e b)

  -- Written again, it is the same bytes.
  pub saved_again : written (content (written (content s))) ≡ written (content s)
  saved_again = ap written saved_content

  -- Every service answers the saved job as it answers the original.
  pub saved_answers : SameAnswers (written (content s)) s
  saved_answers = same-answers (written (content s)) s (saved_accepted ∙ sym e) (λ _. saved_content)

  -- As many bytes as the job has are enough to save it, and 892 for every job.
  room : (out : List ℕ) → (length s ≤ length out) ⊎ (892 ≤ length out) → length (written (content s)) ≤ length out
  room out (inl h) = omega (arith, saved_length s e b)
  room out (inr h) = omega (arith, fit_length (content s) (content-fit s e b))

  pub save-enough : (out : List ℕ) → (length s ≤ length out) ⊎ (892 ≤ length out)
      → save s out ≡ write_outcome (Ok (length (written (content s)))) (with_bytes (written (content s)) out)
  unfolding save save_content
  save-enough out h = rw (eq-eqb (refusal s) 0 e, save, le-ltb (length out) (length (written (content s))) (room out h))

-- "Two accepted jobs are written to equal bytes exactly when their content is equal."
pub saved_equal : (s t : List ℕ) → AreBytes s → AreBytes t → refusal s ≡ 0 → refusal t ≡ 0
    → (written (content s) ≡ written (content t)) ↔ (content s ≡ content t)
saved_equal s t b c e f = fit-equal (content s) (content t) (content-fit s e b) (content-fit t f c)

-- "content, which is all that read gives": they are written to equal bytes exactly when read gives the same numbers of both.
pub saved_as_read : (s t : List ℕ) → AreBytes s → AreBytes t → refusal s ≡ 0 → refusal t ≡ 0
    → (written (content s) ≡ written (content t)) ↔ (content_numbers (content s) ≡ content_numbers (content t))
saved_as_read s t b c e f =
    let same = saved_equal s t b c e f in
    let told = numbers_equal (content s) (content t) (content-fit s e b) (content-fit t f c) in
    (λ q. told.1 (same.0 q), λ q. same.1 (told.0 q))
