-- The row service's answers, case by case. Assumes nothing.
use mathlib.Core.Bool.{Bool, true, false, not, ◌&&◌, ◌||◌}
use mathlib.Core.List.{List}
use mathlib.Core.Path.{◌≡◌, refl, sym, ap, ◌∙◌}
use Prim.Native.Nat.{ℕ, ◌/◌, ◌≤◌, ◌<◌}
use borrow.Author.Tests.{lt-ltb, le-ltb, eq-eqb, ne_eqb, leb-true}
use lib.Dec.{leb, ltb}
use lib.ListN.{length}
use Rattle.words.specs.Number.{count}
use Rattle.model.specs.Candidate.{is_candidate}
use Rattle.model.specs.Content.{kind_count}
use Rattle.model.specs.Format.{content}
use Rattle.model.specs.Grid.{set_words}
use Rattle.model.specs.Problem.{Problem, under}
use Rattle.model.specs.Services.{write_outcome, words_in, with_words, cause12, row_words, row_content, conflict_row, refusal_under}
use Rattle.model.specs.Refusal.{number, numbered}
use Rattle.model.specs.declared.Refusal.{Refusal}
use Rattle.model.proofs.Numbered.{numbered_number}
use Rattle.job.proofs.ViewLaws.{some_number}
use Rattle.model.specs.declared.Refusal.TheVariants as R
use Rattle.std.specs.Prelude.{Ok, Err}
use Rattle.job.specs.View.{problem_of, Viewed}
use Rattle.job.specs.declared.View.{View}
use Rattle.candidates.proofs.PlacementLaws.{on_dots}

module _ (s : List ℕ) (v : View) (x : Viewed s v) where
  -- what the tests of the kinds say
  pub kinds-exist : (t u : ℕ) → (leb v.kinds t || leb v.kinds u) ≡ false → (t < kind_count (content s).kinds)
      × (u < kind_count (content s).kinds)
  kinds-exist t u e = on_dots t (kind_count (content s).kinds) u (kind_count (content s).kinds) (rw x.view.kinds at e)

  pub kind-absent : (t n u : ℕ) → (leb v.kinds t || leb v.kinds u) ≡ true → cause12 (problem_of s v) t n u ≡ true
  unfolding cause12
  kind-absent t n u e = go (leb (kind_count (content s).kinds) t) refl (rw x.view.kinds at e)
    where
      go : (w : Bool) → leb (kind_count (content s).kinds) t ≡ w → (w || leb (kind_count (content s).kinds) u)
          ≡ true → not (ltb t (kind_count (content s).kinds) && is_candidate (problem_of s v) t n && ltb u
          (kind_count (content s).kinds)) ≡ true
      go true d g = rw (le-ltb t (kind_count (content s).kinds) (leb-true _ _ d))
      go false d g = rw (le-ltb u (kind_count (content s).kinds) (leb-true _ _ g)) (last (ltb t (kind_count (content
          s).kinds) && is_candidate (problem_of s v) t n))
        where
          last : (a : Bool) → not (a && false) ≡ true
          last true = refl
          last false = refl

pub candidate-absent : (j : Problem) (t n u : ℕ) → is_candidate j t n ≡ false → cause12 j t n u ≡ true
unfolding cause12
candidate-absent j t n u e = rw e (go (ltb t (kind_count j.kinds)))
  where
    go : (a : Bool) → not (a && false && ltb u (kind_count j.kinds)) ≡ true
    go true = refl
    go false = refl

pub all-exist : (j : Problem) (t n u : ℕ) → t < kind_count j.kinds → is_candidate j t n ≡ true
    → u < kind_count j.kinds → cause12 j t n u ≡ false
unfolding cause12
all-exist j t n u h e g = rw (lt-ltb t (kind_count j.kinds) h, e, lt-ltb u (kind_count j.kinds) g)

-- ---- the three answers on an accepted job

module _ (j : Problem) (t n u : ℕ) (out : List ℕ) where
  pub row-absent : cause12 j t n u ≡ true → row_content j t n u out ≡ write_outcome (Err R.Candidate) out
  unfolding row_content
  row-absent e = rw (e, row_content)

  pub row-short : cause12 j t n u ≡ false → length out / 8 < set_words j.sheet → row_content j t n u out
      ≡ write_outcome (Err R.Answer) out
  unfolding row_content words_in count
  row-short e h = rw (e, lt-ltb (length out / 8) (set_words j.sheet) h, row_content)

  pub row_written : cause12 j t n u ≡ false → set_words j.sheet ≤ length out / 8 → row_content j t n u out
      ≡ write_outcome (Ok (set_words j.sheet)) (with_words (row_words j t n u) out)
  unfolding row_content words_in count
  row_written e h = rw (e, le-ltb (length out / 8) (set_words j.sheet) h, row_content)

-- ---- the refusals of the job and of the margin

module _ (s : List ℕ) (m t n u : ℕ) (out : List ℕ) where
  pub row-refused : (r : Refusal) → number r ≡ refusal_under m s → conflict_row s m t n u out
      ≡ write_outcome (Err r) out
  unfolding conflict_row
  row-refused r e =
      rw (ne_eqb (refusal_under m s) 0 (λ q. some_number r (e ∙ q)), conflict_row)
      (ap (λ (q : Refusal). write_outcome (Err q) out) (sym (ap numbered e) ∙ numbered_number r))

  pub row-accepted : refusal_under m s ≡ 0 → conflict_row s m t n u out ≡ row_content (under m (content s)) t n u out
  unfolding conflict_row
  row-accepted h = rw (eq-eqb (refusal_under m s) 0 h, conflict_row)
