-- What a service leaves in its buffers where it refuses, where it says none, and where it stops with nothing.
use mathlib.Core.Bool.{Bool, true, false, cond}
use mathlib.Core.List.{List}
use mathlib.Core.Logic.{◌⊎◌, inl, inr, ⊎_elim}
use mathlib.Core.Option.{Option, none, some}
use mathlib.Core.Path.{◌≡◌, refl, sym, ap, ◌∙◌}
use Prim.Native.Nat.{ℕ, ◌*◌}
use native.Mathlib.Omega.{arith}
use lib.Dec.{ltb, eqb}
use lib.ListN.{length}
use Rattle.std.specs.Prelude.{Ok, Err, None}
use Rattle.model.specs.Content.{piece_count}
use Rattle.model.specs.Format.{refusal, content}
use Rattle.model.specs.Grid.{set_words}
use Rattle.model.specs.Problem.{Problem, under}
use Rattle.model.specs.Refusal.{numbered}
use Rattle.model.specs.Search.{is_stopped, held}
use Rattle.model.specs.Layout.{Layout}
use Rattle.model.specs.Saving.{written}
use Rattle.model.specs.Services.{WriteOutcome, write_outcome, with_numbers, content_numbers, read_content, read, with_bytes, save_content, save, refusal_under, cause12, row_content, conflict_row, words_in, numbers_in, work_words, with_layout, held_as, finished_as, given_layout, given_unfit, verdict, step_count, RunOutcome, run_outcome, walked, run_from, run_content, run}
use Rattle.model.specs.declared.Outcome.TheVariants as O
use Rattle.model.specs.declared.Outcome.{Outcome}
use Rattle.model.specs.declared.Refusal.TheVariants as R
use Rattle.model.specs.declared.Refusal.{Refusal}

-- What read and save leave: the job is accepted or not, the answer is too short or not.
module _ (out full : List ℕ) (r : Refusal) (k : ℕ) where
  left : Bool → Bool → WriteOutcome
  left accepted short =
      elim accepted [
        | false ↦ write_outcome (Err r) out
        | true ↦ cond short (write_outcome (Err R.Answer) out) (write_outcome (Ok k) full)
      ]

  left-keeps : (a b : Bool) (n : Refusal) → (left a b).answer ≡ Err n → (left a b).buffer ≡ out
  unfolding left
  left-keeps false b n h = refl
  left-keeps true true n h = refl
  left-keeps true false n h = let z : ◌≡◌ {A = ℕ} 0 1 = cc in absurd (omega arith)

-- "A refusal .. changes no buffer": read and save.
pub read_keeps : (s out : List ℕ) (n : Refusal) → (read s out).answer ≡ Err n → (read s out).buffer ≡ out
unfolding read read_content left
read_keeps s out n =
    let ns : List ℕ = content_numbers (content s) in
    left-keeps out (with_numbers ns out) (numbered (refusal s)) (length ns) (eqb (refusal s) 0) (ltb (numbers_in out) (length ns)) n

pub save-keeps : (s out : List ℕ) (n : Refusal) → (save s out).answer ≡ Err n → (save s out).buffer ≡ out
unfolding save save_content left
save-keeps s out n =
    let bs : List ℕ = written (content s) in
    left-keeps out (with_bytes bs out) (numbered (refusal s)) (length bs) (eqb (refusal s) 0) (ltb (length out) (length bs)) n

-- The same of the conflict row.
pub row_keeps : (s : List ℕ) (m t k u : ℕ) (out : List ℕ) (n : Refusal) → (conflict_row s m t k u out).answer ≡ Err n → (conflict_row s m t k u out).buffer ≡ out
unfolding conflict_row row_content
row_keeps s m t k u out n = go (eqb (refusal_under m s) 0) refl
  where
    j : Problem
    j = under m (content s)

    last : (b : Bool) → ltb (words_in out) (set_words j.sheet) ≡ b → cause12 j t k u ≡ false → (row_content j t k u out).answer ≡ Err n
        → (row_content j t k u out).buffer ≡ out
    last true g f h = rw (f, g, row_content)
    last false g f h = let z : ◌≡◌ {A = ℕ} 0 1 = (let z = rw (f, g, row_content) at h in cc) in absurd (omega arith)

    inner : (b : Bool) → cause12 j t k u ≡ b → (row_content j t k u out).answer ≡ Err n → (row_content j t k u out).buffer ≡ out
    inner true f h = rw (f, row_content)
    inner false f h = last (ltb (words_in out) (set_words j.sheet)) refl f h

    go : (b : Bool) → eqb (refusal_under m s) 0 ≡ b → (conflict_row s m t k u out).answer ≡ Err n → (conflict_row s m t k u out).buffer ≡ out
    go false e h = rw (e, conflict_row)
    go true e h = rw (e, conflict_row) (inner (cause12 j t k u) refl (rw (e, conflict_row) at h))

-- A run refuses and changes nothing, or it answers what the walk says, with the work words cleared.
run-cases : (s : List ℕ) (m budget : ℕ) (given work out : List ℕ)
    → (run s m budget given work out ≡ run_outcome (run s m budget given work out).answer work out)
    ⊎ (run s m budget given work out ≡ walked (under m (content s)) (given_layout (under m (content s)) given) budget work out)
unfolding run run_content run_from
run-cases s m budget given work out = go (eqb (refusal_under m s) 0) refl
  where
    j : Problem
    j = under m (content s)

    begin : Option Layout
    begin = given_layout j given

    Either : RunOutcome → Type 0
    Either r = (r ≡ run_outcome r.answer work out) ⊎ (r ≡ walked j begin budget work out)

    last : (b : Bool) → ltb (numbers_in out) (4 * piece_count j.kinds) ≡ b → ltb (words_in work) (work_words j) ≡ false → Either (run_from j begin budget work out)
    last true g f = rw (f, g, run_from) (inl refl)
    last false g f = rw (f, g, run_from) (inr refl)

    begun : (b : Bool) → ltb (words_in work) (work_words j) ≡ b → Either (run_from j begin budget work out)
    begun true f = rw (f, run_from) (inl refl)
    begun false f = last (ltb (numbers_in out) (4 * piece_count j.kinds)) refl f

    inner : (b : Bool) → given_unfit j given ≡ b → Either (run_content j budget given work out)
    inner true f = rw (f, run_content) (inl refl)
    inner false f = rw (f, run_content) (begun (ltb (words_in work) (work_words j)) refl)

    go : (b : Bool) → eqb (refusal_under m s) 0 ≡ b → Either (run s m budget given work out)
    go false e = rw (e, run) (inl refl)
    go true e = rw (e, run) (inner (given_unfit j given) refl)

-- What the walk says is no refusal; where it says none, or stops with nothing, nothing is held.
module _ (j : Problem) (begin : Option Layout) (budget : ℕ) where
  never_refused : (n : Refusal) → Ok (verdict j begin budget) ≡ Err n → ⊥
  never_refused n e = let z : ◌≡◌ {A = ℕ} 0 1 = cc in omega arith

  nothing_held : (k : ℕ) → (verdict j begin budget ≡ O.Infeasible k) ⊎ (verdict j begin budget ≡ O.Stopped None k) → held j begin budget ≡ none
  unfolding verdict finished_as held_as
  nothing_held k = go (is_stopped j begin budget) (held j begin budget)
    where
      told : Bool → Option Layout → Outcome
      told b h = cond b (O.Stopped (held_as j h) (step_count j begin budget)) (finished_as j h (step_count j begin budget))

      go : (b : Bool) (h : Option Layout) → (told b h ≡ O.Infeasible k) ⊎ (told b h ≡ O.Stopped None k) → h ≡ none
      go b none e = refl
      go true (some es) (inl e) = let z : ◌≡◌ {A = ℕ} 0 1 = cc in absurd (omega arith)
      go true (some es) (inr e) = let z : ◌≡◌ {A = ℕ} 0 1 = cc in absurd (omega arith)
      go false (some es) (inl e) = let z : ◌≡◌ {A = ℕ} 0 1 = cc in absurd (omega arith)
      go false (some es) (inr e) = let z : ◌≡◌ {A = ℕ} 0 1 = cc in absurd (omega arith)

module _ (s : List ℕ) (m budget : ℕ) (given work out : List ℕ) where
  -- The problem, and what the walk begins with.
  abbrev j : Problem
  j = under m (content s)

  abbrev begin : Option Layout
  begin = given_layout j given

  -- The same of a run.
  pub run-keeps : (n : Refusal) → (run s m budget given work out).answer ≡ Err n → ((run s m budget given work out).work ≡ work) × ((run s m budget given work out).out ≡ out)
  run-keeps n h = go (run-cases s m budget given work out)
    where
      go : (run s m budget given work out ≡ run_outcome (run s m budget given work out).answer work out) ⊎ (run s m budget given work out ≡ walked j begin budget work out)
          → ((run s m budget given work out).work ≡ work) × ((run s m budget given work out).out ≡ out)
      go (inl e) = (ap (λ r. r.work) e, ap (λ r. r.out) e)
      go (inr e) = absurd (never_refused j begin budget n (sym (ap (λ r. r.answer) e) ∙ h))

  -- "except 10, which .. clears the work words"; "Stopped without a layout leaves the answer numbers unchanged."
  pub run-without_layout : (k : ℕ) → ((run s m budget given work out).answer ≡ Ok (O.Infeasible k)) ⊎ ((run s m budget given work out).answer ≡ Ok (O.Stopped None k))
      → (run s m budget given work out).out ≡ out
  unfolding with_layout
  run-without_layout k h = go (run-cases s m budget given work out)
    where
      says : (run s m budget given work out).answer ≡ Ok (verdict j begin budget) → (verdict j begin budget ≡ O.Infeasible k) ⊎ (verdict j begin budget ≡ O.Stopped None k)
      says a = ⊎_elim (λ e. inl (let z = sym a ∙ e in cc)) (λ e. inr (let z = sym a ∙ e in cc)) h

      go : (run s m budget given work out ≡ run_outcome (run s m budget given work out).answer work out) ⊎ (run s m budget given work out ≡ walked j begin budget work out)
          → (run s m budget given work out).out ≡ out
      go (inl e) = ap (λ r. r.out) e
      go (inr e) = ap (λ r. r.out) e ∙ ap (λ h. with_layout h out) (nothing_held j begin budget k (says (ap (λ r. r.answer) e)))
