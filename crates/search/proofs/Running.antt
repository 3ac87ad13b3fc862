-- What a run answers and leaves at its end.
use mathlib.Core.Bool.{Bool, true, false, cond}
use mathlib.Core.List.{List, [], ◌++◌}
use mathlib.Core.Option.{Option}
use mathlib.Core.Path.{◌≡◌, refl, sym, ap, ◌∙◌, subst}
use Prim.Native.Nat.{ℕ, ◌+◌, ◌*◌, ◌-◌, ◌/◌, ◌≤◌, ◌<◌}
use native.Mathlib.Omega.{arith}
use borrow.Author.Tests.{eq-eqb, ne_eqb, ltb-false}
use lib.Dec.{ltb}
use lib.ListN.{length, drop, replicate, length-replicate}
use Rattle.words.specs.Number.{count, filled, bytes_of}
use Rattle.words.specs.Sets.{cleared_words}
use Rattle.model.specs.Content.{piece_count}
use Rattle.model.specs.Format.{content}
use Rattle.model.specs.Layout.{Layout, layout_length}
use Rattle.model.specs.Problem.{Problem, under}
use Rattle.model.specs.Services.{RunOutcome, run_outcome, words_in, numbers_in, work_words, with_words, cleared, with_layout, held_as, finished_as, refusal_under, given_layout, given_unfit, run_from, run_content, run}
use Rattle.std.specs.Prelude.{Ok, Err}
use Rattle.model.specs.Refusal.{number, numbered}
use Rattle.model.specs.declared.Outcome.{Outcome}
use Rattle.model.specs.declared.Outcome.TheVariants as O
use Rattle.model.specs.declared.Refusal.{Refusal}
use Rattle.model.specs.declared.Refusal.TheVariants as R
use Rattle.model.proofs.Numbered.{numbered_number}
use Rattle.job.proofs.ViewLaws.{some_number}
use Rattle.stepping.specs.Levels.{walk_spent, go_on_level}
use Rattle.stepping.specs.LiveSets.{bound_of}
use Rattle.stepping.specs.Spending.{Spent, answer_of}
use Rattle.stepping.specs.Steps.{Entries}
use Rattle.stepping.proofs.Answer.{layout_after}
use Rattle.stepping.proofs.Levels.{walk_level, placed-entries, run-walk}
use Rattle.stepping.proofs.Steps.{go_on-left-le}
use Rattle.runs.specs.Told.{told}
use Rattle.runs.specs.declared.progress.Progress.{Progress}
use Rattle.walks.specs.Walk.{held_of}
use Rattle.walks.proofs.Trying.{none_before}
use Rattle.root.specs.Walked.{RoomFor, Walked}

-- Clearing the needed words sees only what lies behind them.
cleared-same : (j : Problem) (words : ℕ) (work work' : List ℕ) → words ≡ work_words j → drop (work_words j * 8) work' ≡ drop (work_words j * 8) work
    → cleared_words words work' ≡ cleared j work
unfolding cleared_words cleared with_words filled
cleared-same j words work work' e b =
    rw (e, length-replicate) (ap (λ (s : List ℕ). bytes_of 8 (replicate (work_words j) 0) ++ s) b)

-- The answer by what is held.
told-held : (j : Problem) (out : List ℕ) (steps : ℕ) (s f : Bool) (h : Option Layout) → held_of j f out ≡ h
    → told s f (bound_of j h + j.margin) steps ≡ cond s (O.Stopped (held_as j h) steps) (finished_as j h steps)
unfolding held_as finished_as bound_of layout_length
told-held j out steps s f h e =
    subst (λ (h : Option Layout). told s f (bound_of j h + j.margin) steps ≡ cond s (O.Stopped (held_as j h) steps) (finished_as j h steps)) e (go s f)
  where
    go : (s f : Bool) → told s f (bound_of j (held_of j f out) + j.margin) steps ≡ cond s (O.Stopped (held_as j (held_of j f out)) steps) (finished_as j (held_of j f out) steps)
    go true true = refl
    go true false = refl
    go false true = refl
    go false false = refl

module _ (j : Problem) (begin : Option Layout) (budget : ℕ) (work out work' out' : List ℕ) (st : Progress) (w : Walked j begin budget work out work' out' st) where
  -- No more is left than there was.
  pub left-within : st.left ≤ budget
  unfolding walk_spent
  left-within = rw w.left (go_on-left-le j _ [] budget begin)

  -- What is told is what the walk's end says.
  told_is : told st.stopped st.found (st.bound + j.margin) (budget - st.left) ≡ answer_of j budget (walk_spent j begin budget)
  unfolding answer_of
  told_is =
      ap (λ (b : ℕ). told st.stopped st.found (b + j.margin) (budget - st.left)) w.bound-is
      ∙ told-held j out' (budget - st.left) st.stopped st.found (walk_spent j begin budget).held w.held
      ∙ rw (w.stopped, w.left)

-- ---- The outcome

-- This is what a run of the model answers, and leaves in both buffers.
abbrev pub Met : RunOutcome → RunOutcome → Type 0
Met o r = (o.answer ≡ r.answer) × ((o.work ≡ r.work) × (o.out ≡ r.out))

met : (o r : RunOutcome) → o ≡ r → Met o r
met o r e = (ap (λ (o : RunOutcome). o.answer) e, (ap (λ (o : RunOutcome). o.work) e, ap (λ (o : RunOutcome). o.out) e))

-- ---- From a layout that passes, or from none

-- Enough of both.
pub from-room : (j : Problem) (work out : List ℕ) (words numbers : ℕ) → words ≡ work_words j → numbers ≡ 4 * piece_count j.kinds
    → ltb (length work / 8) words ≡ false → ltb (length out / 2) numbers ≡ false → RoomFor j work out
unfolding numbers_in count
from-room j work out words numbers w n enough enough' =
    record {
      work-fits = omega (arith, w, ltb-false (length work / 8) words enough);
      out-fits = omega (arith, n, ltb-false (length out / 2) numbers enough');
    }

module _ (j : Problem) (begin : Option Layout) (budget : ℕ) (work out : List ℕ) (words : ℕ) (words_are : words ≡ work_words j) where
  -- Too few words.
  pub from-few-words : ltb (length work / 8) words ≡ true → Met (run_outcome (Err R.Work) work out) (run_from j begin budget work out)
  unfolding run_from words_in count
  from-few-words h = met _ (run_from j begin budget work out) (sym (rw (subst (λ (n : ℕ). ltb (length work / 8) n ≡ true) words_are h, run_from)))

  module _ (numbers : ℕ) (numbers_are : numbers ≡ 4 * piece_count j.kinds) (enough : ltb (length work / 8) words ≡ false) where
    -- Too few numbers.
    pub from-few-numbers : ltb (length out / 2) numbers ≡ true → Met (run_outcome (Err R.Answer) work out) (run_from j begin budget work out)
    unfolding run_from words_in numbers_in count
    from-few-numbers h =
        met _ (run_from j begin budget work out)
        (sym (rw (subst (λ (n : ℕ). ltb (length work / 8) n ≡ false) words_are enough, subst (λ (n : ℕ). ltb (length out / 2) n ≡ true) numbers_are h, run_from)))

    module _ (enough' : ltb (length out / 2) numbers ≡ false) where
      -- What the walk leaves once the given layout stood in the answer numbers, with the needed words cleared.
      pub from-done : 0 < piece_count j.kinds → Entries (piece_count j.kinds) begin
          → (answer : Outcome) (out₁ work' work'' out' : List ℕ) (st : Progress) → out₁ ≡ with_layout begin out → Walked j begin budget work out₁ work' out' st
          → answer ≡ told st.stopped st.found (st.bound + j.margin) (budget - st.left) → work'' ≡ cleared_words words work'
          → Met (run_outcome (Ok answer) work'' out') (run_from j begin budget work out)
      unfolding words_in numbers_in count
      from-done pieced entries answer out₁ work' work'' out' st o w a c =
          let t : answer ≡ answer_of j budget (walk_spent j begin budget) = a ∙ told_is j begin budget work out₁ work' out' st w in
          let z : work'' ≡ cleared j work = c ∙ cleared-same j words work work' words_are w.behind in
          met _ (run_from j begin budget work out)
          (rw (t, z, over)
          (sym (run-walk j begin pieced budget work out (subst (λ (n : ℕ). ltb (length work / 8) n ≡ false) words_are enough) (subst (λ (n : ℕ). ltb (length out / 2) n ≡ false) numbers_are enough'))))
        where
          -- The walk's end, as that of the first level.
          end_is : go_on_level j (λ l. 0) 0 budget begin ≡ walk_spent j begin budget
          end_is = sym (walk_level j begin (λ l. 0) budget)

          -- The layout held, over the given one.
          over : out' ≡ with_layout (walk_spent j begin budget).held out
          over =
              w.written
              ∙ ap (with_layout (walk_spent j begin budget).held) o
              ∙ layout_after (piece_count j.kinds) (walk_spent j begin budget).held begin out
              (subst (λ (w : Spent). Entries (piece_count j.kinds) w.held) end_is (placed-entries j (λ l. 0) 0 budget begin (omega arith) entries)) entries
              (λ e. none_before j (λ l. 0) 0 budget begin (ap (λ (w : Spent). w.held) end_is ∙ e))

-- ---- The service

module _ (s : List ℕ) (m budget : ℕ) (given work out : List ℕ) where
  -- The job or the margin is refused.
  pub run-refuses : (r : Refusal) → number r ≡ refusal_under m s → Met (run_outcome (Err r) work out) (run s m budget given work out)
  unfolding run
  run-refuses r e =
      met _ (run s m budget given work out)
      (ap (λ (r : Refusal). run_outcome (Err r) work out) (sym (numbered_number r) ∙ ap numbered e)
      ∙ sym (rw (ne_eqb (refusal_under m s) 0 (λ q. some_number r (e ∙ q)), run)))

  module _ (accepted : refusal_under m s ≡ 0) where
    -- The given layout is refused.
    pub run-unfit : given_unfit (under m (content s)) given ≡ true → (r : Refusal) → r ≡ R.Layout
        → Met (run_outcome (Err r) work out) (run s m budget given work out)
    unfolding run run_content
    run-unfit u r e =
        met _ (run s m budget given work out)
        (ap (λ (r : Refusal). run_outcome (Err r) work out) e ∙ sym (rw (eq-eqb (refusal_under m s) 0 accepted, u, run, run_content)))

    -- It is not, or there is none: what the run from it answers and leaves.
    pub run-goes : given_unfit (under m (content s)) given ≡ false → (o : RunOutcome)
        → Met o (run_from (under m (content s)) (given_layout (under m (content s)) given) budget work out) → Met o (run s m budget given work out)
    unfolding run run_content
    run-goes u o w =
        let q : run s m budget given work out ≡ run_from (under m (content s)) (given_layout (under m (content s)) given) budget work out = rw (eq-eqb (refusal_under m s) 0 accepted, u, run, run_content) in
        subst (Met o) (sym q) w
