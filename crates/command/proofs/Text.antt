-- What is rendered of a run is what document 01 has the program print of it; and the buffers here are long enough for every job.
use mathlib.Core.Bool.{Bool, true, false}
use mathlib.Core.List.{List, [], ◌++◌}
use mathlib.Core.Path.{◌≡◌, refl, sym, ap, ◌∙◌, subst}
use Prim.Native.Nat.{ℕ, ◌≤◌}
use native.Mathlib.Omega.{arith}
use borrow.Author.Tests.{eqb-true}
use lib.Dec.{eqb}
use lib.ListN.{length, drop}
use Rattle.std.specs.Prelude.{Result, Ok, Err, IfOk, MatchResult}
use Rattle.words.specs.Number.{count}
use Rattle.model.specs.Format.{refusal, content}
use Rattle.model.specs.Demand3.{Fit}
use Rattle.model.specs.Output.{layout_lines, printed, program}
use Rattle.model.specs.Problem.{under}
use Rattle.model.specs.Refusal.{refused_by}
use Rattle.model.specs.Services.{numbers_in, words_in, refusal_under, given_unfit, run}
use Rattle.model.specs.declared.Outcome.{Outcome}
use Rattle.model.specs.declared.Refusal.{Refusal}
use Rattle.model.proofs.AcceptedKinds.{pieces-most}
use Rattle.model.proofs.Margin.{accepted-under}
use Rattle.model.proofs.Program.{program-prints, program-refuses}
use Rattle.job.specs.View.{Viewed}
use Rattle.job.specs.declared.View.{View}
use Rattle.job.proofs.ViewLaws.{some_number}
use Rattle.stepping.proofs.Limits.{few-work}
use Rattle.report.specs.Text.{rendered}
use Rattle.report.proofs.Lines.{rendered-printed}
use Rattle.command.specs.Shown.{Shown}

text-is : (s : List ℕ) (n m budget : ℕ) (given work out : List ℕ) → Shown s n
    → rendered (run s m budget given work out).answer (run s m budget given work out).out n ≡ printed (under m (content s)) (run s m budget given work out)
unfolding run rendered printed layout_lines
text-is s n m budget given work out shown = go (eqb (refusal_under m s) 0) refl
  where
    go : (c : Bool) → eqb (refusal_under m s) 0 ≡ c
        → rendered (run s m budget given work out).answer (run s m budget given work out).out n ≡ printed (under m (content s)) (run s m budget given work out)
    go true e = rw (shown.exact ((accepted-under s m).0 (eqb-true (refusal_under m s) 0 e)).0) (rendered-printed (under m (content s)) (run s m budget given work out))
    go false e = rw (e, run)

-- The same of the answer and the answer numbers that the run left.
pub text-told : (s : List ℕ) (n m budget : ℕ) (given work out left : List ℕ) (a : Result Outcome Refusal) → Shown s n
    → a ≡ (run s m budget given work out).answer → left ≡ (run s m budget given work out).out
    → rendered a left n ≡ printed (under m (content s)) (run s m budget given work out)
text-told s n m budget given work out left a shown told kept =
    ap (λ (b : Result Outcome Refusal). rendered b left n) told
    ∙ ap (λ (l : List ℕ). rendered (run s m budget given work out).answer l n) kept
    ∙ text-is s n m budget given work out shown

-- A text at the front of a buffer, by another name.
pub text-as : (t u before after : List ℕ) (r : ℕ) → t ≡ u → r ≡ length t → after ≡ t ++ drop (length t) before
    → (r ≡ length u) × (after ≡ u ++ drop r before)
text-as t u before after r e long put =
    (long ∙ ap length e, put ∙ ap (λ (k : ℕ). t ++ drop k before) (sym long) ∙ ap (λ (x : List ℕ). x ++ drop r before) e)

-- 6144 work words and 48 answer numbers are enough for every accepted job.
buffers_fit : (s work out : List ℕ) → 49152 ≤ length work → 96 ≤ length out → refusal s ≡ 0 → Fit s 0 [] work out
unfolding words_in numbers_in count given_unfit
buffers_fit s work out w o accepted =
    record {
      accepted = accepted;
      margin-allowed = omega arith;
      given_passes = refl;
      work-long_enough = omega (arith, few-work s accepted 0);
      out-long_enough = omega (arith, pieces-most s accepted);
    }

-- "gives run a budget of 1,000,000 and prints": with such buffers, whatever they hold, and no layout to begin from the text is the program's.
pub prints-program : (s given work out : List ℕ) → given ≡ [] → 49152 ≤ length work → 96 ≤ length out → printed (under 0 (content s)) (run s 0 1000000 given work out) ≡ program s
prints-program s given work out n w o = subst (λ (g : List ℕ). printed (under 0 (content s)) (run s 0 1000000 g work out) ≡ program s) (sym n) (go (eqb (refusal s) 0) refl)
  where
    go : (c : Bool) → eqb (refusal s) 0 ≡ c → printed (under 0 (content s)) (run s 0 1000000 [] work out) ≡ program s
    go true e = program-prints s work out (buffers_fit s work out w o (eqb-true (refusal s) 0 e))
    go false e = program-refuses s work out e

-- How many entries are shown, by what opening the job said.
pub shown_by : (s : List ℕ) (r : Result View Refusal) (n : ℕ) → refused_by r ≡ refusal s → IfOk r (λ v. Viewed s v)
    → MatchResult r (λ v. n ≡ v.pieces) (λ _. n ≡ 0) → Shown s n
shown_by s (Ok v) n refused viewed is =
    record {
      exact = λ _. is ∙ viewed.view.pieces;
      few = omega (arith, is, viewed.view.pieces, pieces-most s viewed.accepted);
    }
shown_by s (Err r) n refused viewed is =
    record { exact = λ e. absurd (some_number r (refused ∙ e)); few = omega (arith, is) }
