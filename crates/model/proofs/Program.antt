-- What the command program prints depends on the job alone: any buffers that are long enough give the same text.
use mathlib.Core.Bool.{Bool, true, false, cond}
use mathlib.Core.List.{List, [], ◌++◌}
use mathlib.Core.Option.{Option, none, some}
use mathlib.Core.Path.{◌≡◌, refl, ap}
use Prim.Native.Nat.{ℕ, ◌*◌}
use native.Mathlib.Omega.{arith}
use lib.Dec.{eqb}
use lib.ListN.{replicate, length-replicate}
use Rattle.std.specs.Prelude.{Ok}
use Rattle.words.specs.Number.{count}
use Rattle.model.specs.Content.{piece_count}
use Rattle.model.specs.Demand3.{Fit}
use Rattle.model.specs.Format.{refusal, content}
use Rattle.model.specs.Layout.{Layout}
use Rattle.model.specs.Output.{first_line, held_lines, layout_lines, printed, program}
use Rattle.model.specs.Problem.{under}
use Rattle.model.specs.Search.{is_stopped, held}
use Rattle.model.specs.Services.{numbers_in, words_in, work_words, layout_in, with_layout, held_as, finished_as, given_layout, given_unfit, step_count, verdict, run}
use Rattle.model.specs.declared.Outcome.TheVariants as O
use Rattle.model.proofs.Accepted.{accepted-sensible}
use Rattle.model.proofs.Margin.{refusal-under-0}
use Rattle.model.proofs.Search.Budget.{held-laid}
use Rattle.model.proofs.Search.Demand3.{run-fit, read_held}

module _ (s : List ℕ) (accepted : refusal s ≡ 0) (budget : ℕ) where
  -- The lines of the layout are those of the layout held, or none are printed.
  lines_alike : (b : Bool) (h : Option Layout) → held (under 0 (content s)) none budget ≡ h → (n : ℕ) (out out' : List ℕ)
      → layout_lines (Ok (cond b (O.Stopped (held_as (under 0 (content s)) h) n) (finished_as (under 0 (content s)) h n))) (layout_in (under 0 (content s)) (with_layout h out))
      ≡ layout_lines (Ok (cond b (O.Stopped (held_as (under 0 (content s)) h) n) (finished_as (under 0 (content s)) h n))) (layout_in (under 0 (content s)) (with_layout h out'))
  unfolding layout_lines held_as finished_as held_lines
  lines_alike true none e n out out' = refl
  lines_alike false none e n out out' = refl
  lines_alike b (some es) e n out out' =
      let laid = held-laid (under 0 (content s)) (accepted-sensible s 0 accepted) none budget tt es e in
      rw (read_held s 0 accepted es out laid, read_held s 0 accepted es out' laid)

  pub printed-alike : (work out work' out' : List ℕ) → Fit s 0 [] work out → Fit s 0 [] work' out'
      → printed (under 0 (content s)) (run s 0 budget [] work out) ≡ printed (under 0 (content s)) (run s 0 budget [] work' out')
  unfolding printed verdict given_layout
  printed-alike work out work' out' f f' =
      rw (run-fit s 0 budget [] work out f, run-fit s 0 budget [] work' out' f')
      (ap (λ t. first_line (Ok (verdict (under 0 (content s)) none budget)) ++ t)
      (lines_alike (is_stopped (under 0 (content s)) none budget) (held (under 0 (content s)) none budget) refl (step_count (under 0 (content s)) none budget) out out'))

-- The program's own buffers are just long enough.
program-fit : (s : List ℕ) → refusal s ≡ 0 → Fit s 0 [] (replicate (work_words (under 0 (content s)) * 8) 0) (replicate (piece_count (content s).kinds * 8) 0)
unfolding words_in numbers_in count given_unfit
program-fit s accepted =
    record {
      accepted = accepted;
      margin-allowed = omega arith;
      given_passes = refl;
      work-long_enough = rw (length-replicate {A = ℕ} (work_words (under 0 (content s)) * 8) 0) (omega arith);
      out-long_enough = rw (length-replicate {A = ℕ} (piece_count (content s).kinds * 8) 0) (omega arith);
    }

-- An accepted job: the text is that of a run with any long enough buffers.
pub program-prints : (s work out : List ℕ) → Fit s 0 [] work out → printed (under 0 (content s)) (run s 0 1000000 [] work out) ≡ program s
unfolding program
program-prints s work out f = printed-alike s f.accepted 1000000 work out _ _ f (program-fit s f.accepted)

-- A refused job: the text is the refusal's, whatever the buffers.
pub program-refuses : (s work out : List ℕ) → eqb (refusal s) 0 ≡ false → printed (under 0 (content s)) (run s 0 1000000 [] work out) ≡ program s
unfolding program printed run layout_lines
program-refuses s work out e = rw (refusal-under-0 s, e, run)
