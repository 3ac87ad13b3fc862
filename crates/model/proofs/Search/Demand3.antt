-- The third demand: what `run` leaves behind meets it, for every accepted job, every margin of 0 to 63, every given layout that passes or none, every budget and
-- long enough buffers, whatever these hold.
use mathlib.Core.Bool.{Bool, true, false, not, cond}
use mathlib.Core.List.{List, [], ◌∷◌}
use mathlib.Core.Logic.{inl, ⊎_elim}
use mathlib.Core.Option.{Option, none, some, some-injective}
use mathlib.Core.Path.{◌≡◌, refl, sym, ap, ◌∙◌, subst}
use Prim.Native.Nat.{ℕ, ◌*◌, ◌≤◌}
use native.Mathlib.Omega.{arith}
use borrow.Author.Tests.{le-ltb, eq-eqb, not-false}
use lib.Dec.{eqb}
use lib.ListN.{length-map}
use Rattle.std.specs.Prelude.{Ok}
use Rattle.model.specs.Content.{piece_count}
use Rattle.model.specs.Demand3.{SaysShortest, SaysStopped, SaysHeld, Completed, BestOf, SomethingShorter, StandsFirst, Fit, held_in, Demand3}
use Rattle.model.specs.Format.{refusal, content}
use Rattle.model.specs.Grid.{columns, rows, dots}
use Rattle.model.specs.Layout.{Entry, Layout, entry_at, entry_kind, is_entry, layout_length, Passes, FirstOfShortest}
use Rattle.model.specs.Lists.{below}
use Rattle.model.specs.Problem.{Problem, under}
use Rattle.model.specs.Search.{steps_from, steps_needed, is_stopped, steps_taken, best_after, held}
use Rattle.model.specs.Services.{RunOutcome, run_outcome, numbers_in, words_in, work_words, cleared, entry_in, layout_in, with_layout, held_as, finished_as, cause11, given_layout, given_unfit, step_count, verdict, walked, run_from, run_content, run, refusal_under}
use Rattle.model.specs.declared.Outcome.TheVariants as O
use Rattle.model.proofs.Accepted.{Sensible, accepted-kinds, accepted-sensible, accepted-dots}
use Rattle.model.proofs.Lists.{length-below, or_right}
use Rattle.model.proofs.Margin.{accepted-under}
use Rattle.model.proofs.Passing.{passes-sound}
use Rattle.model.proofs.ReadBack.{Small, read-layout}
use Rattle.model.proofs.Search.Budget.{stopped-exactly, not_stopped-exactly, steps-taken, all_held, held-best, held-laid, held_none}
use Rattle.model.proofs.Search.Completions.{NoShorter}
use Rattle.model.proofs.Search.Pieces.{admitted-parts, few-turns, entry-kind}
use Rattle.model.proofs.Search.Walk.{Laid, BeginLaid, walk_ends, walk_finds, none-shorter_passes}

-- What run leaves behind where job, margin and given layout are good and the buffers are long enough.
pub run-fit : (s : List ℕ) (m budget : ℕ) (given work out : List ℕ) → Fit s m given work out
    → run s m budget given work out ≡ walked (under m (content s)) (given_layout (under m (content s)) given) budget work out
unfolding run run_content run_from
run-fit s m budget given work out fit =
    rw (
      eq-eqb (refusal_under m s) 0 ((accepted-under s m).1 (fit.accepted, fit.margin-allowed)),
      fit.given_passes,
      le-ltb (words_in work) (work_words (under m (content s))) fit.work-long_enough,
      le-ltb (numbers_in out) (4 * piece_count (content s).kinds) fit.out-long_enough,
      run,
      run_content,
      run_from,
    )

-- A given layout that is not refused passes and has N entries.
pub given_laid : (j : Problem) (given : List ℕ) → given_unfit j given ≡ false → BeginLaid j (given_layout j given)
unfolding given_unfit given_layout cause11 layout_in
given_laid j [] e = tt
given_laid j (b ∷ bs) e = (
  passes-sound j (layout_in j (b ∷ bs)) (not-false _ (or_right (not (eqb (numbers_in (b ∷ bs)) (4 * piece_count j.kinds))) _ e)),
  length-map (below (piece_count j.kinds)) (entry_in (b ∷ bs)) ∙ length-below (piece_count j.kinds),
)

module _ (s : List ℕ) (m : ℕ) (accepted : refusal s ≡ 0) where
  -- The numbers of a candidate of an accepted job are two-byte numbers.
  candidate-small : (e : Entry) → is_entry (under m (content s)) e ≡ true → Small e
  unfolding is_entry entry_kind dots rows columns
  candidate-small e h =
      let parts = admitted-parts (under m (content s)) (entry_kind (under m (content s)) e) e.place h in
      let d : dots (content s).sheet ≤ 1024 = accepted-dots s accepted in
      record {
        kind_fits = omega (arith, entry-kind (under m (content s)) e h, (accepted-kinds s accepted).few-kinds);
        column_fits = omega (arith, parts.0);
        row_fits = omega (arith, parts.1);
        rotation-fits = omega (arith, few-turns (under m (content s)) _ e.place.rotation ((accepted-sensible s m accepted).turned e.kind) parts.2);
      }

  -- A layout that passes is read back from the answer numbers.
  pub read_held : (es : Layout) (out : List ℕ) → Laid (under m (content s)) es → layout_in (under m (content s)) (with_layout (some es) out) ≡ es
  read_held es out l = read-layout (under m (content s)) es out l.1 (λ i h. candidate-small (entry_at es i) (l.0.offered i h))

module _ (s : List ℕ) (m : ℕ) (accepted : refusal s ≡ 0) (begin : Option Layout) (laid : BeginLaid (under m (content s)) begin) (budget : ℕ) (work out : List ℕ) where
  -- The problem.
  abbrev j : Problem
  j = under m (content s)

  -- It is sensible.
  ok : Sensible j
  ok = accepted-sensible s m accepted

  -- The answer and the buffers, by whether the walk is stopped and what it holds.
  abbrev outcome : Bool → Option Layout → RunOutcome
  outcome b h = run_outcome (Ok (cond b (O.Stopped (held_as j h) (step_count j begin budget)) (finished_as j h (step_count j begin budget)))) work (with_layout h out)

  -- What is held where the walk is not stopped is the first of the shortest, or the given layout where nothing is shorter.
  finished_first : (es : Layout) → is_stopped j begin budget ≡ false → held j begin budget ≡ some es → StandsFirst j begin es
  finished_first es e q = go begin refl
    where
      found : (h : Option Layout) → begin ≡ h → (f : (fs : Layout) × (best_after h (steps_from j h) ≡ some fs) × FirstOfShortest j fs) → FirstOfShortest j es
      found h p f = subst (FirstOfShortest j) (some-injective f.0 es (sym f.1 ∙ subst (λ (h : Option Layout). best_after h (steps_from j h) ≡ some es) p (sym (all_held j begin budget e) ∙ q))) f.2

      go : (h : Option Layout) → begin ≡ h → StandsFirst j h es
      go none p = let f = walk_finds j ok none es (held-laid j ok begin budget laid es q).0 tt in found none p (f.0, f.2, f.3)
      go (some given) p = (
        λ x. let f = walk_finds j ok (some given) x.0 x.1 x.2 in found (some given) p (f.0, f.2, f.3),
        λ x.
            some-injective es given
            (subst (λ (h : Option Layout). some es ≡ best_after h (steps_from j h)) p (sym q ∙ all_held j begin budget e)
            ∙ (none-shorter_passes j ok given (λ fs a l. x (fs, a, l))).0),
      )

  -- No passing layout is shorter than what is held then; and where nothing is held, none passes.
  finished_shortest : (h : Option Layout) → is_stopped j begin budget ≡ false → held j begin budget ≡ h → (fs : Layout) → Passes j fs → NoShorter j (layout_length j fs) h
  finished_shortest h e q fs p =
      subst (NoShorter j (layout_length j fs)) (sym (all_held j begin budget e) ∙ q)
      (⊎_elim (λ r. subst (NoShorter j (layout_length j fs)) (sym r.1) (r.2.shortest fs p)) (λ r. subst (NoShorter j (layout_length j fs)) (sym r.0) (r.1 fs p)) (walk_ends j ok begin))

  -- Stopped, with nothing held.
  stopped-nothing : is_stopped j begin budget ≡ true → held j begin budget ≡ none → Demand3 j begin budget (outcome true none)
  unfolding held_as step_count
  stopped-nothing e q =
      record {
        stopped = ((λ x. (stopped-exactly j begin budget).0 e), λ l. tt);
        otherwise_shortest = λ f es p. absurd (f tt);
        otherwise_none = λ f p. absurd (f tt);
        holds-passing = λ x. absurd x;
        holds-shortest = λ x fs p. absurd x;
        holds-first = λ x. absurd x;
        stopped-holds-best = λ x es c. absurd (held_none j ok begin budget q es c);
        stopped-holds-none = λ x f h. h;
        length-told = λ x. absurd x;
        steps-told = refl;
        steps-least = steps-taken j begin budget;
      }

  -- Stopped, with a layout held.
  stopped-holding : (es : Layout) → is_stopped j begin budget ≡ true → held j begin budget ≡ some es → Demand3 j begin budget (outcome true (some es))
  unfolding held_as step_count
  stopped-holding es e q =
      let back : layout_in j (with_layout (some es) out) ≡ es = read_held s m accepted es out (held-laid j ok begin budget laid es q) in
      record {
        stopped = ((λ x. (stopped-exactly j begin budget).0 e), λ l. tt);
        otherwise_shortest = λ f es p. absurd (f tt);
        otherwise_none = λ f p. absurd (f tt);
        holds-passing = λ x. absurd x;
        holds-shortest = λ x fs p. absurd x;
        holds-first = λ x. absurd x;
        stopped-holds-best = λ x fs c. (tt, subst (BestOf j begin (steps_taken j begin budget)) (sym back) (held-best j ok begin budget es q));
        stopped-holds-none = λ x f h. f es (held-best j ok begin budget es q).counts;
        length-told = λ x. ap (layout_length j) (sym back);
        steps-told = refl;
        steps-least = steps-taken j begin budget;
      }

  -- Not stopped, with nothing held: "none".
  finished_nothing : is_stopped j begin budget ≡ false → held j begin budget ≡ none → Demand3 j begin budget (outcome false none)
  unfolding finished_as step_count
  finished_nothing e q =
      record {
        stopped = ((λ x. absurd x), λ l. let k : steps_needed j begin ≤ budget = (not_stopped-exactly j begin budget).0 e in absurd (omega arith));
        otherwise_shortest = λ f es p. absurd (finished_shortest none e q es p);
        otherwise_none = λ f p. tt;
        holds-passing = λ x. absurd x;
        holds-shortest = λ x fs p. absurd x;
        holds-first = λ x. absurd x;
        stopped-holds-best = λ x es c. absurd x;
        stopped-holds-none = λ x f h. x;
        length-told = λ x. absurd x;
        steps-told = refl;
        steps-least = steps-taken j begin budget;
      }

  -- Not stopped, with a layout held: "shortest".
  finished_holding : (es : Layout) → is_stopped j begin budget ≡ false → held j begin budget ≡ some es → Demand3 j begin budget (outcome false (some es))
  unfolding finished_as step_count
  finished_holding es e q =
      let passing : Laid j es = held-laid j ok begin budget laid es q in
      let back : layout_in j (with_layout (some es) out) ≡ es = read_held s m accepted es out passing in
      record {
        stopped = ((λ x. absurd x), λ l. let k : steps_needed j begin ≤ budget = (not_stopped-exactly j begin budget).0 e in absurd (omega arith));
        otherwise_shortest = λ f es p. tt;
        otherwise_none = λ f p. absurd (p es passing.0);
        holds-passing = λ x. subst (Passes j) (sym back) passing.0;
        holds-shortest = λ x fs p. subst (λ (es : Layout). layout_length j es ≤ layout_length j fs) (sym back) (finished_shortest (some es) e q fs p);
        holds-first = λ x. subst (StandsFirst j begin) (sym back) (finished_first es e q);
        stopped-holds-best = λ x es c. absurd x;
        stopped-holds-none = λ x f h. x;
        length-told = λ x. ap (layout_length j) (sym back);
        steps-told = refl;
        steps-least = steps-taken j begin budget;
      }

  -- One of the four is the case.
  any-outcome : (b : Bool) (h : Option Layout) → is_stopped j begin budget ≡ b → held j begin budget ≡ h → Demand3 j begin budget (outcome b h)
  any-outcome true none e q = stopped-nothing e q
  any-outcome true (some es) e q = stopped-holding es e q
  any-outcome false none e q = finished_nothing e q
  any-outcome false (some es) e q = finished_holding es e q

-- The third demand, whole.
pub demand3 : (s : List ℕ) (m budget : ℕ) (given work out : List ℕ) → Fit s m given work out
    → Demand3 (under m (content s)) (given_layout (under m (content s)) given) budget (run s m budget given work out)
unfolding verdict
demand3 s m budget given work out fit =
    let j : Problem = under m (content s) in
    let begin : Option Layout = given_layout j given in
    subst (Demand3 j begin budget) (sym (run-fit s m budget given work out fit))
    (any-outcome s m fit.accepted begin (given_laid j given fit.given_passes) budget (cleared j work) out (is_stopped j begin budget) (held j begin budget) refl refl)

-- ---- What document 02 says of a given layout, by the demand

module _ (j : Problem) (given : Layout) (budget : ℕ) (r : RunOutcome) (d : Demand3 j (some given) budget r) where
  -- "a run stopped before it finds a shorter one holds the given layout"
  pub stopped-holds-given : SaysStopped r.answer → ((es : Layout) → Completed (steps_taken j (some given) budget) es → ⊥) → SaysHeld r.answer × (held_in j r ≡ given)
  stopped-holds-given x f =
      let b = d.stopped-holds-best x given (inl refl) in
      (b.0, ⊎_elim (λ e. e) (λ c. absurd (f (held_in j r) c)) b.1.counts)

  -- "A finished run returns the first of the shortest if something shorter exists, .."
  pub finished_holds-first : SaysShortest r.answer → SomethingShorter j given → FirstOfShortest j (held_in j r)
  finished_holds-first x e = (d.holds-first x).0 e

  -- ".. and otherwise the given layout", whatever else is as short.
  pub finished_holds-given : SaysShortest r.answer → (SomethingShorter j given → ⊥) → held_in j r ≡ given
  finished_holds-given x e = (d.holds-first x).1 e

-- Of a run that is given no layout: "a buffer of no bytes gives none".
pub demand3_without : (s : List ℕ) (m budget : ℕ) (work out : List ℕ) → Fit s m [] work out → Demand3 (under m (content s)) none budget (run s m budget [] work out)
unfolding given_layout
demand3_without s m budget work out fit = demand3 s m budget [] work out fit

-- Without a given layout the demand is the one as it was: its sentences on the first of the shortest and on the best of the steps taken speak of the steps alone.
-- (The others do not speak of a given layout.)
pub without_given : (j : Problem) (budget : ℕ) (r : RunOutcome) → Demand3 j none budget r
    → (SaysShortest r.answer → FirstOfShortest j (held_in j r))
    × (SaysStopped r.answer → (es : Layout) → Completed (steps_taken j none budget) es
    → SaysHeld r.answer × Completed (steps_taken j none budget) (held_in j r)
    × ((fs : Layout) → Completed (steps_taken j none budget) fs → layout_length j (held_in j r) ≤ layout_length j fs))
    × (SaysStopped r.answer → ((es : Layout) → Completed (steps_taken j none budget) es → ⊥) → SaysHeld r.answer → ⊥)
without_given j budget r d =
    (d.holds-first, (λ x es c. let b = d.stopped-holds-best x es c in (b.0, b.1.counts, b.1.shortest)), d.stopped-holds-none)
