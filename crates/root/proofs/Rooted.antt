-- The beginning of the walk.
use mathlib.Core.Bool.{Bool, true, false}
use mathlib.Core.List.{List, []}
use mathlib.Core.Option.{Option}
use mathlib.Core.Path.{◌≡◌, refl, sym, ap, ◌∙◌, subst}
use Prim.Native.Nat.{ℕ, ◌<◌}
use native.Mathlib.Omega.{arith}
use lib.ListN.{length}
use Rattle.model.specs.Content.{kind_at, kind_count, piece_count}
use Rattle.model.specs.Grid.{set_words}
use Rattle.model.specs.Layout.{Layout, largest_end}
use Rattle.model.specs.Lists.{largest}
use Rattle.model.specs.Problem.{Problem}
use Rattle.model.specs.Services.{with_layout}
use Rattle.stepping.specs.Levels.{placed_below, try_level, go_on_level, walk_spent, numbers_at}
use Rattle.stepping.specs.LiveSets.{bound_of, Spans}
use Rattle.stepping.specs.Spending.{Spent}
use Rattle.lookahead.specs.Settled.{Settled}
use Rattle.walks.specs.Walk.{held_of, Ready, Left}
use Rattle.runs.specs.Told.{begun}
use Rattle.runs.specs.declared.progress.Progress.{Progress}
use Rattle.stepping.proofs.Kept.{spans_all}
use Rattle.stepping.proofs.Levels.{start_admitted, walk_level}
use Rattle.stepping.proofs.PieceOrder.{copies-first}
use Rattle.stepping.proofs.Slots.{slot-member}
use Rattle.bounding.specs.Trimmed.{Shrunk}
use Rattle.walks.proofs.GoingOn.{go_back, deep_ready, go_deep}
use Rattle.walks.proofs.Lowered.{shrunk-spans}
use Rattle.root.specs.Walked.{RoomFor, Begun, Walked}

-- Where nothing is placed the largest end is 0.
no_end : (j : Problem) → 0 ≡ largest_end j []
unfolding largest_end largest
no_end j = refl

module _ (j : Problem) (budget bound words : ℕ) (found : Bool) (work out ns : List ℕ) (pieced : 0 < piece_count j.kinds) (b : Begun j bound found out) (w : words ≡ set_words j.sheet) (m : length ns ≡ 12) (r : RoomFor j work out) where
  -- The best to begin with.
  abbrev begin : Option Layout
  begin = held_of j found out

  -- Nothing is placed.
  begin_ready : (span : ℕ) → Spans j bound span → Ready j work out ns 0 0 0 (begun budget bound found span)
  unfolding placed_below
  begin_ready span s =
      record {
        work-fits = r.work-fits;
        out-fits = r.out-fits;
        room = m;
        admitted = start_admitted j;
        end_is = no_end j;
        bound-is = b.bound-is;
        written = b.written;
        running = refl;
        spans = s;
        sets = λ l u h. absurd (omega arith);
      }

  -- What is left at the end of the first level is what the whole walk leaves.
  walked : (span : ℕ) (work' out' : List ℕ) (st : Progress)
      → Left j ns work out work' out' 0 (begun budget bound found span) st (go_on_level j (numbers_at ns) 0 budget begin) → Walked j begin budget work out work' out' st
  walked span work' out' st d =
      let g : go_on_level j (numbers_at ns) 0 budget begin ≡ walk_spent j begin budget = sym (walk_level j begin (numbers_at ns) budget) in
      record {
        left = d.left ∙ ap (λ (w : Spent). w.left) g;
        stopped = d.stopped ∙ ap (λ (w : Spent). w.stopped) g;
        held = d.held ∙ ap (λ (w : Spent). w.held) g;
        bound-is = d.bound-is ∙ ap (λ (w : Spent). bound_of j w.held) g;
        lowered = omega (arith, d.lowered, b.within);
        written = d.written ∙ ap (λ (w : Spent). with_layout w.held out) g;
        behind = d.behind;
      }

  module _ (work' : List ℕ) (told : Bool) (s : Settled j ns 0 bound (set_words j.sheet) work work' told) where
    -- Look-ahead fails: the walk is at its end.
    pub begin_back : (start : Progress) → start ≡ begun budget bound found words → told ≡ false → Walked j begin budget work out work' out start
    begin_back start q f =
        rw (q, w)
        (walked (set_words j.sheet) work' out (begun budget bound found (set_words j.sheet))
        (go_back j ns 0 0 work out (begun budget bound found (set_words j.sheet)) (begin_ready (set_words j.sheet) (spans_all j bound)) (λ h. absurd (omega arith)) work' told pieced f s))

    module _ (demanded : (u : ℕ) → u < kind_count j.kinds → 0 < (kind_at j.kinds u).demand) (f : told ≡ true) (span : ℕ) (h : Shrunk (kind_count j.kinds) words words work' span) where
      -- It holds: all candidates that end below the bound lie in the words that are left,
      spanned : Spans j bound span
      unfolding placed_below
      spanned =
          shrunk-spans j bound (set_words j.sheet) span work' (spans_all j bound)
          (λ u n hu l. sym (slot-member j work' 0 u n) ∙ s.kept f u hu (rw (copies-first j.kinds u hu) (demanded u hu)) n l) (rw (← w) h)

      -- which keep the sets.
      settled : Settled j ns 0 bound span work work' told
      settled = record { answer = s.answer; kept = λ q u hu c n l. s.kept q u hu c n (omega (arith, spanned.within)); frame = s.frame }

      module _ (start : Progress) (q : start ≡ begun budget bound found span) where
        -- The first piece tries its candidates.
        pub begin_deep : length work' ≡ length work → Ready j work' out ns 0 1 0 start
        begin_deep l = rw q (deep_ready j ns 0 0 work out (begun budget bound found span) (begin_ready span spanned) (λ h. absurd (omega arith)) work' told f settled l)

        pub begin_walks : (work'' out' : List ℕ) (st : Progress)
            → Left j ns work' out work'' out' 1 start st (try_level j (numbers_at ns) 0 0 start.left (held_of j start.found out)) → Walked j begin budget work out work'' out' st
        begin_walks work'' out' st d =
            walked span work'' out' st (go_deep j ns 0 0 work out (begun budget bound found span) (begin_ready span spanned) (λ h. absurd (omega arith)) work' work'' out' st told pieced f settled
            (subst (λ (s : Progress). Left j ns work' out work'' out' 1 s st (try_level j (numbers_at ns) 0 0 s.left (held_of j s.found out))) q d))
