-- The loop of one piece: what stands at each turn, and what each way out of it leaves.
use mathlib.Core.Bool.{Bool, true, false}
use mathlib.Core.List.{List, ◌∷◌}
use mathlib.Core.Logic.{inl, inr}
use mathlib.Core.Option.{Option, none}
use mathlib.Core.Path.{◌≡◌, refl, sym, ap, ◌∙◌, subst}
use Prim.Native.Nat.{ℕ, suc, ◌+◌, ◌*◌, ◌-◌, max, ◌≤◌, ◌<◌}
use native.Mathlib.Numerals.{add-one}
use native.Mathlib.Omega.{arith}
use lib.ListN.{length, drop, set, length-set, length-map}
use lib.Seq.{get_or-set_same, get_or-set_other}
use Rattle.std.specs.Prelude.{None}
use Rattle.words.specs.Number.{count}
use Rattle.model.specs.Content.{piece_count}
use Rattle.model.specs.Grid.{set_words}
use Rattle.model.specs.Layout.{Layout, entry_of, entry_extent, is_entry, largest_end}
use Rattle.model.specs.Lists.{all, below}
use Rattle.model.specs.Problem.{Problem}
use Rattle.model.specs.Services.{entry_in, layout_in, with_layout, numbers_in, work_words}
use Rattle.model.proofs.Lists.{length-below}
use Rattle.model.proofs.Search.Completions.{end-cons}
use Rattle.stepping.specs.LiveSets.{set_of, bound_of, Keeps}
use Rattle.stepping.specs.Levels.{piece_kind, pieces_from, placed_below, try_level, go_on_level, numbers_at, placed_of}
use Rattle.stepping.specs.Slots.{slot_of}
use Rattle.lookahead.specs.Settled.{SetsKept}
use Rattle.stepping.specs.Spending.{Spent, spent}
use Rattle.stepping.specs.Steps.{Entries}
use Rattle.stepping.proofs.Answer.{layout_after}
use Rattle.stepping.proofs.Extents.{limit_words}
use Rattle.stepping.proofs.Held.{go_on-none}
use Rattle.stepping.proofs.Levels.{piece_kind_lem, placed-next, placed_same, level_same, level_over, level_past, level_stops, level_ends, level_goes, placed-entries}
use Rattle.stepping.proofs.LiveSets.{placed-admitted, placed_below_lem}
use Rattle.stepping.proofs.PieceOrder.{copies-here}
use Rattle.stepping.proofs.Steps.{spent-skip_to}
use Rattle.branching.specs.Choosing.{FirstLive, NextLive}
use Rattle.walks.specs.Walk.{held_of, Ready, Taken, Left}
use Rattle.branching.specs.declared.choosing.Next.{Next}
use Rattle.runs.specs.Told.{stepped, halted}
use Rattle.runs.specs.declared.progress.Progress.{Progress}

-- ---- The layout held

module _ (j : Problem) where
  -- The layout that the answer numbers say has N entries.
  pub held-entries : (b : Bool) (out : List ℕ) → Entries (piece_count j.kinds) (held_of j b out)
  unfolding layout_in
  held-entries true out = length-map (below (piece_count j.kinds)) (entry_in out) ∙ length-below (piece_count j.kinds)
  held-entries false out = tt

  -- Nothing held after a candidate was taken is nothing held before.
  pub none_before : (numbers : ℕ → ℕ) (l k : ℕ) (h : Option Layout) → (go_on_level j numbers l k h).held ≡ none → h ≡ none
  unfolding go_on_level
  none_before numbers l k h e = go_on-none j (pieces_from j.kinds l) (placed_below j numbers l) k h e

  -- Numbers among which there is no member are passed over.
  pub level_skip : (numbers : ℕ → ℕ) (l : ℕ) (h : Option Layout) → all (is_entry j) (placed_below j numbers l) ≡ true → (n m k : ℕ) → n ≤ m
      → ((i : ℕ) → n ≤ i → i < m → set_of j (placed_below j numbers l) (bound_of j h) (piece_kind j.kinds l) i ≡ false)
      → try_level j numbers l n k h ≡ try_level j numbers l m k h
  unfolding try_level
  level_skip numbers l h a n m k o f = spent-skip_to j (piece_kind j.kinds l) (pieces_from j.kinds (suc l)) (placed_below j numbers l) h a n m k o f

-- A buffer of the same length holds as many numbers.
pub same_numbers : (a b : List ℕ) → length a ≡ length b → numbers_in a ≡ numbers_in b
unfolding numbers_in count
same_numbers a b e = rw e

-- ---- The loop

-- What stands at each turn, from number `from` on. (With 0 are marked the values at the beginning.)
pub record Trying (j : Problem) (ns : List ℕ) (level end : ℕ) (work₀ out₀ work out : List ℕ) (st₀ st : Progress) (from : ℕ) : Type 0 where
  pub ready : Ready j work out ns level (level + 1) end st
  pub same : try_level j (numbers_at ns) level 0 st₀.left (held_of j st₀.found out₀) ≡ try_level j (numbers_at ns) level from st.left (held_of j st.found out)
  pub lowered : st.bound ≤ st₀.bound
  pub written : out ≡ with_layout (held_of j st.found out) out₀
  pub behind : drop (work_words j * 8) work ≡ drop (work_words j * 8) work₀

module _ (j : Problem) (ns : List ℕ) (level end : ℕ) where
  -- The whole of it.
  abbrev whole : Progress → List ℕ → Spent
  whole st out = try_level j (numbers_at ns) level 0 st.left (held_of j st.found out)

  pub trying_begin : (work out : List ℕ) (st : Progress) → Ready j work out ns level (level + 1) end st → Trying j ns level end work out work out st st 0
  trying_begin work out st r =
      record { ready = r; same = refl; lowered = omega arith; written = sym r.written; behind = refl }

  module _ (work₀ out₀ work out : List ℕ) (st₀ st : Progress) (from : ℕ) (t : Trying j ns level end work₀ out₀ work out st₀ st from) where
    -- Nothing is left to be done.
    trying_leaves : try_level j (numbers_at ns) level from st.left (held_of j st.found out) ≡ spent st.left (held_of j st.found out) false
        → Left j ns work₀ out₀ work out (level + 1) st₀ st (whole st₀ out₀)
    trying_leaves e =
        let w : whole st₀ out₀ ≡ spent st.left (held_of j st.found out) false = t.same ∙ e in
        let held-is : held_of j st.found out ≡ (whole st₀ out₀).held = sym (ap (λ (w : Spent). w.held) w) in
        record {
          left = sym (ap (λ (w : Spent). w.left) w);
          stopped = t.ready.running ∙ sym (ap (λ (w : Spent). w.stopped) w);
          held = held-is;
          bound-is = t.ready.bound-is ∙ ap (bound_of j) held-is;
          lowered = t.lowered;
          written = t.written ∙ ap (λ (g : Option Layout). with_layout g out₀) held-is;
          spans = t.ready.spans;
          sets = t.ready.sets;
          behind = t.behind;
        }

    -- The set of the piece is kept.
    pub trying_keeps : level < piece_count j.kinds → Keeps j (placed_of j ns level) st.bound st.span (piece_kind j.kinds level) (slot_of j work level (piece_kind j.kinds level))
    trying_keeps h = t.ready.sets level (piece_kind j.kinds level) (omega arith) (piece_kind_lem j.kinds level h) (copies-here j.kinds level h)

    -- There is no live candidate: what is placed does not end below the bound, or no member is left.
    pub trying_past : NextLive j (placed_of j ns level) st.bound (piece_kind j.kinds level) end from None → Left j ns work₀ out₀ work out (level + 1) st₀ st (whole st₀ out₀)
    trying_past (inl o) =
        trying_leaves (level_over j (numbers_at ns) level (held_of j st.found out) t.ready.admitted from st.left
        (omega (arith, t.ready.bound-is, t.ready.end_is)))
    trying_past (inr o) =
        let past : from ≤ from + set_words j.sheet * 64 = omega arith in
        trying_leaves
        (level_skip j (numbers_at ns) level (held_of j st.found out) t.ready.admitted from (from + set_words j.sheet * 64) st.left past
        (λ i p q. ap (λ (b : ℕ). set_of j (placed_of j ns level) b (piece_kind j.kinds level) i) (sym t.ready.bound-is) ∙ o i p)
        ∙ level_past j (numbers_at ns) level (held_of j st.found out) t.ready.admitted (from + set_words j.sheet * 64) st.left (omega (arith, limit_words j.sheet)))

    module _ (r : Next) (v : FirstLive j (placed_of j ns level) st.bound (piece_kind j.kinds level) end from r) where
      -- The walk goes to the next live candidate.
      trying_skips : try_level j (numbers_at ns) level from st.left (held_of j st.found out) ≡ try_level j (numbers_at ns) level r.number st.left (held_of j st.found out)
      trying_skips =
          level_skip j (numbers_at ns) level (held_of j st.found out) t.ready.admitted from r.number st.left v.above
          (λ i p q. ap (λ (b : ℕ). set_of j (placed_of j ns level) b (piece_kind j.kinds level) i) (sym t.ready.bound-is) ∙ v.passed i p q)

      module _ (inside : level < piece_count j.kinds) (few : level < 12) where
        -- The numbers with the new one: those below are as they were.
        same-below : (i : ℕ) → i < level → numbers_at ns i ≡ numbers_at (set ns level r.number) i
        same-below i q = sym (get_or-set_other ns level i r.number 0 (λ e. omega arith))

        number_is : numbers_at (set ns level r.number) level ≡ r.number
        number_is = get_or-set_same ns level r.number 0 (rw t.ready.room few)

        placed-is : (l : ℕ) → l ≤ level → placed_of j ns l ≡ placed_of j (set ns level r.number) l
        placed-is l q = placed_same j (numbers_at ns) (numbers_at (set ns level r.number)) l (λ i r. same-below i (omega arith))

        admitted : all (is_entry j) (placed_of j (set ns level r.number) level) ≡ true
        admitted = rw (← (placed-is level (omega arith))) t.ready.admitted

        member_is : set_of j (placed_of j (set ns level r.number) level) (bound_of j (held_of j st.found out)) (piece_kind j.kinds level) (numbers_at (set ns level r.number) level) ≡ true
        member_is = rw (← (placed-is level (omega arith)), number_is, ← t.ready.bound-is) v.live.member

        short : largest_end j (placed_of j (set ns level r.number) level) < bound_of j (held_of j st.found out)
        short = rw (← (placed-is level (omega arith)), ← t.ready.bound-is, ← t.ready.end_is) v.live.below

        -- The walk from the new number on, with the numbers as they are then.
        trying_at : whole st₀ out₀ ≡ try_level j (numbers_at (set ns level r.number)) level (numbers_at (set ns level r.number) level) st.left (held_of j st.found out)
        trying_at =
            t.same ∙ trying_skips
            ∙ level_same j (numbers_at ns) (numbers_at (set ns level r.number)) level r.number st.left (held_of j st.found out) same-below
            ∙ ap (λ (m : ℕ). try_level j (numbers_at (set ns level r.number)) level m st.left (held_of j st.found out)) (sym number_is)

        -- The budget is spent.
        pub trying_stops : (st' : Progress) → st' ≡ halted st → st.left ≡ 0 → Left j ns work₀ out₀ work out (level + 1) st₀ st' (whole st₀ out₀)
        trying_stops st' q z =
            let w : whole st₀ out₀ ≡ spent 0 (held_of j st.found out) true =
            trying_at ∙ ap (λ (k : ℕ). try_level j (numbers_at (set ns level r.number)) level (numbers_at (set ns level r.number) level) k (held_of j st.found out)) z
            ∙ level_stops j (numbers_at (set ns level r.number)) level (held_of j st.found out) admitted short member_is in
            let held-is : held_of j st.found out ≡ (whole st₀ out₀).held = sym (ap (λ (w : Spent). w.held) w) in
            rw q (record {
              left = sym (ap (λ (w : Spent). w.left) w);
              stopped = sym (ap (λ (w : Spent). w.stopped) w);
              held = held-is;
              bound-is = t.ready.bound-is ∙ ap (bound_of j) held-is;
              lowered = t.lowered;
              written = t.written ∙ ap (λ (g : Option Layout). with_layout g out₀) held-is;
              spans = t.ready.spans;
              sets = t.ready.sets;
              behind = t.behind;
            })

        -- ---- A candidate is taken

        placed-more : placed_of j (set ns level r.number) (level + 1) ≡ entry_of j (piece_kind j.kinds level) r.number ∷ placed_of j ns level
        placed-more =
            ap (λ (i : ℕ). placed_of j (set ns level r.number) i) (add-one level)
            ∙ placed-next j (numbers_at (set ns level r.number)) level
            ∙ rw (number_is, ← (placed-is level (omega arith)))

        live : set_of j (placed_of j ns level) st.bound (piece_kind j.kinds level) r.number ≡ true
        live = v.live.member

        -- What the walk asks once it is placed.
        pub taken-ready : (less : Progress) → less ≡ stepped st → Ready j work out (set ns level r.number) (level + 1) (level + 1) r.extent less
        taken-ready less q =
            rw q (record {
              work-fits = t.ready.work-fits;
              out-fits = t.ready.out-fits;
              room = length-set ns level r.number ∙ t.ready.room;
              admitted = rw placed-more (placed-admitted j (placed_of j ns level) st.bound (piece_kind j.kinds level) r.number live t.ready.admitted);
              end_is = rw placed-more (v.live.reaches ∙ ap (max (entry_extent j (entry_of j (piece_kind j.kinds level) r.number))) t.ready.end_is ∙ sym (end-cons j (entry_of j (piece_kind j.kinds level) r.number) (placed_of j ns level)));
              bound-is = t.ready.bound-is;
              written = t.ready.written;
              running = refl;
              spans = t.ready.spans;
              sets =
                  λ l u q g k. subst (λ (es : Layout). Keeps j es st.bound st.span u (slot_of j work l u)) (placed-is l (omega arith)) (t.ready.sets l u q g k);
            })

        pub taken-taken : (less : Progress) → less ≡ stepped st → Taken j (set ns level r.number) (level + 1) r.extent less
        taken-taken less q =
            let e : level + 1 - 1 ≡ level = omega arith in
            rw q (record {
              some = omega arith;
              within = omega arith;
              below = rw (v.live.reaches, t.ready.end_is, ← (end-cons j (entry_of j (piece_kind j.kinds level) r.number) (placed_of j ns level))) (placed_below_lem j (placed_of j ns level) st.bound (piece_kind j.kinds level) r.number live (rw (← t.ready.end_is) v.live.below));
              latest = rw (e, number_is, ← (placed-is level (omega arith))) live;
            })

        -- ---- What it leaves

        module _ (work' out' : List ℕ) (st' : Progress) (work-length : length work' ≡ length work) (out-length : length out' ≡ length out)
            (more : 0 < st.left) (less : Progress) (q : less ≡ stepped st)
            (d : Left j (set ns level r.number) work out work' out' (level + 1) less st' (go_on_level j (numbers_at (set ns level r.number)) (level + 1) less.left (held_of j less.found out))) where
          -- What the walk did below.
          done : Left j (set ns level r.number) work out work' out' (level + 1) (stepped st) st' (go_on_level j (numbers_at (set ns level r.number)) (suc level) (st.left - 1) (held_of j st.found out))
          done =
              subst
              (λ (l : ℕ). Left j (set ns level r.number) work out work' out' (level + 1) (stepped st) st' (go_on_level j (numbers_at (set ns level r.number)) l (st.left - 1) (held_of j st.found out)))
              (add-one level)
              (subst (λ (s : Progress). Left j (set ns level r.number) work out work' out' (level + 1) s st' (go_on_level j (numbers_at (set ns level r.number)) (level + 1) s.left (held_of j s.found out))) q d)

          entries : Entries (piece_count j.kinds) (go_on_level j (numbers_at (set ns level r.number)) (suc level) (st.left - 1) (held_of j st.found out)).held
          entries = placed-entries j (numbers_at (set ns level r.number)) (suc level) (st.left - 1) (held_of j st.found out) (omega arith) (held-entries j st.found out)

          -- The layout held then, over the one held before.
          over : out' ≡ with_layout (go_on_level j (numbers_at (set ns level r.number)) (suc level) (st.left - 1) (held_of j st.found out)).held out₀
          over =
              done.written
              ∙ ap (with_layout (go_on_level j (numbers_at (set ns level r.number)) (suc level) (st.left - 1) (held_of j st.found out)).held) t.written
              ∙ layout_after (piece_count j.kinds) _ (held_of j st.found out) out₀
              entries (held-entries j st.found out) (none_before j (numbers_at (set ns level r.number)) (suc level) (st.left - 1) (held_of j st.found out))

          -- The sets that it leaves are those of the pieces placed before.
          sets-back : SetsKept j ns (level + 1) st'.bound st'.span work'
          sets-back l u q g k = subst (λ (es : Layout). Keeps j es st'.bound st'.span u (slot_of j work' l u)) (sym (placed-is l (omega arith))) (done.sets l u q g k)

          -- It stopped.
          pub trying_ends : st'.stopped ≡ true → Left j ns work₀ out₀ work' out' (level + 1) st₀ st' (whole st₀ out₀)
          trying_ends z =
              let w : whole st₀ out₀ ≡ go_on_level j (numbers_at (set ns level r.number)) (suc level) (st.left - 1) (held_of j st.found out) =
              trying_at ∙ level_ends j (numbers_at (set ns level r.number)) level (held_of j st.found out) admitted short member_is st.left more (sym done.stopped ∙ z) in
              rw w (record {
                left = done.left;
                stopped = done.stopped;
                held = done.held;
                bound-is = done.bound-is;
                lowered = omega (arith, done.lowered, t.lowered);
                written = over;
                spans = done.spans;
                sets = sets-back;
                behind = done.behind ∙ t.behind;
              })

          -- It came back: the numbers after this one are tried.
          pub trying_goes : st'.stopped ≡ false → Trying j ns level end work₀ out₀ work' out' st₀ st' (r.number + 1)
          trying_goes z =
              let w : whole st₀ out₀ ≡ try_level j (numbers_at (set ns level r.number)) level (suc r.number) st'.left (held_of j st'.found out') =
              trying_at
              ∙ level_goes j (numbers_at (set ns level r.number)) level (held_of j st.found out) admitted short member_is st.left more (sym done.stopped ∙ z)
              ∙ rw (number_is, done.left, done.held) in
              record {
                ready = record {
                  work-fits = rw work-length t.ready.work-fits;
                  out-fits = rw (same_numbers out' out out-length) t.ready.out-fits;
                  room = t.ready.room;
                  admitted = t.ready.admitted;
                  end_is = t.ready.end_is;
                  bound-is = done.bound-is ∙ ap (bound_of j) (sym done.held);
                  written =
                      ap (λ (g : Option Layout). with_layout g out') done.held
                      ∙ ap (with_layout (go_on_level j (numbers_at (set ns level r.number)) (suc level) (st.left - 1) (held_of j st.found out)).held) done.written
                      ∙ layout_after (piece_count j.kinds) _ _ out entries entries (λ e. e)
                      ∙ sym done.written;
                  running = z;
                  spans = done.spans;
                  sets = sets-back;
                };
                same = w ∙ sym (level_same j (numbers_at ns) (numbers_at (set ns level r.number)) level (suc r.number) st'.left (held_of j st'.found out') same-below) ∙ ap (λ (m : ℕ). try_level j (numbers_at ns) level m st'.left (held_of j st'.found out')) (sym (add-one r.number));
                lowered = omega (arith, done.lowered, t.lowered);
                written = over ∙ ap (λ (g : Option Layout). with_layout g out₀) (sym done.held);
                behind = done.behind ∙ t.behind;
              }
