-- What follows a candidate taken: a complete layout, look-ahead that fails, or the next piece.
use mathlib.Core.Bool.{Bool, true, false}
use mathlib.Core.List.{List, reverse}
use mathlib.Core.Logic.{◌⊎◌, inl, inr}
use mathlib.Core.Option.{some}
use mathlib.Core.Path.{◌≡◌, refl, sym, ap, ◌∙◌, subst}
use Prim.Native.Nat.{ℕ, zero, suc, ◌+◌, ◌≤◌, ◌<◌}
use native.Mathlib.Omega.{arith}
use lib.ListN.{length, length-map}
use Rattle.words.proofs.Cases.{eq_or_ne}
use Rattle.model.specs.Candidate.{is_candidate}
use Rattle.model.specs.Content.{kind_at, kind_count, piece_count}
use Rattle.model.specs.Grid.{dots, number_limit}
use Rattle.model.specs.Layout.{Layout, entry_of, entry_at, no_entry, is_entry, largest_end}
use Rattle.model.specs.Lists.{all, below}
use Rattle.model.specs.Problem.{Problem}
use Rattle.model.specs.Search.{copies_left}
use Rattle.model.specs.Services.{layout_in, with_layout}
use Rattle.model.proofs.Lists.{and_left, and_right, length-below, get_or-map-below}
use Rattle.model.proofs.ReadBack.{Small, read-layout}
use Rattle.stepping.specs.LiveSets.{bound_of, enough, Keeps}
use Rattle.stepping.specs.Levels.{piece_kind, pieces_from, placed_below, try_level, go_on_level, numbers_at, placed_of}
use Rattle.stepping.specs.Slots.{slot_of}
use Rattle.stepping.specs.Spending.{spent}
use Rattle.bounding.specs.Trimmed.{Admitted, Lowered}
use Rattle.lookahead.specs.Settled.{SetsKept, Placeable, Settled}
use Rattle.plans.specs.Recording.{layout_of, Recordable}
use Rattle.walks.specs.Walk.{held_of, Ready, Taken, Left}
use Rattle.runs.specs.Told.{completed}
use Rattle.runs.specs.declared.progress.Progress.{Progress}
use Rattle.stepping.proofs.Extents.{candidate-entry, candidate-below, candidate-bounds, bounds_small}
use Rattle.stepping.proofs.Levels.{placed-layout, level_last, level_back, level_deep}
use Rattle.stepping.proofs.Kept.{kept-candidate}
use Rattle.stepping.proofs.LiveSets.{Open, start_open}
use Rattle.stepping.proofs.Slots.{slot-member, keeps-frame}
use Rattle.walks.proofs.Lowered.{lowered-sets, lowered-spans}
use Rattle.stepping.proofs.Steps.{bound-complete}

module _ (j : Problem) (ns : List ℕ) where
  -- ---- The pieces placed are candidates

  pub placed-candidates : (l : ℕ) → all (is_entry j) (placed_of j ns l) ≡ true → (i : ℕ) → i < l → is_candidate j (piece_kind j.kinds i) (numbers_at ns i) ≡ true
  unfolding placed_below all
  placed-candidates zero a i h = absurd (omega arith)
  placed-candidates (suc l) a i h = go (eq_or_ne i l) (placed-candidates l (and_right (is_entry j (entry_of j (piece_kind j.kinds l) (numbers_at ns l))) _ a) i)
    where
      go : (i ≡ l) ⊎ (i ≡ l → ⊥) → (i < l → is_candidate j (piece_kind j.kinds i) (numbers_at ns i) ≡ true) → is_candidate j (piece_kind j.kinds i) (numbers_at ns i) ≡ true
      go (inl e) r = rw e (sym (candidate-entry j (piece_kind j.kinds l) (numbers_at ns l)) ∙ and_left (is_entry j (entry_of j (piece_kind j.kinds l) (numbers_at ns l))) _ a)
      go (inr e) r = r (omega arith)

  -- The layout of all pieces, in its order.
  pub layout_placed : reverse (placed_of j ns (piece_count j.kinds)) ≡ layout_of j ns
  unfolding layout_of
  layout_placed = placed-layout j (numbers_at ns) (piece_count j.kinds)

  module _ (few-dots : dots j.sheet ≤ 1024) (few-kinds : kind_count j.kinds ≤ 8) (a : all (is_entry j) (placed_of j ns (piece_count j.kinds)) ≡ true) where
    -- Its numbers are small, so that it is read back as it was written.
    pub numbers_small : (l : ℕ) → l < piece_count j.kinds → numbers_at ns l < 4096
    unfolding number_limit
    numbers_small l h = omega (arith, candidate-below j (piece_kind j.kinds l) (numbers_at ns l) (placed-candidates (piece_count j.kinds) a l h))

    pub layout_back : (out : List ℕ) → layout_in j (with_layout (some (layout_of j ns)) out) ≡ layout_of j ns
    unfolding layout_of
    layout_back out = read-layout j (layout_of j ns) out count small
      where
        count : length (layout_of j ns) ≡ piece_count j.kinds
        count = length-map (below (piece_count j.kinds)) _ ∙ length-below (piece_count j.kinds)

        small : (i : ℕ) → i < length (layout_of j ns) → Small (entry_at (layout_of j ns) i)
        small i h =
            let k : i < piece_count j.kinds = rw (← count) h in
            let e : entry_at (layout_of j ns) i ≡ entry_of j (piece_kind j.kinds i) (numbers_at ns i) = get_or-map-below _ (piece_count j.kinds) i no_entry k in
            rw e (bounds_small j _ (omega arith) (candidate-bounds j (piece_kind j.kinds i) (numbers_at ns i) few-dots (placed-candidates (piece_count j.kinds) a i k)))

  module _ (level end : ℕ) (work out : List ℕ) (st : Progress) (r : Ready j work out ns level level end st) (under : 0 < level → end < st.bound) where
    -- ---- The last piece was placed

    pub record_ready : dots j.sheet ≤ 1024 → kind_count j.kinds ≤ 8 → level ≡ piece_count j.kinds → Recordable j ns out
    record_ready d k e =
        record { small = numbers_small d k (subst (λ (l : ℕ). all (is_entry j) (placed_of j ns l) ≡ true) e r.admitted); fits = r.out-fits }

    -- The sets of a complete layout's levels can be trimmed: their members are candidates.
    pub lower-ready : level ≡ piece_count j.kinds → Admitted j st.span work
    lower-ready e l u m hl hu c h q =
        kept-candidate j (placed_of j ns l) st.bound st.span u (slot_of j work l u) (r.sets l u (omega arith) hu c) m h (slot-member j work l u m ∙ q)

    pub go_last : (work' out' : List ℕ) (left : ℕ) (st' : Progress) → st' ≡ completed st end left → dots j.sheet ≤ 1024 → kind_count j.kinds ≤ 8
        → ((u : ℕ) → u < kind_count j.kinds → 0 < (kind_at j.kinds u).demand) → 0 < level → level ≡ piece_count j.kinds
        → out' ≡ with_layout (some (layout_of j ns)) out → Lowered j end st.span work work' left
        → Left j ns work out work' out' level st st' (go_on_level j (numbers_at ns) level st.left (held_of j st.found out))
    go_last work' out' left st' q d k demanded one e o v =
        let w : go_on_level j (numbers_at ns) level st.left (held_of j st.found out) ≡ spent st.left (some (layout_of j ns)) false =
        ap (λ (l : ℕ). go_on_level j (numbers_at ns) l st.left (held_of j st.found out)) e
        ∙ level_last j (numbers_at ns) st.left (held_of j st.found out)
        ∙ ap (λ (es : Layout). spent st.left (some es) false) layout_placed in
        let a : all (is_entry j) (placed_of j ns (piece_count j.kinds)) ≡ true = subst (λ (l : ℕ). all (is_entry j) (placed_of j ns l) ≡ true) e r.admitted in
        let sets : SetsKept j ns (piece_count j.kinds) st.bound st.span work = subst (λ (l : ℕ). SetsKept j ns l st.bound st.span work) e r.sets in
        rw (w, q) (record {
          left = refl;
          stopped = refl;
          held = ap some (ap (layout_in j) o ∙ layout_back d k a out);
          bound-is = r.end_is ∙ ap (λ (l : ℕ). largest_end j (placed_of j ns l)) e ∙ sym (bound-complete j (placed_of j ns (piece_count j.kinds))) ∙ ap (λ (es : Layout). bound_of j (some es)) layout_placed;
          lowered = omega (arith, under one);
          written = o;
          spans = lowered-spans j ns st.bound st.span end left work work' r.spans sets (omega (arith, under one)) v (rw (← e) one) demanded;
          sets = subst (λ (l : ℕ). SetsKept j ns l end left work') (sym e) (lowered-sets j ns st.bound st.span end left work work' r.spans sets (omega (arith, under one)) v);
          behind = v.trimmed.behind;
        })

    -- ---- Look-ahead

    pub settle_ready : level < piece_count j.kinds → Taken j ns level end st → Placeable j ns level st.bound st.span work
    settle_ready h t = record { within = h; fits = r.work-fits; later = t.some; latest = t.latest; spans = r.spans; sets = r.sets }

    short : 0 < level → largest_end j (placed_of j ns level) < bound_of j (held_of j st.found out)
    short h = rw (← r.end_is, ← r.bound-is) (under h)

    -- If there is a member, what is placed ends below the bound, also where nothing is placed.
    is_open : Open j (placed_of j ns level) (bound_of j (held_of j st.found out))
    unfolding placed_below
    is_open = go level refl
      where
        go : (l : ℕ) → level ≡ l → Open j (placed_of j ns l) (bound_of j (held_of j st.found out))
        go zero e u m h = start_open j (bound_of j (held_of j st.found out)) u m h
        go (suc l) e u m h = subst (λ (l : ℕ). largest_end j (placed_of j ns l) < bound_of j (held_of j st.found out)) e (short (omega arith))

    -- It fails: the candidate is given back.
    pub go_back : (work' : List ℕ) (told : Bool) → level < piece_count j.kinds → told ≡ false → Settled j ns level st.bound st.span work work' told
        → Left j ns work out work' out level st st (go_on_level j (numbers_at ns) level st.left (held_of j st.found out))
    go_back work' told h e s =
        let w : go_on_level j (numbers_at ns) level st.left (held_of j st.found out) ≡ spent st.left (held_of j st.found out) false =
        level_back j (numbers_at ns) level (held_of j st.found out) r.admitted is_open st.left h
        (ap (enough j (pieces_from j.kinds level) (placed_of j ns level)) (sym r.bound-is) ∙ sym s.answer ∙ e) in
        rw w (record {
          left = refl;
          stopped = r.running;
          held = refl;
          bound-is = r.bound-is;
          lowered = omega arith;
          written = sym r.written;
          spans = r.spans;
          sets = λ l u h g k. keeps-frame j (placed_of j ns l) st.bound st.span l level u work work' r.spans.within h g s.frame (r.sets l u h g k);
          behind = s.frame.behind;
        })

    -- It holds: the next piece tries its candidates.
    pub deep_ready : (work' : List ℕ) (told : Bool) → told ≡ true → Settled j ns level st.bound st.span work work' told → length work' ≡ length work
        → Ready j work' out ns level (level + 1) end st
    deep_ready work' told e s q =
        record {
          work-fits = rw q r.work-fits;
          out-fits = r.out-fits;
          room = r.room;
          admitted = r.admitted;
          end_is = r.end_is;
          bound-is = r.bound-is;
          written = r.written;
          running = r.running;
          spans = r.spans;
          sets = λ l u h g k. sets l u h g k (eq_or_ne l level);
        }
      where
        sets : (l u : ℕ) → l < level + 1 → u < kind_count j.kinds → 0 < copies_left u (pieces_from j.kinds l) → (l ≡ level) ⊎ (l ≡ level → ⊥)
            → Keeps j (placed_of j ns l) st.bound st.span u (slot_of j work' l u)
        sets l u h g k (inl c) =
            subst (λ (l : ℕ). Keeps j (placed_of j ns l) st.bound st.span u (slot_of j work' l u)) (sym c)
            (s.kept e u g (subst (λ (l : ℕ). 0 < copies_left u (pieces_from j.kinds l)) c k))
        sets l u h g k (inr c) = keeps-frame j (placed_of j ns l) st.bound st.span l level u work work' r.spans.within (omega arith) g s.frame (r.sets l u (omega arith) g k)

    pub go_deep : (work' work'' out' : List ℕ) (st' : Progress) (told : Bool) → level < piece_count j.kinds → told ≡ true → Settled j ns level st.bound st.span work work' told
        → Left j ns work' out work'' out' (level + 1) st st' (try_level j (numbers_at ns) level 0 st.left (held_of j st.found out))
        → Left j ns work out work'' out' level st st' (go_on_level j (numbers_at ns) level st.left (held_of j st.found out))
    go_deep work' work'' out' st' told h e s d =
        let w : go_on_level j (numbers_at ns) level st.left (held_of j st.found out) ≡ try_level j (numbers_at ns) level 0 st.left (held_of j st.found out) =
        level_deep j (numbers_at ns) level (held_of j st.found out) r.admitted is_open st.left h
        (ap (enough j (pieces_from j.kinds level) (placed_of j ns level)) (sym r.bound-is) ∙ sym s.answer ∙ e) in
        rw w (record {
          left = d.left;
          stopped = d.stopped;
          held = d.held;
          bound-is = d.bound-is;
          lowered = d.lowered;
          written = d.written;
          spans = d.spans;
          sets = λ l u h. d.sets l u (omega arith);
          behind = d.behind ∙ s.frame.behind;
        })
