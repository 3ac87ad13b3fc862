-- The theorems about the whole walk: what its steps complete, and what it holds at its end.
use mathlib.Core.Bool.{false}
use mathlib.Core.List.Memᴰ
use mathlib.Core.List.{List, [], ◌∷◌, ◌++◌, map, reverse}
use mathlib.Core.Logic.{◌⊎◌, inl, inr, ⊎_elim}
use mathlib.Core.Option.{Option, none, some, some-injective}
use mathlib.Core.Path.{◌≡◌, refl, sym, ap, ◌∙◌, subst, subst₂}
use Prim.Native.Nat.{ℕ, zero, suc, ◌≤◌, ◌<◌}
use native.Mathlib.Nat.{le_refl}
use native.Mathlib.Omega.{arith}
use lib.ListN.{length, take}
use Rattle.model.specs.Content.{piece_count}
use Rattle.model.specs.Demand3.{Completed}
use Rattle.model.specs.Layout.{Layout, entry_number, layout_length, Passes, Before, FirstOfShortest}
use Rattle.model.specs.Problem.{Problem}
use Rattle.model.specs.Search.{Step, Searched, pieces, candidate_table, forward_check, search_from, steps_from, length_of, latest, best_after}
use Rattle.model.proofs.Search.Completions.{length-reverse, Shorter, NoShorter, shorter_or_not, shorter_le, shorter_not, shorter_lt, shorter_beats, Completes, laid}
use Rattle.model.proofs.Lists.{not_both}
use Rattle.model.proofs.Search.Equations.{search_back}
use Rattle.model.proofs.Search.ForwardCheck.{forward_keeps}
use Rattle.model.proofs.Search.Optimal.{Improves, Falling, Wins, Found, stays, finds, Ran, search_ran}
use Rattle.model.proofs.Search.Passing.{laid_layout, completion_passes, completion_length, passing-completes, not_after-before}
use Rattle.model.proofs.Accepted.{Sensible}
use Rattle.model.proofs.Search.Pieces.{length-pieces, table-rises}

-- ---- Completed layouts

-- Without a step nothing is completed.
completed-nil : (es : Layout) → Completed [] es → ⊥
completed-nil es c = Memᴰ.not-nil c.1

-- Of steps, the first completes the layout, or one of the others does.
completed-cases : (s : Step) (ss : List Step) (es : Layout) → Completed (s ∷ ss) es → (s.completes ≡ some es) ⊎ Completed ss es
completed-cases s ss es c =
    ⊎_elim (λ q. inl (sym (ap (λ (x : Step). x.completes) q) ∙ c.2)) (λ d. inr (c.0, d, c.2)) (Memᴰ.cases_cons c.1)

-- ---- Falling lengths

module _ (j : Problem) (G : Layout → Type 0) where
  -- The first of falling steps fall.
  falling_front : (h : Option Layout) (ss rs : List Step) → Falling j G h (ss ++ rs) → Falling j G h ss
  falling_front h [] rs f = tt
  falling_front h (s ∷ ss) rs f = (f.0, falling_front (latest h s.completes) ss rs f.1)

  -- So do the first k of them.
  falling_take : (h : Option Layout) (k : ℕ) (ss : List Step) → Falling j G h ss → Falling j G h (take k ss)
  falling_take h zero ss f = tt
  falling_take h (suc k) [] f = tt
  falling_take h (suc k) (s ∷ ss) f = (f.0, falling_take (latest h s.completes) k ss f.1)

  -- Each step improves on the layout held before it.
  falling_at : (h : Option Layout) (before : List Step) (s : Step) (after : List Step) → Falling j G h (before ++ s ∷ after)
      → Improves j G (best_after h before) s.completes
  unfolding best_after
  falling_at h [] s after f = f.0
  falling_at h (r ∷ before) s after f = falling_at (latest h r.completes) before s after f.1

  -- What is shorter than what is held after a step is shorter than what was held before it.
  latest-shorter : (n : ℕ) (h l : Option Layout) → Improves j G h l → Shorter j n (latest h l) → Shorter j n h
  unfolding latest
  latest-shorter n h none i s = s
  latest-shorter n h (some es) i s = shorter_le j n (layout_length j es) h (omega arith) i.1

  -- Whatever the steps complete has the property G and is shorter than the layout held before them.
  falling_improves : (h : Option Layout) (ss : List Step) → Falling j G h ss → (es : Layout) → Completed ss es → G es × Shorter j (layout_length j es) h
  falling_improves h [] f es c = absurd (completed-nil es c)
  falling_improves h (r ∷ ss) f es c =
      go (completed-cases r ss es c) (falling_improves (latest h r.completes) ss f.1 es)
    where
      go : (r.completes ≡ some es) ⊎ Completed ss es → (Completed ss es → G es × Shorter j (layout_length j es) (latest h r.completes))
          → G es × Shorter j (layout_length j es) h
      go (inl e) ih = subst (Improves j G h) e f.0
      go (inr d) ih = ((ih d).0, latest-shorter (layout_length j es) h r.completes f.0 (ih d).1)

  -- What is held after a step is no longer than what was held before it.
  latest-holds : (n : ℕ) (h l : Option Layout) → Improves j G h l → NoShorter j n h → NoShorter j n (latest h l)
  unfolding latest
  latest-holds n h none i k = k
  latest-holds n h (some es) i k = let l : layout_length j es < n = shorter_lt j _ _ h i.1 k in omega arith

  -- What is held after steps is no longer than what was held before them.
  falling_holds : (h : Option Layout) (ss : List Step) → Falling j G h ss → (n : ℕ) → NoShorter j n h → NoShorter j n (best_after h ss)
  unfolding best_after
  falling_holds h [] f n k = k
  falling_holds h (s ∷ ss) f n k = falling_holds (latest h s.completes) ss f.1 n (latest-holds n h s.completes f.0 k)

  -- "The best layout of the steps taken is the shortest that they completed": nothing that they complete is shorter.
  falling_shortest : (h : Option Layout) (ss : List Step) → Falling j G h ss → (es : Layout) → Completed ss es
      → NoShorter j (layout_length j es) (best_after h ss)
  unfolding best_after latest
  falling_shortest h [] f es c = absurd (completed-nil es c)
  falling_shortest h (r ∷ ss) f es c =
      ⊎_elim
      (λ e. falling_holds (latest h r.completes) ss f.1 (layout_length j es)
      (subst (λ (l : Option Layout). NoShorter j (layout_length j es) (latest h l)) (sym e) (le_refl (layout_length j es))))
      (falling_shortest (latest h r.completes) ss f.1 es) (completed-cases r ss es c)

-- What is held after steps was held before them, or one of them completed it.
pub held-or_completed : (h : Option Layout) (ss : List Step) → (best_after h ss ≡ h) ⊎ ((es : Layout) × Completed ss es × (best_after h ss ≡ some es))
unfolding best_after latest
held-or_completed h [] = inl refl
held-or_completed h (s ∷ ss) =
    ⊎_elim (go s.completes refl) (λ r. inr (r.0, (r.1.0, Memᴰ.tail r.1.1, r.1.2), r.2)) (held-or_completed (latest h s.completes) ss)
  where
    go : (l : Option Layout) → s.completes ≡ l → best_after (latest h s.completes) ss ≡ latest h s.completes
        → (best_after (latest h s.completes) ss ≡ h) ⊎ ((es : Layout) × Completed (s ∷ ss) es × (best_after (latest h s.completes) ss ≡ some es))
    go none e q = inl (q ∙ ap (latest h) e)
    go (some es) e q = inr (es, (s, Memᴰ.head refl, e), q ∙ ap (latest h) e)

-- ---- The whole walk

-- A layout that passes, with its N entries.
abbrev pub Laid : Problem → Layout → Type 0
Laid j es = Passes j es × (length es ≡ piece_count j.kinds)

-- So does what a walk begins with, if it begins with a layout.
abbrev pub BeginLaid : Problem → Option Layout → Type 0
BeginLaid j none = Unit {0}
BeginLaid j (some es) = Laid j es

module _ (j : Problem) (ok : Sensible j) where
  -- The induction, for the whole walk: completions are the layouts that pass.
  walk_ran : (h : Option Layout) → Ran j (Completes j (candidate_table j) (pieces j.kinds) []) (λ ns. laid j (pieces j.kinds) ns []) (Laid j) h (search_from j (candidate_table j) (length_of j h))
  walk_ran h =
      search_ran j (candidate_table j) (Laid j) (table-rises j) (rw (length-pieces j.kinds) ok.pieced) h
      (λ ns c. (completion_passes j ns c, completion_length j ns c))

  -- What its steps complete falls in length and passes.
  walk_falls : (h : Option Layout) → Falling j (Laid j) h (steps_from j h)
  unfolding steps_from
  walk_falls h = (walk_ran h).falling

  -- Every layout that a step of the walk completes passes, has N entries, and is shorter than the best before that step.
  pub step-completes : (h : Option Layout) (before : List Step) (s : Step) (after : List Step) → steps_from j h ≡ before ++ s ∷ after
      → (es : Layout) → s.completes ≡ some es → Laid j es × Shorter j (layout_length j es) (best_after h before)
  step-completes h before s after q es e =
      subst (Improves j (Laid j) (best_after h before)) e (falling_at j (Laid j) h before s after (subst (Falling j (Laid j) h) q (walk_falls h)))

  -- Each completed layout is shorter than every one completed before it.
  pub steps-fall : (h : Option Layout) (before : List Step) (s : Step) (after : List Step) → steps_from j h ≡ before ++ s ∷ after
      → (es fs : Layout) → s.completes ≡ some es → Completed before fs → layout_length j es < layout_length j fs
  steps-fall h before s after q es fs e c =
      let f : Falling j (Laid j) h (before ++ s ∷ after) = subst (Falling j (Laid j) h) q (walk_falls h) in
      shorter_lt j _ _ (best_after h before) (step-completes h before s after q es e).1
      (falling_shortest j (Laid j) h before (falling_front j (Laid j) h before (s ∷ after) f) fs c)

  -- Every layout that the first k steps complete passes and has N entries, and it is shorter than the best that the walk began with.
  pub completed-laid : (h : Option Layout) (k : ℕ) (es : Layout) → Completed (take k (steps_from j h)) es → Laid j es × Shorter j (layout_length j es) h
  completed-laid h k es c = falling_improves j (Laid j) h (take k (steps_from j h)) (falling_take j (Laid j) h k (steps_from j h) (walk_falls h)) es c

  -- None that they complete is shorter than the best after them.
  pub completed-no_shorter : (h : Option Layout) (k : ℕ) (es : Layout) → Completed (take k (steps_from j h)) es
      → NoShorter j (layout_length j es) (best_after h (take k (steps_from j h)))
  completed-no_shorter h k es c = falling_shortest j (Laid j) h (take k (steps_from j h)) (falling_take j (Laid j) h k (steps_from j h) (walk_falls h)) es c

  -- What is held after steps and is shorter than what was held before them was completed by one of them.
  held-completed : (h : Option Layout) (ss : List Step) (es : Layout) → best_after h ss ≡ some es → Shorter j (layout_length j es) h → Completed ss es
  held-completed h ss es e s =
      ⊎_elim (λ q. absurd (shorter_not j _ h s (subst (NoShorter j (layout_length j es)) (sym e ∙ q) (le_refl (layout_length j es)))))
      (λ r. subst (Completed ss) (some-injective r.0 es (sym r.2 ∙ e)) r.1) (held-or_completed h ss)

  -- ---- What is held at the end

  -- No completion is shorter than the layout held, and so no layout that passes is.
  none_passes : (h : Option Layout)
      → ((ns : List ℕ) → Completes j (candidate_table j) (pieces j.kinds) [] ns → NoShorter j (layout_length j (laid j (pieces j.kinds) ns [])) h)
      → (fs : Layout) → Passes j fs → NoShorter j (layout_length j fs) h
  none_passes h f fs p =
      let c = passing-completes j ok fs p in
      subst (λ (n : ℕ). NoShorter j n h) (sym (length-reverse j _) ∙ ap (layout_length j) c.1) (f (map (entry_number j) fs) c.0)

  module _ (ks : List ℕ) (c : Completes j (candidate_table j) (pieces j.kinds) [] ks)
      (wins : (ns : List ℕ) → Completes j (candidate_table j) (pieces j.kinds) [] ns → Wins j (λ ns. laid j (pieces j.kinds) ns []) ks ns) where
    -- A completion that wins against every completion, beside a layout that passes.
    wins_against : (fs : Layout) → Passes j fs
        → (layout_length j (reverse (laid j (pieces j.kinds) ks [])) < layout_length j fs)
        ⊎ ((reverse (laid j (pieces j.kinds) ks []) ≡ fs) ⊎ Before j (reverse (laid j (pieces j.kinds) ks [])) fs)
        × (layout_length j (reverse (laid j (pieces j.kinds) ks [])) ≤ layout_length j fs)
    wins_against fs p = go (wins ns q.0)
      where
        ns : List ℕ
        ns = map (entry_number j) fs

        q : Completes j (candidate_table j) (pieces j.kinds) [] ns × (reverse (laid j (pieces j.kinds) ns []) ≡ fs)
        q = passing-completes j ok fs p

        ours : layout_length j (reverse (laid j (pieces j.kinds) ks [])) ≡ layout_length j (laid j (pieces j.kinds) ks [])
        ours = length-reverse j (laid j (pieces j.kinds) ks [])

        theirs : layout_length j fs ≡ layout_length j (laid j (pieces j.kinds) ns [])
        theirs = ap (layout_length j) (sym q.1) ∙ length-reverse j (laid j (pieces j.kinds) ns [])

        go : Wins j (λ ns. laid j (pieces j.kinds) ns []) ks ns
            → (layout_length j (reverse (laid j (pieces j.kinds) ks [])) < layout_length j fs)
            ⊎ ((reverse (laid j (pieces j.kinds) ks []) ≡ fs) ⊎ Before j (reverse (laid j (pieces j.kinds) ks [])) fs)
            × (layout_length j (reverse (laid j (pieces j.kinds) ks [])) ≤ layout_length j fs)
        go (inl l) = inl (omega (arith, ours, theirs))
        go (inr a) =
            inr (
              ⊎_elim (λ e. inl (laid_layout j (pieces j.kinds) ks ∙ e ∙ sym (laid_layout j (pieces j.kinds) ns) ∙ q.1))
                  (λ b. inr (subst₂ (Before j) (sym (laid_layout j (pieces j.kinds) ks)) (sym (laid_layout j (pieces j.kinds) ns) ∙ q.1) b))
                  (not_after-before j (pieces j.kinds) ks ns a.1),
              omega (arith, ours, theirs, a.0),
            )

    -- It lays out the first of the shortest.
    wins_first : FirstOfShortest j (reverse (laid j (pieces j.kinds) ks []))
    wins_first =
        record {
          passing = completion_passes j ks c;
          shortest = λ fs p. ⊎_elim (λ l. omega arith) (λ b. b.1) (wins_against fs p);
          first = λ fs p e d. ⊎_elim (λ l. absurd (omega arith)) (λ b. ⊎_elim (λ q. absurd (d (sym q))) (λ x. x) b.0) (wins_against fs p);
        }

  -- The walk ends with the first of the shortest, or with the best that it began with, and then no passing layout is shorter than that.
  pub walk_ends : (h : Option Layout)
      → ((es : Layout) × (best_after h (steps_from j h) ≡ some es) × FirstOfShortest j es × Shorter j (layout_length j es) h)
      ⊎ ((best_after h (steps_from j h) ≡ h) × ((fs : Layout) → Passes j fs → NoShorter j (layout_length j fs) h))
  unfolding steps_from
  walk_ends h = go (walk_ran h).found
    where
      go : Found j (Completes j (candidate_table j) (pieces j.kinds) []) (λ ns. laid j (pieces j.kinds) ns []) h (best_after h (steps_from j h))
          → ((es : Layout) × (best_after h (steps_from j h) ≡ some es) × FirstOfShortest j es × Shorter j (layout_length j es) h)
          ⊎ ((best_after h (steps_from j h) ≡ h) × ((fs : Layout) → Passes j fs → NoShorter j (layout_length j fs) h))
      go (stays e f) = inr (e, none_passes h f)
      go (finds ks c e s w) = inl (reverse (laid j (pieces j.kinds) ks []), e, wins_first ks c w, rw (length-reverse j (laid j (pieces j.kinds) ks [])) s)

  -- If some layout passes that is shorter than the best that the walk begins with, the walk completes one, and the last that it completes
  -- is the first of the shortest. While it begins with none, every layout is shorter.
  pub walk_finds : (h : Option Layout) (fs : Layout) → Passes j fs → Shorter j (layout_length j fs) h
      → (es : Layout) × Completed (steps_from j h) es × (best_after h (steps_from j h) ≡ some es) × FirstOfShortest j es
  walk_finds h fs p s =
      ⊎_elim (λ r. (r.0, held-completed h (steps_from j h) r.0 r.1 r.3, r.1, r.2)) (λ r. absurd (shorter_not j _ h s (r.1 fs p))) (walk_ends h)

  -- If none does, the walk completes none, and the best that it began with stays. While it begins with none, this says that no layout
  -- passes.
  pub walk_keeps : (h : Option Layout) → ((fs : Layout) → Passes j fs → NoShorter j (layout_length j fs) h)
      → (best_after h (steps_from j h) ≡ h) × ((es : Layout) → Completed (steps_from j h) es → ⊥)
  walk_keeps h f = (
    ⊎_elim (λ r. absurd (shorter_not j _ h r.3 (f r.0 r.2.passing))) (λ r. r.0) (walk_ends h),
    λ es c. let i = falling_improves j (Laid j) h (steps_from j h) (walk_falls h) es c in shorter_not j _ h i.1 (f es i.0.0),
  )

  -- Where look-ahead fails before the first step, the walk takes none, and no passing layout is shorter than the best that it begins with.
  pub no_first-step : (h : Option Layout) → forward_check j (candidate_table j) (pieces j.kinds) [] (length_of j h) ≡ false
      → (steps_from j h ≡ []) × ((fs : Layout) → Passes j fs → NoShorter j (layout_length j fs) h)
  unfolding steps_from
  no_first-step h e = (
    ap (λ (w : Searched). w.steps) (search_back j (candidate_table j) (length_of j h) e),
    none_passes h (λ ns c. ⊎_elim (λ s. absurd (not_both (forward_keeps j (candidate_table j) (length_of j h) (pieces j.kinds) [] ns c (shorter_beats j _ h s)) e)) (λ s. s) (shorter_or_not j _ h)),
  )

  -- If no layout that passes is shorter than the one that the walk begins with, it completes none, and that one stays, which is as short as any.
  pub none-shorter_passes : (begin : Layout) → ((fs : Layout) → Passes j fs → layout_length j fs < layout_length j begin → ⊥)
      → (best_after (some begin) (steps_from j (some begin)) ≡ some begin)
      × ((es : Layout) → Completed (steps_from j (some begin)) es → ⊥)
      × ((fs : Layout) → Passes j fs → layout_length j begin ≤ layout_length j fs)
  none-shorter_passes begin f =
      let l : (fs : Layout) → Passes j fs → layout_length j begin ≤ layout_length j fs =
      λ fs q. ⊎_elim (λ s. absurd (f fs q s)) (λ s. s) (shorter_or_not j (layout_length j fs) (some begin)) in
      ((walk_keeps (some begin) l).0, (walk_keeps (some begin) l).1, l)
