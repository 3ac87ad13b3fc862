-- One induction over the walk: what it completes falls in length, and what it holds at its end is the first of the shortest completions.
use mathlib.Core.Bool.{true, false}
use mathlib.Core.List.Memᴰ
use mathlib.Core.List.{List, [], ◌∷◌, ◌++◌, reverse, Memᴰ}
use mathlib.Core.Logic.{◌⊎◌, inl, inr, ⊎_elim}
use mathlib.Core.Option.{Option, none, some}
use mathlib.Core.Path.{◌≡◌, refl, sym, ap, ◌∙◌, subst}
use Prim.Native.Nat.{ℕ, ◌≤◌, ◌<◌}
use native.Mathlib.Nat.{not-suc-le-zero}
use native.Mathlib.Omega.{arith}
use lib.ListN.{length, get_or}
use Rattle.model.specs.Layout.{Entry, Layout, entry_of, layout_length}
use Rattle.model.specs.Problem.{Problem}
use Rattle.model.specs.Search.{Step, Searched, step, searched, then, live, forward_check, completed, try_candidates, search_pieces, search_from, pieces, length_of, latest, best_after, latest}
use Rattle.words.proofs.Cases.{true_or_false, le_or_lt}
use Rattle.model.proofs.Lists.{not_both}
use Rattle.model.proofs.Sorted.{Above, Rising}
use Rattle.model.proofs.Search.Completions.{length-reverse, Shorter, NoShorter, shorter_or_not, shorter_lt, shorter_le, beats-shorter, shorter_beats, live-parts, live-first, Completes, CompletesWith, CompletesFrom, laid}
use Rattle.model.proofs.Search.Equations.{tries_end, tries_dead, tries_back, tries_deep, search_back, search_walks}
use Rattle.model.proofs.Search.ForwardCheck.{forward_keeps}

-- ---- The best after steps

-- The best after steps and more steps.
pub best_after-append : (h : Option Layout) (ss rs : List Step) → best_after h (ss ++ rs) ≡ best_after (best_after h ss) rs
unfolding best_after
best_after-append h [] rs = refl
best_after-append h (s ∷ ss) rs = best_after-append (latest h s.completes) ss rs

module _ (j : Problem) (G : Layout → Type 0) where
  -- A layout that a step completes, if it does, has the property G and is shorter than the one held.
  abbrev pub Improves : Option Layout → Option Layout → Type 0
  Improves h none = Unit {0}
  Improves h (some es) = G es × Shorter j (layout_length j es) h

  -- Each of the steps does so, from the layout held before them on.
  abbrev pub Falling : Option Layout → List Step → Type 0
  Falling h [] = Unit {0}
  Falling h (s ∷ ss) = Improves h s.completes × Falling (latest h s.completes) ss

  -- So do steps and then more steps.
  pub falling_append : (h : Option Layout) (ss rs : List Step) → Falling h ss → Falling (best_after h ss) rs → Falling h (ss ++ rs)
  unfolding best_after
  falling_append h [] rs f g = g
  falling_append h (s ∷ ss) rs f g = (f.0, falling_append (latest h s.completes) ss rs f.1 g)

-- ---- Orders on completions

-- The numbers are the same, or smaller at the first place where they differ.
abbrev pub NotAfter : List ℕ → List ℕ → Type 0
NotAfter [] [] = Unit {0}
NotAfter [] (m ∷ ms) = ⊥
NotAfter (n ∷ ns) [] = ⊥
NotAfter (n ∷ ns) (m ∷ ms) = (n < m) ⊎ ((n ≡ m) × NotAfter ns ms)

-- The first completion is shorter, or as long and not after the second.
abbrev pub Wins : Problem → (List ℕ → Layout) → List ℕ → List ℕ → Type 0
Wins j lay ns ms = (layout_length j (lay ns) < layout_length j (lay ms)) ⊎ ((layout_length j (lay ns) ≡ layout_length j (lay ms)) × NotAfter ns ms)

-- What is shorter than a completion that wins is shorter than what that wins against.
wins_lt : (j : Problem) (lay : List ℕ → Layout) (a : ℕ) (ns ms : List ℕ) → a < layout_length j (lay ns) → Wins j lay ns ms → a < layout_length j (lay ms)
wins_lt j lay a ns ms l (inl x) = omega arith
wins_lt j lay a ns ms l (inr x) = omega arith

module _ (j : Problem) (P : List ℕ → Type 0) (lay : List ℕ → Layout) where
  -- What a walk over the completions P makes of the layout held: it stays and no completion is shorter, or a shorter completion that wins
  -- against every completion takes its place.
  pub data Found (h h' : Option Layout) : Type 0 where
    stays : h' ≡ h → ((ns : List ℕ) → P ns → NoShorter j (layout_length j (lay ns)) h) → Found h h'
    finds : (ks : List ℕ) → P ks → h' ≡ some (reverse (lay ks)) → Shorter j (layout_length j (lay ks)) h
        → ((ns : List ℕ) → P ns → Wins j lay ks ns) → Found h h'

  -- What a walk did, from a layout held: the best told is the length of the layout held at its end, that one is found as it should be, and
  -- what was completed fell in length and has the property G.
  pub record Ran (G : Layout → Type 0) (h : Option Layout) (w : Searched) : Type 0 where
    pub told : w.best ≡ length_of j (best_after h w.steps)
    pub found : Found h (best_after h w.steps)
    pub falling : Falling j G h w.steps

-- Where no completion is shorter than the layout held, this one stays.
none-shorter : (j : Problem) (P : List ℕ → Type 0) (lay : List ℕ → Layout) (h : Option Layout)
    → ((ns : List ℕ) → P ns → Shorter j (layout_length j (lay ns)) h → ⊥) → Found j P lay h h
none-shorter j P lay h f = stays refl (λ ns p. ⊎_elim (λ s. absurd (f ns p s)) (λ s. s) (shorter_or_not j (layout_length j (lay ns)) h))

-- ---- One candidate, and then the others

-- A length below that of a layout held that was laid the other way round.
shorter_laid : (j : Problem) (a : ℕ) (h : Option Layout) (es : Layout) → h ≡ some (reverse es) → Shorter j a h → a < layout_length j es
shorter_laid j a h es e s = rw (length-reverse j es) at (subst (Shorter j a) e s)

-- And a length that is not below its length.
no_shorter_laid : (j : Problem) (a : ℕ) (h : Option Layout) (es : Layout) → h ≡ some (reverse es) → NoShorter j a h → layout_length j es ≤ a
no_shorter_laid j a h es e s = rw (length-reverse j es) at (subst (NoShorter j a) e s)

-- At most is below or equal.
lt_or_eq : (a b : ℕ) → a ≤ b → (a < b) ⊎ (a ≡ b)
lt_or_eq a b l = ⊎_elim (λ h. inr (omega arith)) (λ h. inl h) (le_or_lt b a)

module _ (j : Problem) (cs : List (List ℕ)) (t : ℕ) (ts : List ℕ) (es : Layout) where
  -- What holds of the completions that begin with n, and of those that begin with one of ns, holds of those that begin with one of n and ns.
  from_all : (n : ℕ) (ns : List ℕ) (C : List ℕ → Type 0) → ((ms : List ℕ) → CompletesWith j cs t ts es n ms → C (n ∷ ms))
      → ((ms : List ℕ) → CompletesFrom j cs t ts ns es ms → C ms) → (ms : List ℕ) → CompletesFrom j cs t ts (n ∷ ns) es ms → C ms
  from_all n ns C f g (m ∷ ms) c = go (Memᴰ.cases_cons c.0)
    where
      go : (m ≡ n) ⊎ Memᴰ m ns → C (m ∷ ms)
      go (inl e) = subst (λ (x : ℕ). C (x ∷ ms)) (sym e) (f ms (subst (λ (x : ℕ). CompletesWith j cs t ts es x ms) e c.1))
      go (inr d) = g (m ∷ ms) (d, c.1)
  from_all n ns C f g [] c = elim c [ ]

  -- One candidate more takes away no completion.
  from_tail : (n : ℕ) (ns ms : List ℕ) → CompletesFrom j cs t ts ns es ms → CompletesFrom j cs t ts (n ∷ ns) es ms
  from_tail n ns (m ∷ ms) c = (Memᴰ.tail c.0, c.1)
  from_tail n ns [] c = elim c [ ]

  -- Nothing begins with one of no candidates.
  from-none : (ms : List ℕ) → CompletesFrom j cs t ts [] es ms → ⊥
  from-none [] c = elim c [ ]
  from-none (m ∷ ms) c = Memᴰ.not-nil c.0

  -- A completion over t and ts begins with one of the candidates of t.
  from-whole : (ms : List ℕ) → Completes j cs (t ∷ ts) es ms → CompletesFrom j cs t ts (get_or cs t []) es ms
  from-whole (m ∷ ms) c = c
  from-whole [] c = elim c [ ]

  -- And the other way round.
  whole_from : (ms : List ℕ) → CompletesFrom j cs t ts (get_or cs t []) es ms → Completes j cs (t ∷ ts) es ms
  whole_from (m ∷ ms) c = c
  whole_from [] c = elim c [ ]

  -- A completion that begins with n is not after one that begins with a number above it.
  from-after : (n : ℕ) (ns ks ms : List ℕ) → Above n ns → CompletesFrom j cs t ts ns es ms → NotAfter (n ∷ ks) ms
  from-after n ns ks (m ∷ ms) above c = inl (above m c.0)
  from-after n ns ks [] above c = elim c [ ]

  -- A walk over the completions that begin with n, and then one over those that begin with one of ns, all above n.
  found-then : (n : ℕ) (ns : List ℕ) → Above n ns → (h h' h'' : Option Layout)
      → Found j (CompletesWith j cs t ts es n) (λ ms. laid j ts ms (entry_of j t n ∷ es)) h h'
      → Found j (CompletesFrom j cs t ts ns es) (λ ms. laid j (t ∷ ts) ms es) h' h''
      → Found j (CompletesFrom j cs t ts (n ∷ ns) es) (λ ms. laid j (t ∷ ts) ms es) h h''
  found-then n ns above h h' h'' (stays e f) (stays d g) =
      stays (d ∙ e) (from_all n ns (λ ms. NoShorter j (layout_length j (laid j (t ∷ ts) ms es)) h) f (λ ms c. subst (NoShorter j _) e (g ms c)))
  found-then n ns above h h' h'' (stays e f) (finds ks p d s w) =
      let s₁ : Shorter j (layout_length j (laid j (t ∷ ts) ks es)) h = subst (Shorter j _) e s in
      finds ks (from_tail n ns ks p) d s₁
      (from_all n ns (Wins j (λ ms. laid j (t ∷ ts) ms es) ks)
      (λ ms c. inl (shorter_lt j _ _ h s₁ (f ms c)))
      w)
  found-then n ns above h h' h'' (finds ks p e s w) (stays d g) =
      finds (n ∷ ks) (Memᴰ.head refl, p) (d ∙ e) s
      (from_all n ns (Wins j (λ ms. laid j (t ∷ ts) ms es) (n ∷ ks))
      (λ ms c. ⊎_elim (λ l. inl l) (λ q. inr (q.0, inr (refl, q.1))) (w ms c))
      (λ ms c. ⊎_elim (λ l. inl l) (λ q. inr (q, from-after n ns ks ms above c)) (lt_or_eq _ _ (no_shorter_laid j _ h' _ e (g ms c)))))
  found-then n ns above h h' h'' (finds ks p e s w) (finds ls q d r v) =
      let l : layout_length j (laid j (t ∷ ts) ls es) < layout_length j (laid j ts ks (entry_of j t n ∷ es)) = shorter_laid j _ h' _ e r in
      finds ls (from_tail n ns ls q) d (shorter_le j _ _ h (omega arith) s)
      (from_all n ns (Wins j (λ ms. laid j (t ∷ ts) ms es) ls)
      (λ ms c. inl (wins_lt j (λ ms. laid j ts ms (entry_of j t n ∷ es)) _ ks ms l (w ms c)))
      v)

-- ---- The induction

-- The same finding, over completions that are no others.
found-same : (j : Problem) (P Q : List ℕ → Type 0) (lay : List ℕ → Layout) (h h' : Option Layout) → ((ns : List ℕ) → P ns → Q ns) → ((ns : List ℕ) → Q ns → P ns)
    → Found j P lay h h' → Found j Q lay h h'
found-same j P Q lay h h' f g (stays e k) = stays e (λ ns q. k ns (g ns q))
found-same j P Q lay h h' f g (finds ks p e s w) = finds ks (f ks p) e s (λ ns q. w ns (g ns q))

module _ (j : Problem) (cs : List (List ℕ)) (G : Layout → Type 0) where
  -- What is promised of the walk over the pieces ts together with the step that led into it, since that step records the layout that it
  -- completes. G holds of every layout that completes what is placed.
  abbrev Enters : List ℕ → Type 0
  Enters ts =
      (e : Entry) (es : Layout) (h : Option Layout) → Shorter j (layout_length j es) h
      → ((ns : List ℕ) → Completes j cs ts es ns → G (reverse (laid j ts ns es)))
      → Ran j (Completes j cs ts es) (λ ns. laid j ts ns es) G h
      (searched (step e (completed ts es) ∷ (search_pieces j cs ts es (length_of j h)).steps) (search_pieces j cs ts es (length_of j h)).best)

  module _ (t : ℕ) (ts : List ℕ) where
    -- What is promised of trying the candidates ns.
    abbrev Tries : List ℕ → Layout → Option Layout → Type 0
    Tries ns es h =
        Ran j (CompletesFrom j cs t ts ns es) (λ ms. laid j (t ∷ ts) ms es) G h
        (try_candidates j cs (search_pieces j cs ts) t ts ns es (length_of j h))

    -- A candidate that is not live: no completion that begins with it is shorter than the layout held.
    dead_stays : (n : ℕ) (es : Layout) (h : Option Layout) → live j es (length_of j h) t n ≡ false
        → Found j (CompletesWith j cs t ts es n) (λ ms. laid j ts ms (entry_of j t n ∷ es)) h h
    dead_stays n es h e =
        none-shorter j (CompletesWith j cs t ts es n) (λ ms. laid j ts ms (entry_of j t n ∷ es)) h
        (λ ms c s. not_both (live-first j cs t ts es n ms (length_of j h) c (shorter_beats j _ h s)) e)

    -- A candidate that look-ahead gives back: the same.
    back_stays : (n : ℕ) (es : Layout) (h : Option Layout) → forward_check j cs ts (entry_of j t n ∷ es) (length_of j h) ≡ false
        → Found j (CompletesWith j cs t ts es n) (λ ms. laid j ts ms (entry_of j t n ∷ es)) h h
    back_stays n es h e =
        none-shorter j (CompletesWith j cs t ts es n) (λ ms. laid j ts ms (entry_of j t n ∷ es)) h
        (λ ms c s. not_both (forward_keeps j cs (length_of j h) ts (entry_of j t n ∷ es) ms c.2 (shorter_beats j _ h s)) e)

    module _ (n : ℕ) (ns : List ℕ) (above : Above n ns) (es : Layout) (h : Option Layout) (rest : (h : Option Layout) → Tries ns es h) where
      -- A candidate that is not live, and then the others.
      tries_dead_ran : live j es (length_of j h) t n ≡ false → Tries (n ∷ ns) es h
      tries_dead_ran e =
          let r = rest h in
          subst (Ran j (CompletesFrom j cs t ts (n ∷ ns) es) (λ ms. laid j (t ∷ ts) ms es) G h)
          (sym (tries_dead j cs (search_pieces j cs ts) t ts n ns es (length_of j h) e))
          (record { told = r.told; found = found-then j cs t ts es n ns above h h _ (dead_stays n es h e) r.found; falling = r.falling })

      -- A candidate that look-ahead gives back, and then the others.
      tries_back_ran : live j es (length_of j h) t n ≡ true → forward_check j cs ts (entry_of j t n ∷ es) (length_of j h) ≡ false → Tries (n ∷ ns) es h
      unfolding then best_after latest
      tries_back_ran e f =
          let r = rest h in
          subst (Ran j (CompletesFrom j cs t ts (n ∷ ns) es) (λ ms. laid j (t ∷ ts) ms es) G h)
          (sym (tries_back j cs (search_pieces j cs ts) t ts n ns es (length_of j h) e f))
          (record { told = r.told; found = found-then j cs t ts es n ns above h h _ (back_stays n es h f) r.found; falling = (tt, r.falling) })

      -- Steps that walked over the completions that begin with n, and then the other candidates.
      ran_then : (ss : List Step) (w : Searched)
          → Found j (CompletesWith j cs t ts es n) (λ ms. laid j ts ms (entry_of j t n ∷ es)) h (best_after h ss) → Falling j G h ss
          → Ran j (CompletesFrom j cs t ts ns es) (λ ms. laid j (t ∷ ts) ms es) G (best_after h ss) w
          → Ran j (CompletesFrom j cs t ts (n ∷ ns) es) (λ ms. laid j (t ∷ ts) ms es) G h (then ss w)
      unfolding then
      ran_then ss w f l r =
          let a : best_after h (ss ++ w.steps) ≡ best_after (best_after h ss) w.steps = best_after-append h ss w.steps in
          record {
            told = r.told ∙ ap (length_of j) (sym a);
            found =
                subst (Found j (CompletesFrom j cs t ts (n ∷ ns) es) (λ ms. laid j (t ∷ ts) ms es) h) (sym a)
                (found-then j cs t ts es n ns above h _ _ f r.found);
            falling = falling_append j G h ss w.steps l r.falling;
          }

      -- A candidate that look-ahead keeps, the walk behind it, and then the others.
      tries_deep_ran : Enters ts → ((ms : List ℕ) → CompletesFrom j cs t ts (n ∷ ns) es ms → G (reverse (laid j (t ∷ ts) ms es)))
          → live j es (length_of j h) t n ≡ true → forward_check j cs ts (entry_of j t n ∷ es) (length_of j h) ≡ true → Tries (n ∷ ns) es h
      tries_deep_ran enters g e f =
          let x : Entry = entry_of j t n in
          let parts = live-parts j es (length_of j h) t n e in
          let w : Searched = search_pieces j cs ts (x ∷ es) (length_of j h) in
          let ss : List Step = step x (completed ts (x ∷ es)) ∷ w.steps in
          let r = enters x (x ∷ es) h (beats-shorter j _ h parts.0) (λ ms c. g (n ∷ ms) (Memᴰ.head refl, (parts.1, parts.2, c))) in
          subst (Ran j (CompletesFrom j cs t ts (n ∷ ns) es) (λ ms. laid j (t ∷ ts) ms es) G h)
          (sym (tries_deep j cs (search_pieces j cs ts) t ts n ns es (length_of j h) e f))
          (ran_then ss (try_candidates j cs (search_pieces j cs ts) t ts ns es w.best)
          (found-same j (Completes j cs ts (x ∷ es)) (CompletesWith j cs t ts es n) (λ ms. laid j ts ms (x ∷ es)) h (best_after h ss)
          (λ ms c. (parts.1, parts.2, c)) (λ ms c. c.2) r.found)
          r.falling
          (subst (λ (b : Option ℕ). Ran j (CompletesFrom j cs t ts ns es) (λ ms. laid j (t ∷ ts) ms es) G (best_after h ss) (try_candidates j cs (search_pieces j cs ts) t ts ns es b))
          (sym r.told) (rest (best_after h ss))))

    -- No candidate at all.
    tries_none-ran : (es : Layout) (h : Option Layout) → Tries [] es h
    unfolding best_after
    tries_none-ran es h =
        subst (Ran j (CompletesFrom j cs t ts [] es) (λ ms. laid j (t ∷ ts) ms es) G h) (sym (tries_end j cs (search_pieces j cs ts) t ts es (length_of j h)))
        (record { told = refl; found = stays refl (λ ms c. absurd (from-none j cs t ts es ms c)); falling = tt })

    -- Trying the candidates of a piece, given what is promised of the pieces after it.
    pub tries_ran : Enters ts → (ns : List ℕ) → Rising ns → (es : Layout) (h : Option Layout)
        → ((ms : List ℕ) → CompletesFrom j cs t ts ns es ms → G (reverse (laid j (t ∷ ts) ms es))) → Tries ns es h
    tries_ran enters [] rise es h g = tries_none-ran es h
    tries_ran enters (n ∷ ns) rise es h g =
        go (true_or_false (live j es (length_of j h) t n)) (true_or_false (forward_check j cs ts (entry_of j t n ∷ es) (length_of j h)))
        (λ k. tries_ran enters ns rise.1 es k (λ ms c. g ms (from_tail j cs t ts es n ns ms c)))
      where
        go : (live j es (length_of j h) t n ≡ true) ⊎ (live j es (length_of j h) t n ≡ false)
            → (forward_check j cs ts (entry_of j t n ∷ es) (length_of j h) ≡ true) ⊎ (forward_check j cs ts (entry_of j t n ∷ es) (length_of j h) ≡ false)
            → ((h : Option Layout) → Tries ns es h) → Tries (n ∷ ns) es h
        go (inr e) f rest = tries_dead_ran n ns rise.0 es h rest e
        go (inl e) (inr f) rest = tries_back_ran n ns rise.0 es h rest e f
        go (inl e) (inl f) rest = tries_deep_ran n ns rise.0 es h rest enters g e f

  -- The walk over no piece more: the layout is complete, and there is no other completion.
  only_empty : (es : Layout) (ns : List ℕ) → Completes j cs [] es ns → Wins j (λ ns. laid j [] ns es) [] ns
  only_empty es [] c = inr (refl, tt)
  only_empty es (n ∷ ns) c = absurd c

  -- The walk over the pieces t and ts, without the step that led into it.
  abbrev Walks : ℕ → List ℕ → Layout → Option Layout → Type 0
  Walks t ts es h =
      Ran j (Completes j cs (t ∷ ts) es) (λ ns. laid j (t ∷ ts) ns es) G h (search_pieces j cs (t ∷ ts) es (length_of j h))

  -- It is trying the candidates of t.
  walks_ran : ((t : ℕ) → Rising (get_or cs t [])) → (t : ℕ) (ts : List ℕ) → Enters ts → (es : Layout) (h : Option Layout)
      → ((ns : List ℕ) → Completes j cs (t ∷ ts) es ns → G (reverse (laid j (t ∷ ts) ns es))) → Walks t ts es h
  unfolding search_pieces
  walks_ran rise t ts deeper es h g =
      let r = tries_ran t ts deeper (get_or cs t []) (rise t) es h (λ ms c. g ms (whole_from j cs t ts es ms c)) in
      record {
        told = r.told;
        found =
            found-same j (CompletesFrom j cs t ts (get_or cs t []) es) (Completes j cs (t ∷ ts) es) (λ ns. laid j (t ∷ ts) ns es) h _
            (whole_from j cs t ts es) (from-whole j cs t ts es) r.found;
        falling = r.falling;
      }

  -- The walk over the pieces left, whatever they are, where each type's candidates rise.
  enters : ((t : ℕ) → Rising (get_or cs t [])) → (ts : List ℕ) → Enters ts
  unfolding search_pieces completed best_after latest length_of
  enters rise [] e es h s g =
      record {
        told = ap {B = Option ℕ} (λ (n : ℕ). some n) (sym (length-reverse j es));
        found = finds [] tt refl s (only_empty es);
        falling = ((g [] tt, rw (length-reverse j es) s), tt);
      }
  enters rise (t ∷ ts) e es h s g =
      let r = walks_ran rise t ts (enters rise ts) es h g in
      record { told = r.told; found = r.found; falling = (tt, r.falling) }

  -- The walk over all pieces, without look-ahead before the first step; there is a piece.
  pieces-ran : ((t : ℕ) → Rising (get_or cs t [])) → (ts : List ℕ) → 0 < length ts → (h : Option Layout)
      → ((ns : List ℕ) → Completes j cs ts [] ns → G (reverse (laid j ts ns [])))
      → Ran j (Completes j cs ts []) (λ ns. laid j ts ns []) G h (search_pieces j cs ts [] (length_of j h))
  pieces-ran rise [] p h g = absurd (not-suc-le-zero p)
  pieces-ran rise (t ∷ ts) p h g = walks_ran rise t ts (enters rise ts) [] h g

  -- The walk over all pieces; there is a piece.
  pub search_ran : ((t : ℕ) → Rising (get_or cs t [])) → 0 < length (pieces j.kinds) → (h : Option Layout)
      → ((ns : List ℕ) → Completes j cs (pieces j.kinds) [] ns → G (reverse (laid j (pieces j.kinds) ns [])))
      → Ran j (Completes j cs (pieces j.kinds) []) (λ ns. laid j (pieces j.kinds) ns []) G h (search_from j cs (length_of j h))
  unfolding best_after
  search_ran rise p h g = go (true_or_false (forward_check j cs (pieces j.kinds) [] (length_of j h)))
    where
      go : (forward_check j cs (pieces j.kinds) [] (length_of j h) ≡ true) ⊎ (forward_check j cs (pieces j.kinds) [] (length_of j h) ≡ false)
          → Ran j (Completes j cs (pieces j.kinds) []) (λ ns. laid j (pieces j.kinds) ns []) G h (search_from j cs (length_of j h))
      go (inl e) =
          subst (Ran j (Completes j cs (pieces j.kinds) []) (λ ns. laid j (pieces j.kinds) ns []) G h) (sym (search_walks j cs (length_of j h) e))
          (pieces-ran rise (pieces j.kinds) p h g)
      go (inr e) =
          subst (Ran j (Completes j cs (pieces j.kinds) []) (λ ns. laid j (pieces j.kinds) ns []) G h) (sym (search_back j cs (length_of j h) e))
          (record {
            told = refl;
            found =
                none-shorter j (Completes j cs (pieces j.kinds) []) (λ ns. laid j (pieces j.kinds) ns []) h
                (λ ns c s. not_both (forward_keeps j cs (length_of j h) (pieces j.kinds) [] ns c (shorter_beats j _ h s)) e);
            falling = tt;
          })
