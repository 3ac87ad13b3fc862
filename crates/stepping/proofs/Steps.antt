-- The walk of one piece, number by number: which numbers are passed over, and what a number taken leads to, under a budget.
use mathlib.Core.Bool.{Bool, true, false}
use mathlib.Core.List.{List, [], ◌∷◌, ◌++◌, reverse}
use mathlib.Core.Option.{Option, some}
use mathlib.Core.Path.{◌≡◌, refl, sym, ap, ◌∙◌, subst}
use Prim.Native.Nat.{ℕ, zero, suc, ◌+◌, ◌-◌, ◌≤◌, ◌<◌}
use native.Mathlib.Omega.{arith}
use borrow.Author.Tests.{ltb-true, ltb-false}
use lib.Dec.{ltb, leb-zero}
use lib.ListN.{get_or}
use Rattle.model.specs.Candidate.{is_candidate, candidates}
use Rattle.model.specs.Content.{kind_count}
use Rattle.model.specs.Grid.{number_limit}
use Rattle.model.specs.Layout.{Layout, entry_of, is_entry, largest_end, layout_length}
use Rattle.model.specs.Lists.{all, keep, count_of, rising, below}
use Rattle.model.specs.Problem.{Problem}
use Rattle.model.specs.Search.{Step, Searched, step, searched, then, candidate_table, live, copies_left, forward_check, completed, try_candidates, search_pieces, length_of, latest}
use Rattle.model.proofs.Lists.{below_all, not_both}
use Rattle.model.proofs.Search.Completions.{length-reverse}
use Rattle.model.proofs.Search.Pieces.{table_at}
use Rattle.model.proofs.Search.Equations.{tries_end, tries_dead, tries_back, tries_deep}
use Rattle.stepping.specs.LiveSets.{set_of, bound_of, enough}
use Rattle.stepping.specs.Spending.{Spent, spent, spend, onward}
use Rattle.stepping.specs.Steps.{remaining, go_on, try_from, go_on_spent, try_from_spent}
use Rattle.stepping.proofs.Extents.{candidate-below}
use Rattle.stepping.proofs.LiveSets.{Open, member-parts, forward_enough, live-of_member, dead_of_member, none-live}
use Rattle.stepping.proofs.Spending.{spend-left-le, spend-end, spend-stops, spend-step, spend-append, onward-stopped, onward-goes}

-- ---- The candidates of a kind, from a number on

-- Numbers up to m, from one below it on.
rising-next : (n m : ℕ) → n < m → rising n (m - n) ≡ n ∷ rising (suc n) (m - suc n)
unfolding rising
rising-next n m h =
    let e : m - n ≡ suc (m - suc n) = omega arith in
    ap (rising n) e

-- And from m on.
rising-past : (n m : ℕ) → m ≤ n → rising n (m - n) ≡ []
unfolding rising
rising-past n m h =
    let e : m - n ≡ 0 = omega arith in
    ap (rising n) e

module _ (j : Problem) (t : ℕ) where
  -- The candidates of a kind are those from number 0 on.
  pub table-remaining : t < kind_count j.kinds → get_or (candidate_table j) t [] ≡ remaining j t 0
  unfolding remaining candidates below
  table-remaining h = table_at j t h ∙ ap (λ (m : ℕ). keep (is_candidate j t) (rising 0 m)) (omega arith)

  -- Past the limit there is none.
  pub remaining-past : (n : ℕ) → number_limit j.sheet ≤ n → remaining j t n ≡ []
  unfolding remaining keep
  remaining-past n h = rw (rising-past n (number_limit j.sheet) h)

  -- A number that is no candidate is passed over.
  pub remaining-skip : (n : ℕ) → is_candidate j t n ≡ false → remaining j t n ≡ remaining j t (suc n)
  unfolding remaining keep
  remaining-skip n e = go (ltb n (number_limit j.sheet)) refl
    where
      go : (b : Bool) → ltb n (number_limit j.sheet) ≡ b → remaining j t n ≡ remaining j t (suc n)
      go true d = rw (rising-next n (number_limit j.sheet) (ltb-true n (number_limit j.sheet) d), e)
      go false d =
          let l : number_limit j.sheet ≤ n = ltb-false n (number_limit j.sheet) d in
          remaining-past n l ∙ sym (remaining-past (suc n) (omega arith))

  -- A candidate comes first.
  pub remaining-take : (n : ℕ) → is_candidate j t n ≡ true → remaining j t n ≡ n ∷ remaining j t (suc n)
  unfolding remaining keep
  remaining-take n e = rw (rising-next n (number_limit j.sheet) (candidate-below j t n e), e)

-- ---- A candidate taken

-- With no piece left, look-ahead asks for nothing.
pub forward_last : (j : Problem) (cs : List (List ℕ)) (placed : Layout) (best : Option ℕ) → forward_check j cs [] placed best ≡ true
unfolding forward_check copies_left count_of
forward_last j cs placed best = below_all _ (kind_count j.kinds) (λ u h. leb-zero (count_of (live j placed best u) (get_or cs u [])))

module _ (j : Problem) (cs : List (List ℕ)) where
  -- Where look-ahead fails nothing is done; else the walk goes over the pieces left.
  pub goes_back : (left : List ℕ) (placed : Layout) (best : Option ℕ) → forward_check j cs left placed best ≡ false
      → go_on j cs left placed best ≡ searched [] best
  unfolding go_on
  goes_back left placed best e = rw (e, go_on)

  pub goes-deep : (left : List ℕ) (placed : Layout) (best : Option ℕ) → forward_check j cs left placed best ≡ true
      → go_on j cs left placed best ≡ search_pieces j cs left placed best
  unfolding go_on
  goes-deep left placed best e = rw (e, go_on)

  -- A live candidate is a step, which may complete a layout; then the walk goes on; then comes the next candidate, with the new best.
  pub tries_live : (t : ℕ) (left : List ℕ) (n : ℕ) (ns : List ℕ) (placed : Layout) (best : Option ℕ) → live j placed best t n ≡ true
      → try_candidates j cs (search_pieces j cs left) t left (n ∷ ns) placed best
      ≡ then (step (entry_of j t n) (completed left (entry_of j t n ∷ placed)) ∷ (go_on j cs left (entry_of j t n ∷ placed) best).steps)
      (try_candidates j cs (search_pieces j cs left) t left ns placed (go_on j cs left (entry_of j t n ∷ placed) best).best)
  unfolding completed
  tries_live t left n ns placed best e = go left (forward_check j cs left (entry_of j t n ∷ placed) best) refl
    where
      go : (left : List ℕ) (c : Bool) → forward_check j cs left (entry_of j t n ∷ placed) best ≡ c
          → try_candidates j cs (search_pieces j cs left) t left (n ∷ ns) placed best
          ≡ then (step (entry_of j t n) (completed left (entry_of j t n ∷ placed)) ∷ (go_on j cs left (entry_of j t n ∷ placed) best).steps)
          (try_candidates j cs (search_pieces j cs left) t left ns placed (go_on j cs left (entry_of j t n ∷ placed) best).best)
      go left true f =
          rw (goes-deep left (entry_of j t n ∷ placed) best f)
          (tries_deep j cs (search_pieces j cs left) t left n ns placed best e f)
      go [] false f = absurd (not_both (forward_last j cs (entry_of j t n ∷ placed) best) f)
      go (u ∷ left) false f =
          rw (goes_back (u ∷ left) (entry_of j t n ∷ placed) best f)
          (tries_back j cs (search_pieces j cs (u ∷ left)) t (u ∷ left) n ns placed best e f)

  -- Nothing live: the walk of the piece takes no step and leaves the best.
  pub tries_none : (t : ℕ) (left ns : List ℕ) (placed : Layout) (best : Option ℕ) → ((n : ℕ) → live j placed best t n ≡ false)
      → try_candidates j cs (search_pieces j cs left) t left ns placed best ≡ searched [] best
  tries_none t left [] placed best f = tries_end j cs (search_pieces j cs left) t left placed best
  tries_none t left (n ∷ ns) placed best f =
      tries_dead j cs (search_pieces j cs left) t left n ns placed best (f n) ∙ tries_none t left ns placed best f

  -- ---- The best told is the length of the layout held

  -- Whatever the budget: where the walk does not stop over these steps, from h held before them, the layout held has this length.
  abbrev pub Told : Option Layout → List Step → Option ℕ → Type 0
  Told h ss b = (k : ℕ) → (spend k h ss).stopped ≡ false → length_of j (spend k h ss).held ≡ b

  -- One step before steps of which that holds.
  told-step : (h : Option Layout) (s : Step) (ss : List Step) (b : Option ℕ) → Told (latest h s.completes) ss b → Told h (s ∷ ss) b
  unfolding spend
  told-step h s ss b f zero e = absurd (not_both refl e)
  told-step h s ss b f (suc k) e = f k e

  -- Steps, and then steps of which it holds from whatever layout of that length.
  told-then : (h : Option Layout) (ss ts : List Step) (b c : Option ℕ) → Told h ss b → ((g : Option Layout) → length_of j g ≡ b → Told g ts c)
      → Told h (ss ++ ts) c
  told-then h ss ts b c f g k e = go (spend k h ss).stopped refl
    where
      go : (x : Bool) → (spend k h ss).stopped ≡ x → length_of j (spend k h (ss ++ ts)).held ≡ c
      go true d = absurd (not_both (ap (λ (w : Spent). w.stopped) (spend-append k h ss ts ∙ onward-stopped (spend k h ss) ts d) ∙ d) e)
      go false d =
          let same : spend k h (ss ++ ts) ≡ spend (spend k h ss).left (spend k h ss).held ts =
          spend-append k h ss ts ∙ onward-goes (spend k h ss) ts d in
          rw same (g (spend k h ss).held (f k d) (spend k h ss).left (rw same at e))

  -- What follows a candidate taken, from the walk over the pieces left.
  told-goes : (left : List ℕ) (placed : Layout) (h : Option Layout)
      → Told (latest h (completed left placed)) (search_pieces j cs left placed (length_of j h)).steps (search_pieces j cs left placed (length_of j h)).best
      → Told (latest h (completed left placed)) (go_on j cs left placed (length_of j h)).steps (go_on j cs left placed (length_of j h)).best
  unfolding completed latest spend
  told-goes left placed h f = go left (forward_check j cs left placed (length_of j h)) refl f
    where
      go : (left : List ℕ) (c : Bool) → forward_check j cs left placed (length_of j h) ≡ c
          → Told (latest h (completed left placed)) (search_pieces j cs left placed (length_of j h)).steps (search_pieces j cs left placed (length_of j h)).best
          → Told (latest h (completed left placed)) (go_on j cs left placed (length_of j h)).steps (go_on j cs left placed (length_of j h)).best
      go left true d f = rw (goes-deep left placed (length_of j h) d) f
      go [] false d f = absurd (not_both (forward_last j cs placed (length_of j h)) d)
      go (u ∷ left) false d f = rw (goes_back (u ∷ left) placed (length_of j h) d) (λ k e. refl)

  -- The walk of one piece, from the walk over the pieces after it.
  told-tries : (t : ℕ) (left : List ℕ)
      → ((placed : Layout) (h : Option Layout)
      → Told (latest h (completed left placed)) (search_pieces j cs left placed (length_of j h)).steps (search_pieces j cs left placed (length_of j h)).best)
      → (ns : List ℕ) (placed : Layout) (h : Option Layout)
      → Told h (try_candidates j cs (search_pieces j cs left) t left ns placed (length_of j h)).steps
      (try_candidates j cs (search_pieces j cs left) t left ns placed (length_of j h)).best
  unfolding then
  told-tries t left f [] placed h = rw (tries_end j cs (search_pieces j cs left) t left placed (length_of j h)) (told_none h)
    where
      told_none : (h : Option Layout) → Told h [] (length_of j h)
      told_none h k e = ap (λ (w : Spent). length_of j w.held) (spend-end k h)
  told-tries t left f (n ∷ ns) placed h = go (live j placed (length_of j h) t n) refl (told-tries t left f ns placed)
    where
      tries : List ℕ → Option ℕ → Searched
      tries ns best = try_candidates j cs (search_pieces j cs left) t left ns placed best

      go : (c : Bool) → live j placed (length_of j h) t n ≡ c → ((g : Option Layout) → Told g (tries ns (length_of j g)).steps (tries ns (length_of j g)).best)
          → Told h (tries (n ∷ ns) (length_of j h)).steps (tries (n ∷ ns) (length_of j h)).best
      go false d ih = rw (tries_dead j cs (search_pieces j cs left) t left n ns placed (length_of j h) d) (ih h)
      go true d ih =
          rw (tries_live t left n ns placed (length_of j h) d)
          (told-step h _ _ _
          (told-then _ _ _ _ _ (told-goes left (entry_of j t n ∷ placed) h (f (entry_of j t n ∷ placed) h))
          (λ g q. subst (λ (b : Option ℕ). Told g (tries ns b).steps (tries ns b).best) q (ih g))))

  -- So it holds of the walk over the pieces left, together with the step that led into it (which records a complete layout).
  pub told-pieces : (left : List ℕ) (placed : Layout) (h : Option Layout)
      → Told (latest h (completed left placed)) (search_pieces j cs left placed (length_of j h)).steps (search_pieces j cs left placed (length_of j h)).best
  unfolding search_pieces completed latest length_of spend
  told-pieces [] placed h = λ k e. ap (λ (n : ℕ). some n) (length-reverse j placed)
  told-pieces (t ∷ left) placed h = told-tries t left (told-pieces left) (get_or cs t []) placed h

  -- It holds of what follows a candidate taken.
  pub told-go_on : (left : List ℕ) (placed : Layout) (h : Option Layout)
      → Told (latest h (completed left placed)) (go_on j cs left placed (length_of j h)).steps (go_on j cs left placed (length_of j h)).best
  told-go_on left placed h = told-goes left placed h (told-pieces left placed h)

-- ---- One piece, number by number

module _ (j : Problem) (t : ℕ) (left : List ℕ) (placed : Layout) where
  -- Past the limit of the numbers no step is taken.
  pub try_past : (best : Option ℕ) (n : ℕ) → number_limit j.sheet ≤ n → try_from j t left placed best n ≡ searched [] best
  unfolding try_from
  try_past best n l = rw (remaining-past j t n l) (tries_end j (candidate_table j) (search_pieces j (candidate_table j) left) t left placed best)

  -- All candidates of a kind are those from number 0 on: this is the walk over the pieces.
  pub try_pieces : (best : Option ℕ) → t < kind_count j.kinds → search_pieces j (candidate_table j) (t ∷ left) placed best ≡ try_from j t left placed best 0
  unfolding try_from search_pieces
  try_pieces best h = rw (table-remaining j t h)

  module _ (h : Option Layout) (a : all (is_entry j) placed ≡ true) where
    -- A number that is no member is passed over.
    pub try_skip : (n : ℕ) → set_of j placed (bound_of j h) t n ≡ false
        → try_from j t left placed (length_of j h) n ≡ try_from j t left placed (length_of j h) (suc n)
    unfolding try_from
    try_skip n e = go (is_candidate j t n) refl
      where
        tries : List ℕ → Searched
        tries ns = try_candidates j (candidate_table j) (search_pieces j (candidate_table j) left) t left ns placed (length_of j h)

        go : (c : Bool) → is_candidate j t n ≡ c → tries (remaining j t n) ≡ tries (remaining j t (suc n))
        go false d = ap tries (remaining-skip j t n d)
        go true d =
            ap tries (remaining-take j t n d)
            ∙ tries_dead j (candidate_table j) (search_pieces j (candidate_table j) left) t left n (remaining j t (suc n)) placed (length_of j h)
            (dead_of_member j placed h t n a d e)

    -- So are numbers among which there is no member.
    pub try_skip_to : (n m : ℕ) → n ≤ m → ((i : ℕ) → n ≤ i → i < m → set_of j placed (bound_of j h) t i ≡ false)
        → try_from j t left placed (length_of j h) n ≡ try_from j t left placed (length_of j h) m
    try_skip_to n m l f = go (m - n) n (omega arith) f
      where
        go : (d n : ℕ) → n + d ≡ m → ((i : ℕ) → n ≤ i → i < m → set_of j placed (bound_of j h) t i ≡ false)
            → try_from j t left placed (length_of j h) n ≡ try_from j t left placed (length_of j h) m
        go zero n e f = ap (try_from j t left placed (length_of j h)) (omega arith)
        go (suc d) n e f = try_skip n (f n (omega arith) (omega arith)) ∙ go d (suc n) (omega arith) (λ i p q. f i (omega arith) q)

    -- Where the pieces placed do not end below the bound, no step is taken.
    pub try_over : (n : ℕ) → bound_of j h ≤ largest_end j placed → try_from j t left placed (length_of j h) n ≡ searched [] (length_of j h)
    unfolding try_from
    try_over n l = tries_none j (candidate_table j) t left (remaining j t n) placed (length_of j h) (λ m. none-live j placed h t m a l)

    module _ (l : largest_end j placed < bound_of j h) (n : ℕ) (e : set_of j placed (bound_of j h) t n ≡ true) where
      -- A member is taken: its step, what follows it, then the numbers after it with the new best.
      pub try_takes : try_from j t left placed (length_of j h) n
          ≡ then (step (entry_of j t n) (completed left (entry_of j t n ∷ placed))
          ∷ (go_on j (candidate_table j) left (entry_of j t n ∷ placed) (length_of j h)).steps)
          (try_from j t left placed (go_on j (candidate_table j) left (entry_of j t n ∷ placed) (length_of j h)).best (suc n))
      unfolding try_from
      try_takes =
          rw (remaining-take j t n (member-parts j placed (bound_of j h) t n e).0)
          (tries_live j (candidate_table j) t left n (remaining j t (suc n)) placed (length_of j h) (live-of_member j placed h t n a l e))

      -- With the budget spent, the walk stops there.
      pub take-stops : try_from_spent j t left placed n 0 h ≡ spent 0 h true
      unfolding try_from_spent then
      take-stops = rw try_takes (spend-stops h _ _)

      -- Else the candidate is counted.
      taken : (k : ℕ) → 0 < k
          → try_from_spent j t left placed n k h
          ≡ onward (go_on_spent j left (entry_of j t n ∷ placed) (k - 1) h)
          (try_from j t left placed (go_on j (candidate_table j) left (entry_of j t n ∷ placed) (length_of j h)).best (suc n)).steps
      unfolding try_from_spent go_on_spent then
      taken k p = rw try_takes (spend-step k h _ _ p ∙ spend-append (k - 1) _ _ _)

      -- Else it is counted and the walk goes on; if that stops, it is all.
      pub take_ends : (k : ℕ) → 0 < k → (go_on_spent j left (entry_of j t n ∷ placed) (k - 1) h).stopped ≡ true
          → try_from_spent j t left placed n k h ≡ go_on_spent j left (entry_of j t n ∷ placed) (k - 1) h
      take_ends k p d = taken k p ∙ onward-stopped _ _ d

      -- If not, the numbers after it are tried, with what is left and held.
      pub take-goes : (k : ℕ) → 0 < k → (go_on_spent j left (entry_of j t n ∷ placed) (k - 1) h).stopped ≡ false
          → try_from_spent j t left placed n k h
          ≡ try_from_spent j t left placed (suc n) (go_on_spent j left (entry_of j t n ∷ placed) (k - 1) h).left
          (go_on_spent j left (entry_of j t n ∷ placed) (k - 1) h).held
      unfolding try_from_spent go_on_spent
      take-goes k p d =
          taken k p
          ∙ onward-goes _ _ d
          ∙ rw (told-go_on j (candidate_table j) left (entry_of j t n ∷ placed) h (k - 1) d)

    -- ---- The same under a budget of which k is left

    -- Numbers among which there is no member are passed over.
    pub spent-skip_to : (n m k : ℕ) → n ≤ m → ((i : ℕ) → n ≤ i → i < m → set_of j placed (bound_of j h) t i ≡ false)
        → try_from_spent j t left placed n k h ≡ try_from_spent j t left placed m k h
    unfolding try_from_spent
    spent-skip_to n m k l f = rw (try_skip_to n m l f)

    -- Where the pieces placed do not end below the bound, nothing is done.
    pub spent-over : (n k : ℕ) → bound_of j h ≤ largest_end j placed → try_from_spent j t left placed n k h ≡ spent k h false
    unfolding try_from_spent
    spent-over n k l = rw (try_over n l) (spend-end k h)

  -- Nor past the limit of the numbers.
  pub spent-past : (n k : ℕ) (h : Option Layout) → number_limit j.sheet ≤ n → try_from_spent j t left placed n k h ≡ spent k h false
  unfolding try_from_spent
  spent-past n k h l = rw (try_past (length_of j h) n l) (spend-end k h)

-- ---- What follows a candidate taken, under a budget of which k is left

module _ (j : Problem) (placed : Layout) (k : ℕ) (h : Option Layout) where
  -- It was the last piece: the layout is complete, and held.
  pub go_on-last : go_on_spent j [] placed k h ≡ spent k (some (reverse placed)) false
  unfolding go_on_spent completed latest search_pieces
  go_on-last =
      rw (goes-deep j (candidate_table j) [] placed (length_of j h) (forward_last j (candidate_table j) placed (length_of j h)))
      (spend-end k (some (reverse placed)))

  module _ (u : ℕ) (left : List ℕ) (a : all (is_entry j) placed ≡ true) (l : Open j placed (bound_of j h)) where
    -- Some kind has too few members: the candidate is given back.
    pub go_on-back : enough j (u ∷ left) placed (bound_of j h) ≡ false → go_on_spent j (u ∷ left) placed k h ≡ spent k h false
    unfolding go_on_spent completed latest
    go_on-back e = rw (goes_back j (candidate_table j) (u ∷ left) placed (length_of j h) (forward_enough j (u ∷ left) placed h a l ∙ e)) (spend-end k h)

    -- Else the next piece tries its candidates.
    pub go_on-deep : u < kind_count j.kinds → enough j (u ∷ left) placed (bound_of j h) ≡ true
        → go_on_spent j (u ∷ left) placed k h ≡ try_from_spent j u left placed 0 k h
    unfolding go_on_spent try_from_spent completed latest
    go_on-deep c e =
        rw (
          goes-deep j (candidate_table j) (u ∷ left) placed (length_of j h) (forward_enough j (u ∷ left) placed h a l ∙ e),
          try_pieces j u left placed (length_of j h) c,
        )

-- The budget does not grow.
pub go_on-left-le : (j : Problem) (left : List ℕ) (placed : Layout) (k : ℕ) (h : Option Layout) → (go_on_spent j left placed k h).left ≤ k
unfolding go_on_spent
go_on-left-le j left placed k h = spend-left-le k (latest h (completed left placed)) (go_on j (candidate_table j) left placed (length_of j h)).steps

-- The bound once a layout is complete: the largest end of the pieces placed.
pub bound-complete : (j : Problem) (placed : Layout) → bound_of j (some (reverse placed)) ≡ largest_end j placed
unfolding bound_of layout_length
bound-complete j placed = omega (arith, length-reverse j placed)
