-- The live sets: what is live is what is in a set, how a set changes when a piece is placed and when the best falls, and look-ahead by
-- counting members.
use mathlib.Core.Bool.{Bool, true, false, not, cond, ◌&&◌, ◌||◌, and-true, and-false, and_assoc}
use mathlib.Core.List.{List, [], ◌∷◌}
use mathlib.Core.Option.{Option, none, some}
use mathlib.Core.Path.{◌≡◌, refl, sym, ap, ◌∙◌}
use Prim.Native.Nat.{ℕ, ◌+◌, ◌*◌, max, ◌≤◌, ◌<◌}
use native.Mathlib.Omega.{arith}
use borrow.Author.Tests.{ltb-true, lt-ltb, le-ltb, eqb-true, eqb-false, le-leb, lt-leb, ne_eqb}
use lib.Dec.{leb, ltb, eqb}
use lib.ListN.{get_or}
use Rattle.model.specs.Candidate.{is_candidate, candidates}
use Rattle.model.specs.Content.{kind_count}
use Rattle.model.specs.Grid.{number_limit, set_words}
use Rattle.model.specs.Layout.{Entry, Layout, entry_of, entry_number, entry_extent, is_entry, conflict, largest_end, layout_length}
use Rattle.model.specs.Lists.{all, any, count_of, below, largest}
use Rattle.model.specs.Problem.{Problem}
use Rattle.model.specs.Search.{candidate_table, free, above_previous, beats, stays_below, live, length_of, copies_left, forward_check}
use Rattle.model.proofs.Lists.{and_both, and_four, all-below, below_all, not_both}
use Rattle.model.proofs.Numbers.{number-of_placement}
use Rattle.model.proofs.Search.Completions.{end-cons}
use Rattle.model.proofs.Search.ForwardCheck.{above-through}
use Rattle.model.proofs.Search.Pieces.{table_at}
use Rattle.stepping.specs.LiveSets.{set_of, bound_of, members_of, enough}
use Rattle.stepping.proofs.Counting.{count_of-keep, count_of-same, count_of-below, all-below-same}
use Rattle.stepping.proofs.Extents.{candidate-extent, candidate-entry, placed_end, candidate-below, limit_words}
use Rattle.stepping.proofs.Tests.{and_turn, and_last, not_or, ltb_max, ltb_plus, ltb_bounds}

-- If there is a member at all, the pieces placed end below the bound.
abbrev pub Open : Problem → Layout → ℕ → Type 0
Open j placed bound = (u m : ℕ) → set_of j placed bound u m ≡ true → largest_end j placed < bound

module _ (j : Problem) where
  -- ---- Members

  -- What a member is: four tests.
  pub member-parts : (placed : Layout) (bound u m : ℕ) → set_of j placed bound u m ≡ true
      → (is_candidate j u m ≡ true)
      × (free j placed (entry_of j u m) ≡ true)
      × (above_previous j placed (entry_of j u m) ≡ true)
      × (ltb (entry_extent j (entry_of j u m)) bound ≡ true)
  unfolding set_of
  member-parts placed bound u m e = and_four _ _ _ _ e

  -- What is no candidate is no member.
  pub no_member : (placed : Layout) (bound u m : ℕ) → is_candidate j u m ≡ false → set_of j placed bound u m ≡ false
  unfolding set_of
  no_member placed bound u m e = rw e

  -- The number of the entry of a number.
  pub entry-number : (t n : ℕ) → entry_number j (entry_of j t n) ≡ n
  unfolding entry_number entry_of
  entry-number t n = number-of_placement j.sheet n

  -- ---- Live is being a member, where the pieces placed end below the bound

  -- The length that the larger of two ends gives beats the best if both ends are below the bound.
  pub beats-bound : (h : Option Layout) (x l : ℕ) → x ≤ j.sheet.L → l ≤ j.sheet.L
      → beats (max x l + j.margin) (length_of j h) ≡ (ltb x (bound_of j h) && ltb l (bound_of j h))
  unfolding beats length_of bound_of layout_length
  beats-bound none x l p q = sym (and_both _ _ (lt-ltb x (j.sheet.L + 1) (omega arith)) (lt-ltb l (j.sheet.L + 1) (omega arith)))
  beats-bound (some es) x l p q = ltb_plus (max x l) (largest_end j es) j.margin ∙ ltb_max x l (largest_end j es)

  -- A candidate is live if it is a member and the pieces placed end below the bound. (What is placed are candidates, so all ends are at
  -- most L, and L + 1 bounds nothing.)
  pub live-member : (placed : Layout) (h : Option Layout) (u m : ℕ) → all (is_entry j) placed ≡ true → is_candidate j u m ≡ true
      → live j placed (length_of j h) u m ≡ (set_of j placed (bound_of j h) u m && ltb (largest_end j placed) (bound_of j h))
  unfolding live stays_below set_of layout_length
  live-member placed h u m a c =
      rw (end-cons j (entry_of j u m) placed, beats-bound h _ _ (candidate-extent j u m c) (placed_end j placed a), c)
      (and_turn (ltb (entry_extent j (entry_of j u m)) (bound_of j h)) (ltb (largest_end j placed) (bound_of j h))
      (above_previous j placed (entry_of j u m)) (free j placed (entry_of j u m)))

  -- ---- How a set changes

  -- Where nothing is placed the members are the candidates that end below the bound.
  pub set_first : (bound u m : ℕ) → set_of j [] bound u m ≡ (is_candidate j u m && ltb (entry_extent j (entry_of j u m)) bound)
  unfolding set_of free any above_previous
  set_first bound u m = rw (and-true, and-true)

  -- A lower bound drops the members that do not end below it.
  pub set-prune : (placed : Layout) (bound bound' u m : ℕ) → bound' ≤ bound
      → set_of j placed bound' u m ≡ (set_of j placed bound u m && ltb (entry_extent j (entry_of j u m)) bound')
  unfolding set_of
  set-prune placed bound bound' u m l =
      let earlier : Bool = is_candidate j u m && free j placed (entry_of j u m) && above_previous j placed (entry_of j u m) in
      ap (λ (b : Bool). earlier && b) (ltb_bounds (entry_extent j (entry_of j u m)) bound' bound l)
      ∙ sym (and_assoc earlier (ltb (entry_extent j (entry_of j u m)) bound) (ltb (entry_extent j (entry_of j u m)) bound'))

  -- In conflict with nothing after e was placed: with nothing before, and not with e.
  pub free-placed : (e : Entry) (placed : Layout) (x : Entry) → free j (e ∷ placed) x ≡ (free j placed x && not (conflict j e x))
  unfolding free any
  free-placed e placed x = not_or (conflict j e x) (any (λ f. conflict j f x) placed)

  -- Above the previous copy after e was placed: above the one before, and above e if that is of the same kind. Numbers rise.
  pub above-placed : (t n : ℕ) (placed : Layout) (u m : ℕ) → above_previous j placed (entry_of j t n) ≡ true
      → above_previous j (entry_of j t n ∷ placed) (entry_of j u m)
      ≡ (above_previous j placed (entry_of j u m) && (not (eqb t u) || ltb n m))
  unfolding above_previous entry_of
  above-placed t n placed u m a = go (eqb t u) refl (ltb n m) refl
    where
      e : Entry
      e = entry_of j t n

      x : Entry
      x = entry_of j u m

      go : (c : Bool) → eqb e.kind x.kind ≡ c → (b : Bool) → ltb n m ≡ b
          → cond (eqb e.kind x.kind) (ltb (entry_number j e) (entry_number j x)) (above_previous j placed x)
          ≡ (above_previous j placed x && (not c || b))
      go false q b d = rw q (sym (and-true (above_previous j placed x)))
      go true q false d = rw (q, entry-number t n, entry-number u m, d) (sym (and-false (above_previous j placed x)))
      go true q true d =
          let k : entry_number j e < entry_number j x = omega (arith, entry-number t n, entry-number u m, ltb-true n m d) in
          rw (q, entry-number t n, entry-number u m, d, above-through j placed e x (eqb-true _ _ q) k a)

  -- A piece placed drops the members in conflict with it, and of its own kind those up to its number.
  pub set-placed : (placed : Layout) (bound t n u m : ℕ) → set_of j placed bound t n ≡ true
      → set_of j (entry_of j t n ∷ placed) bound u m
      ≡ (set_of j placed bound u m && not (conflict j (entry_of j t n) (entry_of j u m)) && (not (eqb t u) || ltb n m))
  unfolding set_of
  set-placed placed bound t n u m e =
      rw (free-placed (entry_of j t n) placed (entry_of j u m), above-placed t n placed u m (member-parts placed bound t n e).2)
      (and_last (is_candidate j u m) (free j placed (entry_of j u m)) (above_previous j placed (entry_of j u m))
      (ltb (entry_extent j (entry_of j u m)) bound) (not (conflict j (entry_of j t n) (entry_of j u m))) (not (eqb t u) || ltb n m))

  -- ---- Look-ahead by counting members

  -- Where nothing is placed, what is placed ends below the bound if there is a member (`Open`): 0 is no more than where the member ends.
  pub start_open : (bound : ℕ) → Open j [] bound
  unfolding largest_end largest
  start_open bound u m e = omega (arith, ltb-true (entry_extent j (entry_of j u m)) bound (member-parts [] bound u m e).3)

  module _ (placed : Layout) (h : Option Layout) (a : all (is_entry j) placed ≡ true) (l : Open j placed (bound_of j h)) where
    -- A number is that of a live candidate exactly if it is a member, as long as the pieces placed end below the bound where there is one.
    pub member-live : (u m : ℕ) → (is_candidate j u m && live j placed (length_of j h) u m) ≡ set_of j placed (bound_of j h) u m
    member-live u m = go (is_candidate j u m) refl
      where
        implied : (a b : Bool) → (a ≡ true → b ≡ true) → (a && b) ≡ a
        implied true b f = f refl
        implied false b f = refl

        go : (c : Bool) → is_candidate j u m ≡ c → (c && live j placed (length_of j h) u m) ≡ set_of j placed (bound_of j h) u m
        go true e = live-member placed h u m a e ∙ implied (set_of j placed (bound_of j h) u m) (ltb (largest_end j placed) (bound_of j h)) (λ q. lt-ltb (largest_end j placed) (bound_of j h) (l u m q))
        go false e = sym (no_member placed (bound_of j h) u m e)

    -- So there are as many live candidates as members.
    pub count-live : (u : ℕ) → u < kind_count j.kinds
        → count_of (live j placed (length_of j h) u) (get_or (candidate_table j) u [])
        ≡ count_of (set_of j placed (bound_of j h) u) (below (number_limit j.sheet))
    unfolding candidates
    count-live u k =
        rw (table_at j u k)
        (count_of-keep (live j placed (length_of j h) u) (is_candidate j u) (below (number_limit j.sheet))
        ∙ count_of-same (λ m. is_candidate j u m && live j placed (length_of j h) u m) (set_of j placed (bound_of j h) u) (member-live u)
        (below (number_limit j.sheet)))

    -- Look-ahead: every kind has at least as many members as copies left.
    pub forward_counts : (left : List ℕ)
        → forward_check j (candidate_table j) left placed (length_of j h)
        ≡ all (λ u. leb (copies_left u left) (count_of (set_of j placed (bound_of j h) u) (below (number_limit j.sheet)))) (below (kind_count j.kinds))
    unfolding forward_check
    forward_counts left =
        all-below-same (λ u. leb (copies_left u left) (count_of (live j placed (length_of j h) u) (get_or (candidate_table j) u [])))
        (λ u. leb (copies_left u left) (count_of (set_of j placed (bound_of j h) u) (below (number_limit j.sheet)))) (kind_count j.kinds)
        (λ u k. ap (leb (copies_left u left)) (count-live u k))

  -- No number that the words have a bit for beyond the limit is a member.
  pub members_limit : (placed : Layout) (bound u : ℕ)
      → members_of j placed bound u ≡ count_of (set_of j placed bound u) (below (number_limit j.sheet))
  unfolding members_of
  members_limit placed bound u =
      count_of-below (set_of j placed bound u) (number_limit j.sheet) (set_words j.sheet * 64) (limit_words j.sheet) beyond
    where
      beyond : (m : ℕ) → number_limit j.sheet ≤ m → set_of j placed bound u m ≡ false
      beyond m l = go (is_candidate j u m) refl
        where
          go : (c : Bool) → is_candidate j u m ≡ c → set_of j placed bound u m ≡ false
          go true e = absurd (omega (arith, candidate-below j u m e))
          go false e = no_member placed bound u m e

  -- Look-ahead by what the words of the sets hold.
  pub forward_members : (left : List ℕ) (placed : Layout) (h : Option Layout) → all (is_entry j) placed ≡ true → Open j placed (bound_of j h)
      → forward_check j (candidate_table j) left placed (length_of j h)
      ≡ all (λ u. leb (copies_left u left) (members_of j placed (bound_of j h) u)) (below (kind_count j.kinds))
  forward_members left placed h a l =
      forward_counts placed h a l left
      ∙ all-below-same (λ u. leb (copies_left u left) (count_of (set_of j placed (bound_of j h) u) (below (number_limit j.sheet))))
      (λ u. leb (copies_left u left) (members_of j placed (bound_of j h) u)) (kind_count j.kinds)
      (λ u k. ap (leb (copies_left u left)) (sym (members_limit placed (bound_of j h) u)))

  -- It need look only at the kinds with copies left.
  pub forward_enough : (left : List ℕ) (placed : Layout) (h : Option Layout) → all (is_entry j) placed ≡ true → Open j placed (bound_of j h)
      → forward_check j (candidate_table j) left placed (length_of j h) ≡ enough j left placed (bound_of j h)
  unfolding enough
  forward_enough left placed h a l =
      forward_members left placed h a l
      ∙ all-below-same (λ u. leb (copies_left u left) (members_of j placed (bound_of j h) u))
      (λ u. eqb (copies_left u left) 0 || leb (copies_left u left) (members_of j placed (bound_of j h) u)) (kind_count j.kinds)
      (λ u k. spared (copies_left u left) (members_of j placed (bound_of j h) u))
    where
      spared : (c m : ℕ) → leb c m ≡ (eqb c 0 || leb c m)
      spared c m = go (eqb c 0) refl
        where
          go : (b : Bool) → eqb c 0 ≡ b → leb c m ≡ (b || leb c m)
          go true e = le-leb c m (omega (arith, eqb-true c 0 e))
          go false e = refl

  -- The sets are enough if each kind with copies left has as many members.
  pub enough-holds : (left : List ℕ) (placed : Layout) (bound : ℕ)
      → ((u : ℕ) → u < kind_count j.kinds → 0 < copies_left u left → copies_left u left ≤ members_of j placed bound u) → enough j left placed bound ≡ true
  unfolding enough
  enough-holds left placed bound f = below_all (λ u. eqb (copies_left u left) 0 || leb (copies_left u left) (members_of j placed bound u)) (kind_count j.kinds) each
    where
      each : (u : ℕ) → u < kind_count j.kinds → (eqb (copies_left u left) 0 || leb (copies_left u left) (members_of j placed bound u)) ≡ true
      each u k = go (eqb (copies_left u left) 0) refl
        where
          go : (b : Bool) → eqb (copies_left u left) 0 ≡ b → (b || leb (copies_left u left) (members_of j placed bound u)) ≡ true
          go true e = refl
          go false e = le-leb _ _ (f u k (positive (copies_left u left) (eqb-false _ _ e)))
            where
              positive : (c : ℕ) → (c ≡ 0 → ⊥) → 0 < c
              positive c g = omega arith

  -- They are not if some kind has fewer.
  pub enough-fails : (left : List ℕ) (placed : Layout) (bound u : ℕ) → u < kind_count j.kinds → members_of j placed bound u < copies_left u left
      → enough j left placed bound ≡ false
  unfolding enough
  enough-fails left placed bound u k l = go (enough j left placed bound) refl
    where
      test : ℕ → Bool
      test u = eqb (copies_left u left) 0 || leb (copies_left u left) (members_of j placed bound u)

      wrong : test u ≡ true → ⊥
      wrong e =
          not_both e
          (rw (ne_eqb (copies_left u left) 0 (λ q. omega arith), lt-leb (copies_left u left) (members_of j placed bound u) l))

      go : (b : Bool) → enough j left placed bound ≡ b → enough j left placed bound ≡ false
      go true e = absurd (wrong (all-below test (kind_count j.kinds) e u k))
      go false e = e

  -- ---- A member placed

  -- The pieces placed are still candidates, and still end below the bound.
  pub placed-admitted : (placed : Layout) (bound t n : ℕ) → set_of j placed bound t n ≡ true → all (is_entry j) placed ≡ true
      → all (is_entry j) (entry_of j t n ∷ placed) ≡ true
  unfolding all
  placed-admitted placed bound t n e a = and_both _ _ (candidate-entry j t n ∙ (member-parts placed bound t n e).0) a

  pub placed_below_lem : (placed : Layout) (bound t n : ℕ) → set_of j placed bound t n ≡ true → largest_end j placed < bound
      → largest_end j (entry_of j t n ∷ placed) < bound
  placed_below_lem placed bound t n e l =
      omega (arith, end-cons j (entry_of j t n) placed, ltb-true (entry_extent j (entry_of j t n)) bound (member-parts placed bound t n e).3)

  -- A member is live, as long as the pieces placed end below the bound.
  pub live-of_member : (placed : Layout) (h : Option Layout) (t n : ℕ) → all (is_entry j) placed ≡ true → largest_end j placed < bound_of j h
      → set_of j placed (bound_of j h) t n ≡ true → live j placed (length_of j h) t n ≡ true
  live-of_member placed h t n a l e =
      live-member placed h t n a (member-parts placed (bound_of j h) t n e).0 ∙ rw (e, lt-ltb (largest_end j placed) (bound_of j h) l)

  -- A candidate that is no member is not live.
  pub dead_of_member : (placed : Layout) (h : Option Layout) (t n : ℕ) → all (is_entry j) placed ≡ true → is_candidate j t n ≡ true
      → set_of j placed (bound_of j h) t n ≡ false → live j placed (length_of j h) t n ≡ false
  dead_of_member placed h t n a c e = live-member placed h t n a c ∙ rw e

  -- Where the pieces placed do not end below the bound, nothing is live.
  pub none-live : (placed : Layout) (h : Option Layout) (t n : ℕ) → all (is_entry j) placed ≡ true → bound_of j h ≤ largest_end j placed
      → live j placed (length_of j h) t n ≡ false
  unfolding live stays_below beats length_of bound_of layout_length
  none-live placed none t n a l = absurd (omega (arith, placed_end j placed a))
  none-live placed (some es) t n a l =
      rw (le-ltb (layout_length j (entry_of j t n ∷ placed)) (layout_length j es) (omega (arith, end-cons j (entry_of j t n) placed)))
