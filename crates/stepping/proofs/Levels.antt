-- The levels of the search, and the whole walk as what follows once nothing is placed.
use mathlib.Core.Bool.{true, false, cond}
use mathlib.Core.List.{List, [], ◌∷◌, ◌++◌, map, reverse, reverse-cons, map-append, Memᴰ}
use mathlib.Core.Option.{Option, some}
use mathlib.Core.Path.{◌≡◌, refl, sym, ap, ◌∙◌}
use Prim.Native.Nat.{ℕ, zero, suc, ◌+◌, ◌*◌, ◌-◌, ◌≤◌, ◌<◌}
use native.Mathlib.Omega.{arith}
use lib.Dec.{ltb, eqb}
use lib.ListN.{length, get_or, length-drop, drop_of_length-le}
use lib.Seq.{drop-cons}
use Rattle.model.specs.Content.{Kind, kind_count, piece_count}
use Rattle.model.specs.Grid.{number_limit}
use Rattle.model.specs.Layout.{Layout, entry_of, is_entry, largest_end}
use Rattle.model.specs.Lists.{all, count_of, rising, below}
use Rattle.model.specs.Problem.{Problem}
use Rattle.model.specs.Search.{pieces, completed, latest, search_from, steps_from, held, copies_left}
use Rattle.std.specs.Prelude.{Ok}
use Rattle.model.specs.Services.{run_outcome, run_from, verdict, words_in, numbers_in, work_words, cleared, with_layout}
use Rattle.model.proofs.Search.Pieces.{length-pieces, mem_pieces}
use Rattle.stepping.specs.LiveSets.{set_of, bound_of, enough}
use Rattle.stepping.specs.Levels.{piece_kind, pieces_from, placed_below, try_level, go_on_level, walk_spent}
use Rattle.stepping.specs.Spending.{Spent, spent, spend, answer_of}
use Rattle.stepping.specs.Steps.{go_on, go_on_spent, Entries}
use Rattle.stepping.proofs.Counting.{below_suc}
use Rattle.stepping.proofs.Held.{go_on-entries}
use Rattle.stepping.proofs.LiveSets.{Open}
use Rattle.stepping.proofs.Steps.{spent-over, spent-past, take-stops, take_ends, take-goes, go_on-last, go_on-back, go_on-deep}
use Rattle.stepping.proofs.Spending.{held-spent, verdict-spent}

-- An element is in its list.
get_or-mem : (ns : List ℕ) (i d : ℕ) → i < length ns → Memᴰ (get_or ns i d) ns
get_or-mem [] i d h = absurd (omega arith)
get_or-mem (n ∷ ns) zero d h = Memᴰ.head refl
get_or-mem (n ∷ ns) (suc i) d h = Memᴰ.tail (get_or-mem ns i d (omega arith))

-- ---- The pieces from a level on

module _ (ks : List Kind) where
  -- The first of them and the others; none past the last; how many.
  pub pieces-next : (l : ℕ) → l < piece_count ks → pieces_from ks l ≡ piece_kind ks l ∷ pieces_from ks (suc l)
  unfolding pieces_from piece_kind
  pieces-next l h = drop-cons (pieces ks) l 0 (rw (length-pieces ks) h)

  pub pieces_end : (l : ℕ) → piece_count ks ≤ l → pieces_from ks l ≡ []
  unfolding pieces_from
  pieces_end l h = drop_of_length-le (pieces ks) {i = l} (rw (length-pieces ks) h)

  pub pieces-left : (l : ℕ) → length (pieces_from ks l) ≡ piece_count ks - l
  unfolding pieces_from
  pieces-left l = rw (length-drop, length-pieces ks)

  -- The kind of a piece is one of the kinds.
  pub piece_kind_lem : (l : ℕ) → l < piece_count ks → piece_kind ks l < kind_count ks
  unfolding piece_kind
  piece_kind_lem l h = mem_pieces ks (get_or (pieces ks) l 0) (get_or-mem (pieces ks) l 0 (rw (length-pieces ks) h))

  -- The copies left of a kind: one less after each piece of the kind.
  pub copies-next : (u l : ℕ) → l < piece_count ks → copies_left u (pieces_from ks l) ≡ cond (eqb u (piece_kind ks l)) 1 0 + copies_left u (pieces_from ks (suc l))
  unfolding copies_left count_of
  copies-next u l h = rw (pieces-next l h)

module _ (j : Problem) where
  -- ---- The pieces placed

  -- One piece more.
  pub placed-next : (numbers : ℕ → ℕ) (l : ℕ) → placed_below j numbers (suc l) ≡ entry_of j (piece_kind j.kinds l) (numbers l) ∷ placed_below j numbers l
  unfolding placed_below
  placed-next numbers l = refl

  -- As many as the level says.
  pub placed-count : (numbers : ℕ → ℕ) (l : ℕ) → length (placed_below j numbers l) ≡ l
  unfolding placed_below
  placed-count numbers zero = refl
  placed-count numbers (suc l) = ap suc (placed-count numbers l)

  -- They depend on the numbers of their own levels only.
  pub placed_same : (f g : ℕ → ℕ) (l : ℕ) → ((i : ℕ) → i < l → f i ≡ g i) → placed_below j f l ≡ placed_below j g l
  unfolding placed_below
  placed_same f g zero e = refl
  placed_same f g (suc l) e = rw (e l (omega arith), placed_same f g l (λ i h. e i (omega arith)))

  -- In the order of the layout.
  pub placed-layout : (numbers : ℕ → ℕ) (l : ℕ) → reverse (placed_below j numbers l) ≡ map (λ i. entry_of j (piece_kind j.kinds i) (numbers i)) (below l)
  unfolding placed_below below rising
  placed-layout numbers zero = refl
  placed-layout numbers (suc l) =
      reverse-cons (entry_of j (piece_kind j.kinds l) (numbers l)) (placed_below j numbers l)
      ∙ ap (λ (es : Layout). es ++ entry_of j (piece_kind j.kinds l) (numbers l) ∷ []) (placed-layout numbers l)
      ∙ sym (ap (map (λ i. entry_of j (piece_kind j.kinds i) (numbers i))) (below_suc l) ∙ map-append (λ i. entry_of j (piece_kind j.kinds i) (numbers i)) (below l) (l ∷ []))

  -- ---- The walk, level by level

  -- It depends on the numbers of the levels below only.
  pub level_same : (f g : ℕ → ℕ) (l n k : ℕ) (h : Option Layout) → ((i : ℕ) → i < l → f i ≡ g i) → try_level j f l n k h ≡ try_level j g l n k h
  unfolding try_level
  level_same f g l n k h e = rw (placed_same f g l e)

  -- All pieces are placed: the layout is complete, and held.
  pub level_last : (numbers : ℕ → ℕ) (k : ℕ) (h : Option Layout)
      → go_on_level j numbers (piece_count j.kinds) k h ≡ spent k (some (reverse (placed_below j numbers (piece_count j.kinds)))) false
  unfolding go_on_level
  level_last numbers k h = rw (pieces_end j.kinds (piece_count j.kinds) (omega arith)) (go_on-last j (placed_below j numbers (piece_count j.kinds)) k h)

  -- The layout held has N entries, if the one at the start has.
  pub placed-entries : (numbers : ℕ → ℕ) (l k : ℕ) (h : Option Layout) → l ≤ piece_count j.kinds → Entries (piece_count j.kinds) h
      → Entries (piece_count j.kinds) (go_on_level j numbers l k h).held
  unfolding go_on_level
  placed-entries numbers l k h c p =
      go_on-entries j (pieces_from j.kinds l) (placed_below j numbers l) k h (piece_count j.kinds) (omega (arith, pieces-left j.kinds l, placed-count numbers l)) p

  module _ (numbers : ℕ → ℕ) (l : ℕ) (h : Option Layout) (a : all (is_entry j) (placed_below j numbers l) ≡ true) where
    -- Where the pieces placed do not end below the bound, nothing is done; nor past the limit of the numbers.
    pub level_over : (n k : ℕ) → bound_of j h ≤ largest_end j (placed_below j numbers l) → try_level j numbers l n k h ≡ spent k h false
    unfolding try_level
    level_over n k c = spent-over j (piece_kind j.kinds l) (pieces_from j.kinds (suc l)) (placed_below j numbers l) h a n k c

    pub level_past : (n k : ℕ) → number_limit j.sheet ≤ n → try_level j numbers l n k h ≡ spent k h false
    unfolding try_level
    level_past n k c = spent-past j (piece_kind j.kinds l) (pieces_from j.kinds (suc l)) (placed_below j numbers l) n k h c

    module _ (b : Open j (placed_below j numbers l) (bound_of j h)) where
      -- With a piece left, look-ahead gives the latest candidate back, or the next piece tries its candidates.
      pub level_back : (k : ℕ) → l < piece_count j.kinds → enough j (pieces_from j.kinds l) (placed_below j numbers l) (bound_of j h) ≡ false
          → go_on_level j numbers l k h ≡ spent k h false
      unfolding go_on_level
      level_back k c e =
          rw (pieces-next j.kinds l c)
          (go_on-back j (placed_below j numbers l) k h (piece_kind j.kinds l) (pieces_from j.kinds (suc l)) a b (rw (pieces-next j.kinds l c) at e))

      pub level_deep : (k : ℕ) → l < piece_count j.kinds → enough j (pieces_from j.kinds l) (placed_below j numbers l) (bound_of j h) ≡ true
          → go_on_level j numbers l k h ≡ try_level j numbers l 0 k h
      unfolding go_on_level try_level
      level_deep k c e =
          rw (pieces-next j.kinds l c)
          (go_on-deep j (placed_below j numbers l) k h (piece_kind j.kinds l) (pieces_from j.kinds (suc l)) a b (piece_kind_lem j.kinds l c) (rw (pieces-next j.kinds l c) at e))

    module _ (b : largest_end j (placed_below j numbers l) < bound_of j h) (e : set_of j (placed_below j numbers l) (bound_of j h) (piece_kind j.kinds l) (numbers l) ≡ true) where
      -- A member is tried with the budget spent: the walk stops.
      pub level_stops : try_level j numbers l (numbers l) 0 h ≡ spent 0 h true
      unfolding try_level
      level_stops = take-stops j (piece_kind j.kinds l) (pieces_from j.kinds (suc l)) (placed_below j numbers l) h a b (numbers l) e

      -- Else it is placed and counted and the walk goes on; if that stops, it is all.
      pub level_ends : (k : ℕ) → 0 < k → (go_on_level j numbers (suc l) (k - 1) h).stopped ≡ true
          → try_level j numbers l (numbers l) k h ≡ go_on_level j numbers (suc l) (k - 1) h
      unfolding try_level go_on_level placed_below
      level_ends k p d = take_ends j (piece_kind j.kinds l) (pieces_from j.kinds (suc l)) (placed_below j numbers l) h a b (numbers l) e k p d

      -- If not, the numbers after it are tried, with what is left and held.
      pub level_goes : (k : ℕ) → 0 < k → (go_on_level j numbers (suc l) (k - 1) h).stopped ≡ false
          → try_level j numbers l (numbers l) k h
          ≡ try_level j numbers l (suc (numbers l)) (go_on_level j numbers (suc l) (k - 1) h).left (go_on_level j numbers (suc l) (k - 1) h).held
      unfolding try_level go_on_level placed_below
      level_goes k p d = take-goes j (piece_kind j.kinds l) (pieces_from j.kinds (suc l)) (placed_below j numbers l) h a b (numbers l) e k p d

  -- ---- The start

  -- Nothing is placed.
  pub start_admitted : all (is_entry j) [] ≡ true
  unfolding all
  start_admitted = refl

  -- ---- The whole walk

  module _ (begin : Option Layout) where
    -- The walk of the definition is what follows once nothing is placed, at level 0.
    pub walk_level : (numbers : ℕ → ℕ) (budget : ℕ) → walk_spent j begin budget ≡ go_on_level j numbers 0 budget begin
    unfolding walk_spent go_on_level placed_below
    walk_level numbers budget = refl

    module _ (pieced : 0 < piece_count j.kinds) (budget : ℕ) where
      -- Nothing is complete before the first step, as long as there is a piece.
      start_none : latest begin (completed (pieces_from j.kinds 0) []) ≡ begin
      unfolding completed latest
      start_none = rw (pieces-next j.kinds 0 pieced)

      -- Spending the budget on the steps of the definition is that walk.
      walk_spent_lem : spend budget begin (steps_from j begin) ≡ walk_spent j begin budget
      unfolding walk_spent steps_from search_from go_on go_on_spent pieces_from
      walk_spent_lem = ap (λ (g : Option Layout). spend budget g (steps_from j begin)) (sym start_none)

      -- What a run answers, and the layout that it holds.
      verdict-walk : verdict j begin budget ≡ answer_of j budget (walk_spent j begin budget)
      verdict-walk = verdict-spent j begin budget ∙ ap (answer_of j budget) walk_spent_lem

      held-walk : held j begin budget ≡ (walk_spent j begin budget).held
      held-walk = held-spent j begin budget ∙ ap (λ (w : Spent). w.held) walk_spent_lem

      -- All that a run answers and leaves, where its buffers are large enough.
      pub run-walk : (work out : List ℕ) → ltb (words_in work) (work_words j) ≡ false → ltb (numbers_in out) (4 * piece_count j.kinds) ≡ false
          → run_from j begin budget work out ≡ run_outcome (Ok (answer_of j budget (walk_spent j begin budget))) (cleared j work) (with_layout (walk_spent j begin budget).held out)
      unfolding run_from
      run-walk work out p q = rw (p, q, run_from, verdict-walk, held-walk)
