-- Two jobs that differ in their classes alone, and whose pairs of types have the same gaps, nest alike: of the classes, row, check and run see nothing but the gaps of pairs.
use mathlib.Core.Bool.{Bool, true, false, not, cond, ◌&&◌}
use mathlib.Core.List.{List, [], ◌∷◌, map, map-map}
use mathlib.Core.Logic.{⊎_elim}
use mathlib.Core.Option.{Option, none, some}
use mathlib.Core.Path.{◌≡◌, refl, sym, ap, ap₂, ◌∙◌, fun_ext}
use Prim.Native.Nat.{ℕ, zero, suc, ◌+◌, ◌*◌, ◌<◌}
use lib.Dec.{leb, ltb, eqb}
use lib.ListN.{length, get_or, replicate, length-map}
use Rattle.words.specs.Bits.{bits_where}
use Rattle.words.proofs.Cases.{le_or_lt}
use Rattle.model.specs.Candidate.{placed_part, placed_parts, placed_vertices, admitted, is_candidate, candidates, extent}
use Rattle.model.specs.Content.{Board, SpacingClass, Part, Kind, kind_at, kind_count, piece_count}
use Rattle.model.specs.Format.{content}
use Rattle.model.specs.Gap.{pair_gap}
use Rattle.model.specs.Geometry.{pieces_conflict}
use Rattle.model.specs.Grid.{Placement, placement_of, number_limit, set_words}
use Rattle.model.specs.Layout.{Entry, Layout, entry_of, entry_number, entry_kind, entry_extent, is_entry, conflict, in_order, ordered, copies, demand_met, apart, passes, largest_end, layout_length}
use Rattle.model.specs.Lists.{all, any, keep, count_of, concat, sum, largest, below}
use Rattle.model.specs.Problem.{Problem, under}
use Rattle.model.specs.Search.{Searched, step, searched, then, pieces, candidate_table, free, above_previous, stays_below, live, copies_left, forward_check, completed, try_candidates, search_pieces, search_from, length_of, steps_from, steps_needed, is_stopped, steps_taken, held}
use Rattle.model.specs.Services.{words_in, numbers_in, with_words, write_outcome, refusal_under, cause12, row_bit, row_words, row_content, conflict_row, entry_in, layout_in, cause11, check_content, check, given_layout, given_unfit, run_outcome, walked, work_words, cleared, held_as, finished_as, step_count, verdict, run_from, run_content, run}
use Rattle.std.specs.Prelude.{Ok, Err, Some}
use Rattle.model.specs.Refusal.{numbered}
use Rattle.model.specs.declared.Outcome.TheVariants as O
use Rattle.model.specs.declared.Refusal.TheVariants as R
use Rattle.model.proofs.Lists.{by_cond}
use Rattle.model.proofs.SameAnswers.{under_same, alike}
use Rattle.model.proofs.Turning.{no_parts}
use Rattle.model.proofs.Search.Equations.{tries_end, tries_dead, tries_back, tries_deep, search_back, search_walks}
use Rattle.spacing.specs.SameGaps.{bare, SameButClasses, SameGaps, NestAlike}

-- ---- Types that differ in their class masks

bare-at : (ks : List Kind) (t : ℕ) → bare (kind_at ks t) ≡ kind_at (map bare ks) t
unfolding kind_at
bare-at [] t = refl
bare-at (k ∷ ks) zero = refl
bare-at (k ∷ ks) (suc t) = bare-at ks t

bare-count : (ks ls : List Kind) → map bare ks ≡ map bare ls → kind_count ks ≡ kind_count ls
unfolding kind_count
bare-count ks ls e = sym (length-map ks bare) ∙ ap length e ∙ length-map ls bare

-- Without a part nothing is in conflict, at whichever gap.
gap-first : (g h : ℕ) (Ps Qs : List Part) → Ps ≡ [] → pieces_conflict g Ps Qs ≡ pieces_conflict h Ps Qs
unfolding pieces_conflict any
gap-first g h Ps Qs e = rw e

gap-second : (g h : ℕ) (Ps Qs : List Part) → Qs ≡ [] → pieces_conflict g Ps Qs ≡ pieces_conflict h Ps Qs
unfolding pieces_conflict any
gap-second g h Ps Qs e = rw e

-- Two choices by cases, the second where the first fails, are the same as two by `cond`.
by_conds : {A : Type 0} (c d : Bool) (x y z : A) → ◌≡◌ {A = A} (elim c as (λ _. A) [ false ↦ elim d as (λ _. A) [ false ↦ z | true ↦ y ] | true ↦ x ]) (cond c x (cond d y z))
by_conds true d x y z = refl
by_conds false d x y z = by_cond d y z

module _ (b : Board) (m : ℕ) (cs ds : List SpacingClass) (ks ls : List Kind) (types : map bare ks ≡ map bare ls)
    (gaps : (a c : ℕ) → a < kind_count ks → c < kind_count ks → pair_gap cs (kind_at ks a) (kind_at ks c) ≡ pair_gap ds (kind_at ls a) (kind_at ls c)) where
  -- The two problems.
  abbrev j : Problem
  j = record { sheet = b; classes = cs; kinds = ks; margin = m }

  abbrev i : Problem
  i = record { sheet = b; classes = ds; kinds = ls; margin = m }

  -- ---- Types
  kinds-same : (t : ℕ) → bare (kind_at ks t) ≡ bare (kind_at ls t)
  kinds-same t = bare-at ks t ∙ ap (λ l. kind_at l t) types ∙ sym (bare-at ls t)

  demand-same : (t : ℕ) → (kind_at ks t).demand ≡ (kind_at ls t).demand
  demand-same t = ap (λ k. k.demand) (kinds-same t)

  parts_same : (t : ℕ) → (kind_at ks t).parts ≡ (kind_at ls t).parts
  parts_same t = ap (λ k. k.parts) (kinds-same t)

  count_same : kind_count ks ≡ kind_count ls
  count_same = bare-count ks ls types

  pieces-same : pieces ks ≡ pieces ls
  unfolding pieces
  pieces-same = ap₂ (λ f n. concat (map f (below n))) (fun_ext (λ t. ap (λ d. replicate d t) (demand-same t))) count_same

  total_same : piece_count ks ≡ piece_count ls
  unfolding piece_count
  total_same = sym (ap sum (map-map (λ k. k.demand) bare ks)) ∙ ap (λ l. sum (map (λ k. k.demand) l)) types ∙ ap sum (map-map (λ k. k.demand) bare ls)

  -- ---- Candidates and lengths
  admitted-same : (t : ℕ) (p : Placement) → admitted j (kind_at ks t) p ≡ admitted i (kind_at ls t) p
  unfolding admitted placed_vertices placed_parts
  admitted-same t p = ap (λ k. admitted i k p) (kinds-same t)

  candidate-same : is_candidate j ≡ is_candidate i
  unfolding is_candidate
  candidate-same = fun_ext (λ t. fun_ext (λ n. admitted-same t (placement_of b n)))

  table_same : candidate_table j ≡ candidate_table i
  unfolding candidate_table candidates
  table_same = ap₂ (λ f n. map (λ t. keep (f t) (below (number_limit b))) (below n)) candidate-same count_same

  entries_same : is_entry j ≡ is_entry i
  unfolding is_entry entry_kind
  entries_same = fun_ext (λ e. admitted-same e.kind e.place)

  extent-same : entry_extent j ≡ entry_extent i
  unfolding entry_extent entry_kind extent placed_vertices placed_parts
  extent-same = fun_ext (λ e. ap (λ k. extent b k e.place) (kinds-same e.kind))

  length-same : layout_length j ≡ layout_length i
  unfolding layout_length largest_end
  length-same = fun_ext (λ es. ap (λ f. largest (map f es) + m) extent-same)

  -- ---- Conflict
  gap_same : (e f : Entry) (Ps Qs : List Part) → Ps ≡ map (placed_part b e.place) (kind_at ks e.kind).parts → Qs ≡ map (placed_part b f.place) (kind_at ks f.kind).parts
      → pieces_conflict (pair_gap cs (kind_at ks e.kind) (kind_at ks f.kind)) Ps Qs ≡ pieces_conflict (pair_gap ds (kind_at ls e.kind) (kind_at ls f.kind)) Ps Qs
  gap_same e f Ps Qs ep eq =
      ⊎_elim (λ h. gap-first _ _ Ps Qs (ep ∙ ap (map (placed_part b e.place)) (no_parts ks e.kind h)))
      (λ h. ⊎_elim (λ l. gap-second _ _ Ps Qs (eq ∙ ap (map (placed_part b f.place)) (no_parts ks f.kind l))) (λ l. ap (λ g. pieces_conflict g Ps Qs) (gaps e.kind f.kind h l))
      (le_or_lt (kind_count ks) f.kind))
      (le_or_lt (kind_count ks) e.kind)

  conflict-same : conflict j ≡ conflict i
  unfolding conflict entry_kind placed_parts
  conflict-same =
      fun_ext
      (λ e. fun_ext
      (λ f. gap_same e f _ _ refl refl
      ∙ ap₂ (λ Ps Qs. pieces_conflict (pair_gap ds (kind_at ls e.kind) (kind_at ls f.kind)) (map (placed_part b e.place) Ps) (map (placed_part b f.place) Qs)) (parts_same e.kind) (parts_same f.kind)))

  -- ---- Passing
  ordered_same : (es : Layout) → ordered j es ≡ ordered i es
  unfolding ordered in_order entry_number
  ordered_same [] = refl
  ordered_same (e ∷ []) = refl
  ordered_same (e ∷ f ∷ es) = ap (λ r. in_order i e f && r) (ordered_same (f ∷ es))

  apart-same : (es : Layout) → apart j es ≡ apart i es
  unfolding apart
  apart-same [] = refl
  apart-same (e ∷ es) = ap₂ (λ c r. all (λ f. not (c e f)) es && r) conflict-same (apart-same es)

  met_same : (es : Layout) → demand_met j es ≡ demand_met i es
  unfolding demand_met
  met_same es = ap₂ (λ d n. all (λ t. eqb (copies t es) (d t)) (below n)) (fun_ext demand-same) count_same

  passes_same : (es : Layout) → passes j es ≡ passes i es
  unfolding passes
  passes_same es = rw (ordered_same es, met_same es, entries_same, apart-same es)

  -- ---- The walk
  above_same : (placed : Layout) (e : Entry) → above_previous j placed e ≡ above_previous i placed e
  unfolding above_previous entry_number
  above_same [] e = refl
  above_same (f ∷ placed) e = ap (cond (eqb f.kind e.kind) (ltb (entry_number i f) (entry_number i e))) (above_same placed e)

  live_same : (placed : Layout) (best : Option ℕ) → live j placed best ≡ live i placed best
  unfolding live stays_below free entry_of
  live_same placed best = fun_ext (λ t. fun_ext (λ n. rw (length-same, above_same placed (entry_of i t n), conflict-same)))

  forward_same : (table : List (List ℕ)) (left : List ℕ) (placed : Layout) (best : Option ℕ) → forward_check j table left placed best ≡ forward_check i table left placed best
  unfolding forward_check
  forward_same table left placed best = ap₂ (λ f n. all (λ t. leb (copies_left t left) (count_of (f t) (get_or table t []))) (below n)) (live_same placed best) count_same

  -- What the walk over the pieces left does is the same, and so is what it does at each candidate.
  module _ (table : List (List ℕ)) (next : Layout → Option ℕ → Searched) (t : ℕ) (left : List ℕ) where
    try_same : (ns : List ℕ) (placed : Layout) (best : Option ℕ) → try_candidates j table next t left ns placed best ≡ try_candidates i table next t left ns placed best
    unfolding entry_of
    try_same [] placed best = tries_end j table next t left placed best ∙ sym (tries_end i table next t left placed best)
    try_same (n ∷ ns) placed best = go (live i placed best t n) (forward_check i table left (entry_of i t n ∷ placed) best) refl refl (try_same ns placed)
      where
        alive : {x : Bool} → live i placed best t n ≡ x → live j placed best t n ≡ x
        alive e = ap (λ f. f t n) (live_same placed best) ∙ e

        kept : {y : Bool} → forward_check i table left (entry_of i t n ∷ placed) best ≡ y → forward_check j table left (entry_of i t n ∷ placed) best ≡ y
        kept f = forward_same table left (entry_of i t n ∷ placed) best ∙ f

        go : (x y : Bool) → live i placed best t n ≡ x → forward_check i table left (entry_of i t n ∷ placed) best ≡ y
            → ((best : Option ℕ) → try_candidates j table next t left ns placed best ≡ try_candidates i table next t left ns placed best)
            → try_candidates j table next t left (n ∷ ns) placed best ≡ try_candidates i table next t left (n ∷ ns) placed best
        go false y e f ih = tries_dead j table next t left n ns placed best (alive e) ∙ ih best ∙ sym (tries_dead i table next t left n ns placed best e)
        go true false e f ih =
            tries_back j table next t left n ns placed best (alive e) (kept f)
            ∙ ap (then (step (entry_of i t n) none ∷ [])) (ih best)
            ∙ sym (tries_back i table next t left n ns placed best e f)
        go true true e f ih =
            tries_deep j table next t left n ns placed best (alive e) (kept f)
            ∙ ap (then (step (entry_of i t n) (completed left (entry_of i t n ∷ placed)) ∷ (next (entry_of i t n ∷ placed) best).steps)) (ih (next (entry_of i t n ∷ placed) best).best)
            ∙ sym (tries_deep i table next t left n ns placed best e f)

  walk_same : (table : List (List ℕ)) (left : List ℕ) (placed : Layout) (best : Option ℕ) → search_pieces j table left placed best ≡ search_pieces i table left placed best
  unfolding search_pieces
  walk_same table [] placed best = ap (λ f. searched [] (some (f placed))) length-same
  walk_same table (t ∷ left) placed best =
      try_same table (search_pieces j table left) t left (get_or table t []) placed best
      ∙ ap (λ next. try_candidates i table next t left (get_or table t []) placed best) (fun_ext (λ placed. fun_ext (walk_same table left placed)))

  search_same : (table : List (List ℕ)) (best : Option ℕ) → search_from j table best ≡ search_from i table best
  search_same table best = go (forward_check i table (pieces ls) [] best) refl
    where
      tested : {x : Bool} → forward_check i table (pieces ls) [] best ≡ x → forward_check j table (pieces ks) [] best ≡ x
      tested e = forward_same table (pieces ks) [] best ∙ ap (λ left. forward_check i table left [] best) pieces-same ∙ e

      go : (x : Bool) → forward_check i table (pieces ls) [] best ≡ x → search_from j table best ≡ search_from i table best
      go false e = search_back j table best (tested e) ∙ sym (search_back i table best e)
      go true e =
          search_walks j table best (tested e) ∙ walk_same table (pieces ks) [] best
          ∙ ap (λ left. search_pieces i table left [] best) pieces-same ∙ sym (search_walks i table best e)

  steps-same : (begin : Option Layout) → steps_from j begin ≡ steps_from i begin
  unfolding steps_from length_of
  steps-same begin = ap₂ (λ table best. (search_from j table best).steps) table_same (begun begin) ∙ ap (λ w. w.steps) (search_same (candidate_table i) (length_of i begin))
    where
      begun : (begin : Option Layout) → length_of j begin ≡ length_of i begin
      begun none = refl
      begun (some es) = ap (λ f. some (f es)) length-same

  held_same : (begin : Option Layout) (budget : ℕ) → held j begin budget ≡ held i begin budget
  unfolding held steps_taken
  held_same begin budget = rw (steps-same begin)

  verdict-same : (begin : Option Layout) (budget : ℕ) → verdict j begin budget ≡ verdict i begin budget
  unfolding verdict is_stopped steps_needed step_count steps_taken held_as finished_as
  verdict-same begin budget = rw (steps-same begin, held_same begin budget, held-as (held i begin budget), finished_as_lem (held i begin budget))
    where
      held-as : (h : Option Layout) → held_as j h ≡ held_as i h
      held-as none = refl
      held-as (some es) = ap (λ f. Some (f es)) length-same

      finished_as_lem : (h : Option Layout) → finished_as j h ≡ finished_as i h
      finished_as_lem none = refl
      finished_as_lem (some es) = ap (λ f. λ steps. O.Shortest (f es) steps) length-same

  -- ---- The services
  bit_same : (t n u k : ℕ) → row_bit j t n u k ≡ row_bit i t n u k
  unfolding row_bit entry_of
  bit_same t n u k =
      by_cond (is_candidate j u k) _ _
      ∙ ap₂ (λ c d. cond (c u k) (d (entry_of i t n) (entry_of i u k)) false) candidate-same conflict-same
      ∙ sym (by_cond (is_candidate i u k) _ _)

  cause_same : (t n u : ℕ) → cause12 j t n u ≡ cause12 i t n u
  unfolding cause12
  cause_same t n u = rw (count_same, candidate-same)

  words_same : (t n u : ℕ) → row_words j t n u ≡ row_words i t n u
  unfolding row_words
  words_same t n u = ap (λ f. map (λ w. bits_where 64 (λ k. f (w * 64 + k))) (below (set_words b))) (fun_ext (bit_same t n u))

  pub row_same : (t n u : ℕ) (out : List ℕ) → row_content j t n u out ≡ row_content i t n u out
  unfolding row_content
  row_same t n u out =
      by_conds (cause12 j t n u) (ltb (words_in out) (set_words b)) _ _ _
      ∙ ap₂ (λ c ws. cond c (write_outcome (Err R.Candidate) out) (cond (ltb (words_in out) (set_words b)) (write_outcome (Err R.Answer) out) (write_outcome (Ok (set_words b)) (with_words ws out))))
      (cause_same t n u) (words_same t n u)
      ∙ sym (by_conds (cause12 i t n u) (ltb (words_in out) (set_words b)) _ _ _)

  layout_same : (layout : List ℕ) → layout_in j layout ≡ layout_in i layout
  unfolding layout_in
  layout_same layout = ap (λ n. map (entry_in layout) (below n)) total_same

  unfit_same : (layout : List ℕ) → cause11 j layout ≡ cause11 i layout
  unfolding cause11
  unfit_same layout = rw (total_same, layout_same layout, passes_same (layout_in i layout))

  pub check-same : (layout : List ℕ) → check_content j layout ≡ check_content i layout
  unfolding check_content
  check-same layout = rw (unfit_same layout, layout_same layout, length-same)

  given_same : (given : List ℕ) → (given_layout j given ≡ given_layout i given) × (given_unfit j given ≡ given_unfit i given)
  unfolding given_layout given_unfit
  given_same [] = (refl, refl)
  given_same (x ∷ xs) = (ap some (layout_same (x ∷ xs)), unfit_same (x ∷ xs))

  need_same : work_words j ≡ work_words i
  unfolding work_words
  need_same = ap₂ (λ n k. n * k * set_words b) count_same total_same

  walked_same : (begin : Option Layout) (budget : ℕ) (work out : List ℕ) → walked j begin budget work out ≡ walked i begin budget work out
  unfolding cleared
  walked_same begin budget work out = rw (need_same, verdict-same begin budget, held_same begin budget)

  from-same : (begin : Option Layout) (budget : ℕ) (work out : List ℕ) → run_from j begin budget work out ≡ run_from i begin budget work out
  unfolding run_from
  from-same begin budget work out =
      by_conds (ltb (words_in work) (work_words j)) (ltb (numbers_in out) (4 * piece_count ks)) _ _ _
      ∙ rw (need_same, total_same, walked_same begin budget work out)
      (sym (by_conds (ltb (words_in work) (work_words i)) (ltb (numbers_in out) (4 * piece_count ls)) _ _ _))

  pub run-same : (budget : ℕ) (given work out : List ℕ) → run_content j budget given work out ≡ run_content i budget given work out
  unfolding run_content
  run-same budget given work out =
      by_cond (given_unfit j given) _ _
      ∙ ap₂ (λ c r. cond c (run_outcome (Err R.Layout) work out) r) (given_same given).1
      (ap (λ begin. run_from j begin budget work out) (given_same given).0 ∙ from-same (given_layout i given) budget work out)
      ∙ sym (by_cond (given_unfit i given) _ _)

-- ---- Two jobs

-- They have as many types.
pub kind-count-same : (s t : List ℕ) → SameButClasses s t → kind_count (content s).kinds ≡ kind_count (content t).kinds
kind-count-same s t same = bare-count (content s).kinds (content t).kinds same.kinds

module _ (s t : List ℕ) (same : SameButClasses s t) (gaps : SameGaps s t) where
  margins_same : (m : ℕ) → refusal_under m s ≡ refusal_under m t
  margins_same m = under_same s t (same.first-accepted ∙ sym same.second-accepted) m

  -- The second job's content on the first one's board, which is the same board.
  on_first : ℕ → Problem
  on_first m = record { sheet = (content s).sheet; classes = (content t).classes; kinds = (content t).kinds; margin = m }

  second : (m : ℕ) → on_first m ≡ under m (content t)
  unfolding on_first
  second m = λ i. record { sheet = same.sheets i; classes = (content t).classes; kinds = (content t).kinds; margin = m }

  -- Of the classes, row, check and run see the gaps of pairs alone.
  pub gaps-decide : NestAlike s t
  unfolding conflict_row check run on_first
  gaps-decide =
      record {
        rows = λ m k n u out. by_cond (eqb (refusal_under m s) 0) _ _
            ∙ alike (λ r. write_outcome (Err (numbered r)) out) _ _ _ _ (margins_same m)
            (λ _. row_same (content s).sheet m (content s).classes (content t).classes (content s).kinds (content t).kinds same.kinds gaps k n u out ∙ ap (λ j. row_content j k n u out) (second m))
            ∙ sym (by_cond (eqb (refusal_under m t) 0) _ _);
        checking = λ m layout. by_cond (eqb (refusal_under m s) 0) _ _
            ∙ alike (λ r. Err (numbered r)) _ _ _ _ (margins_same m)
            (λ _. check-same (content s).sheet m (content s).classes (content t).classes (content s).kinds (content t).kinds same.kinds gaps layout ∙ ap (λ j. check_content j layout) (second m))
            ∙ sym (by_cond (eqb (refusal_under m t) 0) _ _);
        running = λ m budget given work out. by_cond (eqb (refusal_under m s) 0) _ _
            ∙ alike (λ r. run_outcome (Err (numbered r)) work out) _ _ _ _ (margins_same m)
            (λ _. run-same (content s).sheet m (content s).classes (content t).classes (content s).kinds (content t).kinds same.kinds gaps budget given work out ∙ ap (λ j. run_content j budget given work out) (second m))
            ∙ sym (by_cond (eqb (refusal_under m t) 0) _ _);
      }
