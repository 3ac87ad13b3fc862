-- Document 02, "1/13 Clamp margin": what is refused under a margin; that margin 0 is document 01; how margins compare.
use mathlib.Core.Bool.{Bool, true, false, cond, ◌&&◌, and-false}
use mathlib.Core.List.{List, [], ◌∷◌}
use mathlib.Core.Logic.{◌⊎◌, inl, inr, ⊎_elim, ◌↔◌}
use mathlib.Core.Path.{◌≡◌, refl, sym, ap, ◌∙◌}
use Prim.Native.Nat.{ℕ, ◌+◌, ◌*◌, ◌≤◌, ◌<◌}
use native.Mathlib.Omega.{arith}
use borrow.Author.Tests.{ltb-true, ltb-false, lt-ltb, le-ltb, eqb-true, eqb-false, eq-eqb, ne_eqb}
use lib.Dec.{eqb, ltb}
use lib.IntN.{ℤ, pos, ◌+ℤ◌, ◌-ℤ◌}
use lib.ListN.{length, get_or}
use lib.Signed.{le_z, ◌≤ℤ◌}
use Rattle.std.specs.Prelude.{Err}
use Rattle.integers.proofs.Linear.{linear, ◌⊩◌}
use Rattle.integers.proofs.Order.{le_z_true, le_le_z, ≤ℤ-trans, pos-≤ℤ, ≤ℤ-pos}
use Rattle.integers.proofs.Solver.{◌⊞◌, ◌⊟◌, ◌≲◌}
use Rattle.words.specs.Bits.{test_bit}
use Rattle.model.specs.Candidate.{placed_vertices, on_board, admitted, is_candidate}
use Rattle.model.specs.Content.{Vertex, Board, Kind, Job, kind_at, origin}
use Rattle.model.specs.Format.{refusal, content}
use Rattle.model.specs.Grid.{Placement, columns, rows, placement_of}
use Rattle.model.specs.Layout.{Entry, Layout, entry_at, entry_number, entry_kind, entry_extent, is_entry, conflict, largest_end, layout_length, Passes}
use Rattle.model.specs.Lists.{all}
use Rattle.model.specs.Problem.{Problem, under, cause13}
use Rattle.model.specs.Refusal.{number, numbered}
use Rattle.model.specs.Services.{refusal_under, write_outcome, row_content, conflict_row, check_content, check, run_outcome, run_content, run}
use Rattle.model.specs.declared.Refusal.TheVariants as R
use Rattle.model.proofs.Lists.{and_left, and_right, and_both, and_four, all-at, all_of, by_cond}
use Rattle.model.proofs.Numbered.{number_numbered, refusal-number}
use Rattle.model.proofs.Refusals.{refusal-most}

-- ---- What is refused

module _ (s : List ℕ) (m : ℕ) where
  -- A job that is refused by itself is refused by that number, whatever the margin.
  pub refused-first : (refusal s ≡ 0 → ⊥) → refusal_under m s ≡ refusal s
  unfolding refusal_under
  refused-first f = rw (ne_eqb (refusal s) 0 f, refusal_under)

  -- For an accepted job the margin decides.
  margin-decides : refusal s ≡ 0 → refusal_under m s ≡ cond (ltb 63 m) 13 0
  unfolding refusal_under cause13
  margin-decides e = rw (eq-eqb (refusal s) 0 e, refusal_under)

  -- So there are three cases: the job's own number, 13, and 0.
  three_cases : ((refusal s ≡ 0 → ⊥) × (refusal_under m s ≡ refusal s))
      ⊎ (((refusal s ≡ 0) × (63 < m) × (refusal_under m s ≡ 13)) ⊎ ((refusal s ≡ 0) × (m ≤ 63) × (refusal_under m s ≡ 0)))
  three_cases = go (eqb (refusal s) 0) (ltb 63 m) refl refl
    where
      told : (c : Bool) → refusal s ≡ 0 → ltb 63 m ≡ c → refusal_under m s ≡ cond c 13 0
      told c e f = margin-decides e ∙ ap (λ c. cond c 13 0) f

      go : (b c : Bool) → eqb (refusal s) 0 ≡ b → ltb 63 m ≡ c → ((refusal s ≡ 0 → ⊥) × (refusal_under m s ≡ refusal s))
          ⊎ (((refusal s ≡ 0) × (63 < m) × (refusal_under m s ≡ 13)) ⊎ ((refusal s ≡ 0) × (m ≤ 63) × (refusal_under m s ≡ 0)))
      go false c e f = inl (eqb-false (refusal s) 0 e, refused-first (eqb-false (refusal s) 0 e))
      go true true e f = let z : refusal s ≡ 0 = eqb-true (refusal s) 0 e in inr (inl (z, ltb-true 63 m f, told true z f))
      go true false e f = let z : refusal s ≡ 0 = eqb-true (refusal s) 0 e in inr (inr (z, ltb-false 63 m f, told false z f))

  -- Nothing is refused exactly if the job is accepted and the margin is at most 63.
  pub accepted-under : (refusal_under m s ≡ 0) ↔ ((refusal s ≡ 0) × (m ≤ 63))
  accepted-under = (
    λ h. ⊎_elim (λ x. absurd (x.0 (sym x.1 ∙ h))) (⊎_elim (λ x. absurd (omega (arith, x.2))) (λ x. (x.0, x.1))) three_cases,
    λ f. margin-decides f.0 ∙ ap (λ c. cond c 13 0) (le-ltb 63 m f.1),
  )

  -- "13, margin above 63, tested after 7": 13 is told exactly if the job is accepted and the margin is above 63.
  pub refused-13 : (refusal_under m s ≡ 13) ↔ ((refusal s ≡ 0) × (63 < m))
  refused-13 = (
    λ h. ⊎_elim (λ x. absurd (omega (arith, x.1, refusal-most s))) (⊎_elim (λ x. (x.0, x.1)) (λ x. absurd (omega (arith, x.2)))) three_cases,
    λ f. margin-decides f.0 ∙ ap (λ c. cond c 13 0) (lt-ltb 63 m f.1),
  )

  -- The refusal that is answered has the number by which the job is refused under the margin.
  pub refusal_under-number : (refusal_under m s ≡ 0 → ⊥) → number (numbered (refusal_under m s)) ≡ refusal_under m s
  refusal_under-number f =
      ⊎_elim
      (λ x. ap (λ n. number (numbered n)) x.1 ∙ refusal-number s x.0 ∙ sym x.1)
      (⊎_elim (λ x. number_numbered _ (omega (arith, x.2)) (omega (arith, x.2)) (λ e. omega (arith, e, x.2))) (λ x. absurd (f x.2)))
      three_cases

  -- It is tested before 12, 11, 8, 9 and 10, so it is told whatever else is handed in; and no buffer changes.
  module _ (accepted : refusal s ≡ 0) (large : 63 < m) where
    refuses : refusal_under m s ≡ 13
    refuses = refused-13.1 (accepted, large)

    refused : eqb (refusal_under m s) 0 ≡ false
    refused = ne_eqb (refusal_under m s) 0 (λ z. omega (arith, refuses))

    pub row-13 : (t n u : ℕ) (out : List ℕ) → conflict_row s m t n u out ≡ write_outcome (Err R.Margin) out
    unfolding conflict_row numbered
    row-13 t n u out = rw (refused, conflict_row) (ap (λ n. write_outcome (Err (numbered n)) out) refuses)

    pub check-13 : (layout : List ℕ) → check s m layout ≡ Err R.Margin
    unfolding check numbered
    check-13 layout = rw (refused, check) (ap (λ n. Err (numbered n)) refuses)

    pub run-13 : (budget : ℕ) (given work out : List ℕ) → run s m budget given work out ≡ run_outcome (Err R.Margin) work out
    unfolding run numbered
    run-13 budget given work out = rw (refused, run) (ap (λ n. run_outcome (Err (numbered n)) work out) refuses)

-- ---- "With m = 0 .., all earlier results hold"

-- Margin 0 is never refused.
pub refusal-under-0 : (s : List ℕ) → refusal_under 0 s ≡ refusal s
refusal-under-0 s =
    ⊎_elim (λ x. x.1) (⊎_elim (λ x. absurd (omega (arith, x.1))) (λ x. x.2 ∙ sym x.0)) (three_cases s 0)

minus_0 : (n : ℕ) → pos n -ℤ pos 0 ≡ pos n
minus_0 n = ap pos (omega arith)

-- "in 0 to L by 0 to W, edges included"
pub on_board-0 : (b : Board) (v : Vertex) → on_board 0 b v ≡ (le_z (pos 0) v.x && le_z v.x (pos b.L) && le_z (pos 0) v.y && le_z v.y (pos b.W))
unfolding on_board
on_board-0 b v = rw (minus_0 b.L, minus_0 b.W)

-- What the margin enters is document 01's at margin 0: the refusals, the on-board test and the length. Nothing else in the definitions speaks of it, and row, check
-- and run are refused as document 01 says, or do what they do with the content under margin 0.
pub record AsBefore (s : List ℕ) : Type 0 where
  -- "They are tested as 1 to 7"
  pub refused : refusal_under 0 s ≡ refusal s
  -- "in 0 to L by 0 to W, edges included"
  pub on_board_lem : (v : Vertex) → on_board 0 (content s).sheet v
      ≡ (le_z (pos 0) v.x && le_z v.x (pos (content s).sheet.L) && le_z (pos 0) v.y && le_z v.y (pos (content s).sheet.W))
  -- "Its length is the largest end."
  pub length : (es : Layout) → layout_length (under 0 (content s)) es ≡ largest_end (under 0 (content s)) es
  pub row : (t n u : ℕ) (out : List ℕ) → conflict_row s 0 t n u out
      ≡ cond (eqb (refusal s) 0) (row_content (under 0 (content s)) t n u out) (write_outcome (Err (numbered (refusal s))) out)
  pub checked : (layout : List ℕ) → check s 0 layout ≡ cond (eqb (refusal s) 0) (check_content (under 0 (content s)) layout) (Err (numbered (refusal s)))
  pub ran : (budget : ℕ) (given work out : List ℕ) → run s 0 budget given work out
      ≡ cond (eqb (refusal s) 0) (run_content (under 0 (content s)) budget given work out) (run_outcome (Err (numbered (refusal s))) work out)

pub margin-0 : (s : List ℕ) → AsBefore s
unfolding layout_length conflict_row check run
margin-0 s =
    record {
      refused = refusal-under-0 s;
      on_board_lem = on_board-0 (content s).sheet;
      length = λ es. omega arith;
      row = λ t n u out. by_cond (eqb (refusal_under 0 s) 0) _ _
          ∙ ap (λ n'. cond (eqb n' 0) (row_content (under 0 (content s)) t n u out) (write_outcome (Err (numbered n')) out)) (refusal-under-0 s);
      checked = λ layout. by_cond (eqb (refusal_under 0 s) 0) _ _ ∙ ap (λ n. cond (eqb n 0) (check_content (under 0 (content s)) layout) (Err (numbered n))) (refusal-under-0 s);
      ran = λ budget given work out. by_cond (eqb (refusal_under 0 s) 0) _ _
          ∙ ap (λ n. cond (eqb n 0) (run_content (under 0 (content s)) budget given work out) (run_outcome (Err (numbered n)) work out)) (refusal-under-0 s);
    }

-- ---- Margins compared

module _ (m n : ℕ) (h : m ≤ n) where
  -- What is at least the larger margin, or at most what it leaves, is so for the smaller one.
  above-less : (z : ℤ) → le_z (pos n) z ≡ true → le_z (pos m) z ≡ true
  above-less z e = le_le_z (pos m) z (≤ℤ-trans (pos-≤ℤ h) (le_z_true (pos n) z e))

  below_less : (l : ℕ) (z : ℤ) → le_z z (pos l -ℤ pos n) ≡ true → le_z z (pos l -ℤ pos m) ≡ true
  below_less l z e =
      le_le_z z (pos l -ℤ pos m)
      (linear 4 (λ z l m n. (z ≲ l ⊟ n) ∷ (m ≲ n) ∷ [] ⊩ z ≲ l ⊟ m) z (pos l) (pos m) (pos n) (omega arith) (le_z_true z (pos l -ℤ pos n) e) (pos-≤ℤ h))

  -- What lies on the board clear of a larger margin lies there clear of a smaller one.
  pub on_board-less : (b : Board) (v : Vertex) → on_board n b v ≡ true → on_board m b v ≡ true
  unfolding on_board
  on_board-less b v e =
      let four = and_four (le_z (pos n) v.x) (le_z v.x (pos b.L -ℤ pos n)) (le_z (pos n) v.y) (le_z v.y (pos b.W -ℤ pos n)) e in
      and_both _ _
      (and_both _ _ (and_both _ _ (above-less v.x four.0) (below_less b.L v.x four.1)) (above-less v.y four.2))
      (below_less b.W v.y four.3)

  -- A candidate under a larger margin is a candidate under a smaller one.
  pub admitted-less : (j : Job) (k : Kind) (p : Placement) → admitted (under n j) k p ≡ true → admitted (under m j) k p ≡ true
  unfolding admitted
  admitted-less j k p e =
      let vs : List Vertex = placed_vertices j.sheet k p in
      let stands : Bool = ltb p.column (columns j.sheet) && ltb p.row (rows j.sheet) && test_bit k.rotations p.rotation in
      let clear : all (on_board n j.sheet) vs ≡ true = and_right stands _ e in
      and_both stands _ (and_left stands _ e)
      (all_of (on_board m j.sheet) vs origin (λ i l. on_board-less j.sheet (get_or vs i origin) (all-at (on_board n j.sheet) vs origin clear i l)))

  -- The same of a candidate number.
  pub candidate-less : (j : Job) (t k : ℕ) → is_candidate (under n j) t k ≡ true → is_candidate (under m j) t k ≡ true
  unfolding is_candidate
  candidate-less j t k e = admitted-less j (kind_at j.kinds t) (placement_of j.sheet k) e

  -- So a layout that passes under a larger margin passes under a smaller one.
  pub passes-less : (j : Job) (es : Layout) → Passes (under n j) es → Passes (under m j) es
  unfolding entry_number is_entry entry_kind conflict
  passes-less j es p =
      record {
        rising = p.rising;
        demanded = p.demanded;
        offered = λ i h. admitted-less j (kind_at j.kinds (entry_at es i).kind) (entry_at es i).place (p.offered i h);
        clear = p.clear;
      }

-- A length under one margin and under another.
pub length-margins : (m n : ℕ) (j : Job) (es : Layout) → layout_length (under m j) es + n ≡ layout_length (under n j) es + m
unfolding layout_length largest_end entry_extent entry_kind
length-margins m n j es = omega arith

-- Where 2 × m is above L or W, nothing lies on the board,
pub board-too_small : (m : ℕ) (b : Board) (v : Vertex) → (b.L < 2 * m) ⊎ (b.W < 2 * m) → on_board m b v ≡ true → ⊥
unfolding on_board
board-too_small m b v small e =
    let four = and_four (le_z (pos m) v.x) (le_z v.x (pos b.L -ℤ pos m)) (le_z (pos m) v.y) (le_z v.y (pos b.W -ℤ pos m)) e in
    ⊎_elim (λ l. too_wide b.L v.x four.0 four.1 l) (λ l. too_wide b.W v.y four.2 four.3 l) small
  where
    too_wide : (l : ℕ) (z : ℤ) → le_z (pos m) z ≡ true → le_z z (pos l -ℤ pos m) ≡ true → l < 2 * m → ⊥
    too_wide l z a c s =
        let twice : (pos m +ℤ pos m) ≤ℤ pos l = linear 3 (λ m l z. (m ≲ z) ∷ (z ≲ l ⊟ m) ∷ [] ⊩ m ⊞ m ≲ l) (pos m) (pos l) z (omega arith) (le_z_true (pos m) z a) (le_z_true z (pos l -ℤ pos m) c) in
        let most : m + m ≤ l = ≤ℤ-pos twice in omega arith

-- and no type that has a corner has a candidate.
pub no_candidate : (j : Problem) (k : Kind) (p : Placement) → 0 < length (placed_vertices j.sheet k p)
    → (j.sheet.L < 2 * j.margin) ⊎ (j.sheet.W < 2 * j.margin) → admitted j k p ≡ false
unfolding admitted
no_candidate j k p some small = go (all (on_board j.margin j.sheet) vs) refl
  where
    vs : List Vertex
    vs = placed_vertices j.sheet k p

    stands : Bool
    stands = ltb p.column (columns j.sheet) && ltb p.row (rows j.sheet) && test_bit k.rotations p.rotation

    go : (b : Bool) → all (on_board j.margin j.sheet) vs ≡ b → (stands && all (on_board j.margin j.sheet) vs) ≡ false
    go true e = absurd (board-too_small j.margin j.sheet (get_or vs 0 origin) small (all-at (on_board j.margin j.sheet) vs origin e 0 some))
    go false e = rw e (and-false stands)

-- Conflict does not know the margin.
pub conflict-any-margin : (m n : ℕ) (j : Job) (e f : Entry) → conflict (under m j) e f ≡ conflict (under n j) e f
unfolding conflict entry_kind
conflict-any-margin m n j e f = refl
