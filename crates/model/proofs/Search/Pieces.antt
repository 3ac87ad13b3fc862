-- The pieces and the candidates of a problem: which they are, in which order, and how many.
use mathlib.Core.Bool.{true, false}
use mathlib.Core.List.Memᴰ
use mathlib.Core.List.{List, [], map, Memᴰ}
use mathlib.Core.Logic.{◌⊎◌, inl, inr, ⊎_elim}
use mathlib.Core.Path.{◌≡◌, sym, ap, ◌∙◌, subst}
use Prim.Native.Nat.{ℕ, suc, ◌≤◌, ◌<◌}
use native.Mathlib.Nat.{mul-le-mul_right}
use native.Mathlib.Omega.{arith}
use borrow.Author.Tests.{ltb-true}
use lib.Dec.{ltb, eqb}
use lib.ListN.{length, get_or, length-map, get_or-eq_default}
use Rattle.words.specs.Bits.{test_bit}
use Rattle.model.specs.Candidate.{admitted, is_candidate, candidates, placed_vertices, on_board}
use Rattle.model.specs.Content.{Kind, kind_at, kind_count, piece_count, no_kind}
use Rattle.model.specs.Grid.{Placement, columns, rows, dots, number_of, number_limit}
use Rattle.model.specs.Layout.{Entry, entry_of, entry_number, entry_kind, is_entry}
use Rattle.model.specs.Lists.{all, count_of, sum, below}
use Rattle.model.specs.Problem.{Problem}
use Rattle.model.specs.Search.{pieces, candidate_table}
use Rattle.words.proofs.Bit.{test_bit-above, test_bit-none}
use Rattle.words.proofs.Cases.{le_or_lt}
use Rattle.model.proofs.Lists.{and_four, length-below, get_or-map-below, map-by_index, not_both}
use Rattle.model.proofs.Numbers.{placement-of_number}
use Rattle.model.proofs.Sorted.{Rising, Ascending, rising-mem, mem_keep, keep-mem, keep-rises, mem_blocks, blocks_ascend, count-blocks, length-blocks}

-- ---- Pieces

module _ (ks : List Kind) where
  -- There are N pieces.
  pub length-pieces : length (pieces ks) ≡ piece_count ks
  unfolding pieces below kind_at kind_count piece_count
  length-pieces = length-blocks (λ t. (kind_at ks t).demand) 0 (kind_count ks) ∙ ap sum (map-by_index (λ k. k.demand) ks no_kind)

  -- "Pieces follow the layout's order": by type.
  pub pieces-ascend : Ascending (pieces ks)
  unfolding pieces below
  pieces-ascend = blocks_ascend (λ t. (kind_at ks t).demand) 0 (kind_count ks)

  -- Each is of one of the types.
  pub mem_pieces : (t : ℕ) → Memᴰ t (pieces ks) → t < kind_count ks
  unfolding pieces below
  mem_pieces t h = let r = mem_blocks (λ t. (kind_at ks t).demand) 0 (kind_count ks) t h in omega arith

  -- Each type as often as it is demanded.
  pub count-pieces : (t : ℕ) → t < kind_count ks → count_of (eqb t) (pieces ks) ≡ (kind_at ks t).demand
  unfolding pieces below
  count-pieces t h = count-blocks (λ t. (kind_at ks t).demand) 0 (kind_count ks) t (omega arith) (omega arith)

-- ---- Candidates

module _ (j : Problem) where
  -- The table has the candidates of each type, and of nothing else.
  pub table_at : (t : ℕ) → t < kind_count j.kinds → get_or (candidate_table j) t [] ≡ candidates j t
  unfolding candidate_table
  table_at t h = get_or-map-below (candidates j) (kind_count j.kinds) t [] h

  -- It has no candidates of a type that is not there.
  table-beyond : (t : ℕ) → kind_count j.kinds ≤ t → get_or (candidate_table j) t [] ≡ []
  unfolding candidate_table
  table-beyond t h =
      get_or-eq_default (map (candidates j) (below (kind_count j.kinds))) [] (rw (length-map (below (kind_count j.kinds)) (candidates j), length-below (kind_count j.kinds)) h)

  -- A type is there or not.
  in_table : (t : ℕ) → (t < kind_count j.kinds) ⊎ (kind_count j.kinds ≤ t)
  in_table t = ⊎_elim (λ l. inl l) (λ l. inr (omega arith)) (le_or_lt (suc t) (kind_count j.kinds))

  -- "A piece tries its candidates in rising order."
  pub table-rises : (t : ℕ) → Rising (get_or (candidate_table j) t [])
  unfolding candidates below
  table-rises t =
      ⊎_elim (λ h. subst Rising (sym (table_at t h)) (keep-rises (is_candidate j t) 0 (number_limit j.sheet)))
      (λ h. subst Rising (sym (table-beyond t h)) tt) (in_table t)

  -- The numbers in the table are those of candidates of a type.
  pub mem_table : (t n : ℕ) → Memᴰ n (get_or (candidate_table j) t []) → is_entry j (entry_of j t n) ≡ true
  unfolding candidates is_entry is_candidate entry_kind entry_of
  mem_table t n m =
      ⊎_elim (λ h. (mem_keep (is_candidate j t) (below (number_limit j.sheet)) n (subst (Memᴰ n) (table_at t h) m)).1)
      (λ h. absurd (Memᴰ.not-nil (subst (Memᴰ n) (table-beyond t h) m))) (in_table t)

  -- What a candidate is: four tests.
  pub admitted-parts : (k : Kind) (p : Placement) → admitted j k p ≡ true
      → (p.column < columns j.sheet) × (p.row < rows j.sheet) × (test_bit k.rotations p.rotation ≡ true)
  unfolding admitted
  admitted-parts k p e =
      let parts =
      and_four (ltb p.column (columns j.sheet)) (ltb p.row (rows j.sheet)) (test_bit k.rotations p.rotation)
      (all (on_board j.margin j.sheet) (placed_vertices j.sheet k p)) e in
      (ltb-true _ _ parts.0, ltb-true _ _ parts.1, parts.2)

  -- A mask of four bits allows no turn but the four.
  pub few-turns : (w i : ℕ) → w < 16 → test_bit w i ≡ true → i < 4
  few-turns w i h e = ⊎_elim (λ l. absurd (not_both e (test_bit-above w 4 i h l))) (λ l. l) (le_or_lt 4 i)

  -- Where no type stands nothing is a candidate.
  pub entry-kind : (e : Entry) → is_entry j e ≡ true → e.kind < kind_count j.kinds
  unfolding is_entry entry_kind kind_at kind_count
  entry-kind e h = ⊎_elim (λ l. l) (λ l. absurd (not_both (admitted-parts (entry_kind j e) e.place h).2 (none l))) (in_table e.kind)
    where
      none : kind_count j.kinds ≤ e.kind → test_bit (entry_kind j e).rotations e.place.rotation ≡ false
      none l = rw (get_or-eq_default j.kinds no_kind l) (test_bit-none e.place.rotation)

  module _ (turned : (t : ℕ) → (kind_at j.kinds t).rotations < 16) where
    -- A candidate is given by its type and its number.
    pub entry-of_number : (e : Entry) → is_entry j e ≡ true → entry_of j e.kind (entry_number j e) ≡ e
    unfolding is_entry entry_kind entry_of entry_number
    entry-of_number e h =
        let parts = admitted-parts (entry_kind j e) e.place h in
        rw (placement-of_number j.sheet e.place parts.1 (few-turns _ e.place.rotation (turned e.kind) parts.2))

    -- Its number is one of the four of some dot.
    pub number-below : (e : Entry) → is_entry j e ≡ true → entry_number j e < number_limit j.sheet
    unfolding is_entry entry_kind entry_number number_of number_limit dots
    number-below e h =
        let parts = admitted-parts (entry_kind j e) e.place h in
        let k : e.place.rotation < 4 = few-turns _ e.place.rotation (turned e.kind) parts.2 in
        omega (arith, mul-le-mul_right (rows j.sheet) parts.0, parts.1)

    -- And it stands in the table.
    pub table-mem : (e : Entry) → is_entry j e ≡ true → Memᴰ (entry_number j e) (get_or (candidate_table j) e.kind [])
    unfolding candidates below is_candidate is_entry entry_kind entry_of
    table-mem e h =
        subst (Memᴰ (entry_number j e)) (sym (table_at e.kind (entry-kind e h)))
        (keep-mem (is_candidate j e.kind) (below (number_limit j.sheet)) (entry_number j e)
        (rising-mem 0 (number_limit j.sheet) (entry_number j e) (omega arith) (omega (arith, number-below e h)))
        (subst (λ (x : Entry). is_entry j x ≡ true) (sym (entry-of_number e h)) h))
