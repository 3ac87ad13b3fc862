-- What the board bounds: a candidate ends at L or before, whatever the margin, and its number is below the limit of the numbers.
use mathlib.Core.Bool.{true, ◌&&◌}
use mathlib.Core.List.{List, [], ◌∷◌, map}
use mathlib.Core.Path.{◌≡◌, refl, sym, ◌∙◌}
use Prim.Native.Nat.{ℕ, ◌*◌, ◌/◌, ◌≤◌, ◌<◌}
use native.Mathlib.Nat.{div-lt_iff_lt-mul, le-mul_of_pos_right}
use native.Mathlib.Omega.{arith}
use lib.Dec.{ltb}
use lib.IntN.{ℤ, pos, negsuc}
use lib.Signed.{le_z, ◌≤ℤ◌}
use Rattle.integers.specs.Extrema.{max_z}
use Rattle.integers.proofs.Extrema.{max_least}
use Rattle.integers.proofs.Order.{le_z_true, ≤ℤ-pos, pos-≤ℤ}
use Rattle.words.specs.Bits.{test_bit}
use Rattle.model.specs.Candidate.{placed_vertices, on_board, admitted, is_candidate, natural, extent}
use Rattle.model.specs.Content.{Vertex, Kind, Board, kind_at, kind_count}
use Rattle.model.specs.Grid.{Placement, columns, rows, dots, placement_of, number_limit, set_words}
use Rattle.model.specs.Layout.{Entry, Layout, entry_of, entry_kind, is_entry, entry_extent, largest_end}
use Rattle.model.specs.Lists.{all, largest, largest_from, largest_z}
use Rattle.model.specs.Problem.{Problem}
use Rattle.model.proofs.Lists.{and_left, and_right, and_four}
use Rattle.model.proofs.Margin.{on_board-0, on_board-less}
use Rattle.model.proofs.Numbers.{rows-positive, placement-rotation}
use Rattle.model.proofs.ReadBack.{Small}
use Rattle.model.proofs.Search.Pieces.{admitted-parts, entry-kind}

-- ---- Ends

-- The largest x of corners on the board is at most L.
natural-le : (z : ℤ) (n : ℕ) → z ≤ℤ pos n → natural z ≤ n
unfolding natural
natural-le (pos m) n h = ≤ℤ-pos h
natural-le (negsuc m) n h = omega arith

-- A corner on the board has an x of at most L.
on_board-x : (m : ℕ) (b : Board) (v : Vertex) → on_board m b v ≡ true → v.x ≤ℤ pos b.L
on_board-x m b v e =
    let four = sym (on_board-0 b v) ∙ on_board-less 0 m (omega arith) b v e in
    le_z_true v.x (pos b.L) (and_four (le_z (pos 0) v.x) (le_z v.x (pos b.L)) (le_z (pos 0) v.y) (le_z v.y (pos b.W)) four).1

largest_from-le : (m : ℕ) (b : Board) (vs : List Vertex) (z : ℤ) → z ≤ℤ pos b.L → all (on_board m b) vs ≡ true
    → largest_from z (map (λ v. v.x) vs) ≤ℤ pos b.L
unfolding largest_from all
largest_from-le m b [] z h e = h
largest_from-le m b (v ∷ vs) z h e =
    largest_from-le m b vs (max_z z v.x) (max_least z v.x (pos b.L) h (on_board-x m b v (and_left (on_board m b v) (all (on_board m b) vs) e)))
    (and_right (on_board m b v) (all (on_board m b) vs) e)

largest_z-le : (m : ℕ) (b : Board) (vs : List Vertex) → all (on_board m b) vs ≡ true → largest_z (map (λ v. v.x) vs) ≤ℤ pos b.L
unfolding largest_z all
largest_z-le m b [] e = pos-≤ℤ (omega arith)
largest_z-le m b (v ∷ vs) e =
    largest_from-le m b vs v.x (on_board-x m b v (and_left (on_board m b v) (all (on_board m b) vs) e))
    (and_right (on_board m b v) (all (on_board m b) vs) e)

-- The corners of a placement that is admitted are on the board.
admitted-corners : (j : Problem) (k : Kind) (p : Placement) → admitted j k p ≡ true
    → all (on_board j.margin j.sheet) (placed_vertices j.sheet k p) ≡ true
unfolding admitted
admitted-corners j k p e =
    and_right (ltb p.column (columns j.sheet) && ltb p.row (rows j.sheet) && test_bit k.rotations p.rotation)
    (all (on_board j.margin j.sheet) (placed_vertices j.sheet k p)) e

-- A placement that is admitted ends at L or before.
pub admitted-extent : (j : Problem) (k : Kind) (p : Placement) → admitted j k p ≡ true → extent j.sheet k p ≤ j.sheet.L
unfolding extent
admitted-extent j k p e =
    natural-le (largest_z (map (λ v. v.x) (placed_vertices j.sheet k p))) j.sheet.L
    (largest_z-le j.margin j.sheet (placed_vertices j.sheet k p) (admitted-corners j k p e))

-- So does an entry that is a candidate.
pub entry-extent : (j : Problem) (e : Entry) → is_entry j e ≡ true → entry_extent j e ≤ j.sheet.L
unfolding is_entry entry_extent
entry-extent j e h = admitted-extent j (entry_kind j e) e.place h

-- The entry of a number is a candidate exactly if the number is one's.
pub candidate-entry : (j : Problem) (t n : ℕ) → is_entry j (entry_of j t n) ≡ is_candidate j t n
unfolding is_entry entry_kind entry_of is_candidate
candidate-entry j t n = refl

-- So a candidate ends at L or before.
pub candidate-extent : (j : Problem) (t n : ℕ) → is_candidate j t n ≡ true → entry_extent j (entry_of j t n) ≤ j.sheet.L
candidate-extent j t n h = entry-extent j (entry_of j t n) (candidate-entry j t n ∙ h)

-- The largest end of candidates placed is at most L.
pub placed_end : (j : Problem) (placed : Layout) → all (is_entry j) placed ≡ true → largest_end j placed ≤ j.sheet.L
unfolding all largest_end largest
placed_end j [] h = omega arith
placed_end j (e ∷ placed) h =
    let x : entry_extent j e ≤ j.sheet.L = entry-extent j e (and_left (is_entry j e) _ h) in
    let y : largest_end j placed ≤ j.sheet.L = placed_end j placed (and_right (is_entry j e) _ h) in
    omega arith

-- ---- Numbers

-- The number of a candidate is below the limit of the numbers.
pub candidate-below : (j : Problem) (t n : ℕ) → is_candidate j t n ≡ true → n < number_limit j.sheet
unfolding is_candidate placement_of number_limit dots
candidate-below j t n e =
    let c : n / 4 / rows j.sheet < columns j.sheet = (admitted-parts j (kind_at j.kinds t) (placement_of j.sheet n) e).0 in
    let d : n / 4 < columns j.sheet * rows j.sheet = (div-lt_iff_lt-mul (rows-positive j.sheet)).0 c in
    omega arith

-- Every candidate's number has a bit in the words of a set.
pub limit_words : (b : Board) → number_limit b ≤ set_words b * 64
unfolding number_limit set_words
limit_words b = omega arith

-- What bounds the four numbers of a candidate's entry, where there are at most 1024 dots.
pub record EntryBounds (j : Problem) (e : Entry) : Type 0 where
  pub kind-below : e.kind < kind_count j.kinds
  pub column-below : e.place.column < 1024
  pub row_below : e.place.row < 1024
  pub rotation-below : e.place.rotation < 4

-- They hold of every candidate.
pub candidate-bounds : (j : Problem) (t n : ℕ) → dots j.sheet ≤ 1024 → is_candidate j t n ≡ true → EntryBounds j (entry_of j t n)
unfolding dots is_candidate entry_of columns
candidate-bounds j t n d e =
    let parts = admitted-parts j (kind_at j.kinds t) (placement_of j.sheet n) e in
    record {
      kind-below = entry-kind j (entry_of j t n) (candidate-entry j t n ∙ e);
      column-below = omega (arith, parts.0, le-mul_of_pos_right (columns j.sheet) (rows-positive j.sheet));
      row_below = omega (arith, parts.1, le-mul_of_pos_right {m = columns j.sheet} (rows j.sheet) (omega arith));
      rotation-below = placement-rotation j.sheet n;
    }

-- So each fits two bytes.
pub bounds_small : (j : Problem) (e : Entry) → kind_count j.kinds ≤ 65536 → EntryBounds j e → Small e
bounds_small j e k b = record { kind_fits = omega arith; column_fits = omega arith; row_fits = omega arith; rotation-fits = omega arith }
