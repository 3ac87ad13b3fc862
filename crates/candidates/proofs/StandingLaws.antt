-- An entry that is a candidate of an accepted job: what is known of it, and what the code's tests say of it. Assumes nothing.
use Rattle.job.specs.View.{rotations_of}
use mathlib.Core.Bool.{Bool, true, false, ◌&&◌}
use mathlib.Core.List.{List, [], ◌∷◌}
use mathlib.Core.Path.{◌≡◌, refl, ◌∙◌}
use Prim.Native.Nat.{ℕ, ◌+◌, ◌*◌, ◌/◌, ◌%◌, ◌≤◌, ◌<◌, min}
use native.Mathlib.Omega.{arith}
use lib.Dec.{ltb}
use lib.IntN.{ℤ, pos, negsuc, ◌+ℤ◌, ◌-ℤ◌}
use lib.Signed.{le_z}
use Rattle.integers.proofs.Linear.{linear, ◌⊩◌}
use Rattle.integers.proofs.Order.{le_z_true, ≤ℤ-pos, pos-≤ℤ}
use Rattle.integers.proofs.Solver.{#, ◌⊟◌, ◌≲◌}
use Rattle.words.specs.Bits.{test_bit}
use Rattle.model.specs.Candidate.{natural}
use Rattle.model.specs.Content.{kind_count}
use Rattle.model.specs.Format.{content}
use Rattle.model.specs.Grid.{rows, columns, dots, set_words}
use Rattle.model.specs.Layout.{Entry, entry_kind, is_entry, entry_extent}
use Rattle.std.specs.Int.{div_ceil}
use Rattle.model.proofs.Accepted.{accepted-sensible, accepted-dots}
use Rattle.model.proofs.Lists.{and_left, and_right}
use Rattle.model.proofs.Search.Pieces.{admitted-parts, few-turns, entry-kind}
use Rattle.job.specs.View.{problem_of, Viewed}
use Rattle.job.specs.declared.View.{View}
use Rattle.shapes.specs.Boxes.{box_at, BoxesOf}
use Rattle.shapes.specs.declared.boxes.Boxes.{Boxes}
use Rattle.candidates.specs.Conflicts.{Near, placed}
use Rattle.candidates.specs.Placements.{within, fits_at, placeable, extent_at}
use Rattle.candidates.proofs.PreparedLaws.{bounded, placeable-is, extent-is}

-- ---- what is known of it

module _ (s : List ℕ) (v : View) (x : Viewed s v) (e : Entry) (h : is_entry (problem_of s v) e ≡ true) where
  pub of_kind : e.kind < kind_count (content s).kinds
  of_kind = entry-kind (problem_of s v) e h

  pub of_view : e.kind < v.kinds
  of_view = rw x.view.kinds of_kind

  pub turned-once : e.place.rotation < 4
  unfolding is_entry entry_kind
  turned-once = few-turns (problem_of s v) _ e.place.rotation ((accepted-sensible s v.margin x.accepted).turned e.kind) (admitted-parts (problem_of s v) (entry_kind (problem_of s v) e) e.place h).2

  pub of_column : e.place.column < v.columns
  unfolding is_entry
  of_column = rw x.view.columns (admitted-parts (problem_of s v) (entry_kind (problem_of s v) e) e.place h).0

  pub near : Near v.step (placed e.place.column e.place.row e.place.rotation)
  unfolding is_entry
  near =
      let parts = admitted-parts (problem_of s v) (entry_kind (problem_of s v) e) e.place h in
      let b = bounded s v x in
      record {
        across = omega (arith, b.across e.place.column of_column, b.size);
        up = omega (arith, b.up e.place.row (rw x.view.rows parts.1), b.size);
        turn = turned-once;
      }

-- ---- what the tests say

natural-bound : (z : ℤ) (n m : ℕ) → le_z z (pos n -ℤ pos m) ≡ true → natural z ≤ n
unfolding natural
natural-bound (pos k) n m e =
    ≤ℤ-pos (linear 3 (λ z n m. (z ≲ n ⊟ m) ∷ (# (pos 0) ≲ m) ∷ [] ⊩ z ≲ n) (pos k) (pos n) (pos m) (omega arith) (le_z_true (pos k) (pos n -ℤ pos m) e) (pos-≤ℤ (omega arith)))
natural-bound (negsuc k) n m e = omega arith

-- a placement ends on the board
ends-within : (v : View) (b : Boxes) (t c r k : ℕ) → placeable v b t c r k ≡ true → extent_at v b t c k ≤ v.length
unfolding placeable fits_at within extent_at
ends-within v b t c r k p =
    let box = and_right (ltb c v.columns && ltb r v.rows && test_bit (rotations_of v t) k) _ p in
    natural-bound ((box_at b t k).max_x +ℤ pos (c * v.step)) v.length v.margin
    (and_right (le_z (pos v.margin) ((box_at b t k).min_x +ℤ pos (c * v.step))) _ (and_left _ _ box))

module _ (s : List ℕ) (v : View) (b : Boxes) (x : Viewed s v) (y : BoxesOf s b) (e : Entry) where
  -- of a kind past the last one there is none
  pub none_beyond : v.kinds ≤ e.kind → false ≡ is_entry (problem_of s v) e
  none_beyond l = none (is_entry (problem_of s v) e) refl
    where
      none : (c : Bool) → is_entry (problem_of s v) e ≡ c → false ≡ c
      none false d = refl
      none true d = let k : e.kind < v.kinds = of_view s v x e d in absurd (omega arith)

  pub placement-is : e.kind < v.kinds → placeable v b e.kind e.place.column e.place.row e.place.rotation ≡ is_entry (problem_of s v) e
  unfolding is_entry entry_kind
  placement-is l = placeable-is s v b x y e.kind (rw x.view.kinds at l) e.place.column e.place.row e.place.rotation

  module _ (h : is_entry (problem_of s v) e ≡ true) where
    pub entry_ends : extent_at v b e.kind e.place.column e.place.rotation ≡ entry_extent (problem_of s v) e
    unfolding entry_extent entry_kind
    entry_ends = extent-is s v b x y e.kind (of_kind s v x e h) e.place.column e.place.row e.place.rotation (turned-once s v x e h)

    pub ends-on_board : extent_at v b e.kind e.place.column e.place.rotation ≤ 1000
    ends-on_board =
        let short = ends-within v b e.kind e.place.column e.place.row e.place.rotation (placement-is (of_view s v x e h) ∙ h) in
        omega (arith, (bounded s v x).size)

-- ---- the words of a set of candidate numbers

module _ (s : List ℕ) (v : View) (x : Viewed s v) where
  pub few-dots : v.columns * v.rows ≤ 1024
  unfolding dots
  few-dots = rw (x.view.columns, x.view.rows) (accepted-dots s x.accepted)

  pub words_counted : div_ceil (v.columns * v.rows) 16 ≡ set_words (content s).sheet
  unfolding set_words dots
  words_counted = rw (x.view.columns, x.view.rows) (up (columns (content s).sheet * rows (content s).sheet))
    where
      up : (n : ℕ) → n / 16 + min 1 (n % 16) ≡ (n + 15) / 16
      up n = omega arith
