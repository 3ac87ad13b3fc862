-- What a prepared call's view, turned parts and boxes say of the model: placements, extents, conflicts and rows. Assumes nothing.
use Rattle.job.specs.View.{cut_of, rotations_of}
use mathlib.Core.Bool.{Bool, true, false, cond, ◌&&◌, and_assoc}
use mathlib.Core.List.{List, [], ◌∷◌, map}
use mathlib.Core.Logic.{⊎_elim}
use mathlib.Core.Path.{◌≡◌, refl, sym, ap, ap₂, ◌∙◌}
use Prim.Native.Nat.{ℕ, ◌+◌, ◌*◌, ◌/◌, ◌%◌, ◌≤◌, ◌<◌, max}
use native.Mathlib.Nat.{div-mul-le_self, div-le_self, mul-le-mul_right, mod-lt, not-suc-le-zero, div-lt_iff_lt-mul}
use native.Mathlib.Omega.{arith}
use borrow.Author.Tests.{ltb-true}
use lib.Dec.{ltb}
use lib.IntN.{ℤ}
use lib.ListN.{length, get_or, length-append, length-map}
use Rattle.words.specs.Bits.{test_bit}
use Rattle.words.proofs.Bit.{test_bit-above}
use Rattle.words.proofs.Cases.{le_or_lt}
use Rattle.model.specs.Candidate.{placed_parts, placed_vertices, on_board, admitted, is_candidate, extent}
use Rattle.model.specs.Content.{Vertex, Part, Board, SpacingClass, Kind, kind_at, kind_count}
use Rattle.model.specs.Format.{content, refusal}
use Rattle.model.specs.Gap.{kind_gap, share_cut, pair_gap}
use Rattle.model.specs.Geometry.{rotated, moved}
use Rattle.model.specs.Grid.{placement, rows, columns, dots, number_limit, placement_of}
use Rattle.model.specs.Layout.{entry, entry_of, entry_kind, conflict}
use Rattle.model.specs.Lists.{all, concat}
use Rattle.model.specs.Problem.{Problem, under}
use Rattle.model.proofs.Accepted.{accepted-sensible}
use Rattle.model.proofs.Box.{all-on_board, placed-vertices, extent-placed, largest-x-moved, largest-y-moved, smallest_x-moved, smallest_y-moved}
use Rattle.model.proofs.Lists.{and_left}
use Rattle.model.proofs.Numbers.{rows-positive}
use Rattle.model.proofs.Gaps.{gap-most}
use Rattle.model.proofs.Causes.{no_cause, board-fits}
use Rattle.model.proofs.Turning.{vertexed, conflict-placed}
use Rattle.polygons.specs.Boxes.{extents_of}
use Rattle.job.specs.Gaps.{same_cut}
use Rattle.job.specs.View.{problem_of, Viewed}
use Rattle.job.specs.declared.View.{View}
use Rattle.job.proofs.GapLaws.{shared-cut}
use Rattle.geometry.specs.declared.pieces.Piece.{Piece}
use Rattle.shapes.specs.Boxes.{box_at, turned_vertices, BoxesOf}
use Rattle.shapes.specs.Pieces.{PieceOf}
use Rattle.candidates.specs.Placements.{Bounded, within, fits_at, placeable, offered, extent_at}
use Rattle.candidates.specs.Conflicts.{placement_at, placed_of, Near, conflict_between, gap_between, view_gap}
use Rattle.shapes.specs.Turned.{TurnedOf}
use Rattle.shapes.specs.declared.boxes.Boxes.{Boxes}
use Rattle.candidates.specs.declared.conflicts.Placed.{Placed}
use Rattle.shapes.proofs.PieceLaws.{parts-turned}
use Rattle.shapes.proofs.ViewLaws.{few-kinds, kind-in, some-part, part_in_lem}

-- ---- the ranges of a view's numbers

-- the first of some parts has a vertex, so all together have one
first-vertex : (f : Part → Part) → ((P : Part) → length (f P) ≡ length P) → (Ps : List Part) → 1 ≤ length Ps → ((i : ℕ) → i < length Ps → 3 ≤ length (get_or Ps i []))
    → 0 < length (concat (map f Ps))
unfolding concat
first-vertex f e [] l k = absurd (not-suc-le-zero l)
first-vertex f e (P ∷ Ps) l k = rw (length-append (f P) (concat (map f Ps))) (omega (arith, e P, k 0 (omega arith)))

-- what counts up to n in steps of g stays within n
reached : (n g c : ℕ) → c < n / g + 1 → c * g ≤ n
reached n g c h =
    let a : c * g ≤ n / g * g = mul-le-mul_right g (omega arith) in
    let b : n / g * g ≤ n = div-mul-le_self n g in
    omega arith

-- the board's numbers are at most 1000
pub sheet-range : (s : List ℕ) → refusal s ≡ 0 → ((content s).sheet.W ≤ 1000) × ((content s).sheet.L ≤ 1000) × ((content s).sheet.g ≤ 1000)
unfolding content
sheet-range s e = let f = board-fits s (no_cause s e).no4 in (f.width_most, f.length_most, f.step_most)

-- The gaps of two kinds, and whether they share a common cut, make the gap of the pair.
pub gap-of_pair : (cs : List SpacingClass) (k l : Kind) (g h : ℕ) (shared : Bool) → g ≡ kind_gap cs k → h ≡ kind_gap cs l → shared ≡ share_cut cs k l
    → gap_between g h shared ≡ pair_gap cs k l
unfolding gap_between pair_gap
gap-of_pair cs k l g h shared eg eh e = ap₂ (λ t d. cond t 0 d) e (ap₂ max eg eh)

module _ (s : List ℕ) (v : View) (x : Viewed s v) where
  pub bounded : Bounded v
  unfolding rows columns
  bounded =
      let r = sheet-range s x.accepted in
      let sheet : Board = (content s).sheet in
      record {
        kinds = rw x.view.kinds (few-kinds s v x);
        rows = rw x.view.rows (omega arith, omega (arith, div-le_self sheet.W sheet.g, r.0));
        columns = rw x.view.columns (omega (arith, div-le_self sheet.L sheet.g, r.1));
        size = (rw x.view.len r.1, rw x.view.width r.0);
        step = rw x.view.step r.2;
        margin = x.view.margin;
        across = λ c h. rw (x.view.step, x.view.len) (reached sheet.L sheet.g c (rw x.view.columns at h));
        up = λ c h. rw (x.view.step, x.view.width) (reached sheet.W sheet.g c (rw x.view.rows at h));
        rotations = λ t h. rw (kind-in s v x t (rw x.view.kinds at h)).rotations ((accepted-sensible s v.margin x.accepted).turned t);
        gaps = λ t h. rw (kind-in s v x t (rw x.view.kinds at h)).gap (gap-most s x.accepted (kind_at (content s).kinds t));
      }

  -- The view's numbers of two kinds say whether they share a common cut.
  pub shares_cut : (t u : ℕ) → t < kind_count (content s).kinds → u < kind_count (content s).kinds
      → same_cut (cut_of v t) (cut_of v u) ≡ share_cut (content s).classes (kind_at (content s).kinds t) (kind_at (content s).kinds u)
  shares_cut t u ht hu = ap₂ same_cut (kind-in s v x t ht).cut (kind-in s v x u hu).cut ∙ shared-cut (content s).classes (kind_at (content s).kinds t) (kind_at (content s).kinds u)

  -- The gap of two kinds in the view is the pair's.
  pub gap_is : (t u : ℕ) → t < kind_count (content s).kinds → u < kind_count (content s).kinds
      → view_gap v t u ≡ pair_gap (content s).classes (kind_at (content s).kinds t) (kind_at (content s).kinds u)
  gap_is t u ht hu =
      gap-of_pair (content s).classes (kind_at (content s).kinds t) (kind_at (content s).kinds u) _ _ _ (kind-in s v x t ht).gap (kind-in s v x u hu).gap (shares_cut t u ht hu)

  -- the vertices of a kind
  module _ (t : ℕ) (h : t < kind_count (content s).kinds) where
    pub some-vertex : (k : ℕ) → 0 < length (turned_vertices s t k)
    some-vertex k = first-vertex (map (rotated k)) (λ P. length-map P (rotated k)) (kind_at (content s).kinds t).parts (some-part s v x t h) (λ i l. (part_in_lem s v x t h i l).least)

-- ---- placements

module _ (s : List ℕ) (v : View) (b : Boxes) (x : Viewed s v) (y : BoxesOf s b) (t : ℕ) (h : t < kind_count (content s).kinds) where
  -- the box decides whether all vertices lie on the board
  on_board_lem : (c r k : ℕ) → k < 4 → fits_at v (box_at b t k) c r ≡ all (on_board v.margin (content s).sheet) (placed_vertices (content s).sheet (kind_at (content s).kinds t) (placement c r k))
  unfolding fits_at within extents_of
  on_board_lem c r k l =
      let sheet : Board = (content s).sheet in
      let vs : List Vertex = turned_vertices s t k in
      let some = some-vertex s v x t h k in
      let ms : List Vertex = map (moved (c * sheet.g) (r * sheet.g)) vs in
      rw (y.exact t k h l, x.view.step, x.view.len, x.view.width)
      (sym
      (ap (all (on_board v.margin sheet)) (placed-vertices sheet (kind_at (content s).kinds t) (placement c r k))
      ∙ all-on_board v.margin sheet ms (rw (length-map vs (moved (c * sheet.g) (r * sheet.g))) some)
      ∙ rw (smallest_x-moved (c * sheet.g) (r * sheet.g) vs some, largest-x-moved (c * sheet.g) (r * sheet.g) vs some, smallest_y-moved (c * sheet.g) (r * sheet.g) vs some, largest-y-moved (c * sheet.g) (r * sheet.g) vs some)
      (search and_assoc)))

  -- Whether a kind may stand on a dot at a rotation is what the model says.
  pub placeable-is : (c r k : ℕ) → placeable v b t c r k ≡ admitted (problem_of s v) (kind_at (content s).kinds t) (placement c r k)
  unfolding placeable admitted
  placeable-is c r k =
      ap (λ n. ltb c n && ltb r v.rows && test_bit (rotations_of v t) k && fits_at v (box_at b t k) c r) x.view.columns
      ∙ ap (λ n. ltb c (columns (content s).sheet) && ltb r n && test_bit (rotations_of v t) k && fits_at v (box_at b t k) c r) x.view.rows
      ∙ ap (λ n. ltb c (columns (content s).sheet) && ltb r (rows (content s).sheet) && test_bit n k && fits_at v (box_at b t k) c r) (kind-in s v x t h).rotations
      ∙ ⊎_elim (λ g. far g) (λ g. ap (λ w. ltb c (columns (content s).sheet) && ltb r (rows (content s).sheet) && test_bit (kind_at (content s).kinds t).rotations k && w) (on_board_lem c r k g)) (le_or_lt 4 k)
    where
      rest : Bool
      rest = ltb c (columns (content s).sheet) && ltb r (rows (content s).sheet)

      board : Bool
      board = all (on_board v.margin (content s).sheet) (placed_vertices (content s).sheet (kind_at (content s).kinds t) (placement c r k))

      far : 4 ≤ k → (rest && test_bit (kind_at (content s).kinds t).rotations k && fits_at v (box_at b t k) c r) ≡ (rest && test_bit (kind_at (content s).kinds t).rotations k && board)
      far g = rw (test_bit-above (kind_at (content s).kinds t).rotations 4 k ((accepted-sensible s v.margin x.accepted).turned t) g) (none rest (fits_at v (box_at b t k) c r) board)
        where
          none : (a u w : Bool) → (a && false && u) ≡ (a && false && w)
          none true u w = refl
          none false u w = refl

  -- The same of a candidate number.
  pub offered-is : (n : ℕ) → offered v b t n ≡ is_candidate (problem_of s v) t n
  unfolding offered is_candidate placement_of
  offered-is n =
      ap (λ m. placeable v b t (n / 4 / m) (n / 4 % m) (n % 4)) x.view.rows
      ∙ placeable-is (n / 4 / rows (content s).sheet) (n / 4 % rows (content s).sheet) (n % 4)

  -- The end of a placement at a rotation is what the model says, whatever its row.
  pub extent-is : (c r k : ℕ) → k < 4 → extent_at v b t c k ≡ extent (content s).sheet (kind_at (content s).kinds t) (placement c r k)
  unfolding extent_at extents_of
  extent-is c r k l =
      rw (y.exact t k h l, x.view.step) (sym (extent-placed (content s).sheet (kind_at (content s).kinds t) (placement c r k) (some-vertex s v x t h k)))

-- ---- conflicts

module _ (s : List ℕ) (v : View) (table : List ℤ) (x : Viewed s v) (z : TurnedOf s table) (t u : ℕ) (ht : t < kind_count (content s).kinds) (hu : u < kind_count (content s).kinds)
    (p q : Piece) (ep : PieceOf s t p) (eq : PieceOf s u q) where
  -- Conflict of two placed pieces at the pair's gap is what the model says, under any margin.
  pub conflict-is : (m : ℕ) (a c : Placed) → a.rotation < 4 → c.rotation < 4
      → conflict_between table v.step p a q c (pair_gap (content s).classes (kind_at (content s).kinds t) (kind_at (content s).kinds u))
      ≡ conflict (under m (content s)) (entry t (placement_at a)) (entry u (placement_at c))
  unfolding conflict_between conflict entry_kind placed_parts
  conflict-is m a c ha hc =
      rw (parts-turned s table t p z ep ht a.rotation ha, parts-turned s table u q z eq hu c.rotation hc, x.view.step)
      (conflict-placed (pair_gap (content s).classes (kind_at (content s).kinds t) (kind_at (content s).kinds u)) (content s).sheet (placement_at a) (placement_at c) (kind_at (content s).kinds t).parts (kind_at (content s).kinds u).parts
      (vertexed s x.accepted t) (vertexed s x.accepted u))

  -- the place of a number is the model's placement of it
  place_is : (m n : ℕ) → entry t (placement_at (placed_of v.rows n)) ≡ entry_of (under m (content s)) t n
  unfolding entry_of placement_of
  place_is m n = ap (λ r. entry t (placement (n / 4 / r) (n / 4 % r) (n % 4))) x.view.rows

  place-is_2 : (m n : ℕ) → entry u (placement_at (placed_of v.rows n)) ≡ entry_of (under m (content s)) u n
  unfolding entry_of placement_of
  place-is_2 m n = ap (λ r. entry u (placement (n / 4 / r) (n / 4 % r) (n % 4))) x.view.rows

  -- The same of two numbers.
  pub numbers_conflict : (m n k : ℕ)
      → conflict_between table v.step p (placed_of v.rows n) q (placed_of v.rows k) (pair_gap (content s).classes (kind_at (content s).kinds t) (kind_at (content s).kinds u))
      ≡ conflict (under m (content s)) (entry_of (under m (content s)) t n) (entry_of (under m (content s)) u k)
  numbers_conflict m n k =
      conflict-is m (placed_of v.rows n) (placed_of v.rows k) (omega arith) (omega arith)
      ∙ ap₂ (conflict (under m (content s))) (place_is m n) (place-is_2 m k)

-- ---- what every candidate keeps

-- A number that is one of a board's has a column of the board.
column-within : (b : Board) (n : ℕ) → n < number_limit b → n / 4 / rows b < columns b
unfolding number_limit dots
column-within b n h = (div-lt_iff_lt-mul (rows-positive b)).1 (omega arith)

pub number-near : (s : List ℕ) (v : View) → Viewed s v → (n : ℕ) → n < number_limit (content s).sheet → Near v.step (placed_of v.rows n)
number-near s v x n h =
    let b = bounded s v x in
    record {
      across = omega (arith, b.across (n / 4 / v.rows) (rw (x.view.rows, x.view.columns) (column-within (content s).sheet n h)));
      up = omega (arith, b.up (n / 4 % v.rows) (mod-lt (n / 4) b.rows.0));
      turn = omega arith;
    }

-- A candidate's number is one of the board's.
pub candidate-number : (j : Problem) (t n : ℕ) → is_candidate j t n ≡ true → n < number_limit j.sheet
unfolding is_candidate admitted placement_of number_limit dots
candidate-number j t n e =
    let c : n / 4 / rows j.sheet < columns j.sheet = ltb-true _ _ (and_left _ _ (and_left _ _ (and_left _ _ e))) in
    let d : n / 4 < columns j.sheet * rows j.sheet = (div-lt_iff_lt-mul (rows-positive j.sheet)).0 c in
    omega arith
