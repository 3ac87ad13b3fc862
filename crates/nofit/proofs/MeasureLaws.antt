-- How far the pieces of a job reach. Assumes nothing.
use mathlib.Core.Bool.{Bool, true, false, ◌||◌}
use mathlib.Core.List.{List, [], ◌∷◌, map}
use mathlib.Core.Logic.{⊎_elim}
use mathlib.Core.Path.{◌≡◌, refl, sym, ap, ap₂, subst, ◌∙◌}
use Prim.Native.Nat.{ℕ, ◌+◌, ◌-◌, ◌*◌, ◌/◌, ◌%◌, ◌^◌, ◌≤◌, ◌<◌}
use native.Mathlib.Nat.{le_trans, lt_of_le_of_lt, le_of_eq, max-le, add-mul, mul_comm, mul-le-mul, mul-le-mul_right, div-mul-le_self}
use native.Mathlib.Omega.{arith}
use borrow.Author.Count.{below_more}
use lib.Dec.{lit≤, lit<}
use lib.IntN.{ℤ, pos, negsuc, nat_abs, ◌+ℤ◌, ◌-ℤ◌}
use lib.ListN.{get_or}
use lib.Signed.{le_z, ◌≤ℤ◌, ≤ℤ_refl}
use mir.Syntax.{w16, w64}
use mir.Val.{SFits, to_z, of_z}
use mir.ValLaws.{to_z_pos}
use Rattle.std.specs.Int.{int_max}
use Rattle.integers.proofs.Solver.{#, ◌⊞◌, ◌⊟◌, ◌≲◌}
use Rattle.integers.proofs.Certificates.{order, ◌⊢◌by◌, hyp, ◌⊕◌}
use Rattle.integers.proofs.Extrema.{max_upper_left, max_upper_right, min_lower-left, min_lower-right}
use Rattle.integers.proofs.Machine.{cast_gives, op_fits, op_gives}
use Rattle.integers.proofs.Order.{≤ℤ-trans, le_le_z, pos-≤ℤ}
use Rattle.integers.proofs.Sizes.{bounded, size_of, fits-64}
use Rattle.words.specs.Bits.{test_bit}
use Rattle.model.specs.Content.{kind_at, kind_count}
use Rattle.model.specs.Candidate.{natural}
use Rattle.model.specs.Format.{content}
use Rattle.model.specs.Gap.{pair_gap}
use Rattle.model.specs.Geometry.{rotated}
use Rattle.model.specs.Grid
use Rattle.model.specs.Grid.{set_words}
use Rattle.model.proofs.Accepted.{accepted-dots}
use Rattle.model.proofs.Causes.{no_cause, board-fits}
use Rattle.model.proofs.CommonCut.{pair_gap-most}
use Rattle.model.proofs.Lists.{not_both}
use Rattle.polygons.specs.Boxes.{extents_of, joined}
use Rattle.polygons.specs.declared.extents.Extents.{Extents}
use Rattle.geometry.specs.Apart.{boxes_apart}
use Rattle.job.specs.View.{Viewed, rotations_of, gap_of}
use Rattle.job.specs.declared.View.{View}
use Rattle.shapes.specs.Boxes.{no_box, turned_vertices, BoxesOf}
use Rattle.shapes.specs.declared.boxes.Boxes.{Boxes}
use Rattle.convexity.proofs.Soundness.{rotated-parts, accepted-parts}
use Rattle.geometry.proofs.BoxesApart.{boxes-apart}
use Rattle.shapes.proofs.ViewLaws.{kind-in}
use Rattle.candidates.proofs.PlacementLaws.{end_is}
use Rattle.candidates.proofs.PreparedLaws.{sheet-range}
use Rattle.nofit.specs.Measures.{Within, Around, NoLarger, Spaced}
use Rattle.nofit.specs.Patterns.{offset_conflict, Reaching, MeasuresOf}

-- ---- the box around all kinds

-- a box that lies within another also lies within a larger one
within-joined : (e f g : Extents) → Within e g → Within (joined e f) g
unfolding joined
within-joined e f g w =
    record { left = ≤ℤ-trans (min_lower-left e.min_x f.min_x) w.left; right = ≤ℤ-trans w.right (max_upper_left e.max_x f.max_x) }

joined-within : (e f : Extents) → Within (joined e f) f
unfolding joined
joined-within e f = record { left = min_lower-right e.min_x f.min_x; right = max_upper_right e.max_x f.max_x }

module _ (masks : ℕ → ℕ) (of : List Extents) (n : ℕ) (e : Extents) (before : Around masks of n e) where
  -- the next box, if its rotation is allowed
  pub around_next : (r : Extents) → r ≡ joined e (get_or of n no_box) → Around masks of (n + 1) r
  around_next r h = rw h (below_more _ n (λ i l t. within-joined e (get_or of n no_box) (get_or of i no_box) (before i l t)) (λ t. joined-within e (get_or of n no_box)))

  -- the next box, if it is not
  pub around_skip : (b : Bool) (m : ℕ) → b ≡ test_bit (masks (n / 4)) m → m ≡ n % 4 → b ≡ false → Around masks of (n + 1) e
  around_skip b m h k f = below_more _ n before (λ t. absurd (not_both t (sym (ap (test_bit (masks (n / 4))) k) ∙ sym h ∙ f)))

-- ---- the span of two pieces

-- the larger of a number and 0
natural_near : (z : ℤ) → nat_abs z ≤ 66000 → (z ≤ℤ pos (natural z)) × (natural z ≤ 66000)
unfolding natural
natural_near (pos n) h = (≤ℤ_refl (pos n), h)
natural_near (negsuc n) h = (record { le = tt }, omega arith)

module _ (low high : ℤ) (gap : ℕ) (fl : SFits w16 low) (fh : SFits w16 high) (h : gap ≤ 63) where
  size : nat_abs ((high -ℤ low) +ℤ pos gap) ≤ 66000
  size = le_trans (bounded (2 ^ 15 ∷ 2 ^ 15 ∷ 63 ∷ []) 3 (λ h l g. (h ⊟ l) ⊞ g) high low (pos gap) (size_of w16 high fh) (size_of w16 low fl) h) (lit≤ tt)

  span_fits : SFits w64 (high -ℤ low)
  span_fits = fits-64 (high -ℤ low) (le_trans (bounded (2 ^ 15 ∷ 2 ^ 15 ∷ []) 2 (λ h l. h ⊟ l) high low (size_of w16 high fh) (size_of w16 low fl)) (lit≤ tt))

  -- of two coordinates of 16 bits, read in 64
  abbrev high_read : ℤ
  high_read = to_z w64 (of_z w64 (to_z w16 (of_z w16 high)))

  abbrev low_read : ℤ
  low_read = to_z w64 (of_z w64 (to_z w16 (of_z w16 low)))

  pub difference_fits : SFits w64 (high_read -ℤ low_read)
  difference_fits = op_fits (cast_gives w64 fh tt) (cast_gives w64 fl tt) ◌-ℤ◌ span_fits

  difference : to_z w64 (of_z w64 (high_read -ℤ low_read)) ≡ high -ℤ low
  difference = op_gives (cast_gives w64 fh tt) (cast_gives w64 fl tt) ◌-ℤ◌ span_fits

  sum_fits : SFits w64 ((high -ℤ low) +ℤ pos gap)
  sum_fits = fits-64 ((high -ℤ low) +ℤ pos gap) (le_trans size (lit≤ tt))

  gap-read : to_z w64 gap ≡ pos gap
  gap-read = to_z_pos w64 gap (lt_of_le_of_lt h (lit< tt))

  pub spaced_fits : SFits w64 (to_z w64 (of_z w64 (high_read -ℤ low_read)) +ℤ to_z w64 gap)
  spaced_fits = op_fits difference gap-read ◌+ℤ◌ sum_fits

  -- the span as it is computed
  abbrev pub span_read : ℤ
  span_read = to_z w64 (of_z w64 (to_z w64 (of_z w64 (high_read -ℤ low_read)) +ℤ to_z w64 gap))

  pub span_value : span_read ≡ (high -ℤ low) +ℤ pos gap
  span_value = op_gives difference gap-read ◌+ℤ◌ sum_fits

  -- the larger of it and 0
  pub span_natural : (r : ℤ) → SFits w64 r → r ≡ int_max span_read (pos 0) → to_z w64 (of_z w64 r) ≡ pos (natural ((high -ℤ low) +ℤ pos gap))
  span_natural r f e = end_is r span_read f e span_value

  pub span_most : (((high -ℤ low) +ℤ pos gap) ≤ℤ pos (natural ((high -ℤ low) +ℤ pos gap))) × (natural ((high -ℤ low) +ℤ pos gap) ≤ 66000)
  span_most = natural_near ((high -ℤ low) +ℤ pos gap) size

-- ---- so many columns

-- ---- pieces so many columns apart

third_held : (a b c d : Bool) → c ≡ true → (a || b || c || d) ≡ true
third_held true b c d h = refl
third_held false true c d h = refl
third_held false false c d h = rw h

-- The one piece lies right of the other, and the one left of the other.
module _ (gap : ℕ) (all E F : Extents) (p span : ℕ) (m n : ℤ) (dy : ℤ) (e : Within all E) (f : Within all F) (small : p ≤ gap)
    (wide : ((all.max_x -ℤ all.min_x) +ℤ pos gap) ≤ℤ pos span) where
  right-apart : (pos span +ℤ m) ≤ℤ n → boxes_apart p E F (n -ℤ m) dy ≡ true
  unfolding boxes_apart
  right-apart h =
      ap (λ t. t || le_z (E.max_y +ℤ pos 0 +ℤ pos p) (F.min_y +ℤ dy) || le_z (F.max_x +ℤ (n -ℤ m) +ℤ pos p) (E.min_x +ℤ pos 0) || le_z (F.max_y +ℤ dy +ℤ pos p) (E.min_y +ℤ pos 0))
      (le_le_z (E.max_x +ℤ pos 0 +ℤ pos p) (F.min_x +ℤ (n -ℤ m))
      (order 9 (λ lo hi eh fl p g s m n. (lo ≲ fl) ∷ (eh ≲ hi) ∷ (p ≲ g) ∷ ((hi ⊟ lo) ⊞ g ≲ s) ∷ (s ⊞ m ≲ n) ∷ [] ⊢ eh ⊞ # (pos 0) ⊞ p ≲ fl ⊞ (n ⊟ m) by hyp 0 ⊕ hyp 1 ⊕ hyp 2 ⊕ hyp 3 ⊕ hyp 4) tt
      all.min_x all.max_x E.max_x F.min_x (pos p) (pos gap) (pos span) m n f.left e.right (pos-≤ℤ small) wide h))

  left-apart : (pos span +ℤ n) ≤ℤ m → boxes_apart p E F (n -ℤ m) dy ≡ true
  unfolding boxes_apart
  left-apart h =
      third_held (le_z (E.max_x +ℤ pos 0 +ℤ pos p) (F.min_x +ℤ (n -ℤ m))) (le_z (E.max_y +ℤ pos 0 +ℤ pos p) (F.min_y +ℤ dy)) _ (le_z (F.max_y +ℤ dy +ℤ pos p) (E.min_y +ℤ pos 0))
      (le_le_z (F.max_x +ℤ (n -ℤ m) +ℤ pos p) (E.min_x +ℤ pos 0)
      (order 9 (λ lo hi el fh p g s m n. (lo ≲ el) ∷ (fh ≲ hi) ∷ (p ≲ g) ∷ ((hi ⊟ lo) ⊞ g ≲ s) ∷ (s ⊞ n ≲ m) ∷ [] ⊢ fh ⊞ (n ⊟ m) ⊞ p ≲ el ⊞ # (pos 0) by hyp 0 ⊕ hyp 1 ⊕ hyp 2 ⊕ hyp 3 ⊕ hyp 4) tt
      all.min_x all.max_x E.min_x F.max_x (pos p) (pos gap) (pos span) m n e.left f.right (pos-≤ℤ small) wide h))

-- columns that are so far apart are a span apart
columns-apart : (span g columns r a c : ℕ) → Spaced span g columns r → a + r ≤ c → c < columns → (pos span +ℤ pos (a * g)) ≤ℤ pos (c * g)
columns-apart span g columns r a c f h l =
    let d : span ≤ (c - a) * g = f.clear (c - a) (omega arith) (omega arith) in
    let e : c ≡ (c - a) + a = omega arith in
    let k : c * g ≡ (c - a) * g + a * g = ap (λ n. n * g) e ∙ add-mul (c - a) a g in
    let l : span + a * g ≤ c * g = omega arith in
    pos-≤ℤ l

module _ (s : List ℕ) (v : View) (b : Boxes) (x : Viewed s v) (y : BoxesOf s b) (all : Extents) (gap span r : ℕ) (around : Around (rotations_of v) b.of (v.kinds * 4) all)
    (gaps : NoLarger (gap_of v) v.kinds gap) (wide : ((all.max_x -ℤ all.min_x) +ℤ pos gap) ≤ℤ pos span) (spaced : Spaced span v.step v.columns r) where
  -- the box of a kind at a rotation that it may have
  box-within : (t k : ℕ) → t < kind_count (content s).kinds → k < 4 → test_bit (kind_at (content s).kinds t).rotations k ≡ true → Within all (extents_of (turned_vertices s t k))
  box-within t k h l m =
      let q : (t * 4 + k) / 4 ≡ t = omega arith in
      let r : (t * 4 + k) % 4 ≡ k = omega arith in
      subst (Within all) (y.exact t k h l)
      (around (t * 4 + k) (omega (arith, x.view.kinds))
      (ap₂ (λ i j. test_bit (rotations_of v i) j) q r ∙ ap (λ n. test_bit n k) (kind-in s v x t h).rotations ∙ m))

  -- the gap of a pair is at most the larger of the two kinds' gaps
  pair_most : (t u : ℕ) → t < kind_count (content s).kinds → u < kind_count (content s).kinds → pair_gap (content s).classes (kind_at (content s).kinds t) (kind_at (content s).kinds u) ≤ gap
  pair_most t u ht hu =
      le_trans (pair_gap-most (content s).classes (kind_at (content s).kinds t) (kind_at (content s).kinds u))
      (max-le (subst (λ n. n ≤ gap) (kind-in s v x t ht).gap (gaps t (omega (arith, x.view.kinds)))) (subst (λ n. n ≤ gap) (kind-in s v x u hu).gap (gaps u (omega (arith, x.view.kinds)))))

  -- Pieces that stand so many columns apart are not in conflict.
  pub reaching : Reaching (content s) r
  unfolding offset_conflict
  reaching t q u k a c dy n hq hk ha hc far =
      let ht : t < kind_count (content s).kinds = omega (arith, n.ordered, n.exists) in
      let p = pair_most t u ht n.exists in
      let e = box-within t q ht hq n.first in
      let f = box-within u k n.exists hk n.second in
      let g = (content s).sheet.g in
      let there : Spaced span g (Grid.columns (content s).sheet) r = rw (sym x.view.step, sym x.view.columns) spaced in
      boxes-apart (pair_gap (content s).classes (kind_at (content s).kinds t) (kind_at (content s).kinds u)) (map (map (rotated q)) (kind_at (content s).kinds t).parts) (map (map (rotated k)) (kind_at (content s).kinds u).parts)
      (pos (c * g) -ℤ pos (a * g)) dy (rotated-parts q (kind_at (content s).kinds t).parts (accepted-parts s x.accepted t ht)) (rotated-parts k (kind_at (content s).kinds u).parts (accepted-parts s x.accepted u n.exists))
      (⊎_elim (λ h. right-apart gap all _ _ _ span (pos (a * g)) (pos (c * g)) dy e f p wide (columns-apart span g (Grid.columns (content s).sheet) r a c there h hc))
      (λ h. left-apart gap all _ _ _ span (pos (a * g)) (pos (c * g)) dy e f p wide (columns-apart span g (Grid.columns (content s).sheet) r c a there h ha)) far)

-- The step and the columns of the board.
module _ (s : List ℕ) (v : View) (x : Viewed s v) where
  pub step_range : (1 ≤ v.step) × ((v.step ≤ 1000) × (1 ≤ v.columns))
  unfolding content Grid.columns
  step_range =
      let f = board-fits s (no_cause s x.accepted).no4 in
      (rw x.view.step f.step_least, (rw x.view.step f.step_most, rw x.view.columns (omega arith)))

  pub dots-most : v.columns * v.rows ≤ 1024
  unfolding Grid.dots
  dots-most = rw (x.view.columns, x.view.rows) (accepted-dots s x.accepted)

-- ---- the words of a table

pub swapped : (a b n : ℕ) → a * b ≤ n → b * a ≤ n
swapped a b n h = subst (λ m. m ≤ n) (mul_comm a b) h

pub kinds-most : (kinds : ℕ) → kinds ≤ 8 → kinds * (kinds + 1) ≤ 72
kinds-most kinds h = mul-le-mul {n₁ = kinds} {m₁ = kinds + 1} {n₂ = 8} {m₂ = 9} h (omega arith)

-- columns, or rows, of a side of at most 1000
side_most : (side g n : ℕ) → side ≤ 1000 → g ≤ 1000 → n ≤ side / g + 1 → n * g ≤ 2000
side_most side g n h k l =
    let a : n * g ≤ (side / g + 1) * g = mul-le-mul_right g l in
    let b : (side / g + 1) * g ≡ side / g * g + 1 * g = add-mul (side / g) 1 g in
    let c : side / g * g ≤ side = div-mul-le_self side g in
    omega arith

-- The table's measures.
pub measures-of : (s : List ℕ) (v : View) → Viewed s v → (reach first size held : ℕ) → Reaching (content s) reach × ((1 ≤ reach) × (reach ≤ v.columns))
    → (v.rows * 4 + (v.columns * v.rows + 15) / 16 * 64 ≤ first * 64) × (first ≤ 200) → ((reach * 2 + 1) * v.rows * 4 + 128 ≤ size * 64) × (size ≤ 200) → held ≤ v.kinds * (v.kinds + 1) * 4
    → MeasuresOf s (record { kinds = v.kinds; rows = v.rows; reach = reach; first = first; size = size; held = held })
unfolding Grid.columns Grid.rows Grid.dots set_words
measures-of s v x reach first size held r f z few =
    let q = sheet-range s x.accepted in
    record {
      accepted = x.accepted;
      kinds = x.view.kinds;
      rows = x.view.rows;
      some = r.1.0;
      across = side_most (content s).sheet.L (content s).sheet.g reach q.1 q.2 (rw x.view.columns at r.1.1);
      up = side_most (content s).sheet.W (content s).sheet.g v.rows q.0 q.2 (le_of_eq x.view.rows);
      reaching = r.0;
      parities = subst (λ n. v.rows * 4 + (n + 15) / 16 * 64 ≤ first * 64) (ap₂ ◌*◌ x.view.columns x.view.rows) f.0;
      string = z.0;
      small = (f.1, z.1);
      few = few;
    }
