-- From a pattern to the strings of the table. Assumes nothing.
use mathlib.Core.Bool.{Bool, true, false, cond, ◌&&◌, ◌||◌}
use mathlib.Core.List.{List, map}
use mathlib.Core.Logic.{◌⊎◌, inl, inr, ⊎_elim}
use mathlib.Core.Path.{◌≡◌, refl, sym, ap, ap₂, subst, ◌∙◌}
use Prim.Native.Nat.{ℕ, suc, ◌+◌, ◌-◌, ◌*◌, ◌/◌, ◌%◌, ◌^◌, ◌≤◌, ◌<◌}
use native.Mathlib.Nat.{suc-mul, mul-le-mul, mul-le-mul_right, mul-le-mul_left, mod-lt, div-lt_iff_lt-mul, div-add-mod'}
use native.Mathlib.Omega.{arith}
use borrow.Author.Tests.{le-leb, lt-leb, lt-ltb, le-ltb}
use lib.Dec.{leb, ltb, eqb}
use lib.IntN.{ℤ}
use lib.ListN.{length}
use mir.Val.{bool_byte}
use Rattle.words.specs.Bits.{test_bit, bits_where}
use Rattle.words.specs.Number.{with_number}
use Rattle.words.specs.Sets.{member}
use Rattle.words.proofs.Bit.{test_bit-bits_where}
use Rattle.words.proofs.Cases.{le_or_lt}
use Rattle.model.specs.Content.{Job, kind_at, kind_count}
use Rattle.model.specs.Format.{content}
use Rattle.model.specs.Geometry.{rotated}
use Rattle.model.specs.Grid
use Rattle.model.specs.Lists.{concat}
use Rattle.polygons.specs.Boxes.{extents_of}
use Rattle.job.specs.View.{Viewed, rotations_of}
use Rattle.job.specs.declared.View.{View}
use Rattle.shapes.specs.Boxes.{box_at}
use Rattle.geometry.specs.Pieces.{parts_in}
use Rattle.geometry.specs.declared.pieces.Piece.{Piece}
use Rattle.shapes.specs.Pieces.{PieceOf, turned_to}
use Rattle.shapes.specs.declared.boxes.Boxes.{Boxes}
use Rattle.shapes.proofs.PieceLaws.{parts-turned, piece_turnable}
use Rattle.shapes.proofs.ViewLaws.{few-kinds, kind-in}
use Rattle.candidates.specs.Conflicts.{Prepared}
use Rattle.candidates.proofs.PreparedLaws.{gap_is}
use Rattle.nofit.specs.Patterns.{offset_conflict, from_middle, blocked, above_string, below_string, string_start, StringsOf, ParitiesOf, MeasuresOf}
use Rattle.nofit.specs.Filling.{dot_of, conflict_at_dot, blocked_turned, blocked_bit, Ready, Boxed, BoxesIn, Written, allowed, PairOf, under_of, bound_of, pattern_of, Small, parity_bits, ParitiesTo}
use Rattle.nofit.specs.declared.places.Nofit.{Nofit}
use Rattle.nofit.specs.declared.patterns.Pair.{Pair}
use Rattle.nofit.specs.declared.patterns.Pattern.{Pattern}
use Rattle.nofit.proofs.FillingLaws.{high_digit, low_digit, member-written, member-unwritten}

-- ---- the measures are small

module _ (s : List ℕ) (w : Nofit) (m : MeasuresOf s w) where
  pub some-rows : 1 ≤ w.rows
  unfolding Grid.rows
  some-rows = omega (arith, m.rows)

  -- a string's dots
  dots-few : (w.reach * 2 + 1) * w.rows ≤ 3168
  dots-few = omega (arith, m.string, m.small.1)

  pub rows_few : w.rows ≤ 4000
  rows_few = omega (arith, dots-few, mul-le-mul_right {m = 1} {n = w.reach * 2 + 1} w.rows (omega arith))

  pub reach_near : w.reach ≤ 4000
  reach_near = omega (arith, dots-few, mul-le-mul_left {m = 1} {n = w.rows} (w.reach * 2 + 1) some-rows)

  pub dots-under : (down : ℕ) → down ≤ 1 → (w.reach + down) * w.rows ≤ 4000
  dots-under down h = omega (arith, dots-few, mul-le-mul_right {m = w.reach + down} {n = w.reach * 2 + 1} w.rows (omega (arith, m.some)))

-- the table has at most 288 strings
pub held-few : (s : List ℕ) (v : View) → Viewed s v → (w : Nofit) → MeasuresOf s w → (w.kinds ≤ 8) × (w.held ≤ 288)
held-few s v x w m =
    let k : w.kinds ≤ 8 = omega (arith, m.kinds, few-kinds s v x) in
    (k, omega (arith, m.few, mul-le-mul {n₁ = w.kinds} {m₁ = w.kinds + 1} {n₂ = 8} {m₂ = 9} k (omega arith)))

-- a string stands within the table
pub string-room : (w : Nofit) (i : ℕ) → i < w.held → i * w.size + w.size ≤ w.held * w.size
string-room w i h = omega (arith, suc-mul i w.size, mul-le-mul_right {m = suc i} {n = w.held} w.size h)

pub string-early : (w : Nofit) (i : ℕ) → i ≤ 288 → w.size ≤ 200 → i * w.size ≤ 57600
string-early w i h l = mul-le-mul {n₁ = i} {m₁ = w.size} {n₂ = 288} {m₂ = 200} h l

-- ---- whose string it is

-- digits tell a number
digits_high : (a b c d m : ℕ) → b < m → d < m → a * m + b ≡ c * m + d → a ≡ c
digits_high a b c d m hb hd e = sym (high_digit a b m hb) ∙ ap (λ n. n / m) e ∙ high_digit c d m hd

digits_low : (a b c d m : ℕ) → b < m → d < m → a * m + b ≡ c * m + d → b ≡ d
digits_low a b c d m hb hd e = sym (low_digit a b m hb) ∙ ap (λ n. n % m) e ∙ low_digit c d m hd

-- lines and places of the table of pairs, each with four rotations
module _ (w : Nofit) (a b q c d k : ℕ) (hq : q < 4) (hk : k < 4) (hb : b < w.kinds + 1) (hd : d < w.kinds + 1)
    (e : (a * (w.kinds + 1) + b) * 4 + q ≡ (c * (w.kinds + 1) + d) * 4 + k) where
  same_turn : q ≡ k
  same_turn = omega arith

  same-cell : a * (w.kinds + 1) + b ≡ c * (w.kinds + 1) + d
  same-cell = omega arith

  same_line : a ≡ c
  same_line = digits_high a b c d (w.kinds + 1) hb hd same-cell

  same_place : b ≡ d
  same_place = digits_low a b c d (w.kinds + 1) hb hd same-cell

-- the pair of a string
module _ (w : Nofit) (i : ℕ) (h : i < w.kinds * (w.kinds + 1) * 4) where
  line-exists : i / 4 / (w.kinds + 1) < w.kinds
  line-exists = (div-lt_iff_lt-mul {k = w.kinds + 1} (omega arith)).1 (omega arith)

  cell_again : i / 4 / (w.kinds + 1) * (w.kinds + 1) + i / 4 % (w.kinds + 1) ≡ i / 4
  cell_again = div-add-mod' (i / 4) (w.kinds + 1)

  place-below : i / 4 % (w.kinds + 1) < w.kinds + 1
  place-below = mod-lt (i / 4) (omega arith)

  pub pair_above : i / 4 / (w.kinds + 1) < i / 4 % (w.kinds + 1)
      → PairOf w i (record { kind = i / 4 / (w.kinds + 1); turn = i % 4; other = i / 4 % (w.kinds + 1) - 1; under = false })
  unfolding above_string
  pair_above l =
      let e : i / 4 % (w.kinds + 1) - 1 + 1 ≡ i / 4 % (w.kinds + 1) = omega arith in
      record {
        ordered = omega arith;
        exists = omega (arith, place-below);
        turn = omega arith;
        which = inl (refl, ap (λ n. (i / 4 / (w.kinds + 1) * (w.kinds + 1) + n) * 4 + i % 4) e ∙ ap (λ n. n * 4 + i % 4) cell_again ∙ omega arith);
      }

  pub pair_below : i / 4 % (w.kinds + 1) ≤ i / 4 / (w.kinds + 1)
      → PairOf w i (record { kind = i / 4 % (w.kinds + 1); turn = i % 4; other = i / 4 / (w.kinds + 1); under = true })
  unfolding below_string
  pair_below l =
      record { ordered = l; exists = line-exists; turn = omega arith; which = inr (refl, ap (λ n. n * 4 + i % 4) cell_again ∙ omega arith) }

pub one_under : (b : Bool) → bool_byte b ≤ 1
one_under true = omega arith
one_under false = omega arith

pub pair_small : (s : List ℕ) (w : Nofit) (i : ℕ) (x : Pair) → MeasuresOf s w → PairOf w i x → Small w x
pair_small s w i x m p =
    record { reach = reach_near s w m; rows = rows_few s w m; turn = p.turn; bits = dots-under s w m (under_of x) (one_under x.under) }

-- ---- the pattern of a pair

-- what the bound says of a number
bound-says : (b : Bool) (z n : ℕ) → ltb z (cond b (n + 1) 0) ≡ (b && leb z n)
bound-says true z n = ⊎_elim (λ l. lt-ltb z (n + 1) (omega arith) ∙ sym (le-leb z n l)) (λ l. le-ltb z (n + 1) (omega arith) ∙ sym (lt-leb z n l)) (le_or_lt z n)
bound-says false z n = le-ltb z 0 (omega arith)

bound-far : (b : Bool) (n : ℕ) → 64 ≤ n → 0 < cond b n 0 → 64 ≤ cond b n 0
bound-far true n h l = h
bound-far false n h l = absurd (omega arith)

module _ (s : List ℕ) (v : View) (table : List ℤ) (b : Boxes) (f : Prepared s v table b) (w : Nofit) (m : MeasuresOf s w) (i : ℕ) (x : Pair) (o : PairOf w i x)
    (p r : Piece) (hp : PieceOf s x.kind p) (hr : PieceOf s x.other r) where
  pub other-exists : x.other < kind_count (content s).kinds
  other-exists = omega (arith, o.exists, m.kinds)

  pub kind-exists : x.kind < kind_count (content s).kinds
  kind-exists = omega (arith, o.ordered, other-exists)

  placed-parts : parts_in table (turned_to p x.turn) ≡ map (map (rotated x.turn)) (kind_at (content s).kinds x.kind).parts
  placed-parts = parts-turned s table x.kind p f.turned hp kind-exists x.turn o.turn

  other-parts : (k : ℕ) → k < 4 → parts_in table (turned_to r k) ≡ map (map (rotated k)) (kind_at (content s).kinds x.other).parts
  other-parts k h = parts-turned s table x.other r f.turned hr other-exists k h

  pub pattern_ready : Ready (pattern_of v w x)
  unfolding bound_of
  pattern_ready =
      let g = f.viewed.view.step in
      record {
        some = some-rows s w m;
        few = rows_few s w m;
        near = reach_near s w m;
        across = rw g m.across;
        up = rw g m.up;
        lifted = omega (arith, mul-le-mul_right {m = under_of x} {n = 1} w.rows (one_under x.under));
        bound = bound-far (eqb x.kind x.other) (64 + (w.reach + under_of x) * w.rows * 4 + x.turn + 1) (omega arith);
      }

  pub box-placed : Boxed table (turned_to p x.turn) (box_at b x.kind x.turn)
  box-placed =
      record {
        stands = (piece_turnable s table x.kind p f.turned hp kind-exists).stands x.turn o.turn;
        box = f.boxes.exact x.kind x.turn kind-exists o.turn ∙ ap (λ Ps. extents_of (concat Ps)) (sym placed-parts);
      }

  pub boxes-other : BoxesIn table r x.other b
  boxes-other =
      record {
        kind = omega (arith, other-exists, few-kinds s v f.viewed);
        turnable = piece_turnable s table x.other r f.turned hr other-exists;
        boxes = λ k h. f.boxes.exact x.other k other-exists h ∙ ap (λ Ps. extents_of (concat Ps)) (sym (other-parts k h));
      }

  -- The bits of the pattern are those of the string.
  conflict-is : (k n : ℕ) → k < 4
      → conflict_at_dot table (pattern_of v w x) (turned_to p x.turn) (turned_to r k) (dot_of w.rows n)
      ≡ offset_conflict (content s) x.kind x.turn x.other k (from_middle (content s).sheet.g w.reach (n / w.rows)) (from_middle (content s).sheet.g (under_of x * w.rows) (n % w.rows))
  unfolding conflict_at_dot offset_conflict
  conflict-is k n h = rw (placed-parts, other-parts k h, f.viewed.view.step, gap_is s v f.viewed x.kind x.other kind-exists other-exists)

  pub blocked-is : (z : ℕ) → blocked_bit table (pattern_of v w x) (turned_to p x.turn) r z ≡ blocked (content s) w x.kind x.turn x.other (under_of x) z
  unfolding blocked_bit blocked_turned blocked bound_of
  blocked-is z =
      ap₂ (λ a c. a || (leb 64 z && ltb ((z - 64) / 4 / w.rows) (w.reach * 2 + 1) && c))
      (bound-says (eqb x.kind x.other) z (64 + (w.reach + under_of x) * w.rows * 4 + x.turn))
      (conflict-is (z % 4) ((z - 64) / 4) (omega arith))

  -- The string as it is asked for.
  pub pattern_written : (at n : ℕ) (old new : List ℕ) → Written at n (allowed (rotations_of v x.other)) (blocked_bit table (pattern_of v w x) (turned_to p x.turn) r) old new
      → Written at n (allowed (kind_at (content s).kinds x.other).rotations) (blocked (content s) w x.kind x.turn x.other (under_of x)) old new
  pattern_written at n old new t =
      record {
        inside = λ z h a. t.inside z h (ap (λ mask. test_bit mask (z % 4)) (kind-in s v f.viewed x.other other-exists).rotations ∙ a) ∙ blocked-is z;
        outside = t.outside;
      }

  -- The same of a pattern that is known to be that of the pair, and of the placed piece as it stands turned.
  module _ (c : Pattern) (e : c ≡ pattern_of v w x) (q : Piece) (g : q ≡ turned_to p x.turn) where
    pub ready_of : Ready c
    ready_of = subst Ready (sym e) pattern_ready

    pub box_of_lem : Boxed table q (box_at b x.kind x.turn)
    box_of_lem = subst (λ (q : Piece). Boxed table q (box_at b x.kind x.turn)) (sym g) box-placed

    pub written_of : (at n : ℕ) (old new : List ℕ) → Written at n (allowed c.mask) (blocked_bit table c q r) old new
        → Written at n (allowed (kind_at (content s).kinds x.other).rotations) (blocked (content s) w x.kind x.turn x.other (under_of x)) old new
    written_of at n old new t =
        pattern_written at n old new
        (subst (λ (q : Piece). Written at n (allowed (rotations_of v x.other)) (blocked_bit table (pattern_of v w x) q r) old new) g
        (subst (λ (c : Pattern). Written at n (allowed c.mask) (blocked_bit table c q r) old new) e t))

-- ---- strings, one after the other

-- All that is asked of a string of these kinds and rotations, written as string i.
abbrev pub Right : Job → Nofit → ℕ → List ℕ → ℕ → ℕ → ℕ → ℕ → Type 0
Right j w i new t q u down =
    test_bit (kind_at j.kinds t).rotations q ≡ true → (z : ℕ) → z < w.size * 64 → allowed (kind_at j.kinds u).rotations z ≡ true
    → member new (string_start w i + z) ≡ blocked j w t q u down z

right-again : (j : Job) (w : Nofit) (i : ℕ) (new : List ℕ) (t q u down t' q' u' down' : ℕ) → t' ≡ t → q' ≡ q → u' ≡ u → down' ≡ down → Right j w i new t' q' u' down' → Right j w i new t q u down
right-again j w i new t q u down t' q' u' down' a b c d f = rw (a, b, c, d) at f

-- a bit of an earlier string stands before those of a later one
earlier : (w : Nofit) (n i z : ℕ) → n < i → z < w.size * 64 → string_start w n + z < string_start w i
unfolding string_start
earlier w n i z h l =
    let e : suc n * w.size ≤ i * w.size = mul-le-mul_right {m = suc n} {n = i} w.size h in
    omega (arith, suc-mul n w.size)

module _ (j : Job) (w : Nofit) (e : w.kinds ≡ kind_count j.kinds) (i : ℕ) (x : Pair) (o : PairOf w i x) (old new : List ℕ)
    (before : StringsOf j w i old) (kept : (m : ℕ) → m < string_start w i → member new m ≡ member old m)
    (here : Right j w i new x.kind x.turn x.other (under_of x)) where
  above-here : (t q u : ℕ) → t ≤ u → u < w.kinds → q < 4 → above_string w t q u ≡ i → Right j w i new t q u 0
  unfolding above_string below_string
  above-here t q u h l hq g = go o.which
    where
      go : ((x.under ≡ false) × (above_string w x.kind x.turn x.other ≡ i)) ⊎ ((x.under ≡ true) × (below_string w x.kind x.turn x.other ≡ i)) → Right j w i new t q u 0
      go (inl a) =
          let d = a.1 ∙ sym g in
          let ho : x.other + 1 < w.kinds + 1 = omega (arith, o.exists) in
          let hu : u + 1 < w.kinds + 1 = omega arith in
          let place : x.other + 1 ≡ u + 1 = same_place w x.kind (x.other + 1) x.turn t (u + 1) q o.turn hq ho hu d in
          right-again j w i new t q u 0 x.kind x.turn x.other (under_of x)
          (same_line w x.kind (x.other + 1) x.turn t (u + 1) q o.turn hq ho hu d)
          (same_turn w x.kind (x.other + 1) x.turn t (u + 1) q o.turn hq ho hu d) (omega arith) (ap bool_byte a.0) here
      go (inr a) =
          let d = a.1 ∙ sym g in
          let ho : x.kind < w.kinds + 1 = omega (arith, o.exists, o.ordered) in
          let hu : u + 1 < w.kinds + 1 = omega arith in
          let line : x.other ≡ t = same_line w x.other x.kind x.turn t (u + 1) q o.turn hq ho hu d in
          let place : x.kind ≡ u + 1 = same_place w x.other x.kind x.turn t (u + 1) q o.turn hq ho hu d in
          absurd (omega (arith, o.ordered))

  below-here : (t q u : ℕ) → t ≤ u → u < w.kinds → q < 4 → below_string w t q u ≡ i → Right j w i new t q u 1
  unfolding above_string below_string
  below-here t q u h l hq g = go o.which
    where
      go : ((x.under ≡ false) × (above_string w x.kind x.turn x.other ≡ i)) ⊎ ((x.under ≡ true) × (below_string w x.kind x.turn x.other ≡ i)) → Right j w i new t q u 1
      go (inl a) =
          let d = a.1 ∙ sym g in
          let ho : x.other + 1 < w.kinds + 1 = omega (arith, o.exists) in
          let ht : t < w.kinds + 1 = omega arith in
          let line : x.kind ≡ u = same_line w x.kind (x.other + 1) x.turn u t q o.turn hq ho ht d in
          let place : x.other + 1 ≡ t = same_place w x.kind (x.other + 1) x.turn u t q o.turn hq ho ht d in
          absurd (omega (arith, o.ordered))
      go (inr a) =
          let d = a.1 ∙ sym g in
          let ho : x.kind < w.kinds + 1 = omega (arith, o.exists, o.ordered) in
          let ht : t < w.kinds + 1 = omega arith in
          right-again j w i new t q u 1 x.kind x.turn x.other (under_of x)
          (same_place w x.other x.kind x.turn u t q o.turn hq ho ht d)
          (same_turn w x.other x.kind x.turn u t q o.turn hq ho ht d)
          (same_line w x.other x.kind x.turn u t q o.turn hq ho ht d) (ap bool_byte a.0) here

  -- The strings before i are right, and so is string i: all before i + 1 are.
  pub strings-more : StringsOf j w (i + 1) new
  strings-more =
      record {
        above = λ t q u z n hq hz h.
            ⊎_elim
            (λ l.
            let g : above_string w t q u ≡ i = omega arith in
            ap (λ m. member new (string_start w m + z)) g ∙ above-here t q u n.ordered (omega (arith, n.exists)) hq g n.first z hz n.second)
            (λ l. kept _ (earlier w (above_string w t q u) i z l hz) ∙ before.above t q u z n hq hz l)
            (le_or_lt i (above_string w t q u));
        below = λ t q u z n hq hz h.
            ⊎_elim
            (λ l.
            let g : below_string w t q u ≡ i = omega arith in
            ap (λ m. member new (string_start w m + z)) g ∙ below-here t q u n.ordered (omega (arith, n.exists)) hq g n.first z hz n.second)
            (λ l. kept _ (earlier w (below_string w t q u) i z l hz) ∙ before.below t q u z n hq hz l)
            (le_or_lt i (below_string w t q u));
      }

module _ (j : Job) (w : Nofit) (e : w.kinds ≡ kind_count j.kinds) (i : ℕ) (x : Pair) (o : PairOf w i x) (old : List ℕ) (before : StringsOf j w i old) where
  -- String i is filled.
  pub string-filled : (new : List ℕ)
      → Written (w.first + i * w.size) w.size (allowed (kind_at j.kinds x.other).rotations) (blocked j w x.kind x.turn x.other (under_of x)) old new
      → StringsOf j w (i + 1) new
  unfolding string_start
  string-filled new f = strings-more j w e i x o old new before (λ m h. f.outside m (inl h)) (λ a z h b. f.inside z h b)

  -- String i is not asked for.
  pub string-skipped : (test_bit (kind_at j.kinds x.kind).rotations x.turn ≡ true → ⊥) → StringsOf j w (i + 1) old
  string-skipped h = strings-more j w e i x o old old before (λ m l. refl) (λ a. absurd (h a))

-- The parities stand before all strings.
pub parities-kept : (w : Nofit) (i : ℕ) (asked p : ℕ → Bool) (old new : List ℕ) → Written (w.first + i * w.size) w.size asked p old new → ParitiesOf w old → ParitiesOf w new
parities-kept w i asked p old new f h m l = f.outside m (inl (omega arith)) ∙ h m l

-- ---- parities

pub parities-next : (rows k : ℕ) (l new : List ℕ) (v : ℕ) → ParitiesTo rows k l → k * 8 + 8 ≤ length l → v < 2 ^ 64 → v ≡ bits_where 64 (parity_bits rows k)
    → new ≡ with_number 8 l (k * 8) v → ParitiesTo rows (k + 1) new
parities-next rows k l new v f fits small e g = rw g inside
  where
    inside : (p : ℕ) → p < (k + 1) * 64 → member (with_number 8 l (k * 8) v) p ≡ test_bit (p / 4 / rows) 0
    inside p h = go (le_or_lt (k * 64) p)
      where
        go : (k * 64 ≤ p) ⊎ (p < k * 64) → member (with_number 8 l (k * 8) v) p ≡ test_bit (p / 4 / rows) 0
        go (inl d) =
            let q : k * 64 + (p - k * 64) ≡ p = omega arith in
            let i : p - k * 64 < 64 = omega arith in
            ap (member (with_number 8 l (k * 8) v)) (sym q) ∙ member-written l k v fits small (p - k * 64) i
            ∙ ap (λ n. test_bit n (p - k * 64)) e ∙ test_bit-bits_where 64 (parity_bits rows k) (p - k * 64) i ∙ ap (λ m. test_bit (m / 4 / rows) 0) q
        go (inr d) = member-unwritten l k v fits small p (inl d) ∙ f p d
