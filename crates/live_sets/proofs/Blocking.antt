-- The strings of the no-fit patterns, laid over a word of a live set, say which of its candidates go.
use mathlib.Core.Bool.{Bool, true, false, not, cond, ◌&&◌, ◌||◌, and-false, not-not}
use mathlib.Core.List.{List}
use mathlib.Core.Logic.{◌⊎◌, inl, inr}
use mathlib.Core.Path.{◌≡◌, refl, sym, ap, ap₂, ◌∙◌, subst}
use Prim.Native.Nat.{ℕ, suc, ◌+◌, ◌-◌, ◌*◌, ◌/◌, ◌%◌, ◌^◌, ◌≤◌, ◌<◌}
use native.Mathlib.Nat.{add-mul, suc-mul, mul-le-mul_right, lt_of_mul-lt-mul_right, mod-lt}
use native.Mathlib.Omega.{arith}
use borrow.Author.Tests.{leb-true, ltb-true, le-leb, lt-leb, eq-eqb, ne_eqb}
use lib.Bits.{bit_and, bit_or, bit_xor, xor_lt}
use lib.Dec.{leb, ltb, eqb}
use lib.IntN.{ℤ}
use lib.ListN.{length}
use Rattle.words.specs.Bits.{test_bit, bits_where}
use Rattle.words.specs.Sets.{member}
use Rattle.words.proofs.Bit.{bits_where-lt, test_bit-and, test_bit-bits_where, test_bit-not, test_bit-or, test_bit-xor}
use Rattle.words.proofs.Cases.{le_or_lt}
use Rattle.words.proofs.First.{lowest}
use Rattle.model.specs.Candidate.{is_candidate}
use Rattle.model.specs.Content.{Board, kind_count}
use Rattle.model.specs.Format.{content, refusal}
use Rattle.model.specs.Grid.{number_limit, set_words}
use Rattle.model.specs.Layout.{entry_of, conflict}
use Rattle.model.specs.Problem.{Problem, under}
use Rattle.model.proofs.Accepted.{accepted-kinds}
use Rattle.model.proofs.Lists.{and_left, and_right}
use Rattle.model.proofs.Margin.{candidate-less}
use Rattle.model.proofs.Numbers.{rows-positive}
use Rattle.stepping.proofs.Limits.{few_words}
use Rattle.candidates.specs.Conflicts.{placed_of}
use Rattle.candidates.specs.declared.conflicts.Placed.{Placed}
use Rattle.nofit.specs.Patterns.{Needed, above_string, below_string, string_start, MeasuresOf, NofitOf}
use Rattle.nofit.specs.Places.{Sought}
use Rattle.nofit.specs.declared.places.Nofit.{Nofit}
use Rattle.candidates.proofs.PreparedLaws.{candidate-number}
use Rattle.nofit.proofs.PatternLaws.{number-parts, parities, needed, far, blocked-number, z_rotation}
use Rattle.plans.proofs.PlanLaws.{candidate-kind, plan-rows}
use Rattle.plans.specs.Planned.{planned}
use Rattle.plans.specs.declared.plan.Plan.{Plan}
use Rattle.live_sets.specs.Known.{Known}
use Rattle.live_sets.specs.Narrowing.{stays, BitsAdmitted}
use Rattle.live_sets.specs.Reach.{Rowed, Laid, Near}
use Rattle.live_sets.proofs.Meeting.{goes, stays-free, stays-not_above}

-- Bit i of 64 bits of a string.
bit_of_lem : (bits : List ℕ) (at a i : ℕ) → a ≡ bits_where 64 (λ i. member bits (at + i)) → i < 64 → test_bit a i ≡ member bits (at + i)
bit_of_lem bits at a i e l = ap (λ (x : ℕ). test_bit x i) e ∙ test_bit-bits_where 64 (λ i. member bits (at + i)) i l

word_small : (bits : List ℕ) (at a : ℕ) → a ≡ bits_where 64 (λ i. member bits (at + i)) → a < 2 ^ 64
word_small bits at a e = rw e (bits_where-lt 64 (λ i. member bits (at + i)))

-- ---- the rows from one on

module _ (w : Nofit) (bits : List ℕ) (row first : ℕ) (d : Rowed w bits row first) (a b : ℕ)
    (ea : a ≡ bits_where 64 (λ i. member bits (first + w.rows * 4 + i)))
    (eb : b ≡ bits_where 64 (λ i. member bits (first + w.rows * 4 - row * 4 + i))) where
  pub rows-mask : (i : ℕ) → i < 64 → test_bit (2 ^ 64 - 1 - bit_xor a b) i ≡ leb row ((first + i) / 4 % w.rows)
  rows-mask i l =
      let p : ℕ = first + w.rows * 4 + i in
      let q : ℕ = first + w.rows * 4 - row * 4 + i in
      let pa : test_bit a i ≡ test_bit (p / 4 / w.rows) 0 = bit_of_lem bits (first + w.rows * 4) a i ea l ∙ d.columns p (omega (arith, d.within)) in
      let pb : test_bit b i ≡ test_bit (q / 4 / w.rows) 0 = bit_of_lem bits (first + w.rows * 4 - row * 4) b i eb l ∙ d.columns q (omega (arith, d.within)) in
      test_bit-not 64 (bit_xor a b) i (xor_lt 64 a b (word_small bits (first + w.rows * 4) a ea) (word_small bits (first + w.rows * 4 - row * 4) b eb)) l
      ∙ ap not (test_bit-xor a b i ∙ (λ k. cond (pa k) (not (pb k)) (pb k)) ∙ parities w.rows row (first + i) p q (omega arith) (omega (arith, d.inside)) d.inside)
      ∙ not-not (leb row ((first + i) / 4 % w.rows))

-- ---- strings

-- 64 bits from bit z of a string on lie in the table.
pub string-room : (s : List ℕ) (w : Nofit) (bits : List ℕ) → NofitOf s w bits → (i z : ℕ) → i < w.held → z + 64 ≤ w.size * 64
    → ((string_start w i + z) / 64 + 2) * 8 ≤ length bits
unfolding string_start
string-room s w bits o i z h l =
    let p : suc i * w.size ≤ w.held * w.size = mul-le-mul_right w.size h in
    omega (arith, o.fits, suc-mul i w.size)

-- ---- the measures

module _ (s : List ℕ) (w : Nofit) (o : MeasuresOf s w) where
  pub some-rows : 1 ≤ w.rows
  some-rows = omega (arith, o.rows, rows-positive (content s).sheet)

  -- A string has room for all columns in reach, each way, and for the placed one.
  pub string-size : w.reach * w.rows * 8 + w.rows * 4 + 128 ≤ w.size * 64
  string-size =
      let e : w.reach * 2 ≡ w.reach + w.reach = omega arith in
      let p : (w.reach * 2 + 1) * w.rows ≡ w.reach * w.rows + w.reach * w.rows + w.rows =
      add-mul (w.reach * 2) 1 w.rows ∙ ap₂ ◌+◌ (ap (λ x. x * w.rows) e ∙ add-mul w.reach w.reach w.rows) (omega arith) in
      omega (arith, o.string)

-- The numbers of a board have their places in a set.
limit_words : (b : Board) → number_limit b ≤ set_words b * 64
unfolding number_limit set_words
limit_words b = omega arith

-- The number of a candidate is small.
pub number_small : (s : List ℕ) → refusal s ≡ 0 → (t n : ℕ) → is_candidate (under 0 (content s)) t n ≡ true → n < 4096
number_small s e t n k = go (few_words s e) (candidate-number (under 0 (content s)) t n k)
  where
    go : set_words (content s).sheet ≤ 64 → n < number_limit (content s).sheet → n < 4096
    go h l = omega (arith, limit_words (content s).sheet)

-- Kinds of the job and a rotation are those of the table.
pub sought : (s : List ℕ) (w : Nofit) → MeasuresOf s w → (t q u : ℕ) → t < kind_count (content s).kinds → q < 4 → u < kind_count (content s).kinds → Sought w t q u
sought s w o t q u ht hq hu =
    record {
      few = omega (arith, o.kinds, (accepted-kinds s o.accepted).few-kinds);
      words = o.small;
      kind = omega (arith, o.kinds);
      turn = hq;
      other = omega (arith, o.kinds);
    }

-- ---- columns

-- A number from some column on.
column-from : (R d m : ℕ) → 1 ≤ R → d * R * 4 ≤ m → d ≤ m / 4 / R
column-from R d m h l = go (le_or_lt d (m / 4 / R))
  where
    go : (d ≤ m / 4 / R) ⊎ (m / 4 / R < d) → d ≤ m / 4 / R
    go (inl q) = q
    go (inr q) =
        let p : suc (m / 4 / R) * R ≤ d * R = mul-le-mul_right R q in
        absurd (omega (arith, number-parts R m, suc-mul (m / 4 / R) R, mod-lt (m / 4) h))

-- Two numbers out of reach of one another: the second is larger and its column far behind, or it is smaller and its column far before.
module _ (R b n m : ℕ) (some : 1 ≤ R) (reach : 1 ≤ b) where
  far-behind : n / 4 / R * R * 4 + b * R * 4 ≤ m → (n < m) × (n / 4 / R + b ≤ m / 4 / R)
  far-behind h =
      let p : 1 * R ≤ b * R = mul-le-mul_right R reach in
      (omega (arith, number-parts R n, mod-lt (n / 4) some), column-from R (n / 4 / R + b) m some (omega (arith, add-mul (n / 4 / R) b R)))

  far-before : m + b * R * 4 < n / 4 / R * R * 4 + R * 4 → (m < n) × (m / 4 / R + b ≤ n / 4 / R)
  far-before h =
      let p : 1 * R ≤ b * R = mul-le-mul_right R reach in
      let e : (m / 4 / R + b) * R < (n / 4 / R + 1) * R = omega (arith, number-parts R m, add-mul (m / 4 / R) b R, add-mul (n / 4 / R) 1 R) in
      let l : m / 4 / R + b < n / 4 / R + 1 = lt_of_mul-lt-mul_right R e in
      (omega (arith, number-parts R n), omega arith)

module _ (s : List ℕ) (w : Nofit) (bits : List ℕ) (t n : ℕ) (place : Placed) (u first : ℕ) (d : Laid s w bits t n place u first) where
  -- The place, in numbers.
  pub column-rows : place.column * w.rows ≡ n / 4 / w.rows * w.rows
  column-rows = ap (λ (p : Placed). p.column * w.rows) d.stands

  pub row_is : place.row ≡ n / 4 % w.rows
  row_is = ap (λ (p : Placed). p.row) d.stands

  pub row_below : place.row < w.rows
  row_below = rw row_is (mod-lt (n / 4) (some-rows s w d.table.measures))

  pub laid_rows : Rowed w bits place.row first
  laid_rows =
      record {
        small = d.table.measures.small.0;
        columns = d.table.columns;
        fits = omega (arith, d.table.fits);
        within = omega (arith, d.table.measures.parities, d.within);
        inside = row_below;
      }

  pub rotation-is : place.rotation ≡ n % 4
  rotation-is = ap (λ (p : Placed). p.rotation) d.stands

  -- What is asked where the strings are looked for.
  pub laid_sought : Sought w t place.rotation u
  laid_sought = sought s w d.table.measures t place.rotation u (omega (arith, d.ordered, d.exists)) (omega (arith, rotation-is)) d.exists

  -- All numbers here are small.
  pub placed-small : place.column * w.rows * 4 + place.row * 4 < 4096
  placed-small = omega (arith, column-rows, row_is, number-parts w.rows n, number_small s d.table.measures.accepted t n d.candidate)

  pub first_small : first < 4096
  first_small = omega (arith, d.within, few_words s d.table.measures.accepted)

  pub span_small : w.reach * w.rows * 8 + w.rows * 4 ≤ 12800
  span_small = omega (arith, string-size s w d.table.measures, d.table.measures.small.1)

  -- ---- out of reach

  -- Behind the reach all stay.
  pub stays-behind : place.column * w.rows * 4 + w.reach * w.rows * 4 ≤ first → (m : ℕ) → first ≤ m → is_candidate (under 0 (content s)) u m ≡ true → stays (under 0 (content s)) t n u m ≡ true
  stays-behind h m b l =
      let f = far-behind w.rows w.reach n m (some-rows s w d.table.measures) d.table.measures.some (omega (arith, column-rows)) in
      stays-free (under 0 (content s)) t n u m (ap (λ (x : Bool). eqb t u && x) (lt-leb m n f.0) ∙ and-false (eqb t u))
      (far s w d.table.measures 0 t n u m d.ordered d.exists d.candidate l (inl f.1))

  -- Before it all stay that are of another kind, and none that is of the same.
  module _ (h : first + 64 + w.reach * w.rows * 4 ≤ place.column * w.rows * 4 + w.rows * 4) (m : ℕ) (b : m < first + 64) where
    before : (m < n) × (m / 4 / w.rows + w.reach ≤ n / 4 / w.rows)
    before = far-before w.rows w.reach n m (some-rows s w d.table.measures) d.table.measures.some (omega (arith, column-rows))

    pub stays-before : (t ≡ u → ⊥) → is_candidate (under 0 (content s)) u m ≡ true → stays (under 0 (content s)) t n u m ≡ true
    stays-before q l =
        stays-free (under 0 (content s)) t n u m (ap (λ (x : Bool). x && leb m n) (ne_eqb t u q))
        (far s w d.table.measures 0 t n u m d.ordered d.exists d.candidate l (inr before.1))

    pub goes_before : t ≡ u → stays (under 0 (content s)) t n u m ≡ false
    goes_before q = sym (stays-not_above (under 0 (content s)) t n u m (ap₂ ◌&&◌ (eq-eqb t u q) (le-leb m n (omega (arith, before.0)))))

  -- ---- within reach

  module _ (near : Near w place.column first) where
    abbrev at : ℕ
    at = first + 64 + w.reach * w.rows * 4 - (place.column * w.rows + place.row) * 4

    pub at_is : at + (place.column * w.rows * 4 + place.row * 4) ≡ first + 64 + w.reach * w.rows * 4
    at_is = omega (arith, near.from, row_below)

    pub at_room : at + w.rows * 4 + 64 ≤ w.size * 64
    at_room = omega (arith, near.to, at_is, string-size s w d.table.measures)

    module _ (i : ℕ) (l : i < 64) (k : is_candidate (under 0 (content s)) u (first + i) ≡ true) where
      abbrev lost : Bool
      lost = (eqb t u && leb (first + i) n) || conflict (under 0 (content s)) (entry_of (under 0 (content s)) t n) (entry_of (under 0 (content s)) u (first + i))

      asked : Needed (content s) t (n % 4) u ((first + i) % 4)
      asked = needed s w d.table.measures 0 t n u (first + i) d.ordered d.exists d.candidate k

      -- Where the row is not below the placed one's, the string for those rows has it.
      above-bit : place.row ≤ (first + i) / 4 % w.rows → member bits (string_start w (above_string w t (n % 4) u) + (at + i)) ≡ lost
      above-bit q =
          let z : ℕ = at + i in
          let y : ℕ = (first + i) / 4 % w.rows - n / 4 % w.rows in
          let e : z + (n / 4 / w.rows * w.rows * 4 + n / 4 % w.rows * 4) ≡ first + i + 64 + (w.reach + 0) * w.rows * 4 =
          omega (arith, at_is, column-rows, row_is, add-mul w.reach 0 w.rows) in
          let row : y + n / 4 % w.rows ≡ (first + i) / 4 % w.rows + 0 * w.rows = omega (arith, row_is) in
          let below : y < w.rows = omega (arith, mod-lt ((first + i) / 4) (some-rows s w d.table.measures)) in
          let turn : z % 4 ≡ (first + i) % 4 =
          z_rotation s w d.table.measures 0 t n u (first + i) d.ordered d.exists d.candidate k 0 y z e row below in
          d.table.strings.above t (n % 4) u z (subst (Needed (content s) t (n % 4) u) (sym turn) asked) (omega arith) (omega (arith, at_room)) d.above
          ∙ blocked-number s w d.table.measures 0 t n u (first + i) d.ordered d.exists d.candidate k 0 y z e row below

      -- Where it is below, the other has it.
      below-bit : (first + i) / 4 % w.rows < place.row → member bits (string_start w (below_string w t (n % 4) u) + (at + w.rows * 4 + i)) ≡ lost
      below-bit q =
          let z : ℕ = at + w.rows * 4 + i in
          let y : ℕ = (first + i) / 4 % w.rows + w.rows - n / 4 % w.rows in
          let e : z + (n / 4 / w.rows * w.rows * 4 + n / 4 % w.rows * 4) ≡ first + i + 64 + (w.reach + 1) * w.rows * 4 =
          omega (arith, at_is, column-rows, row_is, add-mul w.reach 1 w.rows) in
          let row : y + n / 4 % w.rows ≡ (first + i) / 4 % w.rows + 1 * w.rows = omega (arith, row_is, row_below) in
          let below : y < w.rows = omega (arith, row_is, row_below) in
          let turn : z % 4 ≡ (first + i) % 4 =
          z_rotation s w d.table.measures 0 t n u (first + i) d.ordered d.exists d.candidate k 1 y z e row below in
          d.table.strings.below t (n % 4) u z (subst (Needed (content s) t (n % 4) u) (sym turn) asked) (omega arith) (omega (arith, at_room)) d.below
          ∙ blocked-number s w d.table.measures 0 t n u (first + i) d.ordered d.exists d.candidate k 1 y z e row below

      -- Both, each in its rows.
      pub both_bits : (a b h : ℕ) → test_bit a i ≡ member bits (string_start w (above_string w t (n % 4) u) + (at + i))
          → test_bit b i ≡ member bits (string_start w (below_string w t (n % 4) u) + (at + w.rows * 4 + i))
          → h < 2 ^ 64 → test_bit h i ≡ leb place.row ((first + i) / 4 % w.rows)
          → test_bit (bit_or (bit_and a h) (bit_and b (2 ^ 64 - 1 - h))) i ≡ not (stays (under 0 (content s)) t n u (first + i))
      both_bits a b h ea eb small eh =
          test_bit-or (bit_and a h) (bit_and b (2 ^ 64 - 1 - h)) i
          ∙ ap₂ ◌||◌ (test_bit-and a h i) (test_bit-and b (2 ^ 64 - 1 - h) i ∙ ap (λ (x : Bool). test_bit b i && x) (test_bit-not 64 h i small l))
          ∙ go (le_or_lt place.row ((first + i) / 4 % w.rows)) ∙ goes (under 0 (content s)) t n u (first + i)
        where
          chosen : (x y : Bool) → ((x && true) || (y && not true)) ≡ x
          chosen true true = refl
          chosen true false = refl
          chosen false true = refl
          chosen false false = refl

          other : (x y : Bool) → ((x && false) || (y && not false)) ≡ y
          other true true = refl
          other true false = refl
          other false true = refl
          other false false = refl

          go : (place.row ≤ (first + i) / 4 % w.rows) ⊎ ((first + i) / 4 % w.rows < place.row)
              → ((test_bit a i && test_bit h i) || (test_bit b i && not (test_bit h i))) ≡ lost
          go (inl q) =
              ap (λ (x : Bool). (test_bit a i && x) || (test_bit b i && not x)) (eh ∙ le-leb place.row ((first + i) / 4 % w.rows) q)
              ∙ chosen (test_bit a i) (test_bit b i) ∙ ea ∙ above-bit q
          go (inr q) =
              ap (λ (x : Bool). (test_bit a i && x) || (test_bit b i && not x)) (eh ∙ lt-leb place.row ((first + i) / 4 % w.rows) q)
              ∙ other (test_bit a i) (test_bit b i) ∙ eb ∙ below-bit q

    -- The strings as code reads them.
    module _ (up : ℕ) (eu : up ≡ string_start w (above_string w t place.rotation u)) where
      up_is : up ≡ string_start w (above_string w t (n % 4) u)
      up_is = eu ∙ ap (λ (q : ℕ). string_start w (above_string w t q u)) rotation-is

      pub above-room : ((up + at) / 64 + 2) * 8 ≤ length bits
      above-room = rw up_is (string-room s w bits d.table (above_string w t (n % 4) u) at d.above (omega (arith, at_room)))

      above-read : (a i : ℕ) → a ≡ bits_where 64 (λ i. member bits (up + at + i)) → i < 64 → test_bit a i ≡ member bits (string_start w (above_string w t (n % 4) u) + (at + i))
      above-read a i e l =
          let f : up + at + i ≡ string_start w (above_string w t (n % 4) u) + (at + i) = omega (arith, up_is) in
          bit_of_lem bits (up + at) a i e l ∙ ap (member bits) f

    module _ (down : ℕ) (ed : down ≡ string_start w (below_string w t place.rotation u)) where
      down_is : down ≡ string_start w (below_string w t (n % 4) u)
      down_is = ed ∙ ap (λ (q : ℕ). string_start w (below_string w t q u)) rotation-is

      pub below-room : ((down + at + w.rows * 4) / 64 + 2) * 8 ≤ length bits
      below-room =
          let e : down + at + w.rows * 4 ≡ string_start w (below_string w t (n % 4) u) + (at + w.rows * 4) = omega (arith, down_is) in
          rw e (string-room s w bits d.table (below_string w t (n % 4) u) (at + w.rows * 4) d.below at_room)

      below-read : (b i : ℕ) → b ≡ bits_where 64 (λ i. member bits (down + at + w.rows * 4 + i)) → i < 64
          → test_bit b i ≡ member bits (string_start w (below_string w t (n % 4) u) + (at + w.rows * 4 + i))
      below-read b i e l =
          let f : down + at + w.rows * 4 + i ≡ string_start w (below_string w t (n % 4) u) + (at + w.rows * 4 + i) = omega (arith, down_is) in
          bit_of_lem bits (down + at + w.rows * 4) b i e l ∙ ap (member bits) f

    pub blocked-bits : (up down a b h : ℕ) → up ≡ string_start w (above_string w t place.rotation u) → down ≡ string_start w (below_string w t place.rotation u)
        → a ≡ bits_where 64 (λ i. member bits (up + at + i)) → b ≡ bits_where 64 (λ i. member bits (down + at + w.rows * 4 + i))
        → h < 2 ^ 64 → ((i : ℕ) → i < 64 → test_bit h i ≡ leb place.row ((first + i) / 4 % w.rows))
        → (i : ℕ) → i < 64 → is_candidate (under 0 (content s)) u (first + i) ≡ true
        → test_bit (bit_or (bit_and a h) (bit_and b (2 ^ 64 - 1 - h))) i ≡ not (stays (under 0 (content s)) t n u (first + i))
    blocked-bits up down a b h eu ed ea eb small eh i l k = both_bits i l k a b h (above-read up eu a i ea l) (below-read down ed b i eb l) small (eh i l)

-- ---- in a run

-- A word with a bit is one of a kind that exists.
pub word_kind : (j : Problem) (u first x : ℕ) → x < 2 ^ 64 → (x ≡ 0 → ⊥) → BitsAdmitted j u first x → u < kind_count j.kinds
word_kind j u first x h q a =
    let f = lowest 64 x h q in
    candidate-kind j u (first + f.0) (a f.0 f.4)

module _ (s : List ℕ) (p : Plan) (w : Nofit) (turned : List ℤ) (bits : List ℕ) (k : Known s p w turned bits) (t n : ℕ) (place : Placed)
    (e : place ≡ placed_of p.rows n) (c : is_candidate (planned s p) t n ≡ true) (u first : ℕ) (exists : u < kind_count (content s).kinds) where
  pub known_sought : Sought w t place.rotation u
  known_sought =
      sought s w k.nofit.measures t place.rotation u (candidate-kind (planned s p) t n c) (omega (arith, ap (λ (p : Placed). p.rotation) e)) exists

  -- Where the strings are held they are laid over the word.
  pub known_laid : first + 64 ≤ set_words (content s).sheet * 64
      → (leb t u && (ltb (above_string w t place.rotation u) w.held && ltb (below_string w t place.rotation u) w.held)) ≡ true
      → Laid s w bits t n place u first
  known_laid within h =
      let q : place.rotation ≡ n % 4 = ap (λ (p : Placed). p.rotation) e in
      let both = and_right (leb t u) _ h in
      record {
        table = k.nofit;
        candidate = candidate-less 0 p.margin (omega arith) (content s) t n c;
        stands = e ∙ ap (λ (r : ℕ). placed_of r n) (plan-rows s p k.plan ∙ sym k.nofit.measures.rows);
        ordered = leb-true t u (and_left (leb t u) _ h);
        exists = exists;
        above = ltb-true _ _ (ap (λ (r : ℕ). ltb (above_string w t r u) w.held) (sym q) ∙ and_left _ _ both);
        below = ltb-true _ _ (ap (λ (r : ℕ). ltb (below_string w t r u) w.held) (sym q) ∙ and_right (ltb (above_string w t place.rotation u) w.held) _ both);
        within = within;
      }
