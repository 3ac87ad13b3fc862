-- What the strings of the no-fit patterns and the parities of the columns say of the model's conflict. Assumes nothing.
use mathlib.Core.Bool.{Bool, true, false, not, cond, ◌&&◌, ◌||◌, and_assoc}
use mathlib.Core.List.{List}
use mathlib.Core.Logic.{◌⊎◌, inl, inr}
use mathlib.Core.Path.{◌≡◌, refl, sym, ap, ap₂, ◌∙◌}
use Prim.Native.Nat.{ℕ, suc, ◌+◌, ◌-◌, ◌*◌, ◌/◌, ◌%◌, ◌≤◌, ◌<◌}
use native.Mathlib.Nat.{add-mul, suc-mul, mul-le-mul_right, div-add-mod', mod-lt}
use native.Mathlib.Omega.{arith}
use borrow.Author.Tests.{ltb-true, le-leb, lt-leb, le-ltb, lt-ltb, eq-eqb, ne_eqb}
use lib.Arith.{digits_div, digits_mod}
use lib.Dec.{leb, ltb, eqb}
use lib.IntN.{ℤ, pos, ◌-ℤ◌}
use Rattle.integers.proofs.Linear.{integers, parts--ℤ}
use Rattle.words.specs.Bits.{test_bit}
use Rattle.words.proofs.Bit.{test_bit-first}
use Rattle.words.proofs.Cases.{le_or_lt}
use Rattle.model.specs.Candidate.{placed_parts, admitted, is_candidate}
use Rattle.model.specs.Content.{Job, kind_at, kind_count}
use Rattle.model.specs.Format.{content, refusal}
use Rattle.model.specs.Gap.{pair_gap}
use Rattle.model.specs.Grid.{Placement, rows, columns, placement_of}
use Rattle.model.specs.Layout.{entry, entry_of, entry_kind, conflict}
use Rattle.model.specs.Problem.{Problem, under}
use Rattle.model.proofs.Lists.{and_left, and_right}
use Rattle.model.proofs.Turning.{vertexed, conflict-placed}
use Rattle.nofit.specs.Patterns.{offset_conflict, from_middle, Needed, blocked, MeasuresOf}
use Rattle.nofit.specs.declared.places.Nofit.{Nofit}

-- ---- numbers

-- A number is its column, row and rotation.
pub number-parts : (R n : ℕ) → n ≡ n / 4 / R * R * 4 + n / 4 % R * 4 + n % 4
number-parts R n = omega (arith, div-add-mod' (n / 4) R)

-- Bit z of a string: the column x, the row y and the rotation k that it stands for, where c is the placed column and c' the other one.
module _ (R b c c' x y z k : ℕ) (e : z + c * R * 4 ≡ (c' * R + b * R + y) * 4 + k + 64) (hy : y < R) (hk : k < 4) where
  -- A column before those of the string.
  z_before : c' + b < c → z < 64
  z_before l =
      let p : suc (c' + b) * R ≤ c * R = mul-le-mul_right R l in
      omega (arith, suc-mul (c' + b) R, add-mul c' b R)

  -- One of them, or one behind.
  z_is : x + c ≡ c' + b → z ≡ 64 + ((x * R + y) * 4 + k)
  z_is h =
      let p : x * R + c * R ≡ c' * R + b * R = sym (add-mul x c R) ∙ ap (λ n. n * R) h ∙ add-mul c' b R in
      omega arith

  module _ (h : x + c ≡ c' + b) where
    z_dot : (z - 64) / 4 ≡ x * R + y
    z_dot = omega (arith, z_is h)

    pub z_column : (z - 64) / 4 / R ≡ x
    z_column = ap (λ n. n / R) z_dot ∙ digits_div x hy

    pub z_row : (z - 64) / 4 % R ≡ y
    z_row = ap (λ n. n % R) z_dot ∙ digits_mod x hy

    pub z_turn : z % 4 ≡ k
    z_turn = omega (arith, z_is h)

-- ---- rows

-- Of two columns that follow one another, one is odd.
parity_next : (c : ℕ) → test_bit (c + 1) 0 ≡ not (test_bit c 0)
parity_next c = test_bit-first (c + 1) ∙ go (le_or_lt (c % 2) 0) ∙ ap not (sym (test_bit-first c))
  where
    go : (c % 2 ≤ 0) ⊎ (0 < c % 2) → eqb ((c + 1) % 2) 1 ≡ not (eqb (c % 2) 1)
    go (inl l) = rw (eq-eqb ((c + 1) % 2) 1 (omega arith), ne_eqb (c % 2) 1 (λ (x : c % 2 ≡ 1). omega arith))
    go (inr l) = rw (ne_eqb ((c + 1) % 2) 1 (λ (x : (c + 1) % 2 ≡ 1). omega arith), eq-eqb (c % 2) 1 (omega arith))

-- A number one column on, and the same less the rows below row r, stand in the same column exactly if the number's row is not below r: else in columns
-- of different parity.
module _ (R r m p p' : ℕ) (e : p ≡ m + R * 4) (e' : p' + r * 4 ≡ m + R * 4) (h : r < R) where
  column-next : p / 4 / R ≡ m / 4 / R + 1
  column-next =
      let q : p / 4 ≡ (m / 4 / R + 1) * R + m / 4 % R = omega (arith, div-add-mod' (m / 4) R, add-mul (m / 4 / R) 1 R) in
      ap (λ n. n / R) q ∙ digits_div (m / 4 / R + 1) (mod-lt (m / 4) (omega arith))

  column-same : r ≤ m / 4 % R → p' / 4 / R ≡ m / 4 / R + 1
  column-same l =
      let d : m / 4 % R < R = mod-lt (m / 4) (omega arith) in
      let q : p' / 4 ≡ (m / 4 / R + 1) * R + (m / 4 % R - r) = omega (arith, div-add-mod' (m / 4) R, add-mul (m / 4 / R) 1 R) in
      ap (λ n. n / R) q ∙ digits_div (m / 4 / R + 1) (omega arith)

  column-before : m / 4 % R < r → p' / 4 / R ≡ m / 4 / R
  column-before l =
      let q : p' / 4 ≡ m / 4 / R * R + (R + m / 4 % R - r) = omega (arith, div-add-mod' (m / 4) R) in
      ap (λ n. n / R) q ∙ digits_div (m / 4 / R) (omega arith)

  pub parities : cond (test_bit (p / 4 / R) 0) (not (test_bit (p' / 4 / R) 0)) (test_bit (p' / 4 / R) 0) ≡ not (leb r (m / 4 % R))
  parities = go (le_or_lt r (m / 4 % R))
    where
      same : (a : Bool) → cond a (not a) a ≡ false
      same true = refl
      same false = refl

      other : (a : Bool) → cond (not a) (not a) a ≡ true
      other true = refl
      other false = refl

      go : (r ≤ m / 4 % R) ⊎ (m / 4 % R < r) → cond (test_bit (p / 4 / R) 0) (not (test_bit (p' / 4 / R) 0)) (test_bit (p' / 4 / R) 0) ≡ not (leb r (m / 4 % R))
      go (inl l) = rw (column-next, column-same l, le-leb r (m / 4 % R) l) (same (test_bit (m / 4 / R + 1) 0))
      go (inr l) = rw (column-next, column-before l, lt-leb r (m / 4 % R) l, parity_next) (other (test_bit (m / 4 / R) 0))

-- ---- conflict at an offset

-- An offset in a table with its middle, and from dot to dot.
pub same_way : (x a c m g : ℕ) → x + a ≡ c + m → pos (x * g) -ℤ pos (m * g) ≡ pos (c * g) -ℤ pos (a * g)
same_way x a c m g e =
    let p : x * g + a * g ≡ c * g + m * g = sym (add-mul x a g) ∙ ap (λ n. n * g) e ∙ add-mul c m g in
    omega (integers, parts--ℤ (pos (x * g)) (pos (m * g)), parts--ℤ (pos (c * g)) (pos (a * g)))

module _ (s : List ℕ) (e : refusal s ≡ 0) where
  -- The conflict of two placed pieces is that at the offset from the one dot to the other.
  pub conflict-offset : (margin t u : ℕ) (a c : Placement) → t < kind_count (content s).kinds → u < kind_count (content s).kinds
      → offset_conflict (content s) t a.rotation u c.rotation (pos (c.column * (content s).sheet.g) -ℤ pos (a.column * (content s).sheet.g))
      (pos (c.row * (content s).sheet.g) -ℤ pos (a.row * (content s).sheet.g))
      ≡ conflict (under margin (content s)) (entry t a) (entry u c)
  unfolding offset_conflict conflict entry_kind placed_parts
  conflict-offset margin t u a c ht hu =
      let j : Job = content s in
      conflict-placed (pair_gap j.classes (kind_at j.kinds t) (kind_at j.kinds u)) j.sheet a c (kind_at j.kinds t).parts (kind_at j.kinds u).parts (vertexed s e t) (vertexed s e u)

-- The place of a candidate.
module _ (j : Problem) (t n : ℕ) (k : is_candidate j t n ≡ true) where
  pub candidate-turned : test_bit (kind_at j.kinds t).rotations (n % 4) ≡ true
  unfolding is_candidate admitted placement_of
  candidate-turned = and_right (ltb (n / 4 / rows j.sheet) (columns j.sheet) && ltb (n / 4 % rows j.sheet) (rows j.sheet)) _ (and_left _ _ k)

  pub candidate-column : n / 4 / rows j.sheet < columns j.sheet
  unfolding is_candidate admitted placement_of
  candidate-column = ltb-true _ _ (and_left _ _ (and_left _ _ (and_left _ _ k)))

-- ---- two candidates, under any margin

module _ (s : List ℕ) (w : Nofit) (o : MeasuresOf s w) (margin t n u m : ℕ) (ordered : t ≤ u) (exists : u < kind_count (content s).kinds)
    (k : is_candidate (under margin (content s)) t n ≡ true) (l : is_candidate (under margin (content s)) u m ≡ true) where
  -- Their kinds and rotations are asked for.
  pub needed : Needed (content s) t (n % 4) u (m % 4)
  needed = record { ordered = ordered; exists = exists; first = candidate-turned (under margin (content s)) t n k; second = candidate-turned (under margin (content s)) u m l }

  abbrev dx : ℤ
  dx = pos (m / 4 / w.rows * (content s).sheet.g) -ℤ pos (n / 4 / w.rows * (content s).sheet.g)

  abbrev dy : ℤ
  dy = pos (m / 4 % w.rows * (content s).sheet.g) -ℤ pos (n / 4 % w.rows * (content s).sheet.g)

  numbers_offset : offset_conflict (content s) t (n % 4) u (m % 4) dx dy ≡ conflict (under margin (content s)) (entry_of (under margin (content s)) t n) (entry_of (under margin (content s)) u m)
  unfolding entry_of placement_of
  numbers_offset =
      rw o.rows
      (conflict-offset s o.accepted margin t u (placement_of (content s).sheet n) (placement_of (content s).sheet m) (omega arith) exists)

  -- Out of reach there is no conflict.
  pub far : (n / 4 / w.rows + w.reach ≤ m / 4 / w.rows) ⊎ (m / 4 / w.rows + w.reach ≤ n / 4 / w.rows)
      → conflict (under margin (content s)) (entry_of (under margin (content s)) t n) (entry_of (under margin (content s)) u m) ≡ false
  far h =
      sym numbers_offset
      ∙ o.reaching t (n % 4) u (m % 4) (n / 4 / w.rows) (m / 4 / w.rows) dy needed (omega arith) (omega arith)
      (rw o.rows (candidate-column (under margin (content s)) t n k)) (rw o.rows (candidate-column (under margin (content s)) u m l)) h

  -- Bit z of a string, z being where the second number stands in it, is set where the second candidate goes once the first is placed.
  module _ (down y z : ℕ) (e : z + (n / 4 / w.rows * w.rows * 4 + n / 4 % w.rows * 4) ≡ m + 64 + (w.reach + down) * w.rows * 4)
      (row : y + n / 4 % w.rows ≡ m / 4 % w.rows + down * w.rows) (hy : y < w.rows) where
    place : z + n / 4 / w.rows * w.rows * 4 ≡ (m / 4 / w.rows * w.rows + w.reach * w.rows + y) * 4 + m % 4 + 64
    place = omega (arith, number-parts w.rows m, add-mul w.reach down w.rows)

    same-order : leb z (64 + (w.reach + down) * w.rows * 4 + n % 4) ≡ leb m n
    same-order = go (le_or_lt m n)
      where
        go : (m ≤ n) ⊎ (n < m) → leb z (64 + (w.reach + down) * w.rows * 4 + n % 4) ≡ leb m n
        go (inl q) = le-leb z (64 + (w.reach + down) * w.rows * 4 + n % 4) (omega (arith, number-parts w.rows n)) ∙ sym (le-leb m n q)
        go (inr q) = lt-leb z (64 + (w.reach + down) * w.rows * 4 + n % 4) (omega (arith, number-parts w.rows n)) ∙ sym (lt-leb m n q)

    -- What the string has at a column, a row and a rotation.
    abbrev shown : ℕ → ℕ → ℕ → Bool
    shown x y r =
        ltb x (w.reach * 2 + 1)
        && offset_conflict (content s) t (n % 4) u r (from_middle (content s).sheet.g w.reach x) (from_middle (content s).sheet.g (down * w.rows) y)

    shown_is : (x : ℕ) → x + n / 4 / w.rows ≡ m / 4 / w.rows + w.reach
        → shown x y (m % 4) ≡ conflict (under margin (content s)) (entry_of (under margin (content s)) t n) (entry_of (under margin (content s)) u m)
    shown_is x h = go (le_or_lt (w.reach * 2 + 1) x)
      where
        go : (w.reach * 2 + 1 ≤ x) ⊎ (x < w.reach * 2 + 1) → shown x y (m % 4) ≡ conflict (under margin (content s)) (entry_of (under margin (content s)) t n) (entry_of (under margin (content s)) u m)
        go (inl q) = rw (le-ltb x (w.reach * 2 + 1) q) (sym (far (inl (omega arith))))
        go (inr q) =
            rw (lt-ltb x (w.reach * 2 + 1) q)
            (ap₂ (offset_conflict (content s) t (n % 4) u (m % 4))
            (same_way x (n / 4 / w.rows) (m / 4 / w.rows) w.reach (content s).sheet.g h)
            (same_way y (n / 4 % w.rows) (m / 4 % w.rows) (down * w.rows) (content s).sheet.g row)
            ∙ numbers_offset)

    pattern : (leb 64 z && shown ((z - 64) / 4 / w.rows) ((z - 64) / 4 % w.rows) (z % 4)) ≡ conflict (under margin (content s)) (entry_of (under margin (content s)) t n) (entry_of (under margin (content s)) u m)
    pattern = go (le_or_lt (n / 4 / w.rows) (m / 4 / w.rows + w.reach))
      where
        go : (n / 4 / w.rows ≤ m / 4 / w.rows + w.reach) ⊎ (m / 4 / w.rows + w.reach < n / 4 / w.rows)
            → (leb 64 z && shown ((z - 64) / 4 / w.rows) ((z - 64) / 4 % w.rows) (z % 4)) ≡ conflict (under margin (content s)) (entry_of (under margin (content s)) t n) (entry_of (under margin (content s)) u m)
        go (inr h) =
            let before : z < 64 = z_before w.rows w.reach (n / 4 / w.rows) (m / 4 / w.rows) 0 y z (m % 4) place hy (omega arith) h in
            rw (lt-leb 64 z before) (sym (far (inr (omega arith))))
        go (inl h) =
            let x : ℕ = m / 4 / w.rows + w.reach - n / 4 / w.rows in
            let q : x + n / 4 / w.rows ≡ m / 4 / w.rows + w.reach = omega arith in
            let is : z ≡ 64 + ((x * w.rows + y) * 4 + m % 4) = z_is w.rows w.reach (n / 4 / w.rows) (m / 4 / w.rows) x y z (m % 4) place hy (omega arith) q in
            let from : 64 ≤ z = omega arith in
            let c = z_column w.rows w.reach (n / 4 / w.rows) (m / 4 / w.rows) x y z (m % 4) place hy (omega arith) q in
            let r = z_row w.rows w.reach (n / 4 / w.rows) (m / 4 / w.rows) x y z (m % 4) place hy (omega arith) q in
            let d = z_turn w.rows w.reach (n / 4 / w.rows) (m / 4 / w.rows) x y z (m % 4) place hy (omega arith) q in
            (λ i. le-leb 64 z from i && shown (c i) (r i) (d i)) ∙ shown_is x q

    pub blocked-number : blocked (content s) w t (n % 4) u down z ≡ (eqb t u && leb m n) || conflict (under margin (content s)) (entry_of (under margin (content s)) t n) (entry_of (under margin (content s)) u m)
    unfolding blocked
    blocked-number = ap₂ (λ (a b : Bool). (eqb t u && a) || b) same-order (and_assoc (leb 64 z) _ _ ∙ pattern)

    -- The rotation of that bit is the second number's.
    pub z_rotation : z % 4 ≡ m % 4
    z_rotation = omega (arith, e)
