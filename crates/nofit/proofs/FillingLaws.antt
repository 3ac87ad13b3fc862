-- Filling the strings: the offset of a dot, a bit, a word, a run of words. Assumes nothing.
use mathlib.Core.Bool.{Bool, true, false, not}
use mathlib.Core.List.{List}
use mathlib.Core.Logic.{◌⊎◌, inl, inr, ⊎_elim}
use mathlib.Core.Path.{◌≡◌, refl, sym, ap, ◌∙◌}
use Prim.Native.Nat.{ℕ, ◌+◌, ◌-◌, ◌*◌, ◌/◌, ◌%◌, ◌^◌, ◌≤◌, ◌<◌}
use native.Mathlib.Nat.{mul-le-mul_right, mod-lt, mod-eq_of_lt, div-eq_of_lt, mul-add-div_right, mul-add-mod_self_right, div-add-mod'}
use native.Mathlib.Omega.{arith}
use borrow.Author.Tests.{le-leb, lt-leb, lt-ltb, le-ltb}
use lib.Dec.{lit<, leb, ltb}
use lib.IntN.{ℤ}
use lib.ListN.{length}
use Rattle.words.specs.Bits.{test_bit, assigned_bit}
use Rattle.words.specs.Number.{with_number}
use Rattle.words.specs.Sets.{word_offset, member}
use Rattle.words.proofs.Bit.{test_bit-none, test_bit-not, test_bit-with_same, test_bit-with_other, test_bit-without_same, test_bit-without_other}
use Rattle.words.proofs.Cases.{le_or_lt}
use Rattle.words.proofs.Member.{member-word}
use Rattle.words.proofs.Place.{number_at-written, number_at-other}
use Rattle.model.proofs.Lists.{not_both}
use Rattle.geometry.specs.declared.pieces.Piece.{Piece}
use Rattle.shapes.specs.Pieces.{turned_to}
use Rattle.nofit.specs.Filling.{dot_of, conflict_at_dot, blocked_at_dot, blocked_turned, blocked_bit, TurnSet, FirstWord, WordSet, Written, allowed}
use Rattle.nofit.specs.declared.patterns.BoxedPiece.{BoxedPiece}
use Rattle.nofit.specs.declared.patterns.Dot.{Dot}
use Rattle.nofit.specs.declared.patterns.Pattern.{Pattern}

-- ---- how far from the middle

-- twice the way to the edge
pub twice_middle : (n m step : ℕ) → n < m * 2 + 1 → m * step ≤ 2000 → n * step ≤ 4000
twice_middle n m step h l = omega (arith, mul-le-mul_right {m = n} {n = m * 2} step (omega arith))

-- no further than the edge
pub no_further : (n m step : ℕ) → n ≤ m → m * step ≤ 2000 → n * step ≤ 2000
no_further n m step h l = omega (arith, mul-le-mul_right {m = n} {n = m} step h)

-- ---- dots

-- the digits of a number
pub high_digit : (a b m : ℕ) → b < m → (a * m + b) / m ≡ a
high_digit a b m h = mul-add-div_right {m = m} (omega arith) a b ∙ ap (λ n. a + n) (div-eq_of_lt h) ∙ omega arith

pub low_digit : (a b m : ℕ) → b < m → (a * m + b) % m ≡ b
low_digit a b m h = mul-add-mod_self_right a m b ∙ mod-eq_of_lt h

-- a number by its digits
digits_dot : (rows n a b : ℕ) → n ≡ a * rows + b → b < rows → dot_of rows n ≡ record { column = a; row = b }
digits_dot rows n a b e h = λ j. record { column = (ap (λ m. m / rows) e ∙ high_digit a b rows h) j; row = (ap (λ m. m % rows) e ∙ low_digit a b rows h) j }

-- the dot behind dot n, in the same column and in the next one
pub next_row : (rows n : ℕ) → n % rows + 1 < rows → dot_of rows (n + 1) ≡ record { column = n / rows; row = n % rows + 1 }
next_row rows n h = digits_dot rows (n + 1) (n / rows) (n % rows + 1) (omega (arith, div-add-mod' n rows)) h

pub next_column : (rows n : ℕ) → 1 ≤ rows → rows ≤ n % rows + 1 → dot_of rows (n + 1) ≡ record { column = n / rows + 1; row = 0 }
next_column rows n some h =
    let l : n % rows < rows = mod-lt n some in
    let e : (n / rows + 1) * rows ≡ n / rows * rows + rows = omega arith in
    digits_dot rows (n + 1) (n / rows + 1) 0 (omega (arith, div-add-mod' n rows)) some

-- the same from a dot that is known to be dot n
pub next_row-is : (rows n : ℕ) (d : Dot) → d ≡ dot_of rows n → d.row + 1 < rows → ◌≡◌ {A = Dot} (record { column = d.column; row = d.row + 1 }) (dot_of rows (n + 1))
next_row-is rows n d e h =
    let r : d.row ≡ n % rows = ap (λ (x : Dot). x.row) e in
    (λ j. record { column = (e j).column; row = (e j).row + 1 }) ∙ sym (next_row rows n (omega arith))

pub next_column-is : (rows n : ℕ) (d : Dot) → 1 ≤ rows → d ≡ dot_of rows n → rows ≤ d.row + 1 → ◌≡◌ {A = Dot} (record { column = d.column + 1; row = 0 }) (dot_of rows (n + 1))
next_column-is rows n d some e h =
    let r : d.row ≡ n % rows = ap (λ (x : Dot). x.row) e in
    (λ j. record { column = (e j).column + 1; row = 0 }) ∙ sym (next_column rows n some (omega arith))

-- ---- bits

-- below the bound, at a dot of the string, and behind its last dot
module _ (table : List ℤ) (s : Pattern) (p r : Piece) (z : ℕ) (d : Dot) where
  pub below-bit : z < s.below → true ≡ blocked_at_dot table s p r z d
  unfolding blocked_at_dot
  below-bit h = rw (lt-ltb z s.below h)

  pub dot_bit : (b : Bool) → s.below ≤ z → d.column < s.reach * 2 + 1 → b ≡ conflict_at_dot table s p r d → b ≡ blocked_at_dot table s p r z d
  unfolding blocked_at_dot
  dot_bit b h l e = rw (le-ltb z s.below h, lt-ltb d.column (s.reach * 2 + 1) l) e

  pub past_bit : s.below ≤ z → s.reach * 2 + 1 ≤ d.column → false ≡ blocked_at_dot table s p r z d
  unfolding blocked_at_dot
  past_bit h l = rw (le-ltb z s.below h, le-ltb d.column (s.reach * 2 + 1) l)

-- a bit of a word behind the first one, by its dot
pub blocked-at : (table : List ℤ) (s : Pattern) (p r : Piece) (word n k : ℕ) → 1 ≤ word → k < 4
    → blocked_at_dot table s p r (word * 64 + (n * 4 + k)) (dot_of s.rows ((word - 1) * 16 + n)) ≡ blocked_turned table s p r (word * 64 + (n * 4 + k))
unfolding blocked_at_dot blocked_turned
blocked-at table s p r word n k some h =
    let d : (word * 64 + (n * 4 + k) - 64) / 4 ≡ (word - 1) * 16 + n = omega arith in
    let l : leb 64 (word * 64 + (n * 4 + k)) ≡ true = le-leb 64 (word * 64 + (n * 4 + k)) (omega arith) in
    rw (d, l)

-- a bit of rotation k
pub blocked-turned : (table : List ℤ) (s : Pattern) (p r q : Piece) (word k i : ℕ) → q ≡ turned_to r k → i % 4 ≡ k
    → blocked_turned table s p q (word * 64 + i) ≡ blocked_bit table s p r (word * 64 + i)
unfolding blocked_bit
blocked-turned table s p r q word k i e h =
    let t : k ≡ (word * 64 + i) % 4 = omega arith in
    ap (λ (o : Piece). blocked_turned table s p o (word * 64 + i)) e ∙ ap (λ m. blocked_turned table s p (turned_to r m) (word * 64 + i)) t

-- the bits of the first word
pub blocked-first : (table : List ℤ) (s : Pattern) (p r : Piece) (i : ℕ) → i < 64 → (0 < s.below → 64 ≤ s.below) → blocked_bit table s p r (0 * 64 + i) ≡ ltb 0 s.below
unfolding blocked_bit blocked_turned
blocked-first table s p r i h far = go (le_or_lt s.below 0)
  where
    go : (s.below ≤ 0) ⊎ (0 < s.below) → blocked_bit table s p r (0 * 64 + i) ≡ ltb 0 s.below
    go (inl e) = rw (le-ltb (0 * 64 + i) s.below (omega arith), lt-leb 64 (0 * 64 + i) (omega arith), le-ltb 0 s.below (omega arith))
    go (inr e) = let l = far e in rw (lt-ltb (0 * 64 + i) s.below (omega arith), lt-ltb 0 s.below (omega arith))

pub first-set : (table : List ℤ) (s : Pattern) (p r : Piece) (word v : ℕ) → word ≡ 0 → (0 < s.below → 64 ≤ s.below) → FirstWord s.below v
    → WordSet (allowed s.mask) (λ i. blocked_bit table s p r (word * 64 + i)) v
first-set table s p r word v e h f i l a = f i l ∙ sym (blocked-first table s p r i l h) ∙ ap (λ n. blocked_bit table s p r (n * 64 + i)) (sym e)

-- all bits set
pub all_set : (i : ℕ) → i < 64 → test_bit (2 ^ 64 - 1) i ≡ true
all_set i h = test_bit-not 64 0 i (lit< tt) h ∙ ap not (test_bit-none i)

-- a bit assigned, and another one
assigned_same : (on : Bool) (w i : ℕ) → test_bit (assigned_bit on w i) i ≡ on
assigned_same true w i = test_bit-with_same w i
assigned_same false w i = test_bit-without_same w i

assigned_other : (on : Bool) (w i m : ℕ) → (i ≡ m → ⊥) → test_bit (assigned_bit on w i) m ≡ test_bit w m
assigned_other true w i m h = test_bit-with_other w i m h
assigned_other false w i m h = test_bit-without_other w i m h

-- ---- the bits of a rotation

pub turn-next : (k n : ℕ) (b : ℕ → Bool) (old w v : ℕ) (on : Bool) → k < 4 → TurnSet k n b old w → on ≡ b (n * 4 + k) → v ≡ assigned_bit on w (n * 4 + k)
    → TurnSet k (n + 1) b old v
turn-next k n b old w v on hk t e g =
    rw g
    record {
      same = λ i h q. ⊎_elim (λ l. here i (omega arith)) (λ l. assigned_other on w (n * 4 + k) i (λ d. omega arith) ∙ t.same i l q) (le_or_lt (n * 4) i);
      other = λ i q. assigned_other on w (n * 4 + k) i (λ d. q (omega arith)) ∙ t.other i q;
    }
  where
    here : (i : ℕ) → n * 4 + k ≡ i → test_bit (assigned_bit on w (n * 4 + k)) i ≡ b i
    here i d = ap (test_bit (assigned_bit on w (n * 4 + k))) (sym d) ∙ assigned_same on w (n * 4 + k) ∙ e ∙ ap b d

-- the same bits, said otherwise
pub turn-as : (k n : ℕ) (b c : ℕ → Bool) (old new : ℕ) → ((i : ℕ) → i % 4 ≡ k → b i ≡ c i) → TurnSet k n b old new → TurnSet k n c old new
turn-as k n b c old new e t = record { same = λ i h q. t.same i h q ∙ e i q; other = t.other }

-- the bits of a rotation of the other piece, in what the two pieces face
pub turned-set : (table : List ℤ) (s : Pattern) (p r : Piece) (word k old new : ℕ) (table' : List ℤ) (s' : Pattern) (b : BoxedPiece) (o : Piece) (p' : BoxedPiece)
    → table' ≡ table → s' ≡ s → p' ≡ b → b.piece ≡ p → o ≡ turned_to r k
    → TurnSet k 16 (λ i. blocked_turned table' s' p'.piece o (word * 64 + i)) old new → TurnSet k 16 (λ i. blocked_bit table s p r (word * 64 + i)) old new
turned-set table s p r word k old new table' s' b o p' e f g h q t =
    turn-as k 16 _ _ old new
    (λ i d. (λ j. blocked_turned (e j) (f j) ((ap (λ (x : BoxedPiece). x.piece) g ∙ h) j) o (word * 64 + i)) ∙ blocked-turned table s p r o word k i q d) t

-- ---- the rotations of a word, one after the other

-- those below k are done
abbrev pub TurnsSet : ℕ → ℕ → (ℕ → Bool) → ℕ → Type 0
TurnsSet mask k b v = (i : ℕ) → i < 64 → i % 4 < k → allowed mask i ≡ true → test_bit v i ≡ b i

pub turns_none : (mask : ℕ) (b : ℕ → Bool) (v : ℕ) → TurnsSet mask 0 b v
turns_none mask b v i h l = absurd (omega arith)

pub turns_next : (mask k : ℕ) (b : ℕ → Bool) (w v : ℕ) → TurnsSet mask k b w → TurnSet k 16 b w v → TurnsSet mask (k + 1) b v
turns_next mask k b w v f t i h l a =
    ⊎_elim (λ m. t.same i (omega arith) (omega arith)) (λ m. t.other i (λ e. omega arith) ∙ f i h m a) (le_or_lt k (i % 4))

pub turns_skipped : (mask k : ℕ) (b : ℕ → Bool) (w : ℕ) → TurnsSet mask k b w → test_bit mask k ≡ false → TurnsSet mask (k + 1) b w
turns_skipped mask k b w f e i h l a =
    ⊎_elim
    (λ m. let d : i % 4 ≡ k = omega arith in absurd (not_both (ap (test_bit mask) (sym d) ∙ a) e))
    (λ m. f i h m a)
    (le_or_lt k (i % 4))

pub turns_all : (mask : ℕ) (b : ℕ → Bool) (v k : ℕ) → 4 ≤ k → TurnsSet mask k b v → WordSet (allowed mask) b v
turns_all mask b v k h f i l a = f i l (omega arith) a

-- ---- a run of words

module _ (s : List ℕ) (k v : ℕ) (fits : k * 8 + 8 ≤ length s) (small : v < 2 ^ 64) where
  -- The members of a word written, and of every other.
  pub member-written : (i : ℕ) → i < 64 → member (with_number 8 s (k * 8) v) (k * 64 + i) ≡ test_bit v i
  member-written i l = member-word (with_number 8 s (k * 8) v) k i l ∙ ap (λ (w : ℕ). test_bit w i) (number_at-written 8 s (k * 8) v fits small)

  pub member-unwritten : (m : ℕ) → (m < k * 64) ⊎ ((k + 1) * 64 ≤ m) → member (with_number 8 s (k * 8) v) m ≡ member s m
  unfolding member
  member-unwritten m (inl l) = ap (λ (w : ℕ). test_bit w (m % 64)) (number_at-other 8 s (k * 8) v fits 8 (word_offset m) (inl (omega arith)))
  member-unwritten m (inr l) = ap (λ (w : ℕ). test_bit w (m % 64)) (number_at-other 8 s (k * 8) v fits 8 (word_offset m) (inr (omega arith)))

pub written_none : (to : ℕ) (asked p : ℕ → Bool) (old : List ℕ) → Written to 0 asked p old old
written_none to asked p old = record { inside = λ m l a. absurd (omega arith); outside = λ m l. refl }

-- One word more.
pub written_next : (to k : ℕ) (asked p : ℕ → Bool) (old l new : List ℕ) (v : ℕ) → Written to k asked p old l → (to + k) * 8 + 8 ≤ length l → v < 2 ^ 64
    → WordSet (λ i. asked (k * 64 + i)) (λ i. p (k * 64 + i)) v → new ≡ with_number 8 l ((to + k) * 8) v → Written to (k + 1) asked p old new
written_next to k asked p old l new v f fits small bits g = rw g record { inside = inside; outside = outside }
  where
    inside : (m : ℕ) → m < (k + 1) * 64 → asked m ≡ true → member (with_number 8 l ((to + k) * 8) v) (to * 64 + m) ≡ p m
    inside m h a = go (le_or_lt (k * 64) m)
      where
        go : (k * 64 ≤ m) ⊎ (m < k * 64) → member (with_number 8 l ((to + k) * 8) v) (to * 64 + m) ≡ p m
        go (inl d) =
            let e : to * 64 + m ≡ (to + k) * 64 + (m - k * 64) = omega arith in
            let q : k * 64 + (m - k * 64) ≡ m = omega arith in
            rw e (member-written l (to + k) v fits small (m - k * 64) (omega arith) ∙ bits (m - k * 64) (omega arith) (ap asked q ∙ a) ∙ ap p q)
        go (inr d) = member-unwritten l (to + k) v fits small (to * 64 + m) (inl (omega arith)) ∙ f.inside m d a

    outside : (m : ℕ) → (m < to * 64) ⊎ ((to + (k + 1)) * 64 ≤ m) → member (with_number 8 l ((to + k) * 8) v) m ≡ member old m
    outside m (inl h) = member-unwritten l (to + k) v fits small m (inl (omega arith)) ∙ f.outside m (inl h)
    outside m (inr h) = member-unwritten l (to + k) v fits small m (inr (omega arith)) ∙ f.outside m (inr (omega arith))

-- the rotations of a word's bits, wherever the word stands
pub allowed-word : (mask k : ℕ) (b : ℕ → Bool) (v : ℕ) → WordSet (allowed mask) b v → WordSet (λ i. allowed mask (k * 64 + i)) b v
allowed-word mask k b v f i h a = let e : (k * 64 + i) % 4 ≡ i % 4 = omega arith in f i h (ap (test_bit mask) (sym e) ∙ a)
