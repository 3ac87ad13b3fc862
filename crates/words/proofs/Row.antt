-- A row of numbers of k bytes each, at every k, and a list of bytes whose first numbers are given.
use mathlib.Core.Path.{◌≡◌, refl, sym, ap, ◌∙◌, subst}
use mathlib.Core.List.{List, [], ◌∷◌, ◌++◌, append_assoc, append-nil}
use Prim.Native.Nat.{ℕ, zero, suc, ◌+◌, ◌-◌, ◌*◌, ◌%◌, ◌^◌, ◌≤◌, ◌<◌}
use native.Mathlib.Nat.{le-div_iff_mul-le, zero-mul, suc-mul, add_comm, add_assoc, zero-add, add-sub_of_le}
use native.Mathlib.Numerals.{add-one}
use native.Mathlib.Omega.{arith}
use lib.ListN.{length, get_or, take, drop, replicate, length-append, length-drop}
use lib.Seq.{take_at, drop_at, drop-drop, get_or-drop}
use Rattle.std.proofs.lemmas.List.{replicate-append-replicate}
use Rattle.words.specs.Number.{bytes, bytes_of, number_at, with_number, filled, count}
use Rattle.words.specs.Bytes.{AreBytes}
use Rattle.words.proofs.Value.{length-bytes, bytes-are, value-bytes}
use Rattle.words.proofs.Lists.{bytes-append, bytes_drop, get_or-behind, get_or-within}
use Rattle.words.proofs.Place.{number_at-cong, number_at-whole}

-- A row of numbers of k bytes has k bytes for each.
pub length-bytes_of : (k : ℕ) (ns : List ℕ) → length (bytes_of k ns) ≡ length ns * k
unfolding bytes_of
length-bytes_of k [] = sym (zero-mul k)
length-bytes_of k (n ∷ ns) = rw (length-append, length-bytes, length-bytes_of k ns, suc-mul) (omega arith)

-- The bytes of two rows, one after the other.
pub bytes_of-append : (k : ℕ) (ns ms : List ℕ) → bytes_of k (ns ++ ms) ≡ bytes_of k ns ++ bytes_of k ms
unfolding bytes_of
bytes_of-append k [] ms = refl
bytes_of-append k (n ∷ ns) ms = rw (bytes_of-append k ns ms) (sym (append_assoc (bytes k n) (bytes_of k ns) (bytes_of k ms)))

-- The i-th number of a row, whatever follows the row.
pub number_at-bytes_of : (k : ℕ) (ns rest : List ℕ) (i : ℕ) → i < length ns → number_at k (bytes_of k ns ++ rest) (i * k) ≡ get_or ns i 0 % 256 ^ k
unfolding bytes_of
number_at-bytes_of k [] rest i h = elim h [ ]
number_at-bytes_of k (n ∷ ns) rest zero h =
    number_at-cong k (bytes k n ++ bytes_of k ns ++ rest) (bytes k n) (0 * k) 0 (λ m l. rw (zero-mul, append_assoc, zero-add) (get_or-within (bytes k n) (bytes_of k ns ++ rest) k m (length-bytes k n) l))
    ∙ number_at-whole k (bytes k n) (length-bytes k n) ∙ value-bytes k n
number_at-bytes_of k (n ∷ ns) rest (suc i) h =
    number_at-cong k (bytes k n ++ bytes_of k ns ++ rest) (bytes_of k ns ++ rest) (suc i * k) (i * k) (λ m l. rw (suc-mul, append_assoc, add_comm (i * k) k, add_assoc, get_or-behind (bytes k n) (bytes_of k ns ++ rest) k (i * k + m) (length-bytes k n)))
    ∙ number_at-bytes_of k ns rest i (omega arith)

-- The bytes of a row are bytes.
pub bytes_of-bytes : (k : ℕ) (ns : List ℕ) → AreBytes (bytes_of k ns)
unfolding bytes_of
bytes_of-bytes k [] i = omega arith
bytes_of-bytes k (n ∷ ns) i = bytes-append (bytes k n) (bytes_of k ns) (bytes-are k n) (bytes_of-bytes k ns) i

-- The bytes of zeros are zeros.
pub bytes-zero : (k : ℕ) → bytes k 0 ≡ replicate k 0
unfolding bytes
bytes-zero zero = refl
bytes-zero (suc k) = ap (λ (bs : List ℕ). 0 ∷ bs) (bytes-zero k)

pub bytes_of-zeros : (k n : ℕ) → bytes_of k (replicate n 0) ≡ replicate (n * k) 0
unfolding bytes_of
bytes_of-zeros k zero = rw zero-mul
bytes_of-zeros k (suc n) =
    rw (suc-mul, add_comm (n * k) k, bytes-zero k, bytes_of-zeros k n) (replicate-append-replicate k (n * k) 0)

-- ---- a list of bytes whose first numbers are given

module _ (k : ℕ) (ns s : List ℕ) (fits : length ns * k ≤ length s) where
  -- The bytes stay as many.
  pub length-filled : length (filled k ns s) ≡ length s
  unfolding filled
  length-filled = rw (length-append, length-bytes_of, length-drop) (omega arith)

  -- The i-th number is the one given.
  pub number_at-filled : (i : ℕ) → i < length ns → number_at k (filled k ns s) (i * k) ≡ get_or ns i 0 % 256 ^ k
  unfolding filled
  number_at-filled i h = number_at-bytes_of k ns (drop (length ns * k) s) i h

  -- Later bytes are unchanged.
  pub byte_behind-filled : (j : ℕ) → length ns * k ≤ j → get_or (filled k ns s) j 0 ≡ get_or s j 0
  unfolding filled
  byte_behind-filled j h =
      subst (λ (m : ℕ). get_or (filled k ns s) m 0 ≡ get_or s m 0) (add-sub_of_le h)
      (get_or-behind (bytes_of k ns) (drop (length ns * k) s) (length ns * k) (j - length ns * k) (length-bytes_of k ns)
      ∙ get_or-drop (length ns * k) s (j - length ns * k) 0)

  -- So is every number, of any width, that begins behind them.
  pub number_at-behind-filled : (m j : ℕ) → length ns * k ≤ j → number_at m (filled k ns s) j ≡ number_at m s j
  number_at-behind-filled m j h = number_at-cong m (filled k ns s) s j j (λ x l. byte_behind-filled (j + x) (omega arith))

-- Bytes stay bytes.
pub filled-bytes : (k : ℕ) (ns s : List ℕ) → AreBytes s → AreBytes (filled k ns s)
unfolding filled
filled-bytes k ns s h = bytes-append (bytes_of k ns) (drop (length ns * k) s) (bytes_of-bytes k ns) (bytes_drop (length ns * k) s h)

-- Nothing given changes nothing.
pub filled_none : (k : ℕ) (s : List ℕ) → filled k [] s ≡ s
unfolding filled bytes_of
filled_none k s = rw zero-mul

-- One number more: a write behind the numbers given. This is the law of a loop that writes a row.
pub filled_more : (k : ℕ) (ns s : List ℕ) (n : ℕ) → filled k (ns ++ n ∷ []) s ≡ with_number k (filled k ns s) (length ns * k) n
unfolding filled with_number bytes_of
filled_more k ns s n =
    let l : length (bytes_of k ns) ≡ length ns * k = length-bytes_of k ns in
    let front : take (length ns * k) (bytes_of k ns ++ drop (length ns * k) s) ≡ bytes_of k ns = take_at (bytes_of k ns) (drop (length ns * k) s) (length ns * k) l in
    let back : drop (length ns * k + k) (bytes_of k ns ++ drop (length ns * k) s) ≡ drop (length ns * k + k) s =
    sym (drop-drop k (length ns * k) (bytes_of k ns ++ drop (length ns * k) s))
    ∙ ap (drop k) (drop_at (bytes_of k ns) (drop (length ns * k) s) (length ns * k) l)
    ∙ drop-drop k (length ns * k) s in
    rw (bytes_of-append, length-append, front, back, append-nil, add-one, suc-mul)

-- ---- as many numbers as fit

-- Each number that counts is all there.
pub count_fits : (k : ℕ) (s : List ℕ) (i : ℕ) → 0 < k → i < count k s → i * k + k ≤ length s
unfolding count
count_fits k s i p h = rw suc-mul at ((le-div_iff_mul-le {k = k} {x = suc i} {y = length s} p).0 h)

-- Numbers that are all there count.
pub fits_count : (k : ℕ) (s : List ℕ) (n : ℕ) → 0 < k → n * k ≤ length s → n ≤ count k s
unfolding count
fits_count k s n p h = (le-div_iff_mul-le {k = k} {x = n} {y = length s} p).1 h
