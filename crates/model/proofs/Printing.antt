-- Laws of the printed lines: the lines of a layout one after the other, and how long an entry's line is.
use mathlib.Core.List.{List, [], ◌∷◌, ◌++◌, map, append_assoc, append-nil}
use mathlib.Core.Path.{◌≡◌, refl, sym, ap, ◌∙◌}
use Prim.Native.Nat.{ℕ, zero, suc, ◌+◌, ◌*◌, ◌≤◌}
use native.Mathlib.Nat.{suc-add, add-suc, add-zero, zero-add}
use native.Mathlib.Omega.{arith}
use lib.ListN.{length, length-append}
use Rattle.words.proofs.Place.{number_at-lt}
use Rattle.words.specs.Bytes.{AreBytes}
use Rattle.words.specs.Number.{number_at}
use Rattle.model.specs.Layout.{Entry, Layout}
use Rattle.model.specs.Lists.{concat, rising, below}
use Rattle.model.specs.Output.{decimal, line, entry_line, entry_lines}
use Rattle.model.specs.Services.{entry_in, entry_numbers}
use Rattle.model.proofs.Decimal.{decimal-16}

-- ---- Numbers that rise

-- One number more, at the end.
pub rising-last : (i k : ℕ) → rising i (suc k) ≡ rising i k ++ (i + k) ∷ []
unfolding rising
rising-last i zero = ap (λ (n : ℕ). n ∷ []) (sym (add-zero i))
rising-last i (suc k) =
    ap (λ (ns : List ℕ). i ∷ ns)
    (rising-last (suc i) k ∙ ap (λ (n : ℕ). rising (suc i) k ++ n ∷ []) (suc-add i k ∙ sym (add-suc i k)))

pub below_last : (n : ℕ) → below (suc n) ≡ below n ++ n ∷ []
unfolding below
below_last n = rising-last 0 n ∙ ap (λ (m : ℕ). rising 0 n ++ m ∷ []) (zero-add n)

-- ---- The lines of a layout

-- The lines of one layout and then of another.
pub lines_append : (es fs : Layout) → entry_lines (es ++ fs) ≡ entry_lines es ++ entry_lines fs
unfolding entry_lines concat
lines_append [] fs = refl
lines_append (e ∷ es) fs =
    ap (λ (t : List ℕ). entry_line e ++ t) (lines_append es fs) ∙ sym (append_assoc (entry_line e) (entry_lines es) (entry_lines fs))

pub lines_one : (e : Entry) → entry_lines (e ∷ []) ≡ entry_line e
unfolding entry_lines concat
lines_one e = append-nil (entry_line e)

pub map-append : {A B : Type 0} (f : A → B) (xs ys : List A) → map f (xs ++ ys) ≡ map f xs ++ map f ys
map-append f [] ys = refl
map-append f (x ∷ xs) ys = ap (λ zs. f x ∷ zs) (map-append f xs ys)

-- ---- A line, as its words with what ends each

pub line-two : (a b : List ℕ) → line (a ∷ b ∷ []) ≡ (a ++ 32 ∷ []) ++ (b ++ 10 ∷ [])
unfolding line
line-two a b = simp append_assoc

pub line-three : (a b c : List ℕ) → line (a ∷ b ∷ c ∷ []) ≡ (a ++ 32 ∷ []) ++ (b ++ 32 ∷ []) ++ (c ++ 10 ∷ [])
unfolding line
line-three a b c = simp append_assoc

pub line-four : (a b c d : List ℕ) → line (a ∷ b ∷ c ∷ d ∷ []) ≡ (a ++ 32 ∷ []) ++ (b ++ 32 ∷ []) ++ (c ++ 32 ∷ []) ++ (d ++ 10 ∷ [])
unfolding line
line-four a b c d = simp append_assoc

-- An entry's line.
pub entry-line : (e : Entry) → entry_line e
    ≡ (decimal e.kind ++ 32 ∷ [])
    ++ (decimal e.place.column ++ 32 ∷ [])
    ++ (decimal e.place.row ++ 32 ∷ [])
    ++ (decimal e.place.rotation ++ 10 ∷ [])
unfolding entry_line entry_numbers
entry-line e = line-four (decimal e.kind) (decimal e.place.column) (decimal e.place.row) (decimal e.place.rotation)

module _ (s : List ℕ) (known : AreBytes s) where
  -- A number of two bytes has at most five digits.
  digits_in : (i : ℕ) → length (decimal (number_at 2 s i)) ≤ 5
  digits_in i = decimal-16 (number_at 2 s i) (number_at-lt 2 s i known)

  -- The line of an entry that a buffer's numbers hold has at most 24 bytes.
  pub entry-short : (i : ℕ) → length (entry_line (entry_in s i)) ≤ 24
  unfolding entry_in
  entry-short i =
      rw (entry-line (entry_in s i))
      (simp length-append (omega (arith, digits_in (i * 8), digits_in (i * 8 + 2), digits_in (i * 8 + 4), digits_in (i * 8 + 6))))
