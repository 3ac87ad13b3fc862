-- A layout written entry by entry, each entry as one number of eight bytes.
use mathlib.Core.List.{List, [], ◌∷◌, ◌++◌, map, map-append, append-nil}
use mathlib.Core.Path.{◌≡◌, refl, sym, ap, ◌∙◌}
use Prim.Native.Nat.{ℕ, ◌+◌, ◌*◌, ◌/◌, ◌%◌, ◌^◌, ◌<◌}
use native.Mathlib.Nat.{div-le_self, mod-le}
use native.Mathlib.Numerals.{add-one}
use native.Mathlib.Omega.{arith}
use lib.ListN.{length, take, drop, length-append, length-map}
use lib.Seq.{take_at, drop_at, drop-drop}
use Rattle.words.specs.Bytes.{AreBytes}
use Rattle.words.specs.Number.{bytes, bytes_of, number_at, with_number, filled}
use Rattle.words.proofs.Place.{number_at-lt, number_at-four}
use Rattle.words.proofs.Row.{length-bytes_of, bytes_of-append, filled_none}
use Rattle.words.proofs.Value.{bytes-mod, bytes-add}
use Rattle.model.specs.Grid.{rows, placement_of}
use Rattle.model.specs.Layout.{Entry, entry_of}
use Rattle.model.specs.Lists.{below, rising, concat}
use Rattle.model.specs.Problem.{Problem}
use Rattle.model.specs.Services.{entry_in, entry_numbers, layout_numbers, with_numbers}
use Rattle.model.proofs.Lists.{length-below}
use Rattle.model.proofs.ReadBack.{Small, length-numbers}
use Rattle.stepping.specs.Levels.{piece_kind, numbers_at}
use Rattle.stepping.proofs.Answer.{layout_numbers-append}
use Rattle.stepping.proofs.Counting.{below_suc}
use Rattle.plans.specs.Recording.{four_in}

-- The bytes of a number of two bytes with k more bytes above it.
low_bytes : (k a n : ℕ) → a < 65536 → bytes (2 + k) (a + 65536 * n) ≡ bytes 2 a ++ bytes k n
low_bytes k a n h =
    let low : (a + 65536 * n) % 256 ^ 2 ≡ a = omega arith in
    let high : (a + 65536 * n) / 256 ^ 2 ≡ n = omega arith in
    bytes-add 2 k (a + 65536 * n) ∙ rw (← (bytes-mod 2 (a + 65536 * n)), low, high)

-- The bytes of four numbers are those of the four in one.
four_bytes : (a b c d : ℕ) → a < 65536 → b < 65536 → c < 65536 → bytes_of 2 (a ∷ b ∷ c ∷ d ∷ []) ≡ bytes 8 (four_in a b c d)
unfolding bytes_of
four_bytes a b c d ha hb hc =
    rw append-nil
    (sym (low_bytes 6 a (b + 65536 * (c + 65536 * d)) ha
    ∙ ap (λ (s : List ℕ). bytes 2 a ++ s) (low_bytes 4 b (c + 65536 * d) hb ∙ ap (λ (s : List ℕ). bytes 2 b ++ s) (low_bytes 2 c d hc))))

-- Four numbers more.
filled-four : (ns s : List ℕ) (a b c d : ℕ) → a < 65536 → b < 65536 → c < 65536
    → filled 2 (ns ++ a ∷ b ∷ c ∷ d ∷ []) s ≡ with_number 8 (filled 2 ns s) (length ns * 2) (four_in a b c d)
unfolding filled with_number
filled-four ns s a b c d ha hb hc =
    let l : length (bytes_of 2 ns) ≡ length ns * 2 = length-bytes_of 2 ns in
    let front : take (length ns * 2) (bytes_of 2 ns ++ drop (length ns * 2) s) ≡ bytes_of 2 ns = take_at (bytes_of 2 ns) (drop (length ns * 2) s) (length ns * 2) l in
    let back : drop (length ns * 2 + 8) (bytes_of 2 ns ++ drop (length ns * 2) s) ≡ drop (length ns * 2 + 8) s =
    sym (drop-drop 8 (length ns * 2) (bytes_of 2 ns ++ drop (length ns * 2) s))
    ∙ ap (drop 8) (drop_at (bytes_of 2 ns) (drop (length ns * 2) s) (length ns * 2) l)
    ∙ drop-drop 8 (length ns * 2) s in
    let n : length (ns ++ a ∷ b ∷ c ∷ d ∷ []) * 2 ≡ length ns * 2 + 8 = omega (arith, length-append ns (a ∷ b ∷ c ∷ d ∷ [])) in
    rw (bytes_of-append, n, front, back, four_bytes a b c d ha hb hc)

-- The numbers of one entry.
one_entry : (x : Entry) → layout_numbers (x ∷ []) ≡ x.kind ∷ x.place.column ∷ x.place.row ∷ x.place.rotation ∷ []
unfolding layout_numbers concat entry_numbers
one_entry x = refl

-- The numbers of the entries of the first i pieces.
abbrev pub written : (ℕ → Entry) → ℕ → List ℕ → List ℕ
written e i out = with_numbers (layout_numbers (map e (below i))) out

pub written_none : (e : ℕ → Entry) (out : List ℕ) → written e 0 out ≡ out
unfolding with_numbers layout_numbers below rising concat
written_none e out = filled_none 2 out

pub written_next : (e : ℕ → Entry) (i : ℕ) (out : List ℕ) → Small (e i)
    → written e (i + 1) out ≡ with_number 8 (written e i out) (i * 8) (four_in (e i).kind (e i).place.column (e i).place.row (e i).place.rotation)
unfolding with_numbers
written_next e i out h =
    let l : length (layout_numbers (map e (below i))) * 2 ≡ i * 8 = omega (arith, length-numbers (map e (below i)), length-map (below i) e, length-below i) in
    let p : layout_numbers (map e (below (i + 1))) ≡ layout_numbers (map e (below i)) ++ (e i).kind ∷ (e i).place.column ∷ (e i).place.row ∷ (e i).place.rotation ∷ [] =
    ap (λ (k : ℕ). layout_numbers (map e (below k))) (add-one i)
    ∙ ap (λ (xs : List ℕ). layout_numbers (map e xs)) (below_suc i)
    ∙ ap layout_numbers (map-append e (below i) (i ∷ []))
    ∙ layout_numbers-append (map e (below i)) (e i ∷ [])
    ∙ ap (λ (ns : List ℕ). layout_numbers (map e (below i)) ++ ns) (one_entry (e i)) in
    ap (λ (ns : List ℕ). filled 2 ns out) p
    ∙ filled-four (layout_numbers (map e (below i))) out (e i).kind (e i).place.column (e i).place.row (e i).place.rotation h.kind_fits h.column_fits h.row_fits
    ∙ ap (λ (at : ℕ). with_number 8 (filled 2 (layout_numbers (map e (below i))) out) at (four_in (e i).kind (e i).place.column (e i).place.row (e i).place.rotation)) l

-- The entry of a small number is small.
pub entry-small : (j : Problem) (t n : ℕ) → t < 8 → n < 4096 → Small (entry_of j t n)
unfolding entry_of placement_of
entry-small j t n h k =
    record {
      kind_fits = omega arith;
      column_fits = omega (arith, div-le_self (n / 4) (rows j.sheet));
      row_fits = omega (arith, mod-le (n / 4) (rows j.sheet));
      rotation-fits = omega arith;
    }

-- One more entry, as code writes it.
pub entry-written : (j : Problem) (ns out out' : List ℕ) (i rows_told kind n : ℕ) → piece_kind j.kinds i < 8 → n < 4096 → kind ≡ piece_kind j.kinds i → n ≡ numbers_at ns i
    → rows_told ≡ rows j.sheet → out' ≡ written (λ l. entry_of j (piece_kind j.kinds l) (numbers_at ns l)) i out
    → with_number 8 out' (i * 8) (four_in kind (n / 4 / rows_told) (n / 4 % rows_told) (n % 4)) ≡ written (λ l. entry_of j (piece_kind j.kinds l) (numbers_at ns l)) (i + 1) out
unfolding entry_of placement_of
entry-written j ns out out' i rows_told kind n h k e f r w =
    rw (e, f, r, w) (sym (written_next (λ l. entry_of j (piece_kind j.kinds l) (numbers_at ns l)) i out (entry-small j (piece_kind j.kinds i) (numbers_at ns i) h (rw (← f) k))))

-- One more entry of a layout that is handed in, copied as one number of eight bytes.
pub entry-copied : (layout out out' : List ℕ) (i : ℕ) → AreBytes layout → out' ≡ written (entry_in layout) i out
    → with_number 8 out' (i * 8) (number_at 8 layout (i * 8)) ≡ written (entry_in layout) (i + 1) out
unfolding entry_in
entry-copied layout out out' i h w = rw (w, number_at-four layout (i * 8)) (sym (written_next (entry_in layout) i out small))
  where
    small : Small (entry_in layout i)
    small =
        record {
          kind_fits = number_at-lt 2 layout (i * 8) h;
          column_fits = number_at-lt 2 layout (i * 8 + 2) h;
          row_fits = number_at-lt 2 layout (i * 8 + 4) h;
          rotation-fits = number_at-lt 2 layout (i * 8 + 6) h;
        }
