-- A layout written into the answer numbers is read back from them.
use mathlib.Core.List.{List, [], ◌∷◌, ◌++◌}
use mathlib.Core.Option.{some}
use mathlib.Core.Path.{◌≡◌, refl, sym, ◌∙◌}
use Prim.Native.Nat.{ℕ, zero, suc, ◌+◌, ◌*◌, ◌<◌}
use native.Mathlib.Nat.{mod-eq_of_lt, not-suc-le-zero, le_of_suc-le-suc, zero-add}
use native.Mathlib.Omega.{arith}
use lib.ListN.{length, get_or, drop, length-map, get_or-append}
use lib.Seq.{get_or-append-add, ext_get_or}
use Rattle.words.proofs.Row.{number_at-bytes_of}
use Rattle.words.specs.Number.{bytes_of, number_at, filled}
use Rattle.model.specs.Content.{piece_count}
use Rattle.model.specs.Layout.{Entry, Layout, entry_at, no_entry}
use Rattle.model.specs.Lists.{concat, below}
use Rattle.model.specs.Problem.{Problem}
use Rattle.model.specs.Services.{with_numbers, entry_in, layout_in, entry_numbers, layout_numbers, with_layout}
use Rattle.model.proofs.Lists.{length-below, get_or-map-below}

-- A layout is four numbers for each entry.
pub length-numbers : (es : Layout) → length (layout_numbers es) ≡ length es * 4
unfolding layout_numbers concat entry_numbers
length-numbers [] = refl
length-numbers (e ∷ es) = let ih : length (layout_numbers es) ≡ length es * 4 = length-numbers es in omega arith

-- Number c of entry i.
number-at : (es : Layout) (i c : ℕ) → i < length es → c < 4 → get_or (layout_numbers es) (i * 4 + c) 0 ≡ get_or (entry_numbers (entry_at es i)) c 0
unfolding layout_numbers concat entry_numbers
number-at [] i c h l = absurd (not-suc-le-zero h)
number-at (e ∷ es) zero c h l = rw (zero-add c) (get_or-append (entry_numbers e) (layout_numbers es) 0 c l)
number-at (e ∷ es) (suc i) c h l =
    let q : suc i * 4 + c ≡ 4 + (i * 4 + c) = omega arith in
    rw q (get_or-append-add (entry_numbers e) (layout_numbers es) (i * 4 + c) 0 ∙ number-at es i c (le_of_suc-le-suc h) l)

-- The four numbers of an entry are two-byte numbers.
pub record Small (e : Entry) : Type 0 where
  pub kind_fits : e.kind < 65536
  pub column_fits : e.place.column < 65536
  pub row_fits : e.place.row < 65536
  pub rotation-fits : e.place.rotation < 65536

module _ (es : Layout) (rest : List ℕ) (i : ℕ) (h : i < length es) where
  -- Number c of entry i, at its place in the bytes.
  read_number : (c at : ℕ) → c < 4 → at ≡ (i * 4 + c) * 2 → get_or (entry_numbers (entry_at es i)) c 0 < 65536
      → number_at 2 (bytes_of 2 (layout_numbers es) ++ rest) at ≡ get_or (entry_numbers (entry_at es i)) c 0
  read_number c at l q b =
      let n : get_or (layout_numbers es) (i * 4 + c) 0 ≡ get_or (entry_numbers (entry_at es i)) c 0 = number-at es i c h l in
      rw q (number_at-bytes_of 2 (layout_numbers es) rest (i * 4 + c) (rw (length-numbers es) (omega arith)) ∙ rw n (mod-eq_of_lt b))

  -- Entry i of a layout that was written is read back.
  read-entry : Small (entry_at es i) → entry_in (bytes_of 2 (layout_numbers es) ++ rest) i ≡ entry_at es i
  unfolding entry_in entry_numbers
  read-entry b =
      rw (
        read_number 0 (i * 8) (omega arith) (omega arith) b.kind_fits,
        read_number 1 (i * 8 + 2) (omega arith) (omega arith) b.column_fits,
        read_number 2 (i * 8 + 4) (omega arith) (omega arith) b.row_fits,
        read_number 3 (i * 8 + 6) (omega arith) (omega arith) b.rotation-fits,
      )

-- A layout of N entries of two-byte numbers that was written into a buffer is read back from it.
pub read-layout : (j : Problem) (es : Layout) (out : List ℕ) → length es ≡ piece_count j.kinds → ((i : ℕ) → i < length es → Small (entry_at es i))
    → layout_in j (with_layout (some es) out) ≡ es
unfolding layout_in with_layout with_numbers filled
read-layout j es out q b =
    ext_get_or no_entry _ es
    (length-map (below (piece_count j.kinds)) (entry_in (with_layout (some es) out)) ∙ length-below (piece_count j.kinds) ∙ sym q)
    (λ i h.
    let k : i < length es = rw (length-map (below (piece_count j.kinds)) (entry_in (with_layout (some es) out)), length-below (piece_count j.kinds), ← q) at h in
    get_or-map-below (entry_in (with_layout (some es) out)) (piece_count j.kinds) i no_entry (rw (← q) k) ∙ read-entry es (drop (length (layout_numbers es) * 2) out) i k (b i k))
