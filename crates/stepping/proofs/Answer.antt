-- The answer numbers: a layout written over another. (A layout has four numbers for each entry: `length-numbers` of the model's ReadBack.)
use mathlib.Core.List.{List, [], ◌∷◌, ◌++◌, append_assoc}
use mathlib.Core.Option.{Option, none, some}
use mathlib.Core.Path.{◌≡◌, refl, sym, ap}
use Prim.Native.Nat.{ℕ, ◌*◌}
use native.Mathlib.Omega.{arith}
use lib.ListN.{length, drop}
use lib.Seq.{drop_at}
use Rattle.words.specs.Number.{bytes_of, filled}
use Rattle.words.proofs.Row.{length-bytes_of}
use Rattle.model.specs.Layout.{Layout}
use Rattle.model.specs.Lists.{concat}
use Rattle.model.specs.Services.{entry_numbers, layout_numbers, with_numbers, with_layout}
use Rattle.model.proofs.ReadBack.{length-numbers}
use Rattle.stepping.specs.Steps.{Entries}

-- The numbers of two layouts, one after the other. (With one entry more, this is the law of a loop that writes a layout.)
pub layout_numbers-append : (es fs : Layout) → layout_numbers (es ++ fs) ≡ layout_numbers es ++ layout_numbers fs
unfolding layout_numbers concat
layout_numbers-append [] fs = refl
layout_numbers-append (e ∷ es) fs = rw (layout_numbers-append es fs) (sym (append_assoc (entry_numbers e) (layout_numbers es) (layout_numbers fs)))

-- Nothing held leaves the numbers as they are.
pub layout_none : (out : List ℕ) → with_layout none out ≡ out
unfolding with_layout
layout_none out = refl

-- Numbers written over as many others.
pub filled-over : (k : ℕ) (ns ms s : List ℕ) → length ns ≡ length ms → filled k ns (filled k ms s) ≡ filled k ns s
unfolding filled
filled-over k ns ms s e =
    ap (λ (r : List ℕ). bytes_of k ns ++ r)
    (rw e (drop_at (bytes_of k ms) (drop (length ms * k) s) (length ms * k) (length-bytes_of k ms)))

-- A layout written over another of as many entries, or over none.
pub layout_over : (n : ℕ) (es : Layout) (h : Option Layout) (out : List ℕ) → length es ≡ n → Entries n h
    → with_layout (some es) (with_layout h out) ≡ with_layout (some es) out
unfolding with_layout with_numbers
layout_over n es none out p q = refl
layout_over n es (some fs) out p q =
    filled-over 2 (layout_numbers es) (layout_numbers fs) out (omega (arith, length-numbers es, length-numbers fs))

-- What is held later, written over what was held earlier.
pub layout_after : (n : ℕ) (g h : Option Layout) (out : List ℕ) → Entries n g → Entries n h → (g ≡ none → h ≡ none)
    → with_layout g (with_layout h out) ≡ with_layout g out
unfolding with_layout
layout_after n none h out p q f = ap (λ (x : Option Layout). with_layout x out) (f refl)
layout_after n (some es) h out p q f = layout_over n es h out p q
