-- The row of a candidate, bit by bit and word by word. Assumes nothing.
use mathlib.Core.Bool.{true, false}
use mathlib.Core.List.{List, map}
use mathlib.Core.Path.{◌≡◌, sym, ap, ◌∙◌}
use Prim.Native.Nat.{ℕ, ◌+◌, ◌*◌}
use lib.ListN.{length-map}
use Rattle.words.specs.Number.{with_number, filled}
use Rattle.words.proofs.Row.{filled_none, filled_more}
use Rattle.model.specs.Candidate.{is_candidate}
use Rattle.model.specs.Lists.{below, rising}
use Rattle.model.specs.Problem.{Problem}
use Rattle.model.specs.Layout.{entry_of, conflict}
use Rattle.model.specs.Services.{row_bit}
use Rattle.model.proofs.Folds.{map-below-more}
use Rattle.model.proofs.Lists.{length-below}

-- ---- the words of a row, one after the other

pub fill_none : (f : ℕ → ℕ) (s : List ℕ) → s ≡ filled 8 (map f (below 0)) s
unfolding below rising
fill_none f s = sym (filled_none 8 s)

pub fill_more : (f : ℕ → ℕ) (s : List ℕ) (w : ℕ) → filled 8 (map f (below (w + 1))) s
    ≡ with_number 8 (filled 8 (map f (below w)) s) (w * 8) (f w)
fill_more f s w =
    ap (λ (ns : List ℕ). filled 8 ns s) (map-below-more f w)
    ∙ filled_more 8 (map f (below w)) s (f w)
    ∙ ap (λ n. with_number 8 (filled 8 (map f (below w)) s) (n * 8) (f w)) (length-map (below w) f ∙ length-below w)

-- ---- a bit

module _ (j : Problem) (t n u m : ℕ) where
  pub bit_clear : is_candidate j u m ≡ false → false ≡ row_bit j t n u m
  unfolding row_bit
  bit_clear e = rw (e, row_bit)

  pub bit_is : is_candidate j u m ≡ true → conflict j (entry_of j t n) (entry_of j u m) ≡ row_bit j t n u m
  unfolding row_bit
  bit_is e = rw (e, row_bit)
