-- Laws of numbers written one after the other.
use mathlib.Core.List.{List, [], ◌∷◌, ◌++◌, map, append-nil}
use mathlib.Core.Path.{◌≡◌, refl, sym, ap, ap₂, ◌∙◌}
use Prim.Native.Nat.{ℕ, ◌+◌, ◌*◌, ◌≤◌}
use native.Mathlib.Omega.{arith}
use lib.IntN.{ℤ, pos, negsuc}
use lib.ListN.{length, length-map, drop, length-append}
use lib.Seq.{sets}
use mir.Syntax.{w16}
use mir.Val.{of_z}
use Rattle.words.specs.Number.{bytes, bytes_of, with_number, filled}
use Rattle.words.proofs.Lists.{sets_then, sets-front}
use Rattle.words.proofs.Place.{with_number-sets}
use Rattle.words.proofs.Row.{length-bytes_of, bytes_of-append}
use Rattle.model.specs.Content.{Vertex}
use Rattle.model.specs.Lists.{concat, below, rising}
use Rattle.model.specs.Services.{coordinate, vertex_numbers}
use Rattle.model.proofs.Folds.{map-below-more}
use Rattle.model.proofs.Lists.{length-below}
use Rattle.writing.specs.Numbers.{with_numbers_at}

pub numbers_none : (at : ℕ) (s : List ℕ) → with_numbers_at at [] s ≡ s
unfolding with_numbers_at bytes_of
numbers_none at s = refl

pub numbers_one : (at n : ℕ) (s : List ℕ) → (at + 1) * 2 ≤ length s → with_number 2 s (at * 2) n ≡ with_numbers_at at (n ∷ []) s
unfolding with_numbers_at bytes_of
numbers_one at n s h = with_number-sets 2 s (at * 2) n (omega arith) ∙ ap (sets s (at * 2)) (sym (append-nil (bytes 2 n)))

pub numbers_all : (ns s : List ℕ) → length ns * 2 ≤ length s → with_numbers_at 0 ns s ≡ filled 2 ns s
unfolding with_numbers_at filled
numbers_all ns s h =
    let l : length (bytes_of 2 ns) ≡ length ns * 2 = length-bytes_of 2 ns in
    sets-front (bytes_of 2 ns) s (omega arith) ∙ ap (λ n. bytes_of 2 ns ++ drop n s) l

-- One write after another.
pub numbers_then : (at at' : ℕ) (ns ms s u v : List ℕ) → at' ≡ at + length ns → u ≡ with_numbers_at at ns s → v ≡ with_numbers_at at' ms u → v ≡ with_numbers_at at (ns ++ ms) s
unfolding with_numbers_at
numbers_then at at' ns ms s u v e p q =
    let l = length-bytes_of 2 ns in
    sets_then (at * 2) (at' * 2) (bytes_of 2 ns) (bytes_of 2 ms) s u v (omega arith) p q ∙ ap (sets s (at * 2)) (sym (bytes_of-append 2 ns ms))

-- ---- A coordinate as a number

-- The bits of a coordinate are its number.
pub coordinate-bits : (z : ℤ) → of_z w16 z ≡ coordinate z
unfolding coordinate
coordinate-bits (pos n) = refl
coordinate-bits (negsuc n) = omega arith

-- ---- A row of numbers, one after the other

module _ (f : ℕ → ℕ) where
  pub length-row : (k : ℕ) → length (map f (below k)) ≡ k
  length-row k = length-map (below k) f ∙ length-below k

  pub row-none : (at : ℕ) (a : List ℕ) → a ≡ with_numbers_at at (map f (below 0)) a
  unfolding below rising
  row-none at a = sym (numbers_none at a)

  -- One number more: the law of a loop that writes them.
  pub row_more : (at k n : ℕ) (a u v : List ℕ) → (at + k + 1) * 2 ≤ length u → n ≡ f k
      → u ≡ with_numbers_at at (map f (below k)) a
      → v ≡ with_number 2 u ((at + k) * 2) n → v ≡ with_numbers_at at (map f (below (k + 1))) a
  row_more at k n a u v fits en eu ev =
      let l = length-row k in
      numbers_then at (at + k) (map f (below k)) (f k ∷ []) a u v (omega arith) eu
      (ev ∙ numbers_one (at + k) n u fits ∙ ap (λ m. with_numbers_at (at + k) (m ∷ []) u) en)
      ∙ ap (λ r. with_numbers_at at r a) (sym (map-below-more f k))

-- ---- Numbers of things

pub length-vertex : (p : Vertex) → length (vertex_numbers p) ≡ 2
unfolding vertex_numbers
length-vertex p = refl

-- As many numbers for each.
pub numbers_length : {A : Type 0} (g : A → List ℕ) (c : ℕ) → ((x : A) → length (g x) ≡ c) → (xs : List A) → length (concat (map g xs)) ≡ length xs * c
unfolding concat
numbers_length g c h [] = omega arith
numbers_length g c h (x ∷ xs) = length-append (g x) (concat (map g xs)) ∙ ap₂ (λ a b. a + b) (h x) (numbers_length g c h xs) ∙ (omega arith)
