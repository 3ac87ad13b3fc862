-- The tests of a trailer in the library's words: a number out of a range, and the mark at the end.
use mathlib.Core.Bool.{Bool, true, false, not, ◌&&◌, ◌||◌, and-true}
use mathlib.Core.List.{List, [], ◌∷◌}
use mathlib.Core.Logic.{◌⊎◌, inl, inr}
use mathlib.Core.Path.{◌≡◌, refl, sym, ap, ap₂, ◌∙◌}
use Prim.Native.Nat.{ℕ, suc, ◌+◌, ◌-◌, ◌≤◌, ◌<◌}
use native.Mathlib.Omega.{arith}
use lib.Dec.{eqb, leb, ltb}
use lib.ListN.{length, get_or, drop}
use lib.Seq.{drop-cons}
use borrow.Author.Tests.{lt-ltb, le-ltb, le-leb, lt-leb}
use Rattle.std.proofs.lemmas.List.{drop_all}
use Rattle.std.specs.List.{ends_with}
use Rattle.words.proofs.Cases.{le_or_lt}
use Rattle.model.specs.Format.{byte_at, trailer_at, marked}
use Rattle.model.proofs.Permuted.{eqb_comm}

-- ---- out of a range

below-is : (n a : ℕ) → ltb n a ≡ not (leb a n)
below-is n a = go (le_or_lt a n)
  where
    go : (a ≤ n) ⊎ (n < a) → ltb n a ≡ not (leb a n)
    go (inl l) = le-ltb n a l ∙ ap not (sym (le-leb a n l))
    go (inr l) = lt-ltb n a l ∙ ap not (sym (lt-leb a n l))

not_both : (x y : Bool) → not (x && y) ≡ (not x || not y)
not_both true y = refl
not_both false y = refl

pub out_of_range : (n a b : ℕ) → not (leb a n && leb n b) ≡ (ltb n a || ltb b n)
out_of_range n a b = not_both (leb a n) (leb n b) ∙ ap₂ ◌||◌ (sym (below-is n a)) (sym (below-is b n))

-- ---- the mark

-- Two bytes at the end of a list.
last-two : (s : List ℕ) (n : ℕ) → n + 2 ≡ length s → drop n s ≡ get_or s n 0 ∷ get_or s (suc n) 0 ∷ []
last-two s n e =
    drop-cons s n 0 (omega arith)
    ∙ ap (λ (r : List ℕ). get_or s n 0 ∷ r)
    (drop-cons s (suc n) 0 (omega arith) ∙ ap (λ (r : List ℕ). get_or s (suc n) 0 ∷ r)
    (drop_all (suc (suc n)) s (omega arith)))

pub marked-is : (s : List ℕ) → 14 ≤ length s → ends_with eqb s (0x44 ∷ 0x42 ∷ []) ≡ marked s
unfolding marked byte_at trailer_at
marked-is s h =
    let first : length s - 2 ≡ length s - 14 + 12 = omega arith in
    let second : suc (length s - 14 + 12) ≡ length s - 14 + 13 = omega arith in
    rw (first, last-two s (length s - 14 + 12) (omega arith), second)
    (ap₂ ◌&&◌ (eqb_comm 0x44 (get_or s (length s - 14 + 12) 0))
    (and-true (eqb 0x42 (get_or s (length s - 14 + 13) 0)) ∙ eqb_comm 0x42 (get_or s (length s - 14 + 13) 0)))
