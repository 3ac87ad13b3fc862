-- Laws of the numbers of corners, and of records.
use mathlib.Core.Bool.{true}
use mathlib.Core.List.{List, [], ◌∷◌, ◌++◌, map, append_assoc}
use mathlib.Core.Path.{◌≡◌, refl, sym, ap, ap₂, ◌∙◌}
use Prim.Native.Nat.{ℕ, zero, suc, ◌+◌, ◌*◌}
use native.Mathlib.Numerals.{add-one}
use native.Mathlib.Omega.{arith}
use lib.ListN.{length}
use Rattle.integers.specs.Byte.{signed}
use Rattle.model.specs.Lists.{concat, below, rising}
use Rattle.model.specs.Services.{coordinate, vertex_numbers}
use Rattle.model.proofs.Folds.{map-append, map-below-more, concat-more}
use Rattle.model.specs.Format.{byte_at, Got, got, many}
use Rattle.model.proofs.Readers.{many-sum}
use Rattle.records.specs.Parts.{vertex_from, part_from}
use Rattle.records.specs.Records.{Reads, values_of}
use Rattle.records.proofs.RecordLaws.{values_none}
use Rattle.writing.specs.Numbers.{with_numbers_at, as_number, bytes_from}
use Rattle.writing.proofs.NumberLaws.{numbers_none, numbers_then}

-- ---- The corners of a part

-- The numbers of the first k corners.
abbrev corner_numbers : List ℕ → ℕ → List ℕ
corner_numbers s k = concat (map vertex_numbers (part_from s k))

corner-pair : (s : List ℕ) (k : ℕ) → vertex_numbers (vertex_from s k) ≡ as_number true (byte_at s (1 + k * 2)) ∷ as_number true (byte_at s (1 + (k * 2 + 1))) ∷ []
unfolding vertex_numbers as_number
corner-pair s k =
    let a : k * 2 + 1 ≡ 1 + k * 2 = omega arith in
    let b : k * 2 + 2 ≡ 1 + (k * 2 + 1) = omega arith in
    ap₂ (λ i j. coordinate (signed (byte_at s i)) ∷ coordinate (signed (byte_at s j)) ∷ []) a b

-- They are the bytes behind the first.
pub corner-numbers : (s : List ℕ) (k : ℕ) → corner_numbers s k ≡ bytes_from true 1 (k * 2) s
unfolding concat below rising
corner-numbers s zero = refl
corner-numbers s (suc k) =
    let f : ℕ → ℕ = λ i. as_number true (byte_at s (1 + i)) in
    let e : k + 1 ≡ suc k = add-one k in
    let m : k * 2 + 1 + 1 ≡ suc k * 2 = omega arith in
    ap (corner_numbers s) (sym e)
    ∙ ap (λ l. concat (map vertex_numbers l)) (map-below-more (vertex_from s) k)
    ∙ ap concat (map-append vertex_numbers (part_from s k) (vertex_from s k ∷ []))
    ∙ concat-more (map vertex_numbers (part_from s k)) (vertex_numbers (vertex_from s k))
    ∙ ap₂ ◌++◌ (corner-numbers s k) (corner-pair s k)
    ∙ sym (append_assoc (map f (below (k * 2))) (f (k * 2) ∷ []) (f (k * 2 + 1) ∷ []))
    ∙ ap (λ r. r ++ (f (k * 2 + 1) ∷ [])) (sym (map-below-more f (k * 2)))
    ∙ sym (map-below-more f (k * 2 + 1))
    ∙ ap (λ i. map f (below i)) m

-- ---- Records, a number for each byte

module _ {A : Type 0} (f : List ℕ → Got A) (g : A → List ℕ) (each : (s : List ℕ) (a : A) (k : ℕ) → f s ≡ got a k → length (g a) ≡ k) where
  -- The numbers of the records that were read.
  abbrev pub record_numbers : ℕ → List ℕ → List ℕ
  record_numbers n s = concat (map g (values_of (many f n s)))

  pub records_none : (at : ℕ) (s a : List ℕ) → a ≡ with_numbers_at at (record_numbers 0 s) a
  unfolding concat
  records_none at s a = sym (ap (λ l. with_numbers_at at (concat (map g l)) a) (values_none f s) ∙ numbers_none at a)

  -- They are as many as the bytes of the records.
  pub records_length : (n m : ℕ) (s : List ℕ) → Reads (many f n s) m → length (record_numbers n s) ≡ m
  records_length n m s r = many-sum f g each n s (values_of (many f n s)) m r

  -- One record more: the numbers ns of x, from number at' on.
  pub records_more : (at at' n m : ℕ) (s ns a u v : List ℕ) (x : A) → at' ≡ at + m → Reads (many f n s) m
      → values_of (many f (n + 1) s) ≡ values_of (many f n s) ++ (x ∷ []) → g x ≡ ns
      → u ≡ with_numbers_at at (record_numbers n s) a → v ≡ with_numbers_at at' ns u → v ≡ with_numbers_at at (record_numbers (n + 1) s) a
  records_more at at' n m s ns a u v x ea r e en eu ev =
      let l = records_length n m s r in
      let more : record_numbers (n + 1) s ≡ record_numbers n s ++ g x =
      ap (λ l. concat (map g l)) e ∙ ap concat (map-append g (values_of (many f n s)) (x ∷ [])) ∙ concat-more (map g (values_of (many f n s))) (g x) in
      numbers_then at at' (record_numbers n s) ns a u v (omega arith) eu ev
      ∙ ap (λ l. with_numbers_at at l a) (ap (λ x. record_numbers n s ++ x) (sym en) ∙ sym more)
