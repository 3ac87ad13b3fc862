-- Laws of the readers of records: sizes, and one record more.
use mathlib.Core.Bool.{Bool, true, false, cond, ◌&&◌}
use mathlib.Core.List.{List, [], ◌∷◌, ◌++◌}
use mathlib.Core.Path.{◌≡◌, refl, sym, ap, ap₂, ◌∙◌}
use Prim.Native.Nat.{ℕ, ◌+◌, ◌-◌, ◌*◌, ◌<◌, ◌≤◌}
use native.Mathlib.Omega.{arith}
use borrow.Author.Tests.{le-leb, lt-leb, leb-true}
use lib.Dec.{leb}
use lib.ListN.{length, take, drop, length-drop}
use lib.Seq.{take_all}
use Rattle.std.specs.Bool.{then_some}
use Rattle.std.specs.List.{slice_get}
use Rattle.std.specs.Prelude.{Option, Some, None}
use Rattle.model.specs.Content.{Part}
use Rattle.model.specs.Format.{byte_at, Got, bad, got, many, read_part, read_kind, head_in_range, with_parts, vertices}
use Rattle.model.specs.Lists.{between}
use Rattle.model.proofs.Lists.{and_four}
use Rattle.model.proofs.Readers.{many-none, many_more, many-bad}
use Rattle.model.proofs.Records.{between-both}
use Rattle.records.specs.Records.{size_of, taken, value_of, values_of, Reads}

-- A piece of a slice from a place to its end.
pub tail : (s : List ℕ) (a : ℕ) → take (length s - a) (drop a s) ≡ drop a s
tail s a = take_all (length s - a) (drop a s) (rw length-drop (omega arith))

module _ {A : Type 0} where
  -- What was read, by the bytes that it takes.
  pub taken-got : (d : A) (g : Got A) (k : ℕ) → taken g ≡ Some k → g ≡ got (value_of d g) k
  unfolding taken value_of
  taken-got d bad k e = cc
  taken-got d (got a m) k e = let q : m ≡ k = cc in ap (got a) q

  pub taken-bad : (g : Got A) → taken g ≡ None → g ≡ bad
  unfolding taken
  taken-bad bad e = refl
  taken-bad (got a k) e = cc

  pub none-taken : (g : Got A) → g ≡ bad → None ≡ taken g
  unfolding taken
  none-taken g e = sym (ap taken e)

  pub some-taken : (g : Got A) (a : A) (k : ℕ) → g ≡ got a k → Some k ≡ taken g
  unfolding taken
  some-taken g a k e = sym (ap taken e)

  pub size_is : (g : Got A) (a : A) (k : ℕ) → g ≡ got a k → size_of g ≡ k
  unfolding size_of
  size_is g a k e = ap size_of e

  pub reads-from : (g : Got (List A)) (xs : List A) (m : ℕ) → g ≡ got xs m → Reads g m
  unfolding values_of
  reads-from g xs m e = e ∙ ap (λ v. got v m) (sym (ap values_of e))

  pub values_from : (g : Got (List A)) (xs : List A) (m : ℕ) → g ≡ got xs m → values_of g ≡ xs
  unfolding values_of
  values_from g xs m e = ap values_of e

  module _ (f : List ℕ → Got A) (s : List ℕ) where
    pub reads_none : Reads (many f 0 s) 0
    reads_none = reads-from (many f 0 s) [] 0 (many-none f s)

    pub values_none : values_of (many f 0 s) ≡ []
    values_none = values_from (many f 0 s) [] 0 (many-none f s)

    pub reads_more : (n m : ℕ) (x : A) (k : ℕ) → Reads (many f n s) m → f (drop m s) ≡ got x k → Reads (many f (n + 1)
        s) (m + k)
    reads_more n m x k r e = reads-from _ _ _ (many_more f n s _ m x k r e)

    pub values_more : (n m : ℕ) (x : A) (k : ℕ) → Reads (many f n s) m → f (drop m s) ≡ got x k
        → values_of (many f (n + 1) s) ≡ values_of (many f n s) ++ (x ∷ [])
    values_more n m x k r e = values_from _ _ _ (many_more f n s _ m x k r e)

    pub reads-bad : (n l m : ℕ) → n < l → Reads (many f n s) m → f (drop m s) ≡ bad → many f l s ≡ bad
    reads-bad n l m h r e = many-bad f n l s _ m h r e

-- A loop over records. r is how many bytes the next one takes, from byte m on.
module _ {A : Type 0} (f : List ℕ → Got A) (s : List ℕ) (m : ℕ) (r : Option ℕ) (e : r
    ≡ taken (f (take (length s - m) (drop m s)))) where
  here : r ≡ taken (f (drop m s))
  here = e ∙ ap (λ l. taken (f l)) (tail s m)

  pub next_got : (d : A) (k : ℕ) → r ≡ Some k → f (drop m s) ≡ got (value_of d (f (drop m s))) k
  next_got d k h = taken-got d (f (drop m s)) k (sym here ∙ h)

  pub step : (d : A) (n k : ℕ) → Reads (many f n s) m → r ≡ Some k → Reads (many f (n + 1) s) (m + k)
  step d n k w h = reads_more f s n m _ k w (next_got d k h)

  pub stop : (n l : ℕ) → n < l → Reads (many f n s) m → r ≡ None → many f l s ≡ bad
  stop n l h w z = reads-bad f s n l m h w (taken-bad (f (drop m s)) (sym here ∙ z))

pub done : {A : Type 0} (f : List ℕ → Got A) (s : List ℕ) (n l m : ℕ) → n ≡ l → Reads (many f n s) m → Some m
    ≡ taken (many f l s)
done f s n l m e w = some-taken (many f n s) _ m w ∙ ap (λ i. taken (many f i s)) e

-- The length of a piece to the end.
pub tail_length : (s : List ℕ) (a : ℕ) → length (take (length s - a) (drop a s)) ≡ length s - a
tail_length s a = ap length (tail s a) ∙ length-drop a s

-- ---- A part

-- The size of a part, by its test.
part-taken : (s : List ℕ)
    → then_some (between 3 8 (byte_at s 0) && leb (1 + byte_at s 0 * 2) (length s)) (1 + byte_at s 0 * 2)
    ≡ taken (read_part s)
unfolding taken read_part
part-taken s = go (between 3 8 (byte_at s 0) && leb (1 + byte_at s 0 * 2) (length s))
  where
    go : (t : Bool) → then_some t (1 + byte_at s 0 * 2) ≡ taken (cond t (got (vertices (byte_at s 0) (drop 1 s))
        (1 + byte_at s 0 * 2)) bad)
    go true = refl
    go false = refl

-- A first byte b and the test of it.
pub part-sized : (s : List ℕ) (b : ℕ) (t : Bool) → Some b ≡ slice_get s 0 → t ≡ between 3 8 b
    → then_some (t && leb (1 + b * 2) (length s)) (1 + b * 2) ≡ taken (read_part s)
unfolding byte_at
part-sized [] b t e h = cc
part-sized (x ∷ s) b t e h = let q : b ≡ x = cc in rw (h, q) (part-taken (x ∷ s))

-- No bytes, no part.
pub no_part : (s : List ℕ) → None ≡ slice_get s 0 → None ≡ taken (read_part s)
unfolding byte_at between
no_part [] e = part-taken []
no_part (x ∷ s) e = cc

-- ---- A kind

pub head_short : (s : List ℕ) → length s < 4 → head_in_range s ≡ false
unfolding head_in_range
head_short s h = ap (λ b. b && between 1 12 (byte_at s 0) && between 1 15 (byte_at s 1) && between 1 6 (byte_at s 3))
    (lt-leb 4 (length s) h)

pub head_long : (s : List ℕ) → 4 ≤ length s → head_in_range s ≡ (between 1 12 (byte_at s 0) && between 1 15
    (byte_at s 1) && between 1 6 (byte_at s 3))
unfolding head_in_range
head_long s h = ap (λ b. b && between 1 12 (byte_at s 0) && between 1 15 (byte_at s 1) && between 1 6 (byte_at s 3))
    (le-leb 4 (length s) h)

pub record HeadFits (s : List ℕ) : Type 0 where
  pub whole : 4 ≤ length s
  pub parts_least : 1 ≤ byte_at s 3
  pub parts_most : byte_at s 3 ≤ 6

pub head_fits : (s : List ℕ) (t : Bool) → t ≡ head_in_range s → t ≡ true → HeadFits s
unfolding head_in_range
head_fits s t told held =
    let e : head_in_range s ≡ true = sym told ∙ held in
    let tests = and_four (leb 4 (length s)) (between 1 12 (byte_at s 0)) (between 1 15 (byte_at s 1))
    (between 1 6 (byte_at s 3)) e in
    let n = between-both 1 6 (byte_at s 3) tests.3 in
    record { whole = leb-true _ _ tests.0; parts_least = n.0; parts_most = n.1 }

-- The size of a kind, from the size of its parts.
module _ (s : List ℕ) where
  pub kind-headless : (t : Bool) → t ≡ head_in_range s → t ≡ false → None ≡ taken (read_kind s)
  unfolding read_kind taken
  kind-headless t told failed = let e : head_in_range s ≡ false = sym told ∙ failed in rw (e, read_kind)

  read_kind-parts : head_in_range s ≡ true → read_kind s ≡ with_parts s (many read_part (byte_at s 3) (drop 4 s))
  unfolding read_kind
  read_kind-parts e = rw (e, read_kind)

  with-taken : (g : Got (List Part)) (k : ℕ) → taken g ≡ Some k → Some (4 + k) ≡ taken (with_parts s g)
  unfolding taken with_parts
  with-taken bad k e = cc
  with-taken (got ps m) k e = let q : m ≡ k = cc in ap (λ j. Some (4 + j)) (sym q)

  with-none : (g : Got (List Part)) → taken g ≡ None → None ≡ taken (with_parts s g)
  unfolding taken with_parts
  with-none bad e = refl
  with-none (got ps m) e = cc

  -- The n parts behind the fields take r bytes, if they can be read.
  module _ (t : Bool) (told : t ≡ head_in_range s) (held : t ≡ true) (r : Option ℕ) (n : ℕ) (en : n ≡ byte_at s 3)
      (e : r ≡ taken (many read_part n (take (length s - 4) (drop 4 s)))) where
    parts-taken : r ≡ taken (many read_part (byte_at s 3) (drop 4 s))
    parts-taken = e ∙ ap₂ (λ m l. taken (many read_part m l)) en (tail s 4)

    kind-parts : taken (with_parts s (many read_part (byte_at s 3) (drop 4 s))) ≡ taken (read_kind s)
    kind-parts = sym (ap taken (read_kind-parts (sym told ∙ held)))

    pub kind-taken : (k : ℕ) → r ≡ Some k → Some (4 + k) ≡ taken (read_kind s)
    kind-taken k z = with-taken (many read_part (byte_at s 3) (drop 4 s)) k (sym parts-taken ∙ z) ∙ kind-parts

    pub kind-refused : r ≡ None → None ≡ taken (read_kind s)
    kind-refused z = with-none (many read_part (byte_at s 3) (drop 4 s)) (sym parts-taken ∙ z) ∙ kind-parts
