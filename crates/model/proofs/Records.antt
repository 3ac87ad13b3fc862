-- What a part and a kind that were read say of the bytes.
use mathlib.Core.Bool.{Bool, true, false, cond, ◌&&◌}
use mathlib.Core.List.{List}
use mathlib.Core.Path.{◌≡◌, refl, sym, ap, ap₂, ◌∙◌}
use Prim.Native.Nat.{ℕ, zero, suc, ◌+◌, ◌-◌, ◌*◌, ◌<◌, ◌≤◌}
use native.Mathlib.Nat.{add-zero}
use native.Mathlib.Omega.{arith}
use borrow.Author.Tests.{leb-true, le-leb}
use lib.Dec.{leb}
use lib.ListN.{length, get_or, drop}
use lib.Seq.{get_or-drop}
use Rattle.integers.specs.Byte.{signed}
use Rattle.model.specs.Content.{vertex, origin, Part, Kind, kind}
use Rattle.model.specs.Format.{byte_at, Got, bad, got, many, vertices, read_part, head_in_range, with_parts, read_kind}
use Rattle.model.specs.Lists.{between}
use Rattle.model.proofs.Lists.{and_left, and_right, and_both, and_four}
use Rattle.model.proofs.Readers.{many-length}

-- Byte i behind the first o bytes.
pub byte_behind : (s : List ℕ) (o i : ℕ) → byte_at (drop o s) i ≡ byte_at s (o + i)
unfolding byte_at
byte_behind s o i = get_or-drop o s i 0

pub byte_first : (s : List ℕ) (o : ℕ) → byte_at (drop o s) 0 ≡ byte_at s o
byte_first s o = byte_behind s o 0 ∙ ap (byte_at s) (add-zero o)

-- What lies from lo to hi.
pub between-both : (lo hi n : ℕ) → between lo hi n ≡ true → (lo ≤ n) × (n ≤ hi)
unfolding between
between-both lo hi n e = (leb-true lo n (and_left _ _ e), leb-true n hi (and_right (leb lo n) _ e))

pub between-of : (lo hi n : ℕ) → lo ≤ n → n ≤ hi → between lo hi n ≡ true
unfolding between
between-of lo hi n l h = and_both _ _ (le-leb lo n l) (le-leb n hi h)

-- ---- Corners

pub length-vertices : (n : ℕ) (s : List ℕ) → length (vertices n s) ≡ n
unfolding vertices
length-vertices zero s = refl
length-vertices (suc n) s = ap suc (length-vertices n (drop 2 s))

-- The same bytes have the same corners.
pub vertices-same : (n : ℕ) (s t : List ℕ) → ((i : ℕ) → i < n * 2 → byte_at s i ≡ byte_at t i) → vertices n s ≡ vertices n t
unfolding vertices
vertices-same zero s t h = refl
vertices-same (suc n) s t h =
    let rest : vertices n (drop 2 s) ≡ vertices n (drop 2 t) =
    vertices-same n (drop 2 s) (drop 2 t) (λ i l. byte_behind s 2 i ∙ h (2 + i) (omega arith) ∙ sym (byte_behind t 2 i)) in
    rw (h 0 (omega arith), h 1 (omega arith), rest)

-- Corner i.
pub vertex-at : (n : ℕ) (s : List ℕ) (i : ℕ) → i < n
    → get_or (vertices n s) i origin ≡ vertex (signed (byte_at s (i * 2))) (signed (byte_at s (i * 2 + 1)))
unfolding vertices
vertex-at zero s i h = let z : ◌≡◌ {A = ℕ} 0 1 = omega arith in absurd (omega arith)
vertex-at (suc n) s zero h = refl
vertex-at (suc n) s (suc i) h =
    let a : byte_at (drop 2 s) (i * 2) ≡ byte_at s (suc i * 2) = byte_behind s 2 (i * 2) ∙ ap (byte_at s) (omega arith) in
    let b : byte_at (drop 2 s) (i * 2 + 1) ≡ byte_at s (suc i * 2 + 1) = byte_behind s 2 (i * 2 + 1) ∙ ap (byte_at s) (omega arith) in
    vertex-at n (drop 2 s) i (omega arith) ∙ rw (a, b)

-- ---- Parts

-- A part that was read, and the bytes that it took.
pub record PartRead (s : List ℕ) (P : Part) (k : ℕ) : Type 0 where
  pub least : 3 ≤ byte_at s 0
  pub most : byte_at s 0 ≤ 8
  pub inside : 1 + byte_at s 0 * 2 ≤ length s
  pub value : P ≡ vertices (byte_at s 0) (drop 1 s)
  pub size : k ≡ 1 + byte_at s 0 * 2

pub part-read : (s : List ℕ) (P : Part) (k : ℕ) → read_part s ≡ got P k → PartRead s P k
unfolding read_part
part-read s P k e = go (between 3 8 (byte_at s 0) && leb (1 + byte_at s 0 * 2) (length s)) refl e
  where
    go : (t : Bool) → (between 3 8 (byte_at s 0) && leb (1 + byte_at s 0 * 2) (length s)) ≡ t
        → cond t (got (vertices (byte_at s 0) (drop 1 s)) (1 + byte_at s 0 * 2)) bad ≡ got P k → PartRead s P k
    go false q h = let z : ◌≡◌ {A = ℕ} 0 1 = cc in absurd (omega arith)
    go true q h =
        let b = between-both 3 8 (byte_at s 0) (and_left _ _ q) in
        record {
          least = b.0;
          most = b.1;
          inside = leb-true _ _ (and_right (between 3 8 (byte_at s 0)) _ q);
          value = cc;
          size = cc;
        }

-- ---- Kinds

-- A kind that was read, and the bytes that it took.
pub record KindRead (s : List ℕ) (k : Kind) (m : ℕ) : Type 0 where
  pub head_there : 4 ≤ length s
  pub demand_least : 1 ≤ byte_at s 0
  pub demand_most : byte_at s 0 ≤ 12
  pub rotations_least : 1 ≤ byte_at s 1
  pub rotations_most : byte_at s 1 ≤ 15
  pub parts_least : 1 ≤ byte_at s 3
  pub parts_most : byte_at s 3 ≤ 6
  pub demand : k.demand ≡ byte_at s 0
  pub rotations : k.rotations ≡ byte_at s 1
  pub classes : k.classes ≡ byte_at s 2
  pub part_count : length k.parts ≡ byte_at s 3
  pub head : 4 ≤ m
  pub parts : many read_part (byte_at s 3) (drop 4 s) ≡ got k.parts (m - 4)

record WithParts (s : List ℕ) (g : Got (List Part)) (k : Kind) (m : ℕ) : Type 0 where
  pub value : k ≡ kind (byte_at s 0) (byte_at s 1) (byte_at s 2) k.parts
  pub head : 4 ≤ m
  pub parts : g ≡ got k.parts (m - 4)

with_parts_lem : (s : List ℕ) (g : Got (List Part)) (k : Kind) (m : ℕ) → with_parts s g ≡ got k m → WithParts s g k m
unfolding with_parts
with_parts_lem s bad k m e = let z : ◌≡◌ {A = ℕ} 0 1 = cc in absurd (omega arith)
with_parts_lem s (got ps j) k m e =
    let v : kind (byte_at s 0) (byte_at s 1) (byte_at s 2) ps ≡ k = cc in
    let q : 4 + j ≡ m = cc in
    let p : ps ≡ k.parts = ap (λ x. x.parts) v in
    let i : j ≡ m - 4 = omega arith in
    record {
      value = sym v ∙ ap (kind (byte_at s 0) (byte_at s 1) (byte_at s 2)) p;
      head = omega arith;
      parts = ap₂ got p i;
    }

kind-made : (s : List ℕ) (k : Kind) (m : ℕ) → head_in_range s ≡ true → WithParts s (many read_part (byte_at s 3) (drop 4 s)) k m → KindRead s k m
unfolding head_in_range
kind-made s k m q w =
    let tests = and_four (leb 4 (length s)) (between 1 12 (byte_at s 0)) (between 1 15 (byte_at s 1)) (between 1 6 (byte_at s 3)) q in
    let d = between-both 1 12 _ tests.1 in
    let r = between-both 1 15 _ tests.2 in
    let n = between-both 1 6 _ tests.3 in
    record {
      head_there = leb-true _ _ tests.0;
      demand_least = d.0;
      demand_most = d.1;
      rotations_least = r.0;
      rotations_most = r.1;
      parts_least = n.0;
      parts_most = n.1;
      demand = ap (λ x. x.demand) w.value;
      rotations = ap (λ x. x.rotations) w.value;
      classes = ap (λ x. x.classes) w.value;
      part_count = many-length read_part _ _ _ _ w.parts;
      head = w.head;
      parts = w.parts;
    }

pub kind-read : (s : List ℕ) (k : Kind) (m : ℕ) → read_kind s ≡ got k m → KindRead s k m
unfolding read_kind
kind-read s k m e = go (head_in_range s) refl e
  where
    go : (t : Bool) → head_in_range s ≡ t
        → elim t as (λ _. Got Kind) [
          | false ↦ bad
          | true ↦ with_parts s (many read_part (byte_at s 3) (drop 4 s))
        ] ≡ got k m → KindRead s k m
    go false q h = let z : ◌≡◌ {A = ℕ} 0 1 = cc in absurd (omega arith)
    go true q h = kind-made s k m q (with_parts_lem s (many read_part (byte_at s 3) (drop 4 s)) k m h)
