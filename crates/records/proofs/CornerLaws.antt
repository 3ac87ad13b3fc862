-- Corners as they are read, by their numbers, and their coordinates subtracted.
use mathlib.Core.List.{List}
use mathlib.Core.Path.{◌≡◌, sym, ap₂, ◌∙◌}
use Prim.Native.Nat.{ℕ, ◌+◌, ◌*◌, ◌/◌, ◌<◌, ◌≤◌}
use native.Mathlib.Numerals.{add-one}
use native.Mathlib.Omega.{arith}
use lib.IntN.{ℤ, ◌-ℤ◌}
use lib.ListN.{length, get_or, take, length-take}
use lib.Seq.{ext_get_or, get_or-take}
use mir.Syntax.{w8, w16}
use mir.Val.{Fits, SFits, to_z, of_z}
use mir.ValLaws.{to_z-of_z}
use Rattle.std.proofs.lemmas.List.{get_or_default}
use Rattle.integers.proofs.Bytes.{signed-to_z}
use Rattle.integers.proofs.Machine.{read₂}
use Rattle.integers.specs.Byte.{signed}
use Rattle.model.specs.Content.{Vertex, vertex, origin}
use Rattle.model.specs.Format.{byte_at, vertices}
use Rattle.model.specs.Geometry.{vertex_at, following}
use Rattle.model.proofs.Records.{length-vertices, vertex-at}
use Rattle.records.specs.Parts.{next_of}

pub byte-read : (s : List ℕ) (i : ℕ) (z : ℤ) → Fits w8 (get_or s i 0) → z ≡ to_z w8 (get_or s i 0) → z ≡ signed
    (byte_at s i)
unfolding byte_at
byte-read s i z f e = e ∙ sym (signed-to_z (get_or s i 0) f)

-- A difference d of two coordinates a and b, which are those of corners.
pub differs : (d a b x y : ℤ) → SFits w16 d → SFits w8 a → SFits w8 b → d ≡ to_z w8 (of_z w8 a) -ℤ to_z w8 (of_z w8 b)
    → a ≡ x → b ≡ y
    → to_z w16 (of_z w16 d) ≡ x -ℤ y
differs d a b x y fd fa fb e p q = to_z-of_z w16 d fd ∙ e ∙ read₂ w8 a b fa fb ◌-ℤ◌ ∙ ap₂ ◌-ℤ◌ p q

-- A corner of a slice.
pub corner-is : (P : List Vertex) (i : ℕ) (v : Vertex) → i < length P → v ≡ get_or P i v → v ≡ vertex_at P i
unfolding vertex_at
corner-is P i v h e = e ∙ get_or_default P i v origin h

-- The corner after corner i, by the number of corners.
pub following-of : (P : List Vertex) (i : ℕ) → following P i ≡ next_of (length P) i
unfolding following next_of
following-of P i = rw add-one

-- The corner whose x stands at byte i.
abbrev pub vertex_in : List ℕ → ℕ → Vertex
vertex_in s i = vertex (signed (byte_at s i)) (signed (byte_at s (i + 1)))

-- Corners each of which was read from the bytes are those that stand in them.
pub corners-all : (s : List ℕ) (cs : List Vertex) (n : ℕ) → n ≡ length s / 2 → n ≤ length cs
    → ((i : ℕ) → i < n → get_or cs i origin ≡ vertex_in s (i * 2)) → take (length s / 2) cs ≡ vertices (length s / 2) s
corners-all s cs n e h f =
    ext_get_or origin (take (length s / 2) cs) (vertices (length s / 2) s)
    (omega (arith, length-take (length s / 2) cs, length-vertices (length s / 2) s))
    (λ i l.
    let m : i < length s / 2 = omega (arith, l, length-take (length s / 2) cs) in
    get_or-take (length s / 2) cs i origin m ∙ f i (omega arith) ∙ sym (vertex-at (length s / 2) s i m))
