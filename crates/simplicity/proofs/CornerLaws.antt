-- The corner before one, and an outline's corners in its bytes.
use mathlib.Core.List.{List}
use mathlib.Core.Path.{◌≡◌, refl}
use Prim.Native.Nat.{ℕ, ◌/◌}
use lib.ListN.{length}
use Rattle.model.specs.Content.{Vertex}
use Rattle.model.specs.Format.{vertices}
use Rattle.model.proofs.Records.{length-vertices}
use Rattle.outlines.specs.Outline.{outline_in}
use Rattle.outlines.specs.Numbered.{previous}
use Rattle.simplicity.specs.Corners.{previous_of}

pub previous-of : (P : List Vertex) (i : ℕ) → previous P i ≡ previous_of (length P) i
unfolding previous previous_of
previous-of P i = refl

pub outline-is : (s : List ℕ) → vertices (length s / 2) s ≡ outline_in s
unfolding outline_in
outline-is s = refl

pub outline_length : (s : List ℕ) → length (vertices (length s / 2) s) ≡ length s / 2
outline_length s = length-vertices (length s / 2) s
