-- The corners without one of them: those before it, then those behind it.
use mathlib.Core.List.{List, ◌++◌}
use mathlib.Core.Path.{◌≡◌, sym, ap, ap₂, ◌∙◌}
use Prim.Native.Nat.{ℕ, suc, ◌+◌, ◌-◌, ◌<◌}
use native.Mathlib.Numerals.{add-one}
use native.Mathlib.Omega.{arith}
use lib.ListN.{length, take, drop, length-append, length-take, length-drop}
use lib.Seq.{take_all}
use Rattle.std.proofs.Common.{append_assoc}
use Rattle.std.proofs.Math.Seq.{take-append_seam}
use Rattle.model.specs.Content.{Vertex}
use Rattle.outlines.specs.Outline.{rest}
use Rattle.outlines.specs.Numbered.{place_at}
use Rattle.outlines.proofs.Places.{rest_at}

-- The front of a list up to the seam.
front : (n : ℕ) (a x : List Vertex) → length a ≡ n → take n (a ++ x) ≡ a
front n a x e = ap (λ m. take m (a ++ x)) (sym e) ∙ take-append_seam a x

-- What the two copies leave.
pub rest-is : (P : List Vertex) (i : ℕ) (a b x y r : List Vertex) → i < length P → a ≡ take i P → b ≡ take
    (length P - (i + 1)) (drop (i + 1) P)
    → take (length P - 1) ((take i (a ++ x) ++ (b ++ y)) ++ r) ≡ rest (place_at P i)
rest-is P i a b x y r h ea eb =
    let la : length a ≡ i = ap length ea ∙ omega (arith, length-take i P) in
    let all : b ≡ drop (suc i) P =
    eb ∙ take_all (length P - (i + 1)) (drop (i + 1) P) (omega (arith, length-drop (i + 1) P)) ∙ ap (λ m. drop m P)
    (add-one i) in
    let lb : length b ≡ length P - suc i = ap length all ∙ length-drop (suc i) P in
    let same : (a ++ (b ++ y)) ++ r ≡ (a ++ b) ++ (y ++ r) = simp append_assoc in
    ap (λ l. take (length P - 1) ((l ++ (b ++ y)) ++ r)) (front i a x la) ∙ ap (take (length P - 1)) same
    ∙ front (length P - 1) (a ++ b) (y ++ r) (omega (arith, length-append a b)) ∙ ap₂ (λ l m. l ++ m) ea all
    ∙ sym (rest_at P i)

pub rest-length : (P Q : List Vertex) (i : ℕ) → Q ≡ rest (place_at P i) → i < length P → length Q ≡ length P - 1
rest-length P Q i e h =
    ap length (e ∙ rest_at P i) ∙ omega (
      arith,
      length-append (take i P) (drop (suc i) P),
      length-take i P,
      length-drop
          (suc i) P,
    )
