-- The corner rule: along an edge that no other edge meets, the winding number of the corner less its cone stays.
use mathlib.Core.Bool.{Bool, true, false}
use mathlib.Core.List.{List, [], ◌∷◌}
use mathlib.Core.Path.{◌≡◌, refl, ◌∙◌, ap}
use lib.IntN.{ℤ, pos, negsuc, ◌+ℤ◌, ◌-ℤ◌}
use Rattle.model.specs.Content.{Vertex}
use Rattle.outlines.specs.Outline.{last_of, path_sum, edge_sum}
use Rattle.outlines.specs.Simple.{Meet, ShareOnly}
use Rattle.outlines.proofs.Tools.{#, ◌⊞◌, ◌⊟◌, ◌≈◌, ◌⊕◌, ◌⊢◌by◌, order, times}
use Rattle.outlines.proofs.Crossing.{crossed, edge_crossing, above, cross-1, cross-2}
use Rattle.outlines.proofs.Winding.Cone.{crossed_back, lower_half, upper_half, cone, corner-in, corner-out}
use Rattle.outlines.proofs.Winding.Telescope.{telescopes}

-- The winding number of x: the crossings of the ray from x with an outline, by sign.
abbrev pub winding : List Vertex → Vertex → ℤ
winding P x = edge_sum (λ s t. crossed s t x) P

-- No edge of the path meets a b.
abbrev pub Free : Vertex → Vertex → Vertex → List Vertex → Type 0
Free a b q [] = Unit {0}
Free a b q (m ∷ M) = (Meet a b q m → ⊥) × Free a b m M

-- The telescoping law along a path.
pub chain : (a b q : Vertex) (M : List Vertex) → Free a b q M → path_sum (λ s t. crossed s t b) q M +ℤ crossed_back a b q ≡ path_sum (λ s t. crossed s t a) q M +ℤ crossed_back a b (last_of q M)
chain a b q [] f = refl
chain a b q (m ∷ M) f = fin (crossed q m b) (crossed q m a) (path_sum (λ s t. crossed s t b) m M) (path_sum (λ s t. crossed s t a) m M) (crossed_back a b q) (crossed_back a b m) (crossed_back a b (last_of m M)) (telescopes a b q m f.0) (chain a b m M f.1)
  where
    fin : (B A OB OA dq dm dl : ℤ) → B +ℤ dq ≡ A +ℤ dm → OB +ℤ dm ≡ OA +ℤ dl → B +ℤ OB +ℤ dq ≡ A +ℤ OA +ℤ dl
    fin = order 7 (λ B A OB OA dq dm dl. (B ⊞ dq ≈ A ⊞ dm) ∷ (OB ⊞ dm ≈ OA ⊞ dl) ∷ [] ⊢ B ⊞ OB ⊞ dq ≈ A ⊞ OA ⊞ dl by times 0 (# (pos 1)) ⊕ times 1 (# (pos 1))) tt

-- A point on the line of an edge is at no crossing with it.
edge_crossing-0 : (u t : Bool) → edge_crossing u t (pos 0) ≡ pos 0
edge_crossing-0 false false = refl
edge_crossing-0 false true = refl
edge_crossing-0 true false = refl
edge_crossing-0 true true = refl

-- An edge has no crossing at its first end.
pub crossed-start : (a b : Vertex) → crossed a b a ≡ pos 0
unfolding crossed
crossed-start a b = ap (λ t. edge_crossing (above a a) (above a b) t) (cross-1 a b) ∙ edge_crossing-0 (above a a) (above a b)

-- An edge has no crossing at its last end.
pub crossed-end : (a b : Vertex) → crossed a b b ≡ pos 0
unfolding crossed
crossed-end a b = ap (λ t. edge_crossing (above b a) (above b b) t) (cross-2 a b) ∙ edge_crossing-0 (above b a) (above b b)

-- The corner rule along the edge a b.
pub walk : (a b q : Vertex) (M : List Vertex) → Free a b q M → ShareOnly (last_of q M) a b → ShareOnly a b q →
    winding (a ∷ b ∷ q ∷ M) b -ℤ cone a b q ≡ winding (a ∷ b ∷ q ∷ M) a -ℤ cone (last_of q M) a b
walk a b q M f h k = fin (crossed a b b) (crossed b q b) (path_sum (λ s t. crossed s t b) q M) (crossed p a b) (cone a b q) (crossed a b a) (crossed b q a) (path_sum (λ s t. crossed s t a) q M) (crossed p a a) (cone p a b) (crossed_back a b q) (crossed_back a b p) (lower_half (upper_half a b))
    (crossed-end a b) (crossed-start b q) (crossed-start a b) (crossed-end p a) (chain a b q M f) (corner-in p a b h) (corner-out a b q k)
  where
    p : Vertex
    p = last_of q M

    fin : (e1 e2 ob pb iq e3 qa oa e4 ip dq dp n : ℤ) → e1 ≡ pos 0 → e2 ≡ pos 0 → e3 ≡ pos 0 → e4 ≡ pos 0 → ob +ℤ dq ≡ oa +ℤ dp → pb +ℤ dp +ℤ ip ≡ n → qa +ℤ dq +ℤ iq ≡ n →
        e1 +ℤ (e2 +ℤ ob) +ℤ pb -ℤ iq ≡ e3 +ℤ (qa +ℤ oa) +ℤ e4 -ℤ ip
    fin = order 13 (λ e1 e2 ob pb iq e3 qa oa e4 ip dq dp n. (e1 ≈ # (pos 0)) ∷ (e2 ≈ # (pos 0)) ∷ (e3 ≈ # (pos 0)) ∷ (e4 ≈ # (pos 0)) ∷ (ob ⊞ dq ≈ oa ⊞ dp) ∷ (pb ⊞ dp ⊞ ip ≈ n) ∷ (qa ⊞ dq ⊞ iq ≈ n) ∷ []
        ⊢ e1 ⊞ (e2 ⊞ ob) ⊞ pb ⊟ iq ≈ e3 ⊞ (qa ⊞ oa) ⊞ e4 ⊟ ip
        by times 0 (# (pos 1)) ⊕ times 1 (# (pos 1)) ⊕ times 2 (# (negsuc 0)) ⊕ times 3 (# (negsuc 0)) ⊕ times 4 (# (pos 1)) ⊕ times 5 (# (pos 1)) ⊕ times 6 (# (negsuc 0))) tt
