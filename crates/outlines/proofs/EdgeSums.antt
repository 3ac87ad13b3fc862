-- Sums over the edges of an outline, for any function of an edge: what a sum loses where one corner is taken out. Areas and crossings are such sums.
use mathlib.Core.List.{List, [], ◌∷◌, ◌++◌, append-nil}
use mathlib.Core.Path.{◌≡◌, refl, sym, ◌∙◌, ap, ap₂}
use lib.IntN.{ℤ, pos, negsuc, neg_ℤ, ◌+ℤ◌, +ℤ_idl}
use Rattle.model.specs.Content.{Vertex}
use Rattle.outlines.specs.Outline.{last_of, first_or, path_sum, edge_sum}
use Rattle.outlines.proofs.Tools.{#, ◌⊞◌, ⊖◌, ◌≈◌, ◌⊕◌, ◌⊢◌by◌, order, ring, times}

-- The corner before c in xs ++ c ∷ ys, read round.
abbrev pub before : List Vertex → Vertex → List Vertex → Vertex
before xs c ys = last_of (last_of c ys) xs

-- The corner after c in xs ++ c ∷ ys, read round.
abbrev pub after : List Vertex → Vertex → List Vertex → Vertex
after xs c ys = first_or (first_or c xs) ys

-- The sum over a path in two parts.
pub path_sum-append : (F : Vertex → Vertex → ℤ) (a : Vertex) (xs : List Vertex) (c : Vertex) (ys : List Vertex) → path_sum F a (xs ++ c ∷ ys) ≡ path_sum F a xs +ℤ F (last_of a xs) c +ℤ path_sum F c ys
path_sum-append F a [] c ys = ap (λ t. t +ℤ path_sum F c ys) (sym (+ℤ_idl (F a c)))
path_sum-append F a (x ∷ xs) c ys = ap (λ t. F a x +ℤ t) (path_sum-append F x xs c ys) ∙ re (F a x) (path_sum F x xs) (F (last_of x xs) c) (path_sum F c ys)
  where
    re : (p q r s : ℤ) → p +ℤ (q +ℤ r +ℤ s) ≡ p +ℤ q +ℤ r +ℤ s
    re = ring 4 (λ p q r s. p ⊞ (q ⊞ r ⊞ s) ≈ p ⊞ q ⊞ r ⊞ s) tt

-- The last of an appended list.
pub last_of-append : (a : Vertex) (xs : List Vertex) (c : Vertex) (ys : List Vertex) → last_of a (xs ++ c ∷ ys) ≡ last_of c ys
last_of-append a [] c ys = refl
last_of-append a (x ∷ xs) c ys = last_of-append x xs c ys

-- There is a corner besides.
abbrev pub More : List Vertex → List Vertex → Type 0
More [] [] = ⊥
More [] (y ∷ ys) = Unit {0}
More (x ∷ xs) ys = Unit {0}

-- The sum over an outline, split at a corner.
pub edge_sum-mid : (F : Vertex → Vertex → ℤ) (x : Vertex) (xs : List Vertex) (c : Vertex) (ys : List Vertex) → edge_sum F (x ∷ (xs ++ c ∷ ys)) ≡ path_sum F x xs +ℤ F (last_of x xs) c +ℤ path_sum F c ys +ℤ F (last_of c ys) x
edge_sum-mid F x xs c ys = ap₂ ◌+ℤ◌ (path_sum-append F x xs c ys) (ap (λ t. F t x) (last_of-append x xs c ys))

-- The sum over an outline with one corner taken out.
pub edge_sum-out : (F : Vertex → Vertex → ℤ) (xs : List Vertex) (c : Vertex) (ys : List Vertex) → More xs ys → edge_sum F (xs ++ c ∷ ys) +ℤ F (before xs c ys) (after xs c ys) ≡ F (before xs c ys) c +ℤ F c (after xs c ys) +ℤ edge_sum F (xs ++ ys)
edge_sum-out F [] c [] m = absurd m
edge_sum-out F [] c (y ∷ ys) m = re (F c y) (path_sum F y ys) (F (last_of y ys) c) (F (last_of y ys) y)
  where
    re : (p q r s : ℤ) → p +ℤ q +ℤ r +ℤ s ≡ r +ℤ p +ℤ (q +ℤ s)
    re = ring 4 (λ p q r s. p ⊞ q ⊞ r ⊞ s ≈ r ⊞ p ⊞ (q ⊞ s)) tt
edge_sum-out F (x ∷ xs) c [] m =
    ap (λ t. t +ℤ F (last_of x xs) x) (edge_sum-mid F x xs c [])
    ∙ re (path_sum F x xs) (F (last_of x xs) c) (F c x) (F (last_of x xs) x)
    ∙ ap (λ t. F (last_of x xs) c +ℤ F c x +ℤ t) (ap (λ t. edge_sum F (x ∷ t)) (sym (append-nil xs)))
  where
    re : (p q r s : ℤ) → p +ℤ q +ℤ pos 0 +ℤ r +ℤ s ≡ q +ℤ r +ℤ (p +ℤ s)
    re = ring 4 (λ p q r s. p ⊞ q ⊞ # (pos 0) ⊞ r ⊞ s ≈ q ⊞ r ⊞ (p ⊞ s)) tt
edge_sum-out F (x ∷ xs) c (y ∷ ys) m =
    ap (λ t. t +ℤ F (last_of x xs) y) (edge_sum-mid F x xs c (y ∷ ys))
    ∙ re (path_sum F x xs) (F (last_of x xs) c) (F c y) (path_sum F y ys) (F (last_of y ys) x) (F (last_of x xs) y)
    ∙ ap (λ t. F (last_of x xs) c +ℤ F c y +ℤ t) (sym (edge_sum-mid F x xs y ys))
  where
    re : (p q r s t w : ℤ) → p +ℤ q +ℤ (r +ℤ s) +ℤ t +ℤ w ≡ q +ℤ r +ℤ (p +ℤ w +ℤ s +ℤ t)
    re = ring 6 (λ p q r s t w. p ⊞ q ⊞ (r ⊞ s) ⊞ t ⊞ w ≈ q ⊞ r ⊞ (p ⊞ w ⊞ s ⊞ t)) tt

-- For a sum that changes its sign with an edge's direction: the sum over the outline is that over the triangle and that over the rest.
pub edge_sum-cut : (F : Vertex → Vertex → ℤ) → ((a b : Vertex) → F b a ≡ neg_ℤ (F a b)) → (xs : List Vertex) (c : Vertex) (ys : List Vertex) → More xs ys →
    let p = before xs c ys in let s = after xs c ys in
    edge_sum F (xs ++ c ∷ ys) ≡ F p c +ℤ F c s +ℤ F s p +ℤ edge_sum F (xs ++ ys)
edge_sum-cut F h xs c ys m = step (edge_sum F (xs ++ c ∷ ys)) (F p s) (F p c +ℤ F c s) (edge_sum F (xs ++ ys)) (F s p) (edge_sum-out F xs c ys m) (h p s)
  where
    p : Vertex
    p = before xs c ys

    s : Vertex
    s = after xs c ys

    step : (A b T R d : ℤ) → A +ℤ b ≡ T +ℤ R → d ≡ neg_ℤ b → A ≡ T +ℤ d +ℤ R
    step = order 5 (λ A b T R d. (A ⊞ b ≈ T ⊞ R) ∷ (d ≈ ⊖ b) ∷ [] ⊢ A ≈ T ⊞ d ⊞ R by times 0 (# (pos 1)) ⊕ times 1 (# (negsuc 0))) tt
