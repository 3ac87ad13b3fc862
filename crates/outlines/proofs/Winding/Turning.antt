-- The corner rule all the way round: a simple outline that is turned, so that it begins at another corner, is simple and has the same κ.
use mathlib.Core.List.{List, [], ◌∷◌, ◌++◌, append_assoc, append-nil}
use mathlib.Core.Logic.{◌⊎◌, inl, inr, ⊎_elim}
use mathlib.Core.Path.{◌≡◌, refl, sym, ◌∙◌, ap, ap₂, subst}
use lib.IntN.{ℤ, pos, ◌+ℤ◌, ◌-ℤ◌}
use Rattle.model.specs.Content.{Vertex}
use Rattle.outlines.specs.Outline.{last_of, path_sum, edge_sum}
use Rattle.outlines.specs.Simple.{Meet, PathEdge, Edge, NotIn, Distinct, IsSimple}
use Rattle.outlines.proofs.Tools.{#, ◌⊞◌, ◌≈◌, ring}
use Rattle.outlines.proofs.Crossing.{crossed}
use Rattle.outlines.proofs.EdgeSums.{edge_sum-mid, last_of-append}
use Rattle.outlines.proofs.Winding.Cone.{cone}
use Rattle.outlines.proofs.Winding.CornerRule.{winding, Free, walk}

-- What is not in the list is at no end of its edges.
pub not_on_path : (a q : Vertex) (M : List Vertex) (u t : Vertex) → NotIn a (q ∷ M) → PathEdge q M u t → (a ≡ u → ⊥) × (a ≡ t → ⊥)
not_on_path a q [] u t n o = absurd o
not_on_path a q (m ∷ M) u t n o = ⊎_elim (λ i. ((λ e. n.0 (e ∙ i.0)), (λ e. n.1.0 (e ∙ i.1)))) (λ i. not_on_path a m M u t n.1 i) o

-- No edge of the path leads to what is not behind its first corner.
pub path_into : (a q : Vertex) (M : List Vertex) (u t : Vertex) → NotIn a M → PathEdge q M u t → a ≡ t → ⊥
path_into a q [] u t n o e = o
path_into a q (m ∷ M) u t n (inl i) e = n.0 (e ∙ i.1)
path_into a q (m ∷ M) u t n (inr i) e = path_into a m M u t n.1 i e

-- What is not in a list is not its last.
pub not_last : (a q : Vertex) (M : List Vertex) → NotIn a (q ∷ M) → a ≡ last_of q M → ⊥
not_last a q [] n e = n.0 e
not_last a q (m ∷ M) n e = not_last a m M n.1 e

-- No edge of the path starts at its last corner.
pub path_last : (q : Vertex) (M : List Vertex) (u t : Vertex) → Distinct (q ∷ M) → PathEdge q M u t → u ≡ last_of q M → ⊥
path_last q [] u t d o e = o
path_last q (m ∷ M) u t d (inl i) e = not_last q m M d.0 (sym i.0 ∙ e)
path_last q (m ∷ M) u t d (inr i) e = path_last m M u t d.1 i e

-- The first corner is followed by the second.
pub first : (s m : Vertex) (M : List Vertex) (u t : Vertex) → NotIn s (m ∷ M) → PathEdge s (m ∷ M) u t → s ≡ u → t ≡ m
first s m M u t n (inl i) e = i.1
first s m M u t n (inr i) e = absurd ((not_on_path s m M u t n i).0 e)

-- What meets no edge of a path is free of it.
pub free_of : (a b q : Vertex) (M : List Vertex) → ((u t : Vertex) → PathEdge q M u t → Meet a b u t → ⊥) → Free a b q M
free_of a b q [] f = tt
free_of a b q (m ∷ M) f = (f q m (inl (refl, refl)), free_of a b m M (λ u t o. f u t (inr o)))

-- An edge of a simple outline meets no edge that is no neighbour of it.
simple_free : (a b q : Vertex) (M : List Vertex) → IsSimple (a ∷ b ∷ q ∷ M) → Free a b q M
simple_free a b q M s = free_of a b q M (λ u t o. s.far a b u t (inl (inl (refl, refl))) (inl (inr (inr o)))
    (not_on_path a q M u t s.dist.0.1 o).0 (not_on_path b q M u t s.dist.1.0 o).0 (not_on_path a q M u t s.dist.0.1 o).1)

-- ---- turning

-- An edge of a path with one corner more is one of the path, or the last one.
pub path_snoc : (a : Vertex) (zs : List Vertex) (x u t : Vertex) → PathEdge a (zs ++ x ∷ []) u t → PathEdge a zs u t ⊎ ((u ≡ last_of a zs) × (t ≡ x))
path_snoc a [] x u t o = ⊎_elim (λ i. inr i) (λ i. absurd i) o
path_snoc a (b ∷ zs) x u t o = ⊎_elim (λ i. inl (inl i)) (λ i. ⊎_elim (λ j. inl (inr j)) (λ j. inr j) (path_snoc b zs x u t i)) o

-- The edges of a turned outline are those of the outline.
pub edge_turned : (x y : Vertex) (ys : List Vertex) (u t : Vertex) → Edge (y ∷ (ys ++ x ∷ [])) u t → Edge (x ∷ y ∷ ys) u t
edge_turned x y ys u t e = ⊎_elim (λ o. ⊎_elim (λ i. inl (inr i)) (λ i. inr i) (path_snoc y ys x u t o)) (λ i. inl (inl (i.0 ∙ last_of-append y ys x [], i.1))) e

-- One more at the end: still not in the list.
pub not_snoc : (a : Vertex) (zs : List Vertex) (x : Vertex) → NotIn a zs → (a ≡ x → ⊥) → NotIn a (zs ++ x ∷ [])
not_snoc a [] x n f = (f, tt)
not_snoc a (b ∷ zs) x n f = (n.0, not_snoc a zs x n.1 f)

-- One more at the end: still no corner twice.
pub distinct_snoc : (zs : List Vertex) (x : Vertex) → NotIn x zs → Distinct zs → Distinct (zs ++ x ∷ [])
distinct_snoc [] x n d = (tt, tt)
distinct_snoc (a ∷ zs) x n d = (not_snoc a zs x d.0 (λ e. n.0 (sym e)), distinct_snoc zs x n.1 d.1)

-- A simple outline turned by one corner is simple.
pub simple_turned : (x y : Vertex) (ys : List Vertex) → IsSimple (x ∷ y ∷ ys) → IsSimple (y ∷ (ys ++ x ∷ []))
simple_turned x y ys s = record {
  dist = distinct_snoc (y ∷ ys) x s.dist.0 s.dist.1;
  far = λ a b u t e f. s.far a b u t (edge_turned x y ys a b e) (edge_turned x y ys u t f);
  adj = λ p a b e f. s.adj p a b (edge_turned x y ys p a e) (edge_turned x y ys a b f);
}

-- A sum over its edges stays.
pub edge_sum-turned : (F : Vertex → Vertex → ℤ) (x y : Vertex) (ys : List Vertex) → edge_sum F (y ∷ (ys ++ x ∷ [])) ≡ edge_sum F (x ∷ y ∷ ys)
edge_sum-turned F x y ys = edge_sum-mid F y ys x [] ∙ re (path_sum F y ys) (F (last_of y ys) x) (F x y)
  where
    re : (p q r : ℤ) → p +ℤ q +ℤ pos 0 +ℤ r ≡ r +ℤ p +ℤ q
    re = ring 3 (λ p q r. p ⊞ q ⊞ # (pos 0) ⊞ r ≈ r ⊞ p ⊞ q) tt

-- The winding number of the first corner less its cone: what stays at every corner.
abbrev pub κ : List Vertex → ℤ
κ [] = pos 0
κ (a ∷ []) = pos 0
κ (a ∷ b ∷ zs) = winding (a ∷ b ∷ zs) a -ℤ cone (last_of b zs) a b

-- The edge to the first corner.
edge_last : (a b q : Vertex) (M : List Vertex) → Edge (a ∷ b ∷ q ∷ M) (last_of q M) a
edge_last a b q M = inr (refl, refl)

-- κ at the second corner.
κ_turned : (x y q : Vertex) (M : List Vertex) → IsSimple (x ∷ y ∷ q ∷ M) → κ (y ∷ q ∷ (M ++ x ∷ [])) ≡ κ (x ∷ y ∷ q ∷ M)
κ_turned x y q M s = ap₂ (λ t r. t -ℤ cone r y q) (edge_sum-turned (λ s t. crossed s t y) x y (q ∷ M)) (last_of-append q M x [])
    ∙ walk x y q M (simple_free x y q M s) (s.adj (last_of q M) x y (edge_last x y q M) (inl (inl (refl, refl)))) (s.adj x y q (inl (inl (refl, refl))) (inl (inr (inl (refl, refl)))))

-- Three corners or more.
abbrev pub Three : List Vertex → Type 0
Three [] = ⊥
Three (a ∷ []) = ⊥
Three (a ∷ b ∷ []) = ⊥
Three (a ∷ b ∷ c ∷ zs) = Unit {0}

-- An outline turned by one corner: simple, with the same κ.
pub turn1 : (x : Vertex) (R : List Vertex) → Three (x ∷ R) → IsSimple (x ∷ R) → IsSimple (R ++ x ∷ []) × (κ (R ++ x ∷ []) ≡ κ (x ∷ R)) × Three (R ++ x ∷ [])
turn1 x [] t s = absurd t
turn1 x (y ∷ []) t s = absurd t
turn1 x (y ∷ q ∷ M) t s = (simple_turned x y (q ∷ M) s, κ_turned x y q M s, three q M)
  where
    three : (q : Vertex) (M : List Vertex) → Three (y ∷ q ∷ (M ++ x ∷ []))
    three q [] = tt
    three q (m ∷ M) = tt

-- An outline turned by any number of corners: simple, with the same κ.
pub turns : (xs R : List Vertex) → Three (xs ++ R) → IsSimple (xs ++ R) → IsSimple (R ++ xs) × (κ (R ++ xs) ≡ κ (xs ++ R))
turns [] R t s = (subst IsSimple (sym (append-nil R)) s, ap κ (append-nil R))
turns (x ∷ xs) R t s =
    let one = turn1 x (xs ++ R) t s in
    let as₂ : xs ++ (R ++ x ∷ []) ≡ (xs ++ R) ++ x ∷ [] = sym (append_assoc xs R (x ∷ [])) in
    let as₁ : (R ++ x ∷ []) ++ xs ≡ R ++ x ∷ xs = append_assoc R (x ∷ []) xs in
    let ih = turns xs (R ++ x ∷ []) (subst Three (sym as₂) one.2) (subst IsSimple (sym as₂) one.0) in
    (subst IsSimple as₁ ih.0, ap κ (sym as₁) ∙ ih.1 ∙ ap κ as₂ ∙ one.1)
