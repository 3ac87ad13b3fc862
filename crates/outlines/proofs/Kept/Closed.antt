-- A chain of a simple outline, closed by a segment that meets no edge of it, is a simple outline.
use mathlib.Core.List.{List, ◌∷◌}
use mathlib.Core.Logic.{inl, inr}
use mathlib.Core.Path.{◌≡◌, sym, ◌∙◌, subst}
use Rattle.model.specs.Content.{Vertex}
use Rattle.outlines.specs.Outline.{last_of}
use Rattle.outlines.specs.Simple.{Meet, ShareOnly, PathEdge, Edge, Distinct, IsSimple}
use Rattle.outlines.proofs.Winding.Telescope.{Meet-swap}
use Rattle.outlines.proofs.Winding.Turning.{first, path_into, not_last}

-- A path of a simple outline, closed by the segment from its last corner to its first.
pub simple_close : {P : List Vertex} → IsSimple P → (x m m' : Vertex) (M' : List Vertex) → let R = m ∷ m' ∷ M' in let y = last_of m' M' in
    Distinct (x ∷ R) → ((u t : Vertex) → PathEdge x R u t → Edge P u t) →
    ((u t : Vertex) → PathEdge x R u t → (y ≡ u → ⊥) → (x ≡ u → ⊥) → (y ≡ t → ⊥) → (x ≡ t → ⊥) → Meet y x u t → ⊥) →
    ShareOnly y x m → ((q : Vertex) → PathEdge x R q y → ShareOnly q y x) → IsSimple (x ∷ R)
simple_close {P} g x m m' M' d sub free a1 a2 = record { dist = d; far = far'; adj = adj' }
  where
    R : List Vertex
    R = m ∷ m' ∷ M'

    y : Vertex
    y = last_of m' M'

    new : (u t : Vertex) → PathEdge x R u t → (y ≡ u → ⊥) → (x ≡ u → ⊥) → (y ≡ t → ⊥) → Meet y x u t → ⊥
    new u t o n1 n2 n3 = free u t o n1 n2 n3 (path_into x x R u t d.0 o)

    far' : (a b u t : Vertex) → Edge (x ∷ R) a b → Edge (x ∷ R) u t → (a ≡ u → ⊥) → (b ≡ u → ⊥) → (a ≡ t → ⊥) → Meet a b u t → ⊥
    far' a b u t (inl i) (inl j) n1 n2 n3 k = g.far a b u t (sub a b i) (sub u t j) n1 n2 n3 k
    far' a b u t (inr i) (inl j) n1 n2 n3 k = new u t j (λ l. n1 (i.0 ∙ l)) (λ l. n2 (i.1 ∙ l)) (λ l. n3 (i.0 ∙ l)) (subst (λ z. Meet z x u t) i.0 (subst (λ z. Meet a z u t) i.1 k))
    far' a b u t (inl i) (inr j) n1 n2 n3 k = new a b i (λ l. n1 (sym (j.0 ∙ l))) (λ l. n3 (sym (j.1 ∙ l))) (λ l. n2 (sym (j.0 ∙ l))) (Meet-swap (subst (λ z. Meet a b z x) j.0 (subst (λ z. Meet a b u z) j.1 k)))
    far' a b u t (inr i) (inr j) n1 n2 n3 k = n1 (i.0 ∙ sym j.0)

    adj' : (q a b : Vertex) → Edge (x ∷ R) q a → Edge (x ∷ R) a b → ShareOnly q a b
    adj' q a b (inl i) (inl j) = g.adj q a b (sub q a i) (sub a b j)
    adj' q a b (inl i) (inr j) = subst (λ z. ShareOnly q z b) (sym j.0) (subst (λ z. ShareOnly q y z) (sym j.1) (a2 q (subst (λ z. PathEdge x R q z) j.0 i)))
    adj' q a b (inr i) (inl j) = subst (λ z. ShareOnly z a b) (sym i.0) (subst (λ z. ShareOnly y a z) (sym mb) (subst (λ z. ShareOnly y z m) (sym i.1) a1))
      where
        mb : b ≡ m
        mb = first x m (m' ∷ M') a b d.0 j (sym i.1)
    adj' q a b (inr i) (inr j) = absurd (not_last x m (m' ∷ M') d.0 (sym i.1 ∙ j.0))
