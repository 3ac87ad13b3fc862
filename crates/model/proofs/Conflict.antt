-- Conflict is symmetric: of parts, of pieces and of the entries of a layout. Assumes nothing.
use mathlib.Core.Bool.{not, ◌&&◌, ◌||◌, or_comm, and_comm, and_assoc}
use mathlib.Core.List.{List, [], ◌∷◌, map, Permᴰ}
use mathlib.Core.Path.{◌≡◌, refl, sym, ap, ◌∙◌}
use Prim.Native.Nat.{ℕ}
use lib.IntN.{ℤ, neg_ℤ}
use lib.Signed.{le_z}
use Rattle.integers.proofs.Solver.{ring, ◌⊞◌, ◌⊟◌, ◌⊠◌, ⊖◌, ◌≈◌}
use Rattle.model.specs.Candidate.{placed_parts}
use Rattle.model.specs.Content.{Vertex, Part}
use Rattle.model.specs.Gap.{pair_gap}
use Rattle.model.specs.Geometry.{Direction, normals, negated, directions, along, separates, disjoint, corners_clear, separated, pieces_conflict}
use Rattle.model.specs.Layout.{Entry, entry_kind, conflict}
use Rattle.model.specs.Lists.{any, largest_z, smallest_z}
use Rattle.model.specs.Problem.{Problem}
use Rattle.model.proofs.CommonCut.{pair_gap-symmetric}
use Rattle.model.proofs.Extremes.{le_z_same, largest-negated, smallest_negated}
use Rattle.model.proofs.Tests.{any_append, any-reordered, any-map, any_same, any-pair}

-- ---- the opposite direction

along-negated : (d : Direction) (v : Vertex) → along (negated d) v ≡ neg_ℤ (along d v)
unfolding along negated
along-negated d v = ring 4 (λ a b x y. ⊖ a ⊠ x ⊞ ⊖ b ⊠ y ≈ ⊖ (a ⊠ x ⊞ b ⊠ y)) tt d.a d.b v.x v.y

map-along-negated : (d : Direction) (P : Part) → map (along (negated d)) P ≡ map neg_ℤ (map (along d) P)
map-along-negated d [] = refl
map-along-negated d (v ∷ P) =
    ap (λ (z : ℤ). z ∷ map (along (negated d)) P) (along-negated d v)
    ∙ ap (λ (zs : List ℤ). neg_ℤ (along d v) ∷ zs) (map-along-negated d P)

-- The largest along the opposite direction is the negated smallest, and the other way round. (Also of no vertex: both are 0.)
pub largest-opposite : (d : Direction) (P : Part) → largest_z (map (along (negated d)) P) ≡ neg_ℤ (smallest_z (map (along d) P))
largest-opposite d P = ap largest_z (map-along-negated d P) ∙ largest-negated (map (along d) P)

pub smallest_opposite : (d : Direction) (P : Part) → smallest_z (map (along (negated d)) P) ≡ neg_ℤ (largest_z (map (along d) P))
smallest_opposite d P = ap smallest_z (map-along-negated d P) ∙ smallest_negated (map (along d) P)

-- The opposite direction separates P from Q exactly if this one separates Q from P.
pub separates-negated : (P Q : Part) (d : Direction) → separates P Q (negated d) ≡ separates Q P d
unfolding separates
separates-negated P Q d =
    ap (λ s. le_z s (smallest_z (map (along (negated d)) Q))) (largest-opposite d P)
    ∙ ap (le_z (neg_ℤ (smallest_z (map (along d) P)))) (smallest_opposite d Q)
    ∙ flip (largest_z (map (along d) Q)) (smallest_z (map (along d) P))
  where
    flip : (l s : ℤ) → le_z (neg_ℤ s) (neg_ℤ l) ≡ le_z l s
    flip l s = le_z_same (neg_ℤ s) (neg_ℤ l) l s (ring 2 (λ l s. ⊖ l ⊟ ⊖ s ≈ s ⊟ l) tt l s)

-- ---- parts

-- The order in which the directions are tried changes no answer.
pub disjoint-reordered : (P Q : Part) (ds : List Direction) → Permᴰ (directions P Q) ds → disjoint P Q ≡ any (separates P Q) ds
unfolding disjoint
disjoint-reordered P Q ds d = any-reordered (separates P Q) d

-- The normals of each part tried by themselves; the negated ones of Q as Q's own with the parts changed over.
pub disjoint-groups : (P Q : Part) → disjoint P Q ≡ (any (separates P Q) (normals P) || any (separates Q P) (normals Q))
unfolding disjoint directions
disjoint-groups P Q =
    any_append (separates P Q) (normals P) (map negated (normals Q))
    ∙ ap (λ t. any (separates P Q) (normals P) || t)
    (any-map (separates P Q) negated (normals Q) ∙ any_same (λ d. separates P Q (negated d)) (separates Q P) (separates-negated P Q) (normals Q))

pub disjoint-symmetric : (P Q : Part) → disjoint P Q ≡ disjoint Q P
disjoint-symmetric P Q =
    disjoint-groups P Q ∙ or_comm (any (separates P Q) (normals P)) (any (separates Q P) (normals Q)) ∙ sym (disjoint-groups Q P)

pub separated-symmetric : (gap : ℕ) (P Q : Part) → separated gap P Q ≡ separated gap Q P
unfolding separated
separated-symmetric gap P Q =
    ap (λ t. t && corners_clear gap P Q && corners_clear gap Q P) (disjoint-symmetric P Q)
    ∙ and_assoc (disjoint Q P) (corners_clear gap P Q) (corners_clear gap Q P)
    ∙ ap (λ t. disjoint Q P && t) (and_comm (corners_clear gap P Q) (corners_clear gap Q P))
    ∙ sym (and_assoc (disjoint Q P) (corners_clear gap Q P) (corners_clear gap P Q))

-- ---- pieces

pub pieces_conflict-symmetric : (gap : ℕ) (Ps Qs : List Part) → pieces_conflict gap Ps Qs ≡ pieces_conflict gap Qs Ps
unfolding pieces_conflict
pieces_conflict-symmetric gap Ps Qs =
    any-pair (λ P Q. not (separated gap P Q)) Ps Qs
    ∙ any_same (λ Q. any (λ P. not (separated gap P Q)) Ps) (λ Q. any (λ P. not (separated gap Q P)) Ps)
    (λ Q. any_same (λ P. not (separated gap P Q)) (λ P. not (separated gap Q P)) (λ P. ap not (separated-symmetric gap P Q)) Ps) Qs

-- ---- entries of a layout

pub conflict-symmetric : (j : Problem) (e f : Entry) → conflict j e f ≡ conflict j f e
unfolding conflict
conflict-symmetric j e f =
    ap (λ g. pieces_conflict g (placed_parts j.sheet (entry_kind j e) e.place) (placed_parts j.sheet (entry_kind j f) f.place))
    (pair_gap-symmetric j.classes (entry_kind j e) (entry_kind j f))
    ∙ pieces_conflict-symmetric (pair_gap j.classes (entry_kind j f) (entry_kind j e)) (placed_parts j.sheet (entry_kind j e) e.place)
    (placed_parts j.sheet (entry_kind j f) f.place)
