-- A diagonal splits κ into the κ of the two parts; and where the cone of the rightmost corner is 0, the outline turns left there.
use mathlib.Core.Bool.{Bool, true, false}
use mathlib.Core.List.{List, [], ◌∷◌, ◌++◌}
use mathlib.Core.Logic.{⊎_elim}
use mathlib.Core.Path.{◌≡◌, sym, ◌∙◌, ap, ap₂, subst}
use lib.IntN.{ℤ, pos, negsuc, neg_ℤ, ◌+ℤ◌, ◌-ℤ◌, ◌*ℤ◌}
use lib.Signed.{clash_ℤ}
use Rattle.integers.proofs.Order.{<ℤ-≤ℤ}
use Rattle.integers.proofs.Slack.{nonneg_pos}
use Rattle.model.specs.Content.{Vertex}
use Rattle.model.specs.Geometry.{cross}
use Rattle.outlines.specs.Outline.{last_of, path_sum, edge_sum}
use Rattle.outlines.proofs.Tools.{◌≼◌, ◌≺◌, #, ◌⊞◌, ◌⊟◌, ◌⊠◌, ⊖◌, ◌≲◌, ◌≈◌, hyp, ◌⊕◌, ◌⊗◌, ◌⊢◌by◌, order, le_minus, ring, times}
use Rattle.outlines.proofs.Crossing.{crossed, crossed-anti, suc_positive}
use Rattle.outlines.proofs.EdgeSums.{edge_sum-mid, last_of-append}
use Rattle.outlines.proofs.Winding.Cone.{cone, cone_by, upper_half, one_negative, cross-from}
use Rattle.outlines.proofs.Winding.CornerRule.{winding}
use Rattle.outlines.proofs.Winding.Turning.{κ}
use Rattle.outlines.proofs.Winding.LargestX.{cone_split, HalfOf, half_of}

-- ---- a diagonal from the first corner

-- A sum over the edges is that of the two parts on the sides of a diagonal, for a sum that changes its sign with an edge's direction.
pub edge_sum-split : (F : Vertex → Vertex → ℤ) → ((a b : Vertex) → F b a ≡ neg_ℤ (F a b)) → (h : Vertex) (C : List Vertex) (z : Vertex) (D : List Vertex) → edge_sum F (h ∷ (C ++ z ∷ D)) ≡ edge_sum F (h ∷ (C ++ z ∷ [])) +ℤ edge_sum F (h ∷ z ∷ D)
edge_sum-split F anti h C z D = edge_sum-mid F h C z D ∙ re (path_sum F h C) (F (last_of h C) z) (path_sum F z D) (F (last_of z D) h) (F z h) (F h z) (anti h z) ∙ ap (λ t. t +ℤ edge_sum F (h ∷ z ∷ D)) (sym (edge_sum-mid F h C z []))
  where
    re : (a b c d e f : ℤ) → e ≡ neg_ℤ f → a +ℤ b +ℤ c +ℤ d ≡ a +ℤ b +ℤ pos 0 +ℤ e +ℤ (f +ℤ c +ℤ d)
    re = order 6 (λ a b c d e f. (e ≈ ⊖ f) ∷ [] ⊢ a ⊞ b ⊞ c ⊞ d ≈ a ⊞ b ⊞ # (pos 0) ⊞ e ⊞ (f ⊞ c ⊞ d) by times 0 (# (negsuc 0))) tt

-- So is κ.
pub κ_split : (h s : Vertex) (C : List Vertex) (z : Vertex) (D : List Vertex) → let p = last_of z D in pos 0 ≺ cross p h s → pos 0 ≺ cross p h z → pos 0 ≺ cross z h s →
    κ (h ∷ s ∷ (C ++ z ∷ D)) ≡ κ (h ∷ s ∷ (C ++ z ∷ [])) +ℤ κ (h ∷ z ∷ D)
κ_split h s C z D a b c = ap₂ (λ t r. t -ℤ r) (edge_sum-split (λ a b. crossed a b h) (λ a b. crossed-anti a b h) h (s ∷ C) z D) (ap (λ q. cone q h s) (last_of-append s C z D) ∙ cone_split (last_of z D) h s z a b c)
    ∙ re (winding (h ∷ s ∷ (C ++ z ∷ [])) h) (winding (h ∷ z ∷ D) h) (cone (last_of z D) h z) (cone z h s)
    ∙ ap (λ q. winding (h ∷ s ∷ (C ++ z ∷ [])) h -ℤ cone q h s +ℤ (winding (h ∷ z ∷ D) h -ℤ cone (last_of z D) h z)) (sym (last_of-append s C z []))
  where
    re : (a b i j : ℤ) → a +ℤ b -ℤ (i +ℤ j) ≡ a -ℤ j +ℤ (b -ℤ i)
    re = ring 4 (λ a b i j. a ⊞ b ⊟ (i ⊞ j) ≈ a ⊟ j ⊞ (b ⊟ i)) tt

-- The cone, from half planes and a cross, is not negative.
cone_by-nonneg : (u t : Bool) (C : ℤ) → pos 0 ≼ cone_by u t C
cone_by-nonneg false true C = nonneg_pos _
cone_by-nonneg true false C = nonneg_pos _
cone_by-nonneg true true (pos n) = nonneg_pos _
cone_by-nonneg true true (negsuc n) = nonneg_pos _
cone_by-nonneg false false (pos n) = nonneg_pos _
cone_by-nonneg false false (negsuc n) = nonneg_pos _

-- A cone is not negative.
pub cone_nonneg : (p a b : Vertex) → pos 0 ≼ cone p a b
unfolding cone
cone_nonneg p a b = cone_by-nonneg (upper_half a b) (upper_half a p) (cross p a b)

-- ---- it turns left there

-- A number that is not counted as negative is none.
one_negative-nonneg : (C : ℤ) → one_negative C ≡ pos 0 → pos 0 ≼ C
one_negative-nonneg (pos n) e = nonneg_pos _
one_negative-nonneg (negsuc n) e = clash_ℤ suc_positive (subst (λ t. t ≼ pos 0) (sym e) (nonneg_pos _))

-- The upper half plane is not below.
le_up : {α X : ℤ} → HalfOf true α X → pos 0 ≼ α
le_up {α} {X} = ⊎_elim (λ i. <ℤ-≤ℤ i) (λ i. subst (λ t. pos 0 ≼ t) (sym i.0) (nonneg_pos _))

-- The lower half plane is not above.
le_dn : {α X : ℤ} → HalfOf false α X → α ≼ pos 0
le_dn {α} {X} = ⊎_elim (λ i. <ℤ-≤ℤ i) (λ i. subst (λ t. t ≼ pos 0) (sym i.0) (nonneg_pos _))

-- All cases of the half planes.
turn_in : (u t : Bool) (C α π X Y : ℤ) → C ≡ π *ℤ X -ℤ Y *ℤ α → HalfOf u α X → HalfOf t π Y → X ≼ pos 0 → Y ≼ pos 0 → cone_by u t C ≡ pos 0 → pos 0 ≼ C
turn_in false true C α π X Y c a b x y e = clash_ℤ suc_positive (subst (λ t. t ≼ pos 0) (sym e) (nonneg_pos _))
turn_in true true C α π X Y c a b x y e = one_negative-nonneg C e
turn_in false false C α π X Y c a b x y e = one_negative-nonneg C e
turn_in true false C α π X Y c a b x y e = subst (λ t. pos 0 ≼ t) (sym c) (sg α π X Y (le_up a) (le_dn b) x y)
  where
    sg : (α π X Y : ℤ) → pos 0 ≼ α → π ≼ pos 0 → X ≼ pos 0 → Y ≼ pos 0 → pos 0 ≼ π *ℤ X -ℤ Y *ℤ α
    sg = order 4 (λ α π X Y. (# (pos 0) ≲ α) ∷ (π ≲ # (pos 0)) ∷ (X ≲ # (pos 0)) ∷ (Y ≲ # (pos 0)) ∷ [] ⊢ # (pos 0) ≲ π ⊠ X ⊟ Y ⊠ α by hyp 1 ⊗ hyp 2 ⊕ hyp 3 ⊗ hyp 0) tt

-- Where the cone of a rightmost corner is 0, the outline turns left there or goes straight on.
pub left-top : (p h s : Vertex) → p.x ≼ h.x → s.x ≼ h.x → cone p h s ≡ pos 0 → pos 0 ≼ cross p h s
unfolding cone
left-top p h s i j e = turn_in (upper_half h s) (upper_half h p) (cross p h s) (s.y -ℤ h.y) (p.y -ℤ h.y) (s.x -ℤ h.x) (p.x -ℤ h.x) (cross-from p h s) (half_of h s) (half_of h p) (le_minus s.x h.x j) (le_minus p.x h.x i) e
