-- Two edges that do not meet: the crossings of the one from the ends of the other, and the crossings back of the other from the ends of the one, cancel out. This is the second half of the corner rule.
use mathlib.Core.Bool.{Bool, true, false, not}
use mathlib.Core.List.{[], ◌∷◌}
use mathlib.Core.Logic.{⊎_elim}
use mathlib.Core.Path.{◌≡◌, refl, sym, ◌∙◌, subst}
use Prim.Native.Nat.{zero, suc}
use lib.Dec.{T}
use lib.IntN.{ℤ, pos, negsuc, neg_ℤ, ◌+ℤ◌, ◌-ℤ◌, ◌*ℤ◌, +ℤ_idl, +ℤ_idr, +ℤ_comm}
use lib.Signed.{lt_z, lt_z_yes, lt_z_no, <ℤ-≤ℤ_trans}
use Rattle.integers.proofs.Order.{<ℤ-≤ℤ, ≤ℤ-<ℤ_trans, le_or_lt}
use Rattle.integers.proofs.Slack.{nonneg_pos}
use Rattle.model.specs.Content.{Vertex}
use Rattle.model.specs.Geometry.{cross}
use Rattle.outlines.specs.Simple.{Meet}
use Rattle.outlines.proofs.Tools.{◌≼◌, ◌≺◌, #, ◌⊞◌, ◌⊟◌, ◌⊠◌, ⊖◌, ◌≲◌, ◌⋖◌, ◌≈◌, never, hyp, num, ◌⊕◌, ◌⊗◌, ◌⊢◌by◌, order, ring, times, nonneg_by, nonpos_by}
use Rattle.outlines.proofs.Crossing.{cross_e, crossed, crossed-anti, edge_crossing, one_positive, minus_negative, above, suc_positive, negsuc_nonpos, negsuc_negative}
use Rattle.outlines.proofs.Winding.Cone.{crossed_back, crossed_back-anti, Less, clash3}

-- What the identities of two edges say of the signs of their crosses, by which of their ends is higher. First from a rising u w, then from a rising a b.
i1p : (ya yb yu yv Wa Wb U Z : ℤ) → yu ≼ ya → yu ≼ yb → ya ≺ yv → pos 0 ≼ Wb → Wa ≼ pos 0 → U ≺ pos 0 → (yv -ℤ yu) *ℤ U ≡ Wb *ℤ (ya -ℤ yu) -ℤ Wa *ℤ (yb -ℤ yu) → ⊥
i1p = order 8 (λ ya yb yu yv Wa Wb U Z. (yu ≲ ya) ∷ (yu ≲ yb) ∷ (ya ⋖ yv) ∷ (# (pos 0) ≲ Wb) ∷ (Wa ≲ # (pos 0)) ∷ (U ⋖ # (pos 0)) ∷ ((yv ⊟ yu) ⊠ U ≈ Wb ⊠ (ya ⊟ yu) ⊟ Wa ⊠ (yb ⊟ yu)) ∷ [] ⊢ never
    by hyp 5 ⊗ (hyp 2 ⊕ hyp 0 ⊕ num 1) ⊕ hyp 2 ⊕ hyp 0 ⊕ hyp 3 ⊗ hyp 0 ⊕ hyp 4 ⊗ hyp 1 ⊕ times 6 (# (negsuc 0))) tt

i1n : (ya yb yu yv Wa Wb U Z : ℤ) → yu ≼ ya → yu ≼ yb → ya ≺ yv → Wb ≼ pos 0 → pos 0 ≼ Wa → pos 0 ≺ U → (yv -ℤ yu) *ℤ U ≡ Wb *ℤ (ya -ℤ yu) -ℤ Wa *ℤ (yb -ℤ yu) → ⊥
i1n = order 8 (λ ya yb yu yv Wa Wb U Z. (yu ≲ ya) ∷ (yu ≲ yb) ∷ (ya ⋖ yv) ∷ (Wb ≲ # (pos 0)) ∷ (# (pos 0) ≲ Wa) ∷ (# (pos 0) ⋖ U) ∷ ((yv ⊟ yu) ⊠ U ≈ Wb ⊠ (ya ⊟ yu) ⊟ Wa ⊠ (yb ⊟ yu)) ∷ [] ⊢ never
    by hyp 5 ⊗ (hyp 2 ⊕ hyp 0 ⊕ num 1) ⊕ hyp 2 ⊕ hyp 0 ⊕ hyp 3 ⊗ hyp 0 ⊕ hyp 4 ⊗ hyp 1 ⊕ times 6 (# (pos 1))) tt

i2p : (ya yb yu yv Wa Wb U Z : ℤ) → yu ≼ ya → ya ≺ yv → yb ≺ yv → pos 0 ≼ Wb → Wa ≼ pos 0 → pos 0 ≺ Z → (yv -ℤ yu) *ℤ Z ≡ Wa *ℤ (yv -ℤ yb) -ℤ Wb *ℤ (yv -ℤ ya) → ⊥
i2p = order 8 (λ ya yb yu yv Wa Wb U Z. (yu ≲ ya) ∷ (ya ⋖ yv) ∷ (yb ⋖ yv) ∷ (# (pos 0) ≲ Wb) ∷ (Wa ≲ # (pos 0)) ∷ (# (pos 0) ⋖ Z) ∷ ((yv ⊟ yu) ⊠ Z ≈ Wa ⊠ (yv ⊟ yb) ⊟ Wb ⊠ (yv ⊟ ya)) ∷ [] ⊢ never
    by hyp 5 ⊗ (hyp 1 ⊕ hyp 0 ⊕ num 1) ⊕ hyp 1 ⊕ hyp 0 ⊕ hyp 3 ⊗ (hyp 1 ⊕ num 1) ⊕ hyp 4 ⊗ (hyp 2 ⊕ num 1) ⊕ times 6 (# (pos 1))) tt

i2n : (ya yb yu yv Wa Wb U Z : ℤ) → yu ≼ ya → ya ≺ yv → yb ≺ yv → Wb ≼ pos 0 → pos 0 ≼ Wa → Z ≺ pos 0 → (yv -ℤ yu) *ℤ Z ≡ Wa *ℤ (yv -ℤ yb) -ℤ Wb *ℤ (yv -ℤ ya) → ⊥
i2n = order 8 (λ ya yb yu yv Wa Wb U Z. (yu ≲ ya) ∷ (ya ⋖ yv) ∷ (yb ⋖ yv) ∷ (Wb ≲ # (pos 0)) ∷ (# (pos 0) ≲ Wa) ∷ (Z ⋖ # (pos 0)) ∷ ((yv ⊟ yu) ⊠ Z ≈ Wa ⊠ (yv ⊟ yb) ⊟ Wb ⊠ (yv ⊟ ya)) ∷ [] ⊢ never
    by hyp 5 ⊗ (hyp 1 ⊕ hyp 0 ⊕ num 1) ⊕ hyp 1 ⊕ hyp 0 ⊕ hyp 3 ⊗ (hyp 1 ⊕ num 1) ⊕ hyp 4 ⊗ (hyp 2 ⊕ num 1) ⊕ times 6 (# (negsuc 0))) tt

i3p : (ya yb yu yv Wa Wb U Z : ℤ) → ya ≺ yb → ya ≼ yu → ya ≼ yv → pos 0 ≼ Z → U ≼ pos 0 → Wa ≺ pos 0 → (yb -ℤ ya) *ℤ Wa ≡ Z *ℤ (yu -ℤ ya) -ℤ U *ℤ (yv -ℤ ya) → ⊥
i3p = order 8 (λ ya yb yu yv Wa Wb U Z. (ya ⋖ yb) ∷ (ya ≲ yu) ∷ (ya ≲ yv) ∷ (# (pos 0) ≲ Z) ∷ (U ≲ # (pos 0)) ∷ (Wa ⋖ # (pos 0)) ∷ ((yb ⊟ ya) ⊠ Wa ≈ Z ⊠ (yu ⊟ ya) ⊟ U ⊠ (yv ⊟ ya)) ∷ [] ⊢ never
    by hyp 5 ⊗ (hyp 0 ⊕ num 1) ⊕ hyp 0 ⊕ hyp 3 ⊗ hyp 1 ⊕ hyp 4 ⊗ hyp 2 ⊕ times 6 (# (negsuc 0))) tt

i3n : (ya yb yu yv Wa Wb U Z : ℤ) → ya ≺ yb → ya ≼ yu → ya ≼ yv → Z ≼ pos 0 → pos 0 ≼ U → pos 0 ≺ Wa → (yb -ℤ ya) *ℤ Wa ≡ Z *ℤ (yu -ℤ ya) -ℤ U *ℤ (yv -ℤ ya) → ⊥
i3n = order 8 (λ ya yb yu yv Wa Wb U Z. (ya ⋖ yb) ∷ (ya ≲ yu) ∷ (ya ≲ yv) ∷ (Z ≲ # (pos 0)) ∷ (# (pos 0) ≲ U) ∷ (# (pos 0) ⋖ Wa) ∷ ((yb ⊟ ya) ⊠ Wa ≈ Z ⊠ (yu ⊟ ya) ⊟ U ⊠ (yv ⊟ ya)) ∷ [] ⊢ never
    by hyp 5 ⊗ (hyp 0 ⊕ num 1) ⊕ hyp 0 ⊕ hyp 3 ⊗ hyp 1 ⊕ hyp 4 ⊗ hyp 2 ⊕ times 6 (# (pos 1))) tt

i4n : (ya yb yu yv Wa Wb U Z : ℤ) → ya ≺ yb → yu ≼ yb → yv ≼ yb → pos 0 ≼ Z → U ≼ pos 0 → pos 0 ≺ Wb → (yb -ℤ ya) *ℤ Wb ≡ U *ℤ (yb -ℤ yv) -ℤ Z *ℤ (yb -ℤ yu) → ⊥
i4n = order 8 (λ ya yb yu yv Wa Wb U Z. (ya ⋖ yb) ∷ (yu ≲ yb) ∷ (yv ≲ yb) ∷ (# (pos 0) ≲ Z) ∷ (U ≲ # (pos 0)) ∷ (# (pos 0) ⋖ Wb) ∷ ((yb ⊟ ya) ⊠ Wb ≈ U ⊠ (yb ⊟ yv) ⊟ Z ⊠ (yb ⊟ yu)) ∷ [] ⊢ never
    by hyp 5 ⊗ (hyp 0 ⊕ num 1) ⊕ hyp 0 ⊕ hyp 3 ⊗ hyp 1 ⊕ hyp 4 ⊗ hyp 2 ⊕ times 6 (# (pos 1))) tt

i4p : (ya yb yu yv Wa Wb U Z : ℤ) → ya ≺ yb → yu ≼ yb → yv ≼ yb → Z ≼ pos 0 → pos 0 ≼ U → Wb ≺ pos 0 → (yb -ℤ ya) *ℤ Wb ≡ U *ℤ (yb -ℤ yv) -ℤ Z *ℤ (yb -ℤ yu) → ⊥
i4p = order 8 (λ ya yb yu yv Wa Wb U Z. (ya ⋖ yb) ∷ (yu ≲ yb) ∷ (yv ≲ yb) ∷ (Z ≲ # (pos 0)) ∷ (# (pos 0) ≲ U) ∷ (Wb ⋖ # (pos 0)) ∷ ((yb ⊟ ya) ⊠ Wb ≈ U ⊠ (yb ⊟ yv) ⊟ Z ⊠ (yb ⊟ yu)) ∷ [] ⊢ never
    by hyp 5 ⊗ (hyp 0 ⊕ num 1) ⊕ hyp 0 ⊕ hyp 3 ⊗ hyp 1 ⊕ hyp 4 ⊗ hyp 2 ⊕ times 6 (# (negsuc 0))) tt

-- The cases in which one edge ends at a height of the other.
b3n : (ya yb yu yv Wa Wb U Z : ℤ) → yu ≼ ya → ya ≺ yv → ya ≺ yb → pos 0 ≼ Wa → pos 0 ≼ Z → pos 0 ≺ U → (yb -ℤ ya) *ℤ Wa ≡ Z *ℤ (yu -ℤ ya) -ℤ U *ℤ (yv -ℤ ya) → ⊥
b3n = order 8 (λ ya yb yu yv Wa Wb U Z. (yu ≲ ya) ∷ (ya ⋖ yv) ∷ (ya ⋖ yb) ∷ (# (pos 0) ≲ Wa) ∷ (# (pos 0) ≲ Z) ∷ (# (pos 0) ⋖ U) ∷ ((yb ⊟ ya) ⊠ Wa ≈ Z ⊠ (yu ⊟ ya) ⊟ U ⊠ (yv ⊟ ya)) ∷ [] ⊢ never
    by hyp 5 ⊗ (hyp 1 ⊕ num 1) ⊕ hyp 1 ⊕ hyp 4 ⊗ hyp 0 ⊕ hyp 3 ⊗ (hyp 2 ⊕ num 1) ⊕ times 6 (# (pos 1))) tt

b3p : (ya yb yu yv Wa Wb U Z : ℤ) → yu ≼ ya → ya ≺ yv → ya ≺ yb → Wa ≼ pos 0 → Z ≼ pos 0 → U ≺ pos 0 → (yb -ℤ ya) *ℤ Wa ≡ Z *ℤ (yu -ℤ ya) -ℤ U *ℤ (yv -ℤ ya) → ⊥
b3p = order 8 (λ ya yb yu yv Wa Wb U Z. (yu ≲ ya) ∷ (ya ⋖ yv) ∷ (ya ⋖ yb) ∷ (Wa ≲ # (pos 0)) ∷ (Z ≲ # (pos 0)) ∷ (U ⋖ # (pos 0)) ∷ ((yb ⊟ ya) ⊠ Wa ≈ Z ⊠ (yu ⊟ ya) ⊟ U ⊠ (yv ⊟ ya)) ∷ [] ⊢ never
    by hyp 5 ⊗ (hyp 1 ⊕ num 1) ⊕ hyp 1 ⊕ hyp 4 ⊗ hyp 0 ⊕ hyp 3 ⊗ (hyp 2 ⊕ num 1) ⊕ times 6 (# (negsuc 0))) tt

b4n : (ya yb yu yv Wa Wb U Z : ℤ) → ya ≺ yb → yu ≼ yb → yb ≺ yv → pos 0 ≺ Wb → pos 0 ≼ U → pos 0 ≼ Z → (yb -ℤ ya) *ℤ Wb ≡ U *ℤ (yb -ℤ yv) -ℤ Z *ℤ (yb -ℤ yu) → ⊥
b4n = order 8 (λ ya yb yu yv Wa Wb U Z. (ya ⋖ yb) ∷ (yu ≲ yb) ∷ (yb ⋖ yv) ∷ (# (pos 0) ⋖ Wb) ∷ (# (pos 0) ≲ U) ∷ (# (pos 0) ≲ Z) ∷ ((yb ⊟ ya) ⊠ Wb ≈ U ⊠ (yb ⊟ yv) ⊟ Z ⊠ (yb ⊟ yu)) ∷ [] ⊢ never
    by hyp 3 ⊗ (hyp 0 ⊕ num 1) ⊕ hyp 0 ⊕ hyp 4 ⊗ (hyp 2 ⊕ num 1) ⊕ hyp 5 ⊗ hyp 1 ⊕ times 6 (# (pos 1))) tt

b4p : (ya yb yu yv Wa Wb U Z : ℤ) → ya ≺ yb → yu ≼ yb → yb ≺ yv → Wb ≼ pos 0 → U ≺ pos 0 → Z ≼ pos 0 → (yb -ℤ ya) *ℤ Wb ≡ U *ℤ (yb -ℤ yv) -ℤ Z *ℤ (yb -ℤ yu) → ⊥
b4p = order 8 (λ ya yb yu yv Wa Wb U Z. (ya ⋖ yb) ∷ (yu ≲ yb) ∷ (yb ⋖ yv) ∷ (Wb ≲ # (pos 0)) ∷ (U ⋖ # (pos 0)) ∷ (Z ≲ # (pos 0)) ∷ ((yb ⊟ ya) ⊠ Wb ≈ U ⊠ (yb ⊟ yv) ⊟ Z ⊠ (yb ⊟ yu)) ∷ [] ⊢ never
    by hyp 4 ⊗ (hyp 2 ⊕ num 1) ⊕ hyp 2 ⊕ hyp 3 ⊗ (hyp 0 ⊕ num 1) ⊕ hyp 5 ⊗ hyp 1 ⊕ times 6 (# (negsuc 0))) tt

-- The signs of the crosses of edges that do not meet.
abbrev No+ : ℤ → ℤ → ℤ → ℤ → Type 0
No+ Wa Wb U Z = pos 0 ≼ Wb → Wa ≼ pos 0 → pos 0 ≼ U → Z ≼ pos 0 → Wa ≺ Wb → ⊥

abbrev No- : ℤ → ℤ → ℤ → ℤ → Type 0
No- Wa Wb U Z = Wb ≼ pos 0 → pos 0 ≼ Wa → U ≼ pos 0 → pos 0 ≼ Z → Wb ≺ Wa → ⊥

-- Equal signs.
eq_pP : (s t : ℤ) → (pos 0 ≺ s → t ≼ pos 0 → ⊥) → (s ≼ pos 0 → pos 0 ≺ t → ⊥) → one_positive s ≡ one_positive t
eq_pP (pos zero) (pos zero) f g = refl
eq_pP (pos zero) (pos (suc n)) f g = absurd (g (nonneg_pos _) suc_positive)
eq_pP (pos zero) (negsuc n) f g = refl
eq_pP (pos (suc s)) (pos zero) f g = absurd (f suc_positive (nonneg_pos _))
eq_pP (pos (suc s)) (pos (suc n)) f g = refl
eq_pP (pos (suc s)) (negsuc n) f g = absurd (f suc_positive negsuc_nonpos)
eq_pP (negsuc s) (pos zero) f g = refl
eq_pP (negsuc s) (pos (suc n)) f g = absurd (g negsuc_nonpos suc_positive)
eq_pP (negsuc s) (negsuc n) f g = refl

eq_nN : (s t : ℤ) → (s ≺ pos 0 → pos 0 ≼ t → ⊥) → (pos 0 ≼ s → t ≺ pos 0 → ⊥) → minus_negative s ≡ minus_negative t
eq_nN (pos s) (pos t) f g = refl
eq_nN (pos s) (negsuc t) f g = absurd (g (nonneg_pos _) negsuc_negative)
eq_nN (negsuc s) (pos t) f g = absurd (f negsuc_negative (nonneg_pos _))
eq_nN (negsuc s) (negsuc t) f g = refl

eq_pN : (s t : ℤ) → (pos 0 ≺ s → pos 0 ≼ t → ⊥) → (s ≼ pos 0 → t ≺ pos 0 → ⊥) → one_positive s +ℤ minus_negative t ≡ pos 0
eq_pN (pos zero) (pos t) f g = refl
eq_pN (pos zero) (negsuc t) f g = absurd (g (nonneg_pos _) negsuc_negative)
eq_pN (pos (suc s)) (pos t) f g = absurd (f suc_positive (nonneg_pos _))
eq_pN (pos (suc s)) (negsuc t) f g = refl
eq_pN (negsuc s) (pos t) f g = refl
eq_pN (negsuc s) (negsuc t) f g = absurd (g negsuc_nonpos negsuc_negative)

-- Five identities of two edges, from the heights of their ends and the four crosses.
pub record Four (ya yb yu yv Wa Wb U Z : ℤ) : Type 0 where
  pub I1 : (yv -ℤ yu) *ℤ U ≡ Wb *ℤ (ya -ℤ yu) -ℤ Wa *ℤ (yb -ℤ yu)
  pub I2 : (yv -ℤ yu) *ℤ Z ≡ Wa *ℤ (yv -ℤ yb) -ℤ Wb *ℤ (yv -ℤ ya)
  pub I3 : (yb -ℤ ya) *ℤ Wa ≡ Z *ℤ (yu -ℤ ya) -ℤ U *ℤ (yv -ℤ ya)
  pub I4 : (yb -ℤ ya) *ℤ Wb ≡ U *ℤ (yb -ℤ yv) -ℤ Z *ℤ (yb -ℤ yu)
  pub D : Wb +ℤ Z ≡ Wa +ℤ U

-- The crosses of the ends of the one edge rise with those of the other.
pub lt_d+ : (Wa Wb U Z : ℤ) → Wb +ℤ Z ≡ Wa +ℤ U → Z ≺ U → Wa ≺ Wb
lt_d+ = order 4 (λ Wa Wb U Z. (Wb ⊞ Z ≈ Wa ⊞ U) ∷ (Z ⋖ U) ∷ [] ⊢ Wa ⋖ Wb by hyp 1 ⊕ times 0 (# (negsuc 0))) tt

-- They fall with them.
pub lt_d- : (Wa Wb U Z : ℤ) → Wb +ℤ Z ≡ Wa +ℤ U → U ≺ Z → Wb ≺ Wa
lt_d- = order 4 (λ Wa Wb U Z. (Wb ⊞ Z ≈ Wa ⊞ U) ∷ (U ⋖ Z) ∷ [] ⊢ Wb ⋖ Wa by hyp 1 ⊕ times 0 (# (pos 1))) tt

-- The law in tests and numbers.
abbrev StT : Bool → Bool → Bool → Bool → ℤ → ℤ → ℤ → ℤ → Type 0
StT au bu av bv Wa Wb U Z = edge_crossing bu bv Wb +ℤ edge_crossing au bu U ≡ edge_crossing au av Wa +ℤ edge_crossing av bv Z

module _ (ya yb yu yv Wa Wb U Z : ℤ) (q : Four ya yb yu yv Wa Wb U Z) (np : No+ Wa Wb U Z) (nm : No- Wa Wb U Z) where
  base1 : yu ≼ ya → yu ≼ yb → ya ≺ yv → yb ≺ yv → one_positive Wb ≡ one_positive Wa
  base1 h1 h2 h3 h4 = eq_pP Wb Wa
      (λ i j. np (<ℤ-≤ℤ i) j (nonneg_by U (λ t. i1p ya yb yu yv Wa Wb U Z h1 h2 h3 (<ℤ-≤ℤ i) j t q.I1)) (nonpos_by Z (λ t. i2p ya yb yu yv Wa Wb U Z h1 h3 h4 (<ℤ-≤ℤ i) j t q.I2)) (≤ℤ-<ℤ_trans j i))
      (λ i j. nm i (<ℤ-≤ℤ j) (nonpos_by U (λ t. i1n ya yb yu yv Wa Wb U Z h1 h2 h3 i (<ℤ-≤ℤ j) t q.I1)) (nonneg_by Z (λ t. i2n ya yb yu yv Wa Wb U Z h1 h3 h4 i (<ℤ-≤ℤ j) t q.I2)) (≤ℤ-<ℤ_trans i j))

  base2 : ya ≺ yu → yu ≼ yb → ya ≺ yv → yv ≼ yb → minus_negative U ≡ minus_negative Z
  base2 h1 h2 h3 h4 = let g : ya ≺ yb = <ℤ-≤ℤ_trans h1 h2 in eq_nN U Z
      (λ i j. nm (nonpos_by Wb (λ t. i4n ya yb yu yv Wa Wb U Z g h2 h4 j (<ℤ-≤ℤ i) t q.I4)) (nonneg_by Wa (λ t. i3p ya yb yu yv Wa Wb U Z g (<ℤ-≤ℤ h1) (<ℤ-≤ℤ h3) j (<ℤ-≤ℤ i) t q.I3)) (<ℤ-≤ℤ i) j (lt_d- Wa Wb U Z q.D (<ℤ-≤ℤ_trans i j)))
      (λ i j. np (nonneg_by Wb (λ t. i4p ya yb yu yv Wa Wb U Z g h2 h4 (<ℤ-≤ℤ j) i t q.I4)) (nonpos_by Wa (λ t. i3n ya yb yu yv Wa Wb U Z g (<ℤ-≤ℤ h1) (<ℤ-≤ℤ h3) (<ℤ-≤ℤ j) i t q.I3)) i (<ℤ-≤ℤ j) (lt_d+ Wa Wb U Z q.D (<ℤ-≤ℤ_trans j i)))

  base3 : yu ≼ ya → yu ≼ yb → ya ≺ yv → yv ≼ yb → one_positive Wa +ℤ minus_negative Z ≡ pos 0
  base3 h1 h2 h3 h4 = let g : ya ≺ yb = <ℤ-≤ℤ_trans h3 h4 in eq_pN Wa Z
      (λ i j. let u : U ≼ pos 0 = nonpos_by U (λ t. b3n ya yb yu yv Wa Wb U Z h1 h3 g (<ℤ-≤ℤ i) j t q.I3) in
      let w : Wb ≼ pos 0 = nonpos_by Wb (λ t. i4n ya yb yu yv Wa Wb U Z g h2 h4 j u t q.I4) in
      nm w (<ℤ-≤ℤ i) u j (≤ℤ-<ℤ_trans w i))
      (λ i j. let u : pos 0 ≼ U = nonneg_by U (λ t. b3p ya yb yu yv Wa Wb U Z h1 h3 g i (<ℤ-≤ℤ j) t q.I3) in
      np (nonneg_by Wb (λ t. i4p ya yb yu yv Wa Wb U Z g h2 h4 (<ℤ-≤ℤ j) u t q.I4)) i u (<ℤ-≤ℤ j) (lt_d+ Wa Wb U Z q.D (<ℤ-≤ℤ_trans j u)))

  base4 : ya ≺ yu → yu ≼ yb → ya ≺ yv → yb ≺ yv → one_positive Wb +ℤ minus_negative U ≡ pos 0
  base4 h1 h2 h3 h4 = let g : ya ≺ yb = <ℤ-≤ℤ_trans h1 h2 in eq_pN Wb U
      (λ i j. let z : Z ≼ pos 0 = nonpos_by Z (λ t. b4n ya yb yu yv Wa Wb U Z g h2 h4 i j (<ℤ-≤ℤ t) q.I4) in
      let w : Wa ≼ pos 0 = nonpos_by Wa (λ t. i3n ya yb yu yv Wa Wb U Z g (<ℤ-≤ℤ h1) (<ℤ-≤ℤ h3) z j t q.I3) in
      np (<ℤ-≤ℤ i) w j z (≤ℤ-<ℤ_trans w i))
      (λ i j. let z : pos 0 ≼ Z = nonneg_by Z (λ t. b4p ya yb yu yv Wa Wb U Z g h2 h4 i j (<ℤ-≤ℤ t) q.I4) in
      nm i (nonneg_by Wa (λ t. i3p ya yb yu yv Wa Wb U Z g (<ℤ-≤ℤ h1) (<ℤ-≤ℤ h3) z (<ℤ-≤ℤ j) t q.I3)) (<ℤ-≤ℤ j) z (lt_d- Wa Wb U Z q.D (<ℤ-≤ℤ_trans j z)))

  core_t : (au bu av bv : Bool) → Less au ya yu → Less bu yb yu → Less av ya yv → Less bv yb yv → ya ≼ yb → yu ≼ yv → StT au bu av bv Wa Wb U Z
  core_t true bu false bv h1 h2 h3 h4 l m = clash3 yu yv ya m h3 h1
  core_t false true av bv h1 h2 h3 h4 l m = clash3 yu ya yb h1 l h2
  core_t false false false true h1 h2 h3 h4 l m = clash3 yv ya yb h3 l h4
  core_t false false false false h1 h2 h3 h4 l m = refl
  core_t false false true false h1 h2 h3 h4 l m = sym (base3 h1 h2 h3 h4)
  core_t false false true true h1 h2 h3 h4 l m = +ℤ_idr (one_positive Wb) ∙ base1 h1 h2 h3 h4 ∙ sym (+ℤ_idr (one_positive Wa))
  core_t true false true false h1 h2 h3 h4 l m = +ℤ_idl (minus_negative U) ∙ base2 h1 h2 h3 h4 ∙ sym (+ℤ_idl (minus_negative Z))
  core_t true false true true h1 h2 h3 h4 l m = base4 h1 h2 h3 h4
  core_t true true true false h1 h2 h3 h4 l m = clash3 yu yv yb m h4 h2
  core_t true true true true h1 h2 h3 h4 l m = refl

-- The test says so.
less_is : (a b : ℤ) → Less (lt_z a b) a b
less_is a b = go (lt_z a b) (λ t. lt_z_yes t) (λ t. lt_z_no t)
  where
    go : (t : Bool) → (T t → a ≺ b) → (T (not t) → b ≼ a) → Less t a b
    go true f g = f tt
    go false f g = g tt

-- They hold of four points.
pub four : (a b u w : Vertex) → Four a.y b.y u.y w.y (cross u w a) (cross u w b) (cross a b u) (cross a b w)
unfolding cross
four a b u w = record {
  I1 = ring 8 (λ ax ay cx cy ux uy wx wy. (wy ⊟ uy) ⊠ cross_e ax ay cx cy ux uy ≈ cross_e ux uy wx wy cx cy ⊠ (ay ⊟ uy) ⊟ cross_e ux uy wx wy ax ay ⊠ (cy ⊟ uy)) tt a.x a.y b.x b.y u.x u.y w.x w.y;
  I2 = ring 8 (λ ax ay cx cy ux uy wx wy. (wy ⊟ uy) ⊠ cross_e ax ay cx cy wx wy ≈ cross_e ux uy wx wy ax ay ⊠ (wy ⊟ cy) ⊟ cross_e ux uy wx wy cx cy ⊠ (wy ⊟ ay)) tt a.x a.y b.x b.y u.x u.y w.x w.y;
  I3 = ring 8 (λ ax ay cx cy ux uy wx wy. (cy ⊟ ay) ⊠ cross_e ux uy wx wy ax ay ≈ cross_e ax ay cx cy wx wy ⊠ (uy ⊟ ay) ⊟ cross_e ax ay cx cy ux uy ⊠ (wy ⊟ ay)) tt a.x a.y b.x b.y u.x u.y w.x w.y;
  I4 = ring 8 (λ ax ay cx cy ux uy wx wy. (cy ⊟ ay) ⊠ cross_e ux uy wx wy cx cy ≈ cross_e ax ay cx cy ux uy ⊠ (cy ⊟ wy) ⊟ cross_e ax ay cx cy wx wy ⊠ (cy ⊟ uy)) tt a.x a.y b.x b.y u.x u.y w.x w.y;
  D = ring 8 (λ ax ay cx cy ux uy wx wy. cross_e ux uy wx wy cx cy ⊞ cross_e ax ay cx cy wx wy ≈ cross_e ux uy wx wy ax ay ⊞ cross_e ax ay cx cy ux uy) tt a.x a.y b.x b.y u.x u.y w.x w.y;
}

-- The meeting point of two edges by their crosses.
at_x : (a b u w : Vertex) → cross u w b *ℤ a.x -ℤ cross u w a *ℤ b.x ≡ cross a b u *ℤ w.x -ℤ cross a b w *ℤ u.x
unfolding cross
at_x a b u w = ring 8 (λ ax ay cx cy ux uy wx wy. cross_e ux uy wx wy cx cy ⊠ ax ⊟ cross_e ux uy wx wy ax ay ⊠ cx ≈ cross_e ax ay cx cy ux uy ⊠ wx ⊟ cross_e ax ay cx cy wx wy ⊠ ux) tt a.x a.y b.x b.y u.x u.y w.x w.y

at_y : (a b u w : Vertex) → cross u w b *ℤ a.y -ℤ cross u w a *ℤ b.y ≡ cross a b u *ℤ w.y -ℤ cross a b w *ℤ u.y
unfolding cross
at_y a b u w = ring 8 (λ ax ay cx cy ux uy wx wy. cross_e ux uy wx wy cx cy ⊠ ay ⊟ cross_e ux uy wx wy ax ay ⊠ cy ≈ cross_e ax ay cx cy ux uy ⊠ wy ⊟ cross_e ax ay cx cy wx wy ⊠ uy) tt a.x a.y b.x b.y u.x u.y w.x w.y

-- Signs of its weights.
neg_nn : (t : ℤ) → t ≼ pos 0 → pos 0 ≼ neg_ℤ t
neg_nn = order 1 (λ t. (t ≲ # (pos 0)) ∷ [] ⊢ # (pos 0) ≲ ⊖ t by hyp 0) tt

dif : (s t : ℤ) → t ≺ s → pos 0 ≺ s +ℤ neg_ℤ t
dif = order 2 (λ s t. (t ⋖ s) ∷ [] ⊢ # (pos 0) ⋖ s ⊞ ⊖ t by hyp 0) tt

dif' : (s t : ℤ) → t ≺ s → pos 0 ≺ neg_ℤ t +ℤ s
dif' = order 2 (λ s t. (t ⋖ s) ∷ [] ⊢ # (pos 0) ⋖ ⊖ t ⊞ s by hyp 0) tt

-- The weights have the same sum.
sum+ : (Wa Wb U Z : ℤ) → Wb +ℤ Z ≡ Wa +ℤ U → Wb +ℤ neg_ℤ Wa ≡ neg_ℤ Z +ℤ U
sum+ = order 4 (λ Wa Wb U Z. (Wb ⊞ Z ≈ Wa ⊞ U) ∷ [] ⊢ Wb ⊞ ⊖ Wa ≈ ⊖ Z ⊞ U by times 0 (# (pos 1))) tt

sum- : (Wa Wb U Z : ℤ) → Wb +ℤ Z ≡ Wa +ℤ U → neg_ℤ Wb +ℤ Wa ≡ Z +ℤ neg_ℤ U
sum- = order 4 (λ Wa Wb U Z. (Wb ⊞ Z ≈ Wa ⊞ U) ∷ [] ⊢ ⊖ Wb ⊞ Wa ≈ Z ⊞ ⊖ U by times 0 (# (negsuc 0))) tt

-- The weights give the same point.
at+ : (Wa Wb U Z a b u w : ℤ) → Wb *ℤ a -ℤ Wa *ℤ b ≡ U *ℤ w -ℤ Z *ℤ u → Wb *ℤ a +ℤ neg_ℤ Wa *ℤ b ≡ neg_ℤ Z *ℤ u +ℤ U *ℤ w
at+ = order 8 (λ Wa Wb U Z a b u w. (Wb ⊠ a ⊟ Wa ⊠ b ≈ U ⊠ w ⊟ Z ⊠ u) ∷ [] ⊢ Wb ⊠ a ⊞ ⊖ Wa ⊠ b ≈ ⊖ Z ⊠ u ⊞ U ⊠ w by times 0 (# (pos 1))) tt

at- : (Wa Wb U Z a b u w : ℤ) → Wb *ℤ a -ℤ Wa *ℤ b ≡ U *ℤ w -ℤ Z *ℤ u → neg_ℤ Wb *ℤ a +ℤ Wa *ℤ b ≡ Z *ℤ u +ℤ neg_ℤ U *ℤ w
at- = order 8 (λ Wa Wb U Z a b u w. (Wb ⊠ a ⊟ Wa ⊠ b ≈ U ⊠ w ⊟ Z ⊠ u) ∷ [] ⊢ ⊖ Wb ⊠ a ⊞ Wa ⊠ b ≈ Z ⊠ u ⊞ ⊖ U ⊠ w by times 0 (# (negsuc 0))) tt

-- Edges that cross from right to left meet.
pub meet+ : (a b u w : Vertex) → pos 0 ≼ cross u w b → cross u w a ≼ pos 0 → pos 0 ≼ cross a b u → cross a b w ≼ pos 0 → cross u w a ≺ cross u w b → Meet a b u w
meet+ a b u w h1 h2 h3 h4 h5 = record {
  m = cross u w b;
  n = neg_ℤ (cross u w a);
  k = neg_ℤ (cross a b w);
  l = cross a b u;
  m0 = h1;
  n0 = neg_nn (cross u w a) h2;
  k0 = neg_nn (cross a b w) h4;
  l0 = h3;
  some = dif (cross u w b) (cross u w a) h5;
  sums = sum+ (cross u w a) (cross u w b) (cross a b u) (cross a b w) (four a b u w).D;
  atx = at+ (cross u w a) (cross u w b) (cross a b u) (cross a b w) a.x b.x u.x w.x (at_x a b u w);
  aty = at+ (cross u w a) (cross u w b) (cross a b u) (cross a b w) a.y b.y u.y w.y (at_y a b u w);
}

-- Edges that cross from left to right meet.
pub meet- : (a b u w : Vertex) → cross u w b ≼ pos 0 → pos 0 ≼ cross u w a → cross a b u ≼ pos 0 → pos 0 ≼ cross a b w → cross u w b ≺ cross u w a → Meet a b u w
meet- a b u w h1 h2 h3 h4 h5 = record {
  m = neg_ℤ (cross u w b);
  n = cross u w a;
  k = cross a b w;
  l = neg_ℤ (cross a b u);
  m0 = neg_nn (cross u w b) h1;
  n0 = h2;
  k0 = h4;
  l0 = neg_nn (cross a b u) h3;
  some = dif' (cross u w a) (cross u w b) h5;
  sums = sum- (cross u w a) (cross u w b) (cross a b u) (cross a b w) (four a b u w).D;
  atx = at- (cross u w a) (cross u w b) (cross a b u) (cross a b w) a.x b.x u.x w.x (at_x a b u w);
  aty = at- (cross u w a) (cross u w b) (cross a b u) (cross a b w) a.y b.y u.y w.y (at_y a b u w);
}

-- What meets an edge meets it turned round.
pub Meet-ab : {a b u w : Vertex} → Meet b a u w → Meet a b u w
Meet-ab {a} {b} {u} {w} h = record {
  m = h.n;
  n = h.m;
  k = h.k;
  l = h.l;
  m0 = h.n0;
  n0 = h.m0;
  k0 = h.k0;
  l0 = h.l0;
  some = subst (λ t. pos 0 ≺ t) (+ℤ_comm h.m h.n) h.some;
  sums = +ℤ_comm h.n h.m ∙ h.sums;
  atx = +ℤ_comm (h.n *ℤ a.x) (h.m *ℤ b.x) ∙ h.atx;
  aty = +ℤ_comm (h.n *ℤ a.y) (h.m *ℤ b.y) ∙ h.aty;
}

-- The two edges exchanged.
pub Meet-swap : {a b u t : Vertex} → Meet a b u t → Meet u t a b
Meet-swap h = record {
  m = h.k;
  n = h.l;
  k = h.m;
  l = h.n;
  m0 = h.k0;
  n0 = h.l0;
  k0 = h.m0;
  l0 = h.n0;
  some = subst (λ t. pos 0 ≺ t) h.sums h.some;
  sums = sym h.sums;
  atx = sym h.atx;
  aty = sym h.aty;
}

-- The other edge may be turned round.
pub Meet-uw : {a b u w : Vertex} → Meet a b w u → Meet a b u w
Meet-uw h = Meet-swap (Meet-ab (Meet-swap h))

-- That leaves the weights on the first edge.
pub Meet-uw_m : {a b u w : Vertex} (h : Meet a b w u) → (Meet-uw h).m ≡ h.m
unfolding Meet-uw Meet-swap Meet-ab
Meet-uw_m h = refl

-- The law for the edges a b and u w.
abbrev pub Telescopes : Vertex → Vertex → Vertex → Vertex → Type 0
Telescopes a b u w = crossed u w b +ℤ crossed_back a b u ≡ crossed u w a +ℤ crossed_back a b w

-- The law for edges that both rise.
tele0 : (a b u w : Vertex) → a.y ≼ b.y → u.y ≼ w.y → (Meet a b u w → ⊥) → Telescopes a b u w
unfolding crossed crossed_back
tele0 a b u w l m nope = core_t a.y b.y u.y w.y (cross u w a) (cross u w b) (cross a b u) (cross a b w) (four a b u w)
    (λ h1 h2 h3 h4 h5. nope (meet+ a b u w h1 h2 h3 h4 h5)) (λ h1 h2 h3 h4 h5. nope (meet- a b u w h1 h2 h3 h4 h5))
    (above a u) (above b u) (above a w) (above b w) (less_is a.y u.y) (less_is b.y u.y) (less_is a.y w.y) (less_is b.y w.y) l m

-- The second edge turned round.
tele_uw : (a b u w : Vertex) → Telescopes a b w u → Telescopes a b u w
tele_uw a b u w h = fin (crossed u w b) (crossed u w a) (crossed_back a b u) (crossed_back a b w) (crossed w u b) (crossed w u a) (crossed-anti u w b) (crossed-anti u w a) h
  where
    fin : (B A U W B' A' : ℤ) → B' ≡ neg_ℤ B → A' ≡ neg_ℤ A → B' +ℤ W ≡ A' +ℤ U → B +ℤ U ≡ A +ℤ W
    fin = order 6 (λ B A U W B' A'. (B' ≈ ⊖ B) ∷ (A' ≈ ⊖ A) ∷ (B' ⊞ W ≈ A' ⊞ U) ∷ [] ⊢ B ⊞ U ≈ A ⊞ W by times 0 (# (pos 1)) ⊕ times 1 (# (negsuc 0)) ⊕ times 2 (# (negsuc 0))) tt

-- The first edge turned round.
tele_ab : (a b u w : Vertex) → Telescopes b a u w → Telescopes a b u w
tele_ab a b u w h = fin (crossed u w b) (crossed u w a) (crossed_back a b u) (crossed_back a b w) (crossed_back b a u) (crossed_back b a w) (crossed_back-anti a b u) (crossed_back-anti a b w) h
  where
    fin : (B A U W U' W' : ℤ) → U' ≡ neg_ℤ U → W' ≡ neg_ℤ W → A +ℤ U' ≡ B +ℤ W' → B +ℤ U ≡ A +ℤ W
    fin = order 6 (λ B A U W U' W'. (U' ≈ ⊖ U) ∷ (W' ≈ ⊖ W) ∷ (A ⊞ U' ≈ B ⊞ W') ∷ [] ⊢ B ⊞ U ≈ A ⊞ W by times 0 (# (pos 1)) ⊕ times 1 (# (negsuc 0)) ⊕ times 2 (# (negsuc 0))) tt

-- It holds of edges that do not meet.
pub telescopes : (a b u w : Vertex) → (Meet a b u w → ⊥) → Telescopes a b u w
telescopes a b u w nope = ⊎_elim (λ i. first a b i nope) (λ i. tele_ab a b u w (first b a (<ℤ-≤ℤ i) (λ h. nope (Meet-ab h)))) (le_or_lt a.y b.y)
  where
    first : (a b : Vertex) → a.y ≼ b.y → (Meet a b u w → ⊥) → Telescopes a b u w
    first a b i nope = ⊎_elim (λ j. tele0 a b u w i j nope) (λ j. tele_uw a b u w (tele0 a b w u i (<ℤ-≤ℤ j) (λ h. nope (Meet-uw h)))) (le_or_lt u.y w.y)
