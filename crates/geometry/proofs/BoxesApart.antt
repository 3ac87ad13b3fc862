-- Pieces whose bounding boxes are the gap apart along an axis are not in conflict. Assumes nothing.
use mathlib.Core.Bool.{Bool, true, false, not, ◌||◌}
use mathlib.Core.List.{List, [], ◌∷◌, map}
use mathlib.Core.Path.{◌≡◌, refl, sym, ap, subst, ◌∙◌, fun_ext}
use Prim.Native.Nat.{ℕ, ◌<◌}
use native.Mathlib.Nat.{mul-one}
use native.Mathlib.Omega.{arith}
use lib.IntN.{ℤ, pos, nat_abs, ◌+ℤ◌, +ℤ_idr}
use lib.ListN.{length, length-append}
use lib.Signed.{le_z, ◌≤ℤ◌, ≤ℤ_refl}
use Rattle.integers.proofs.Solver.{ring, #, ◌⊞◌, ◌⊠◌, ◌≈◌, ◌≲◌}
use Rattle.integers.proofs.Certificates.{order, ◌⊢◌by◌, hyp, ◌⊕◌}
use Rattle.integers.proofs.Order.{≤ℤ-trans, le_z_true, le_le_z}
use Rattle.integers.proofs.Extrema.{max_upper_left, max_upper_right, min_lower-left, min_lower-right}
use Rattle.model.specs.Content.{Vertex, vertex, Part}
use Rattle.model.specs.Geometry.{Direction, direction, along, separated, pieces_conflict}
use Rattle.model.specs.Lists.{any, concat, largest_z, smallest_z}
use Rattle.model.proofs.Box.{concat-one}
use Rattle.model.proofs.Conflict.{separated-symmetric}
use Rattle.model.proofs.Moves.{Vertexed, largest-shifted, smallest_shifted}
use Rattle.convexity.specs.Parts.{SoundPart, SoundParts}
use Rattle.convexity.specs.Square.{clearance, separates_by}
use Rattle.convexity.proofs.Soundness.{shifted-sound, vertexed_sound}
use Rattle.convexity.proofs.Theorems.{direction-separated}
use Rattle.polygons.specs.Boxes.{extents_of, joined}
use Rattle.polygons.specs.Flat.{shifted}
use Rattle.polygons.specs.declared.extents.Extents.{Extents}
use Rattle.polygons.proofs.BoxLaws.{extents_append}
use Rattle.geometry.specs.Apart.{clear_of, boxes_apart}

-- ---- boxes within boxes

-- The box e lies within the box f.
pub record Inside (e f : Extents) : Type 0 where
  pub left : f.min_x ≤ℤ e.min_x
  pub right : e.max_x ≤ℤ f.max_x
  pub bottom : f.min_y ≤ℤ e.min_y
  pub top : e.max_y ≤ℤ f.max_y

pub inside-self : (e : Extents) → Inside e e
inside-self e = record { left = ≤ℤ_refl e.min_x; right = ≤ℤ_refl e.max_x; bottom = ≤ℤ_refl e.min_y; top = ≤ℤ_refl e.max_y }

pub inside-trans : (e f g : Extents) → Inside e f → Inside f g → Inside e g
inside-trans e f g a b =
    record { left = ≤ℤ-trans b.left a.left; right = ≤ℤ-trans a.right b.right; bottom = ≤ℤ-trans b.bottom a.bottom; top = ≤ℤ-trans a.top b.top }

-- each of two boxes lies within the box around both
pub inside-first : (e f : Extents) → Inside e (joined e f)
unfolding joined
inside-first e f =
    record {
      left = min_lower-left e.min_x f.min_x;
      right = max_upper_left e.max_x f.max_x;
      bottom = min_lower-left e.min_y f.min_y;
      top = max_upper_left e.max_y f.max_y;
    }

pub inside-second : (e f : Extents) → Inside f (joined e f)
unfolding joined
inside-second e f =
    record {
      left = min_lower-right e.min_x f.min_x;
      right = max_upper_right e.max_x f.max_x;
      bottom = min_lower-right e.min_y f.min_y;
      top = max_upper_right e.max_y f.max_y;
    }

-- ---- smaller boxes are apart where larger ones are

-- one test of order, its left side smaller and its right side larger
shrunk : (a a' b b' c k d : ℤ) → a' ≤ℤ a → b ≤ℤ b' → le_z (a +ℤ c +ℤ k) (b +ℤ d) ≡ true → le_z (a' +ℤ c +ℤ k) (b' +ℤ d) ≡ true
shrunk a a' b b' c k d h l e =
    le_le_z (a' +ℤ c +ℤ k) (b' +ℤ d)
    (order 7 (λ a p b q c k d. (p ≲ a) ∷ (b ≲ q) ∷ (a ⊞ c ⊞ k ≲ b ⊞ d) ∷ [] ⊢ p ⊞ c ⊞ k ≲ q ⊞ d by hyp 0 ⊕ hyp 1 ⊕ hyp 2) tt a a' b b' c k d h l
    (le_z_true (a +ℤ c +ℤ k) (b +ℤ d) e))

-- one of four tests holds
or_four_held : (a b c d a' b' c' d' : Bool) → (a ≡ true → a' ≡ true) → (b ≡ true → b' ≡ true) → (c ≡ true → c' ≡ true) → (d ≡ true → d' ≡ true)
    → (a || b || c || d) ≡ true → (a' || b' || c' || d') ≡ true
or_four_held true b c d a' b' c' d' p q r s e = rw (p refl)
or_four_held false true c d true b' c' d' p q r s e = refl
or_four_held false true c d false b' c' d' p q r s e = rw (q refl)
or_four_held false false true d true b' c' d' p q r s e = refl
or_four_held false false true d false true c' d' p q r s e = refl
or_four_held false false true d false false c' d' p q r s e = rw (r refl)
or_four_held false false false d true b' c' d' p q r s e = refl
or_four_held false false false d false true c' d' p q r s e = refl
or_four_held false false false d false false true d' p q r s e = refl
or_four_held false false false d false false false d' p q r s e = s e

pub apart-within : (gap : ℕ) (e f E F : Extents) (dx dy : ℤ) → Inside e E → Inside f F → boxes_apart gap E F dx dy ≡ true → boxes_apart gap e f dx dy ≡ true
unfolding boxes_apart
apart-within gap e f E F dx dy a b =
    or_four_held
    (le_z (E.max_x +ℤ pos 0 +ℤ pos gap) (F.min_x +ℤ dx))
    (le_z (E.max_y +ℤ pos 0 +ℤ pos gap) (F.min_y +ℤ dy))
    (le_z (F.max_x +ℤ dx +ℤ pos gap) (E.min_x +ℤ pos 0))
    (le_z (F.max_y +ℤ dy +ℤ pos gap) (E.min_y +ℤ pos 0))
    (le_z (e.max_x +ℤ pos 0 +ℤ pos gap) (f.min_x +ℤ dx))
    (le_z (e.max_y +ℤ pos 0 +ℤ pos gap) (f.min_y +ℤ dy))
    (le_z (f.max_x +ℤ dx +ℤ pos gap) (e.min_x +ℤ pos 0))
    (le_z (f.max_y +ℤ dy +ℤ pos gap) (e.min_y +ℤ pos 0))
    (shrunk E.max_x e.max_x F.min_x f.min_x (pos 0) (pos gap) dx a.right b.left)
    (shrunk E.max_y e.max_y F.min_y f.min_y (pos 0) (pos gap) dy a.top b.bottom)
    (shrunk F.max_x f.max_x E.min_x e.min_x dx (pos gap) (pos 0) b.right a.left)
    (shrunk F.max_y f.max_y E.min_y e.min_y dy (pos gap) (pos 0) b.top a.bottom)

-- ---- the parts of a piece

-- The box of each part lies within the box e.
abbrev pub AllInside : Extents → List Part → Type 0
AllInside e [] = Unit {0}
AllInside e (P ∷ Ps) = Inside (extents_of P) e × AllInside e Ps

-- some parts, each with a vertex, have one together
concat-vertex : (P : Part) (Ps : List Part) → 0 < length P → 0 < length (concat (P ∷ Ps))
unfolding concat
concat-vertex P Ps h = rw (length-append P (concat Ps)) (omega arith)

-- The box of each part lies within the box of the piece, and so within any box around that.
pub parts-inside : (Ps : List Part) → Vertexed Ps → (e : Extents) → Inside (extents_of (concat Ps)) e → AllInside e Ps
unfolding concat
parts-inside [] h e i = tt
parts-inside (P ∷ []) h e i = (subst (λ (vs : Part). Inside (extents_of vs) e) (concat-one P) i, tt)
parts-inside (P ∷ Q ∷ Ps) h e i =
    let both : Inside (joined (extents_of P) (extents_of (concat (Q ∷ Ps)))) e =
    subst (λ (f : Extents). Inside f e) (extents_append P (concat (Q ∷ Ps)) h.0 (concat-vertex Q Ps h.1.0)) i in (
      inside-trans _ _ _ (inside-first (extents_of P) (extents_of (concat (Q ∷ Ps)))) both,
      parts-inside (Q ∷ Ps) h.1 e (inside-trans _ _ _ (inside-second (extents_of P) (extents_of (concat (Q ∷ Ps)))) both),
    )

-- ---- parts whose boxes are apart

unit_x : Direction
unit_x = direction (pos 1) (pos 0)

unit_y : Direction
unit_y = direction (pos 0) (pos 1)

along-x : along unit_x ≡ (λ v. v.x)
unfolding along unit_x
along-x = fun_ext (λ v. ring 2 (λ x y. # (pos 1) ⊠ x ⊞ # (pos 0) ⊠ y ≈ x) tt v.x v.y)

along-y : along unit_y ≡ (λ v. v.y)
unfolding along unit_y
along-y = fun_ext (λ v. ring 2 (λ x y. # (pos 0) ⊠ x ⊞ # (pos 1) ⊠ y ≈ y) tt v.x v.y)

-- An axis direction u, along which g measures.
pub record Axis (u : Direction) (g : Vertex → ℤ) : Type 0 where
  pub measure : along u ≡ g
  pub pad : (gap : ℕ) → clearance gap u ≡ pos gap
  pub some : u ≡ direction (pos 0) (pos 0) → ⊥

axis_x : Axis unit_x (λ v. v.x)
unfolding clearance unit_x
axis_x = record { measure = along-x; pad = λ gap. ap pos (mul-one gap); some = λ e. let n : ◌≡◌ {A = ℕ} 1 0 = ap (λ (d : Direction). nat_abs d.a) e in omega arith }

axis_y : Axis unit_y (λ v. v.y)
unfolding clearance unit_y
axis_y = record { measure = along-y; pad = λ gap. ap pos (mul-one gap); some = λ e. let n : ◌≡◌ {A = ℕ} 1 0 = ap (λ (d : Direction). nat_abs d.b) e in omega arith }

module _ (gap : ℕ) (P Q : Part) (dx dy : ℤ) (sound_p : SoundPart P) (sound_q : SoundPart Q) where
  abbrev R : Part
  R = map (shifted dx dy) Q

  some_q : 0 < length Q
  some_q = omega (arith, sound_q.corners)

  module _ {u : Direction} {g : Vertex → ℤ} (axis : Axis u g) where
    -- P ends the gap before Q begins
    before : clear_of gap (largest_z (map g P)) (pos 0) (smallest_z (map g Q)) (g (vertex dx dy)) ≡ true → separated gap P R ≡ true
    unfolding separates_by
    before e =
        direction-separated P R sound_p (shifted-sound dx dy Q sound_q) gap u axis.some
        (ap (le_z (largest_z (map (along u) P) +ℤ clearance gap u)) (smallest_shifted u dx dy Q some_q)
        ∙ ap (λ k. le_z (largest_z (map (along u) P) +ℤ k) (smallest_z (map (along u) Q) +ℤ along u (vertex dx dy))) (axis.pad gap)
        ∙ ap (λ (f : Vertex → ℤ). le_z (largest_z (map f P) +ℤ pos gap) (smallest_z (map f Q) +ℤ f (vertex dx dy))) axis.measure
        ∙ ap (λ s. le_z (s +ℤ pos gap) (smallest_z (map g Q) +ℤ g (vertex dx dy))) (sym (+ℤ_idr (largest_z (map g P)))) ∙ e)

    -- Q ends the gap before P begins
    behind : clear_of gap (largest_z (map g Q)) (g (vertex dx dy)) (smallest_z (map g P)) (pos 0) ≡ true → separated gap P R ≡ true
    unfolding separates_by
    behind e =
        separated-symmetric gap P R
        ∙ direction-separated R P (shifted-sound dx dy Q sound_q) sound_p gap u axis.some
        (ap (λ s. le_z (s +ℤ clearance gap u) (smallest_z (map (along u) P))) (largest-shifted u dx dy Q some_q)
        ∙ ap (λ k. le_z (largest_z (map (along u) Q) +ℤ along u (vertex dx dy) +ℤ k) (smallest_z (map (along u) P))) (axis.pad gap)
        ∙ ap (λ (f : Vertex → ℤ). le_z (largest_z (map f Q) +ℤ f (vertex dx dy) +ℤ pos gap) (smallest_z (map f P))) axis.measure
        ∙ ap (le_z (largest_z (map g Q) +ℤ g (vertex dx dy) +ℤ pos gap)) (sym (+ℤ_idr (smallest_z (map g P)))) ∙ e)

  -- Parts whose boxes are apart are separated.
  pub separated-boxes : boxes_apart gap (extents_of P) (extents_of Q) dx dy ≡ true → separated gap P R ≡ true
  unfolding boxes_apart extents_of
  separated-boxes = one_of_four _ _ _ _ (before axis_x) (before axis_y) (behind axis_x) (behind axis_y)
    where
      one_of_four : {C : Type 0} (a b c d : Bool) → (a ≡ true → C) → (b ≡ true → C) → (c ≡ true → C) → (d ≡ true → C) → (a || b || c || d) ≡ true → C
      one_of_four true b c d p q r s e = p refl
      one_of_four false true c d p q r s e = q refl
      one_of_four false false true d p q r s e = r refl
      one_of_four false false false d p q r s e = s e

-- ---- pieces

module _ (gap : ℕ) (E F : Extents) (dx dy : ℤ) (apart : boxes_apart gap E F dx dy ≡ true) where
  -- one part against all of the other piece
  part_apart : (P : Part) (Qs : List Part) → SoundPart P → Inside (extents_of P) E → SoundParts Qs → AllInside F Qs
      → any (λ Q. not (separated gap P Q)) (map (map (shifted dx dy)) Qs) ≡ false
  unfolding any
  part_apart P [] g i h k = refl
  part_apart P (Q ∷ Qs) g i h k =
      ap (λ t. not t || any (λ Q. not (separated gap P Q)) (map (map (shifted dx dy)) Qs))
      (separated-boxes gap P Q dx dy g h.0 (apart-within gap (extents_of P) (extents_of Q) E F dx dy i k.0 apart))
      ∙ part_apart P Qs g i h.1 k.1

  -- Pieces within boxes that are apart are not in conflict.
  pieces-apart : (Ps Qs : List Part) → SoundParts Ps → AllInside E Ps → SoundParts Qs → AllInside F Qs → pieces_conflict gap Ps (map (map (shifted dx dy)) Qs) ≡ false
  unfolding pieces_conflict any
  pieces-apart [] Qs g i h k = refl
  pieces-apart (P ∷ Ps) Qs g i h k =
      ap (λ t. t || any (λ P. any (λ Q. not (separated gap P Q)) (map (map (shifted dx dy)) Qs)) Ps) (part_apart P Qs g.0 i.0 h k)
      ∙ pieces-apart Ps Qs g.1 i.1 h k

-- Pieces whose boxes are the gap apart along an axis are not in conflict.
pub boxes-apart : (gap : ℕ) (Ps Qs : List Part) (dx dy : ℤ) → SoundParts Ps → SoundParts Qs → boxes_apart gap (extents_of (concat Ps)) (extents_of (concat Qs)) dx dy ≡ true
    → pieces_conflict gap Ps (map (map (shifted dx dy)) Qs) ≡ false
boxes-apart gap Ps Qs dx dy h k e =
    pieces-apart gap (extents_of (concat Ps)) (extents_of (concat Qs)) dx dy e Ps Qs h (within Ps h) k (within Qs k)
  where
    within : (Ps : List Part) → SoundParts Ps → AllInside (extents_of (concat Ps)) Ps
    within Ps h = parts-inside Ps (vertexed_sound Ps h) (extents_of (concat Ps)) (inside-self (extents_of (concat Ps)))
