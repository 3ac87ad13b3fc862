-- The refusal by the corner numbers: each test is the definition's.
use mathlib.Core.Bool.{Bool, not, ◌&&◌, ◌||◌, and_assoc, or_assoc}
use mathlib.Core.List.{List}
use mathlib.Core.Path.{◌≡◌, sym, ap, ◌∙◌}
use Prim.Native.Nat.{ℕ, ◌≤◌, ◌<◌}
use borrow.Author.Tests.{eq-eqb, eqb-true}
use lib.Dec.{eqb, lit<}
use lib.IntN.{ℤ, pos, ◌+ℤ◌, ◌-ℤ◌, ◌*ℤ◌}
use lib.ListN.{length}
use lib.Signed.{le_z, lt_z}
use mir.Syntax.{w8, w64}
use mir.Val.{SFits, to_z, of_z}
use mir.ValLaws.{to_z-of_z}
use Rattle.integers.proofs.Machine.{same_bits}
use Rattle.model.specs.Content.{Vertex}
use Rattle.model.specs.Geometry.{cross, along_edge, vertex_at}
use Rattle.model.specs.Lists.{any, below}
use Rattle.model.proofs.Folds.{map-below-same}
use Rattle.model.proofs.Tests.{any-map}
use Rattle.outlines.specs.Outline.{is_zero, less_than, same_side, meet, doubles_back, edge_meets, edges_meet}
use Rattle.outlines.specs.Numbered.{others}
use Rattle.outlines.proofs.Rule.{zero_is, is_zero_lem}
use Rattle.outlines.proofs.Places.{same_bool}
use Rattle.outlines.proofs.EdgePlaces.{strikes, edge_at, edges_at}
use Rattle.simplicity.specs.Corners.{neighbours, strikes_in, edge_meets_in}
use Rattle.records.proofs.CornerLaws.{following-of}
use Rattle.simplicity.proofs.CornerLaws.{previous-of}

-- ---- Two edges

-- A coordinate as a call hands it on.
abbrev lent : ℤ → ℤ
lent z = to_z w8 (of_z w8 z)

pub less_read : (p u t : ℤ) (r : Bool) → SFits w8 p → SFits w8 u → SFits w8 t → r ≡ (lt_z (lent p) (lent u) && lt_z
    (lent p) (lent t))
    → r ≡ (lt_z p u && lt_z p t)
less_read p u t r fp fu ft e =
    e ∙ (λ i. lt_z (to_z-of_z w8 p fp i) (to_z-of_z w8 u fu i) && lt_z (to_z-of_z w8 p fp i) (to_z-of_z w8 t ft i))

-- Both ends of an edge are less than both ends of the other.
pub less_than_lem : (a b u t : ℤ) → ((lt_z a u && lt_z a t) && (lt_z b u && lt_z b t)) ≡ less_than a b u t
unfolding less_than
less_than_lem a b u t = sym (and_assoc (lt_z a u && lt_z a t) (lt_z b u) (lt_z b t))

module _ (a b u t : ℤ) (fa : SFits w8 a) (fb : SFits w8 b) (fu : SFits w8 u) (ft : SFits w8 t) where
  pub apart-read : (w x y z : ℤ) (r : Bool)
      → r ≡ (less_than (lent a) (lent b) (lent u) (lent t) || less_than (lent u) (lent t) (lent a) (lent b)) → a ≡ w
      → b ≡ x → u ≡ y → t ≡ z
      → r ≡ (less_than w x y z || less_than y z w x)
  apart-read w x y z r e ew ex ey ez =
      let back : (v v' : ℤ) → SFits w8 v → v ≡ v' → lent v ≡ v' = λ (v v' : ℤ) (f : SFits w8 v) (q : v ≡ v'). to_z-of_z
      w8 v f ∙ q in
      let A = back a w fa ew in
      let B = back b x fb ex in
      let U = back u y fu ey in
      let T = back t z ft ez in
      e ∙ (λ i. less_than (A i) (B i) (U i) (T i) || less_than (U i) (T i) (A i) (B i))

-- The two tests along an axis are one function of the code.
six : (a b c d e f : Bool) → (((a || b) || (c || d)) || (e || f)) ≡ (a || b || c || d || e || f)
six a b c d e f = ap (λ x. x || (e || f)) (sym (or_assoc (a || b) c d)) ∙ sym (or_assoc (a || b || c || d) e f)

-- They meet, from the four tests of them.
pub meet-is : (a b u t : Vertex) (p q x y : Bool) → p ≡ same_side a b u t → q ≡ same_side u t a b
    → x ≡ (less_than a.x b.x u.x t.x || less_than u.x t.x a.x b.x) → y ≡ (less_than a.y b.y u.y t.y || less_than u.y
    t.y a.y b.y)
    → not (p || q || x || y) ≡ meet a b u t
unfolding meet
meet-is a b u t p q x y ep eq ex ey =
    ap not ((λ i. ep i || eq i || ex i || ey i)
    ∙ six (same_side a b u t) (same_side u t a b) (less_than a.x b.x u.x t.x) (less_than u.x t.x a.x b.x)
    (less_than a.y b.y u.y t.y)
    (less_than u.y t.y a.y b.y))

-- A number is 0 exactly if its 64 bits are: what `== 0` says.
pub zero_bits : (z : ℤ) → SFits w64 z → eqb (of_z w64 z) 0 ≡ is_zero z
zero_bits z h =
    same_bool (eqb (of_z w64 z) 0) (is_zero z)
    (λ q. is_zero_lem z (same_bits w64 z (pos 0) h (record { sfits = lit< tt }) (eqb-true (of_z w64 z) 0 q)))
    (λ q. eq-eqb (of_z w64 z) 0 (ap (of_z w64) (zero_is z q)))

-- The edges from p to c and from c to s double back.
pub doubles_is : (p c s : Vertex) (line : Bool) (z ax ay bx by : ℤ) → line ≡ is_zero (cross p c s) → z ≡ ax *ℤ bx +ℤ ay
    *ℤ by
    → ax ≡ p.x -ℤ c.x → ay ≡ p.y -ℤ c.y → bx ≡ s.x -ℤ c.x → by ≡ s.y -ℤ c.y → (line && le_z (pos 0) z) ≡ doubles_back p
    c s
unfolding doubles_back along_edge
doubles_is p c s line z ax ay bx by l e a b d f = rw (l, e, a, b, d, f)

-- ---- All edges

-- Tests that agree below n.
any-below-same : (p q : ℕ → Bool) (n : ℕ) → ((i : ℕ) → i < n → p i ≡ q i) → any p (below n) ≡ any q (below n)
any-below-same p q n h = sym (any-map (λ b. b) p (below n)) ∙ ap (any (λ b. b)) (map-below-same p q n h) ∙ any-map
    (λ b. b) q (below n)

module _ (P : List Vertex) where
  -- Edge j strikes edge i, and edge i meets another, by the numbers of their corners.
  strikes_same : (i j : ℕ) → strikes P i j ≡ strikes_in P i j
  unfolding strikes_in neighbours
  strikes_same i j =
      λ k. not (eqb j i || eqb j (previous-of P i k) || eqb j (following-of P i k))
      && meet (vertex_at P i) (vertex_at P (following-of P i k)) (vertex_at P j) (vertex_at P (following-of P j k))

  edge_same : (i : ℕ) → 3 ≤ length P → i < length P → edge_meets (vertex_at P i) (others P i) ≡ edge_meets_in P i
  unfolding edge_meets_in
  edge_same i three h =
      edge_at P i h three
      ∙ (λ k. doubles_back (vertex_at P (previous-of P i k)) (vertex_at P i) (vertex_at P (following-of P i k))
      || any-below-same (strikes P i) (strikes_in P i) (length P) (λ j l. strikes_same i j) k)

  -- Some two edges meet elsewhere than in a corner they share.
  pub edges_same : 3 ≤ length P → any (edge_meets_in P) (below (length P)) ≡ edges_meet P
  edges_same three =
      sym (edges_at P ∙ any-below-same (λ i. edge_meets (vertex_at P i) (others P i)) (edge_meets_in P) (length P)
      (λ i h. edge_same i three h))
