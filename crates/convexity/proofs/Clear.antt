-- The round test by corners and edges, and the tests over the model's directions. Assumes nothing.
use mathlib.Core.Path.{◌≡◌, ◌∙◌, ap, subst}
use mathlib.Core.Bool.{true, not, ◌&&◌}
use mathlib.Core.List.{[], ◌∷◌, map}
use mathlib.Core.Logic.{⊎_elim}
use Prim.Native.Nat.{ℕ, ◌<◌, ◌≤◌}
use native.Mathlib.Omega.{arith}
use borrow.Author.Tests.{not-true}
use lib.IntN.{ℤ, pos, ◌+ℤ◌, ◌-ℤ◌, ◌*ℤ◌}
use lib.ListN.{length}
use lib.Signed.{◌≤ℤ◌, ◌<ℤ◌, ≤ℤ_refl}
use Rattle.integers.proofs.Solver.{#, ◌⊞◌, ◌⊟◌, ◌⊠◌, ◌≲◌, ◌≺◌, never}
use Rattle.integers.proofs.Slack.{nonneg_pos}
use Rattle.integers.proofs.Certificates.{order, ◌⊢◌by◌, hyp, sqr, num, ◌⊕◌, ◌⊗◌}
use Rattle.integers.proofs.Order.{≤ℤ-trans, <ℤ-≤ℤ, *ℤ-mono, pos-≤ℤ}
use Rattle.model.specs.Content.{Vertex, vertex, Part}
use Rattle.model.specs.Geometry.{vertex_at, following, Direction, direction, normals, negated, directions, disjoint, near_edge, corners_clear, separated}
use Rattle.model.specs.Lists.{all}
use Rattle.model.proofs.Lists.{all-below, below_all, and_left, and_right, and_both}
use Rattle.convexity.specs.Parts.{SoundPart, width}
use Rattle.convexity.specs.Points.{reach_squared}
use Rattle.convexity.specs.Square.{axes, separates_by, square_directions}
use Rattle.convexity.proofs.Members.{In, not_in, cons, in_either, all_in, in_all, map-in}
use Rattle.convexity.proofs.HalfPlanes.{O, I, suc_pos, zero_or}
use Rattle.convexity.proofs.Edges.{Edge, edges, area, Good}
use Rattle.convexity.proofs.Separation.{dot, Wide, out-nz, into_nz}
use Rattle.convexity.proofs.Distances.{d2, Far, wide_apart, wide_edge, sep_apart, sep_edge}
use Rattle.convexity.proofs.Places.{edge_at, in_edges, edges_in, in_part, normals-in, separates-corners, width-corners, edge_separated, sound-good}
use Rattle.convexity.proofs.Near.{far-not_near, not_near-far, far-points}

pub good : {P : Part} → SoundPart P → Good P
good {P} s = sound-good P s.is_sound s.corners

pub some : {P : Part} → SoundPart P → 0 < length P
some s = omega (arith, s.corners)

-- ---- corners clear of edges

pub clear-far : (h : ℕ) (P Q : Part) → corners_clear h P Q ≡ true → (v : Vertex) (e : Edge) → In v P → In e (edges Q) → Far (pos h) v e
unfolding corners_clear
clear-far h P Q c v e i j =
    let r = edges_in Q e j in
    subst (λ (e : Edge). Far (pos h) v e) r.2
    (not_near-far h (edge_at Q r.0) v (not-true _ (all_in _ P (all-below (λ i. all (λ v. not (near_edge h (vertex_at Q i) (vertex_at Q (following Q i)) v)) P) (length Q) c r.0 r.1) v i)))

pub far-clear : (h : ℕ) (P Q : Part) → ((v : Vertex) (e : Edge) → In v P → In e (edges Q) → Far (pos h) v e) → corners_clear h P Q ≡ true
unfolding corners_clear
far-clear h P Q f =
    below_all _ (length Q)
    (λ i l. in_all (λ v. not (near_edge h (vertex_at Q i) (vertex_at Q (following Q i)) v)) P (λ v j. ap not (far-not_near h (edge_at Q i) v (f v (edge_at Q i) j (in_edges Q i l)))))

-- at gap 0 nothing is asked
pub clear_zero : (P Q : Part) → corners_clear 0 P Q ≡ true
clear_zero P Q =
    far-clear 0 P Q (λ v e i j. record {
      before = λ p. squares (v.x -ℤ e.s.x) (v.y -ℤ e.s.y);
      after = λ p q. squares (v.x -ℤ e.t.x) (v.y -ℤ e.t.y);
      beside = λ p q. square (d2 e.s e.t) (area e.s e.t v);
    })
  where
    squares : (x y : ℤ) → (pos 0 *ℤ pos 0) ≤ℤ (x *ℤ x +ℤ y *ℤ y)
    squares = order 2 (λ x y. [] ⊢ # (pos 0) ⊠ # (pos 0) ≲ x ⊠ x ⊞ y ⊠ y by sqr x ⊕ sqr y) tt

    square : (l x : ℤ) → (pos 0 *ℤ pos 0 *ℤ l) ≤ℤ (x *ℤ x)
    square = order 2 (λ l x. [] ⊢ # (pos 0) ⊠ # (pos 0) ⊠ l ≲ x ⊠ x by sqr x) tt

-- what is clear at a gap is clear at a smaller one
far-less : (g h : ℕ) → g ≤ h → (v : Vertex) (e : Edge) → Far (pos h) v e → Far (pos g) v e
far-less g h l v e f = record {
  before = λ p. ≤ℤ-trans smaller (f.before p);
  after = λ p q. ≤ℤ-trans smaller (f.after p q);
  beside = λ p q. ≤ℤ-trans (*ℤ-mono smaller (≤ℤ-trans (<ℤ-≤ℤ p) (<ℤ-≤ℤ q))) (f.beside p q);
}
  where
    smaller : (pos g *ℤ pos g) ≤ℤ (pos h *ℤ pos h)
    smaller = order 2 (λ g h. (# (pos 0) ≲ g) ∷ (g ≲ h) ∷ [] ⊢ g ⊠ g ≲ h ⊠ h by hyp 1 ⊗ (hyp 1 ⊕ num 2 ⊗ hyp 0)) tt (pos g) (pos h) (nonneg_pos g) (pos-≤ℤ l)

pub clear-less : (g h : ℕ) (P Q : Part) → g ≤ h → corners_clear h P Q ≡ true → corners_clear g P Q ≡ true
clear-less g h P Q l c = far-clear g P Q (λ v e i j. far-less g h l v e (clear-far h P Q c v e i j))

-- ---- the three tests of the round measure

pub round_says : (h : ℕ) (P Q : Part) → separated h P Q ≡ true → (disjoint P Q ≡ true) × (corners_clear h P Q ≡ true) × (corners_clear h Q P ≡ true)
unfolding separated
round_says h P Q r =
    let f = and_left (disjoint P Q && corners_clear h P Q) (corners_clear h Q P) r in
    (and_left (disjoint P Q) (corners_clear h P Q) f, and_right (disjoint P Q) (corners_clear h P Q) f, and_right (disjoint P Q && corners_clear h P Q) (corners_clear h Q P) r)

pub round_of : (h : ℕ) (P Q : Part) → disjoint P Q ≡ true → corners_clear h P Q ≡ true → corners_clear h Q P ≡ true → separated h P Q ≡ true
unfolding separated
round_of h P Q e c d = and_both (disjoint P Q && corners_clear h P Q) (corners_clear h Q P) (and_both (disjoint P Q) (corners_clear h P Q) e c) d

-- ---- directions that are not (0, 0)

abbrev pub Some : Direction → Type 0
Some d = pos 0 <ℤ (d.a *ℤ d.a +ℤ d.b *ℤ d.b)

pub nonzero : (d : Direction) → (d ≡ direction (pos 0) (pos 0) → ⊥) → Some d
nonzero d n =
    ⊎_elim (λ p. ⊎_elim (λ q. absurd (n (ap {B = Direction} (λ a. direction a d.b) p ∙ ap {B = Direction} (λ b. direction (pos 0) b) q))) (λ h. second d.a d.b h) (zero_or d.b))
    (λ h. first d.a d.b h) (zero_or d.a)
  where
    first : (a b : ℤ) → pos 0 <ℤ (a *ℤ a) → pos 0 <ℤ (a *ℤ a +ℤ b *ℤ b)
    first = order 2 (λ a b. (# (pos 0) ≺ a ⊠ a) ∷ [] ⊢ # (pos 0) ≺ a ⊠ a ⊞ b ⊠ b by hyp 0 ⊕ sqr b) tt

    second : (a b : ℤ) → pos 0 <ℤ (b *ℤ b) → pos 0 <ℤ (a *ℤ a +ℤ b *ℤ b)
    second = order 2 (λ a b. (# (pos 0) ≺ b ⊠ b) ∷ [] ⊢ # (pos 0) ≺ a ⊠ a ⊞ b ⊠ b by hyp 0 ⊕ sqr a) tt

pub axis_some : (d : Direction) → In d axes → Some d
unfolding axes
axis_some = cons Some (suc_pos 0) (cons Some (suc_pos 0) (cons Some (suc_pos 0) (cons Some (suc_pos 0) (λ d i. absurd (not_in i)))))

module _ (P Q : Part) (sound_p : SoundPart P) (sound_q : SoundPart Q) where
  pub edge_some : (d : Direction) → In d (directions P Q) → Some d
  unfolding directions negated
  edge_some d i =
      ⊎_elim (λ j. let r = normals-in P d j in subst Some r.2 (out-nz P (good sound_p) r.0 r.1))
      (λ j. let m = map-in negated (normals Q) d j in
      let r = normals-in Q m.0 m.1 in
      subst Some (ap negated r.2 ∙ m.2) (into_nz Q (good sound_q) r.0 r.1))
      (in_either (normals P) (map negated (normals Q)) i)

  pub direction-some : (d : Direction) → In d (square_directions P Q) → Some d
  unfolding square_directions
  direction-some d i = ⊎_elim (edge_some d) (axis_some d) (in_either (directions P Q) axes i)

  -- What one direction separates at gap h is separated by the round measure.
  pub direction-round : (h : ℕ) (d : Direction) → Some d → separates_by h P Q d ≡ true → separated h P Q ≡ true
  direction-round h d n s =
      let c = separates-corners h P Q (some sound_p) (some sound_q) d s in
      let r = sep_apart (pos h) d.a d.b P Q (nonneg_pos h) n c in
      round_of h P Q (edge_separated P Q (some sound_p) (some sound_q) (sep_edge P Q (pos h) d.a d.b (good sound_p) (good sound_q) (nonneg_pos h) n c)) (far-clear h P Q r.first) (far-clear h Q P r.second)

  -- So is what lies as far apart along it as the gap, or further.
  pub width-round : (h : ℕ) (d : Direction) → Some d → pos 0 ≤ℤ width P Q d → ((d.a *ℤ d.a +ℤ d.b *ℤ d.b) *ℤ (pos h *ℤ pos h)) ≤ℤ (width P Q d *ℤ width P Q d) → separated h P Q ≡ true
  width-round h d n w s =
      let c = width-corners h P Q (some sound_p) (some sound_q) d in
      let r = wide_apart (pos h) (width P Q d) d.a d.b P Q w n s c in
      round_of h P Q (edge_separated P Q (some sound_p) (some sound_q) (wide_edge P Q (width P Q d) d.a d.b (good sound_p) (good sound_q) w n c)) (far-clear h P Q r.first) (far-clear h Q P r.second)

  -- Parts that lie apart along a direction do so along one that is not (0, 0).
  pub width_some : (d : Direction) → pos 0 <ℤ width P Q d → Some d
  width_some d w = nonzero d (λ e.
      none (width P Q d) (vertex_at P 0) (vertex_at Q 0) w
      (subst (λ (f : Direction). Wide (width P Q d) f.a f.b P Q) e (width-corners 0 P Q (some sound_p) (some sound_q) d) (vertex_at P 0) (vertex_at Q 0) (in_part P 0 (some sound_p)) (in_part Q 0 (some sound_q))))
    where
      none : (w : ℤ) (p q : Vertex) → pos 0 <ℤ w → (dot (pos 0) (pos 0) p +ℤ w) ≤ℤ dot (pos 0) (pos 0) q → ⊥
      none w p q = order 5 (λ w px py qx qy. (O ≺ w) ∷ (O ⊠ px ⊞ O ⊠ py ⊞ w ≲ O ⊠ qx ⊞ O ⊠ qy) ∷ [] ⊢ never by hyp 0 ⊕ hyp 1) tt w p.x p.y q.x q.y

-- Parts with two corners nearer than the gap are not separated at it.
pub corners-round : (h : ℕ) (P Q : Part) (i j : ℕ) → i < length P → j < length Q → d2 (vertex_at P i) (vertex_at Q j) <ℤ (pos h *ℤ pos h) → separated h P Q ≡ true → ⊥
corners-round h P Q i j hi hj l r =
    let s : Vertex = vertex_at P i in
    let t : Vertex = vertex_at P (following P i) in
    let v : Vertex = vertex_at Q j in
    at_start (pos h) s.x s.y t.x t.y v.x v.y l
    (far-points (pos h) v (edge_at P i) (clear-far h Q P (round_says h P Q r).2 v (edge_at P i) (in_part Q j hj) (in_edges P i hi)) (pos 1) (pos 0) (<ℤ-≤ℤ (suc_pos 0)) (≤ℤ_refl (pos 0)) (suc_pos 0))
  where
    -- the point of the edge is its start
    at_start : (h sx sy tx ty vx vy : ℤ) → ((vx -ℤ sx) *ℤ (vx -ℤ sx) +ℤ (vy -ℤ sy) *ℤ (vy -ℤ sy)) <ℤ (h *ℤ h)
        → (h *ℤ h *ℤ ((pos 1 +ℤ pos 0) *ℤ (pos 1 +ℤ pos 0))) ≤ℤ reach_squared (vertex sx sy) (vertex tx ty) (vertex vx vy) (pos 1) (pos 0) → ⊥
    at_start = order 7 (λ h sx sy tx ty vx vy.
        ((vx ⊟ sx) ⊠ (vx ⊟ sx) ⊞ (vy ⊟ sy) ⊠ (vy ⊟ sy) ≺ h ⊠ h)
        ∷ (h ⊠ h ⊠ ((I ⊞ O) ⊠ (I ⊞ O)) ≲ (I ⊠ (sx ⊟ vx) ⊞ O ⊠ (tx ⊟ vx)) ⊠ (I ⊠ (sx ⊟ vx) ⊞ O ⊠ (tx ⊟ vx)) ⊞ (I ⊠ (sy ⊟ vy) ⊞ O ⊠ (ty ⊟ vy)) ⊠ (I ⊠ (sy ⊟ vy) ⊞ O ⊠ (ty ⊟ vy))) ∷ []
        ⊢ never by hyp 0 ⊕ hyp 1) tt
