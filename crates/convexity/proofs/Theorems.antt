-- Document 02, "5/13 Gap for a round cutter": what is proved of the model's `separated`. That it is symmetric stands in the model (Conflict), and that it looks only at
-- how far one part is moved against the other (Moves). The other files of this crate are the way to the separating axis theorem: HalfPlanes (Helly's theorem), Bodies,
-- Edges, Separation; and from a direction that separates at a gap to distances: Distances (Cauchy and Schwarz), Near (what a distance is); Places and Clear go from
-- the model's words to theirs, and Members has the words of lists. Soundness says which parts are sound, Layouts goes on from `square-separated` to the layouts that pass by
-- document 01's measure (6/13), Examples compares the two measures. Assumes nothing.
use mathlib.Core.Path.{◌≡◌, refl, ◌∙◌}
use mathlib.Core.Bool.{Bool, true, false, ◌&&◌}
use mathlib.Core.Logic.{◌↔◌}
use Prim.Native.Nat.{ℕ, ◌≤◌, ◌<◌, zero-le}
use lib.IntN.{ℤ, pos, ◌+ℤ◌, ◌*ℤ◌}
use lib.ListN.{length}
use lib.Signed.{◌≤ℤ◌, ◌<ℤ◌}
use Rattle.integers.proofs.Order.{<ℤ-≤ℤ}
use Rattle.model.specs.Content.{Vertex, Part}
use Rattle.model.specs.Geometry.{vertex_at, Direction, direction, separates, disjoint, distance_squared, near_edge, separated}
use Rattle.model.specs.Lists.{any}
use Rattle.model.proofs.Lists.{not_both}
use Rattle.convexity.specs.Parts.{SoundPart, width}
use Rattle.convexity.specs.Points.{reach_squared}
use Rattle.convexity.specs.Square.{axes, separates_by, square_directions, square_separated}
use Rattle.convexity.proofs.Members.{any-in, is_false}
use Rattle.convexity.proofs.Near.{far-points, points_far, far-not_near, not_near-far}
use Rattle.convexity.proofs.Places.{zero_gap}
use Rattle.convexity.proofs.Clear.{nonzero, axis_some, direction-some, direction-round, width-round, width_some, corners-round, clear_zero, clear-less, round_says, round_of}

-- ---- Sound parts

module _ (P Q : Part) (sound_p : SoundPart P) (sound_q : SoundPart Q) where
  -- The separating axis theorem: if any direction but (0, 0) separates two sound parts, an edge's normal does. So nothing is lost as "The four axis directions go".
  pub separating_axis : (d : Direction) → (d ≡ direction (pos 0) (pos 0) → ⊥) → separates P Q d ≡ true → disjoint P Q ≡ true
  separating_axis d n s = (round_says 0 P Q (direction-round P Q sound_p sound_q 0 d (nonzero d n) (zero_gap P Q d ∙ s))).0

  -- What a direction separates at a gap by the square measure is separated at that gap.
  pub direction-separated : (h : ℕ) (d : Direction) → (d ≡ direction (pos 0) (pos 0) → ⊥) → separates_by h P Q d ≡ true → separated h P Q ≡ true
  direction-separated h d n s = direction-round P Q sound_p sound_q h d (nonzero d n) s

  -- So are parts whose bounding boxes are the gap apart along an axis: code may look at boxes first.
  pub axes-separated : (h : ℕ) → any (separates_by h P Q) axes ≡ true → separated h P Q ≡ true
  axes-separated h s = let r = any-in (separates_by h P Q) axes s in direction-round P Q sound_p sound_q h r.0 (axis_some r.0 r.1) r.2

  -- And so are parts that lie as far apart along any direction as the gap, or further: code may look along the one that it likes.
  pub width-separated : (h : ℕ) (d : Direction) → pos 0 <ℤ width P Q d → ((d.a *ℤ d.a +ℤ d.b *ℤ d.b) *ℤ (pos h *ℤ pos h)) ≤ℤ (width P Q d *ℤ width P Q d) → separated h P Q ≡ true
  width-separated h d w s = width-round P Q sound_p sound_q h d (width_some P Q sound_p sound_q d w) (<ℤ-≤ℤ w) s

  -- And so are all parts that document 01 separated.
  pub square-separated : (h : ℕ) → square_separated h P Q ≡ true → separated h P Q ≡ true
  unfolding square_separated
  square-separated h s =
      let r = any-in (separates_by h P Q) (square_directions P Q) s in
      direction-round P Q sound_p sound_q h r.0 (direction-some P Q sound_p sound_q r.0 r.1) r.2

-- ---- All parts

-- Parts with two corners nearer to each other than the gap are not separated at it: code may look at two corners first.
pub corners-near : (h : ℕ) (P Q : Part) (i j : ℕ) → i < length P → j < length Q → distance_squared (vertex_at P i) (vertex_at Q j) <ℤ (pos h *ℤ pos h) → separated h P Q ≡ false
unfolding distance_squared
corners-near h P Q i j hi hj l = is_false (separated h P Q) (corners-round h P Q i j hi hj l)

-- At gap 0 a direction that separates is all that is asked.
pub separated-zero : (P Q : Part) → separated 0 P Q ≡ disjoint P Q
unfolding separated
separated-zero P Q = rw (clear_zero P Q, clear_zero Q P) (and_true (disjoint P Q))
  where
    and_true : (b : Bool) → (b && true && true) ≡ b
    and_true true = refl
    and_true false = refl

-- A larger gap separates no more.
pub separated-less : (g h : ℕ) (P Q : Part) → g ≤ h → separated h P Q ≡ true → separated g P Q ≡ true
separated-less g h P Q l r =
    let s = round_says h P Q r in
    round_of g P Q s.0 (clear-less g h P Q l s.1) (clear-less g h Q P l s.2)

-- "Parts in conflict at gap 0 remain in conflict at every gap."
pub conflict-stays : (h : ℕ) (P Q : Part) → separated 0 P Q ≡ false → separated h P Q ≡ false
conflict-stays h P Q c = is_false (separated h P Q) (λ r. not_both (separated-less 0 h P Q zero-le r) c)

-- What is nearer: a corner is not nearer than h to an edge exactly if no point of the edge is. The points are (k · s + l · t) / (k + l), k and l at least 0 and not both 0.
pub not_near-points : (h : ℕ) (s t v : Vertex)
    → (near_edge h s t v ≡ false) ↔ ((k l : ℤ) → pos 0 ≤ℤ k → pos 0 ≤ℤ l → pos 0 <ℤ (k +ℤ l) → (pos h *ℤ pos h *ℤ ((k +ℤ l) *ℤ (k +ℤ l))) ≤ℤ reach_squared s t v k l)
not_near-points h s t v = (
  (λ n. far-points (pos h) v (record { s = s; t = t }) (not_near-far h (record { s = s; t = t }) v n)),
  (λ f. far-not_near h (record { s = s; t = t }) v (points_far (pos h) v (record { s = s; t = t }) f)),
)
