-- Document 01, "The job's bytes" (sound parts), "Dots and candidates" (turns) and "Gap and conflict" (separation), and document 02, "5/13 Gap for a round
-- cutter" (distances).
use Rattle.std.specs.Prelude.{Bool, not, cond, ◌&&◌, ◌||◌, List, ◌++◌, map, ℕ, zero, suc, ◌*◌, eqb, ℤ, pos, neg_ℤ, ◌+ℤ◌, ◌-ℤ◌, ◌*ℤ◌, length, get_or}
use Rattle.std.specs.Int.Signed.{le_z, lt_z}
use Rattle.model.specs.Content.{Vertex, vertex, Part, origin}
use Rattle.model.specs.Lists.{all, any, below, largest_z, smallest_z}

-- "One quarter turn takes (x, y) to (-y, x)."
unfoldable pub quarter_turn : Vertex → Vertex
quarter_turn v = vertex (neg_ℤ v.y) v.x

-- "bit k allows k quarter turns"
unfoldable pub rotated : ℕ → Vertex → Vertex
rotated zero v = v
rotated (suc k) v = quarter_turn (rotated k v)

-- The corner moved by (dx, dy).
unfoldable pub moved : ℕ → ℕ → Vertex → Vertex
moved dx dy v = vertex (v.x +ℤ pos dx) (v.y +ℤ pos dy)

-- The corner moved by (dx, dy), each of either sign.
abbrev pub shifted : ℤ → ℤ → Vertex → Vertex
shifted dx dy v = vertex (v.x +ℤ dx) (v.y +ℤ dy)

-- Corner i of a part.
unfoldable pub vertex_at : Part → ℕ → Vertex
vertex_at P i = get_or P i origin

-- The corner after corner i: the first one after the last.
unfoldable pub following : Part → ℕ → ℕ
following P i = cond (eqb (suc i) (length P)) 0 (suc i)

-- Twice the area of the triangle p, q, r: above 0 exactly if r lies left of the line from p to q.
unfoldable pub cross : Vertex → Vertex → Vertex → ℤ
cross p q r = (q.x -ℤ p.x) *ℤ (r.y -ℤ p.y) -ℤ (q.y -ℤ p.y) *ℤ (r.x -ℤ p.x)

-- "lies strictly left of it"
unfoldable pub strictly_left : Vertex → Vertex → Vertex → Bool
strictly_left p q r = lt_z (pos 0) (cross p q r)

-- Every corner but i and the one after it lies strictly left of the edge from i to the one after it.
unfoldable pub edge_sound : Part → ℕ → Bool
edge_sound P i =
    all
    (λ k. eqb k i || eqb k (following P i) || strictly_left (vertex_at P i) (vertex_at P (following P i)) (vertex_at P k))
    (below (length P))

-- "A part is sound if, for each edge from one corner to the next, every other corner lies strictly left of it."
unfoldable pub sound : Part → Bool
sound P = all (edge_sound P) (below (length P))

-- "A direction (a, b)"
pub record Direction : Type 0 where
  pub a : ℤ
  pub b : ℤ

abbrev pub direction : ℤ → ℤ → Direction
direction a b = record { a = a; b = b }

-- The outward normal of the edge from p to q of a sound part: a quarter turn to the right, away from the other corners.
unfoldable pub outward_normal : Vertex → Vertex → Direction
outward_normal p q = direction (q.y -ℤ p.y) (p.x -ℤ q.x)

-- "the outward normals of P's edges"
unfoldable pub normals : Part → List Direction
normals P = map (λ i. outward_normal (vertex_at P i) (vertex_at P (following P i))) (below (length P))

-- The opposite direction.
unfoldable pub negated : Direction → Direction
negated d = direction (neg_ℤ d.a) (neg_ℤ d.b)

-- "The directions are the outward normals of P's edges, the negated outward normals of Q's edges". Document 02, 5/13: "The four axis directions go."
unfoldable pub directions : Part → Part → List Direction
directions P Q = normals P ++ map negated (normals Q)

-- "a × x + b × y"
unfoldable pub along : Direction → Vertex → ℤ
along d v = d.a *ℤ v.x +ℤ d.b *ℤ v.y

-- "A direction (a, b) separates them if the largest a × x + b × y over P .. is at most the smallest over Q", at gap 0: they may touch.
unfoldable pub separates : Part → Part → Direction → Bool
separates P Q d = le_z (largest_z (map (along d) P)) (smallest_z (map (along d) Q))

-- A direction separates the parts: they are not "in conflict at gap 0".
unfoldable pub disjoint : Part → Part → Bool
disjoint P Q = any (separates P Q) (directions P Q)

-- The squared distance of two corners.
unfoldable pub distance_squared : Vertex → Vertex → ℤ
distance_squared p q = (q.x -ℤ p.x) *ℤ (q.x -ℤ p.x) +ℤ (q.y -ℤ p.y) *ℤ (q.y -ℤ p.y)

-- How far along the edge from s to t the corner v stands, times the edge's length: at most 0 before s, at least the squared length beyond t.
unfoldable pub along_edge : Vertex → Vertex → Vertex → ℤ
along_edge s t v = (t.x -ℤ s.x) *ℤ (v.x -ℤ s.x) +ℤ (t.y -ℤ s.y) *ℤ (v.y -ℤ s.y)

-- The corner v is nearer than h to the edge from s to t. Document 02, 5/13: "An edge is a segment: beyond its ends the end corner counts. Distances are
-- compared squared, in whole numbers." (Beside the edge the distance from its line is `cross`, whatever its sign, divided by the edge's length.)
unfoldable pub near_edge : ℕ → Vertex → Vertex → Vertex → Bool
near_edge h s t v =
    cond (le_z (along_edge s t v) (pos 0)) (lt_z (distance_squared s v) (pos (h * h)))
    (cond (le_z (distance_squared s t) (along_edge s t v)) (lt_z (distance_squared t v) (pos (h * h)))
    (lt_z (cross s t v *ℤ cross s t v) (pos (h * h) *ℤ distance_squared s t)))

-- "no corner of a part is nearer than h to an edge of the other part": no corner of P to an edge of Q. (At h = 0 nothing is asked: no distance is below 0.)
unfoldable pub corners_clear : ℕ → Part → Part → Bool
corners_clear h P Q = all (λ i. all (λ v. not (near_edge h (vertex_at Q i) (vertex_at Q (following Q i)) v)) P) (below (length Q))

-- The parts are separated at this gap. Document 02, 5/13: "Parts in conflict at gap 0 remain in conflict at every gap", and "A pair gap h above 0 now means
-- that no corner of a part is nearer than h to an edge of the other part."
unfoldable pub separated : ℕ → Part → Part → Bool
separated h P Q = disjoint P Q && corners_clear h P Q && corners_clear h Q P

-- "Two pieces are in conflict if some part P of one and Q of the other are not separated."
unfoldable pub pieces_conflict : ℕ → List Part → List Part → Bool
pieces_conflict gap Ps Qs = any (λ P. any (λ Q. not (separated gap P Q)) Qs) Ps
