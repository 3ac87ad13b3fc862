-- `distances::corners::edge_near` meets its contract: the corner lies as far from the edge's start as the definition
-- says. Assumes nothing.
use mathlib.Core.Path.{◌≡◌, sym, ◌∙◌, ap}
use Prim.Native.Nat.{ℕ, ◌<◌}
use native.Mathlib.Nat.{le_trans}
use native.Mathlib.Omega.{arith}
use lib.Dec.{lit≤}
use lib.IntN.{ℤ, ◌-ℤ◌}
use lib.ListN.{length}
use Rattle.model.specs.Content.{vertex, Part, origin}
use Rattle.model.specs.Geometry.{vertex_at, following, near_edge}
use Rattle.model.proofs.Moves.{near-from}
use Rattle.polygons.specs.Flat.{part_of}
use Rattle.polygons.proofs.Flat.{part_length}
use Rattle.distances.specs.Compact.{Compact, Short}
use Rattle.distances.proofs.DistanceLaws.{short_as}
use Rattle.distances.proofs.corners.edge_near.Goals as goal

-- a corner of the part, under its coordinates' other names
corner : {x y : ℤ} (P : Part) → Compact P → (k : ℕ) → k < length P → x ≡ (vertex_at P k).x → y ≡ (vertex_at P k).y
    → Short 4096 x y × Short 8192 x y
corner P h k l ex ey =
    let s = short_as ex ey (h k l) in
    (s, (le_trans s.0 (lit≤ tt), le_trans s.1 (lit≤ tt)))

pub vertex-start-requires : goal.vertex-start-requires
vertex-start-requires c = omega (arith, part_length c.args.q.numbers.now)

pub next_vertex-requires : goal.next_vertex-requires
next_vertex-requires c = omega (arith, part_length c.args.q.numbers.now)

pub way_between-requires : goal.way_between-requires
way_between-requires c =
    let q = c.args.q in
    let P : Part = part_of q.numbers.now in
    let start = c.vertex-start.ensures in
    let end = c.vertex-end.ensures in (
      (corner P q.compact c.args.k c.requires.0 start.0 start.1).0,
      (corner P q.compact c.next_vertex.result (omega (arith, part_length q.numbers.now)) end.0 end.1).1,
    )

pub returns : goal.returns
returns c =
    let P : Part = part_of c.args.q.numbers.now in
    let k : ℕ = c.args.k in
    let e = c.way_between.ensures in
    let v = c.way_between-2.ensures in
    let start = c.vertex-start.ensures in
    let end = c.vertex-end.ensures in
    let next = c.next_vertex.ensures.0 in
    c.near_edge.ensures
    ∙ (λ i. near_edge c.args.gap origin (vertex (e.0 i) (e.1 i)) (vertex (v.0 i) (v.1 i)))
    ∙ (λ i. near_edge c.args.gap origin
    (vertex ((end.0 ∙ ap (λ m. (vertex_at P m).x) next) i -ℤ start.0 i)
    ((end.1 ∙ ap (λ m. (vertex_at P m).y) next) i -ℤ start.1 i))
    (vertex (c.args.corner.x -ℤ start.0 i) (c.args.corner.y -ℤ start.1 i)))
    ∙ sym (near-from c.args.gap (vertex_at P k) (vertex_at P (following P k))
    (vertex c.args.corner.x c.args.corner.y))
