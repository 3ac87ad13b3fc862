use mathlib.Core.Bool.{Bool, true, false}
use mathlib.Core.List.{map}
use mathlib.Core.Path.{◌≡◌, sym, ◌∙◌, ap, subst}
use Prim.Native.Nat.{ℕ, ◌+◌, ◌<◌}
use native.Mathlib.Omega.{arith}
use borrow.Author.Count.{below_more}
use lib.IntN.{ℤ, ◌+ℤ◌, ◌-ℤ◌}
use lib.ListN.{length}
use lib.Signed.{le_z, lt_z, ◌≤ℤ◌}
use mir.Syntax.{w16}
use mir.Val.{SFits, to_z, of_z}
use mir.ValLaws.{to_z-of_z}
use Rattle.convexity.specs.Parts.{SoundPart}
use Rattle.integers.proofs.Order.{lt_z_true, lt_z_false}
use Rattle.model.specs.Content.{Vertex, vertex, Part}
use Rattle.model.specs.Geometry.{Direction, along, direction, vertex_at, following, normals, outward_normal}
use Rattle.model.specs.Lists.{any, largest_z, smallest_z}
use Rattle.polygons.specs.Flat.{part_of, normal_of}
use Rattle.polygons.proofs.Flat.{part_length}
use Rattle.directions.specs.Directions.{Small, separates_moved}
use Rattle.directions.proofs.EdgeLaws.{no_normal, some-normal, normal_at, all-beyond, one_before, one_within}
use Rattle.directions.proofs.EdgeLaws.{own_furthest, refuted, confirmed}
use Rattle.directions.proofs.Sizes.{read, said, small_vertex, less_gives}
use Rattle.directions.proofs.edges.edges_separate.Goals as goal

-- ---- what is known of one direction

-- the move, as the bits of its locals say it
abbrev offset : ℤ → ℤ → Vertex
offset x y = vertex (to_z w16 (of_z w16 x)) (to_z w16 (of_z w16 y))

is_offset : {x y : ℤ} → SFits w16 x → SFits w16 y → offset x y ≡ vertex x y
is_offset {x} {y} hx hy = λ i. vertex (to_z-of_z w16 x hx i) (to_z-of_z w16 y hy i)

-- (a, b) is the normal of the edge from vertex k to vertex m, which stand as (x, y) and (u, w)
is_normal : (P : Part) (k m : ℕ) {a b x y u w : ℤ} → m ≡ following P k
    → x ≡ (vertex_at P k).x → y ≡ (vertex_at P k).y → u ≡ (vertex_at P m).x → w ≡ (vertex_at P m).y
    → a ≡ w -ℤ y → b ≡ x -ℤ u → direction a b ≡ normal_of P k
unfolding outward_normal
is_normal P k m em ex ey eu ew ea eb =
    (λ i. direction ((ea ∙ (λ j. ew j -ℤ ey j)) i) ((eb ∙ (λ j. ex j -ℤ eu j)) i)) ∙ normal_at P k m em

-- the normal d of the edge of P from vertex k, how far vertex k and the move e go along it, and the limit that follows
module _ (P Q : Part) (e : Vertex) (is_sound : SoundPart P) (k : ℕ) (h : k < length P) (s : 0 < length Q)
    (d : Direction) (n : d ≡ normal_of P k) (x y : ℤ)
    (hx : Small (along d (vertex_at P k)) 47 x) (hy : Small (along d e) 47 y) where
  -- the numbers that are compared: vertex k, the furthest, the way of the move, and the least of q
  abbrev near : ℤ
  near = along d (vertex_at P k)

  abbrev far : ℤ
  far = largest_z (map (along d) P)

  abbrev way : ℤ
  way = along d e

  abbrev low : ℤ
  low = smallest_z (map (along d) Q)

  abbrev limit : ℤ
  limit = read (read x -ℤ read y)

  -- the furthest against the least and the way is the test
  verdict : (t : Bool) → le_z far (low +ℤ way) ≡ t → separates_moved P Q e (normal_of P k) ≡ t
  unfolding separates_moved
  verdict t f = ap (separates_moved P Q e) (sym n) ∙ f

  -- vertex k lies as far as the furthest, since p is sound
  as_far : far ≡ near
  as_far = subst (λ (d : Direction). largest_z (map (along d) P) ≡ along d (vertex_at P k)) (sym n)
      (own_furthest P is_sound k h)

  is_limit : limit ≡ near -ℤ way
  is_limit = less_gives hx hy

  -- a vertex that lies before the limit refutes it,
  gives_up : (i : ℕ) (z : ℤ) → i < length Q → z ≡ along d (vertex_at Q i) → lt_z z limit ≡ true
      → separates_moved P Q e (normal_of P k) ≡ false
  gives_up i z l g f =
      verdict false
      (refuted near far way low (one_within (along d) P k h)
      (ap (λ u. le_z u low) (sym is_limit)
      ∙ one_before (along d) Q limit i l (lt_z_true _ _ (ap (λ u. lt_z u limit) (sym g) ∙ f))))

  -- and where none does it is confirmed
  separates : ((j : ℕ) → j < length Q → limit ≤ℤ along d (vertex_at Q j))
      → separates_moved P Q e (normal_of P k) ≡ true
  separates f =
      verdict true (confirmed near far way low as_far
      (ap (λ u. le_z u low) (sym is_limit) ∙ all-beyond (along d) Q limit s f))

-- one more vertex lies beyond the limit
further : (d : Direction) (Q : Part) (limit z : ℤ) (i : ℕ) → ((j : ℕ) → j < i → limit ≤ℤ along d (vertex_at Q j))
    → z ≡ along d (vertex_at Q i) → lt_z z limit ≡ false
    → (j : ℕ) → j < i + 1 → limit ≤ℤ along d (vertex_at Q j)
further d Q limit z i f g h = below_more _ i f (lt_z_false _ _ (ap (λ u. lt_z u limit) (sym g) ∙ h))

-- ---- the answers

pub loop-i-preserved : goal.loop-i-preserved
loop-i-preserved c =
    let n = c.outward_normal-normal.result in
    further (direction n.a n.b) (part_of c.args.q.now) _ _ c.loop-i.i c.loop-i.invariant
    (said tt (small_vertex _ c.vertex.ensures.0 c.vertex.ensures.1 c.along-in-loop-i.ensures)) c.if-along-limit.false

pub directions-preserved : goal.directions-preserved
directions-preserved c =
    let P : Part = part_of c.args.p.now in
    let from = c.vertex-from.ensures in
    let to = c.vertex-to.ensures in
    let n = c.outward_normal-normal in
    below_more _ _ c.directions.invariant
    (gives_up P (part_of c.args.q.now) (offset c.args.dx c.args.dy) c.requires.0 c.directions.k
    (omega (arith, part_length c.args.p.now)) (omega (arith, part_length c.args.q.now))
    (direction n.result.a n.result.b)
    (is_normal P c.directions.k c.next_vertex.result c.next_vertex.ensures.0 from.0 from.1 to.0 to.1 n.ensures.0
    n.ensures.1)
    c.along.result c.along-in-directions.result (small_vertex _ from.0 from.1 c.along.ensures)
    c.along-in-directions.ensures
    c.loop-i.i (read c.along-in-loop-i.result) (omega (arith, part_length c.args.q.now))
    (said tt (small_vertex _ c.vertex.ensures.0 c.vertex.ensures.1 c.along-in-loop-i.ensures)) c.if-along-limit.true)

pub returns-in-directions : goal.returns-in-directions
returns-in-directions c =
    let P : Part = part_of c.args.p.now in
    let Q : Part = part_of c.args.q.now in
    let from = c.vertex-from.ensures in
    let to = c.vertex-to.ensures in
    let n = c.outward_normal-normal in
    sym (some-normal (separates_moved P Q (offset c.args.dx c.args.dy)) P c.directions.k
    (omega (arith, part_length c.args.p.now))
    (separates P Q (offset c.args.dx c.args.dy) c.requires.0 c.directions.k
    (omega (arith, part_length c.args.p.now)) (omega (arith, part_length c.args.q.now))
    (direction n.result.a n.result.b)
    (is_normal P c.directions.k c.next_vertex.result c.next_vertex.ensures.0 from.0 from.1 to.0 to.1 n.ensures.0
    n.ensures.1)
    c.along.result c.along-in-directions.result (small_vertex _ from.0 from.1 c.along.ensures)
    c.along-in-directions.ensures (λ j h. c.loop-i.invariant j (omega (arith, part_length c.args.q.now)))))
    ∙ ap (λ (e : Vertex). any (separates_moved P Q e) (normals P)) (is_offset c.ranges.dx c.ranges.dy)

pub returns : goal.returns
returns c =
    let P : Part = part_of c.args.p.now in
    let Q : Part = part_of c.args.q.now in
    sym (no_normal (separates_moved P Q (vertex c.args.dx c.args.dy)) P
    (λ j h. ap (λ (e : Vertex). separates_moved P Q e (normal_of P j)) (sym (is_offset c.ranges.dx c.ranges.dy))
    ∙ c.directions.invariant j (omega (arith, part_length c.args.p.now))))
