-- Parts by their edges: they meet inside if each edge of either has a corner of the other on its left, and what holds a point inside holds a corner. Assumes nothing.
use mathlib.Core.Path.{◌≡◌, sym, subst}
use mathlib.Core.List.{List, [], ◌∷◌, map}
use mathlib.Core.Logic.{⊎_elim}
use lib.IntN.{ℤ, pos, ◌-ℤ◌, ◌*ℤ◌}
use lib.Signed.{◌≤ℤ◌, ◌<ℤ◌}
use Rattle.integers.proofs.Solver.{Expr, ring, ◌⊟◌, ◌⊠◌, ◌≈◌, ◌≲◌, ◌≺◌, never}
use Rattle.integers.proofs.Certificates.{order, ◌⊢◌by◌, hyp, num, ◌⊕◌, ◌⊗◌}
use Rattle.integers.proofs.Order.{le_or_lt, *ℤ-cancel_<}
use Rattle.model.specs.Content.{Vertex, vertex, Part}
use Rattle.convexity.proofs.Members.{In, here, there, not_in, in_map, map-in}
use Rattle.convexity.proofs.HalfPlanes.{O, I, Point, Half, at, dot3, All, get, Meet, suc_pos}
use Rattle.convexity.proofs.Bodies.{Body, Reach, meet}

-- an edge from s to t
pub record Edge : Type 0 where
  pub s : Vertex
  pub t : Vertex

-- the edges, from a corner to the next and from the last to the first
abbrev pub chain : Vertex → Vertex → Part → List Edge
chain f p [] = record { s = p; t = f } ∷ []
chain f p (q ∷ ps) = record { s = p; t = q } ∷ chain f q ps

abbrev pub edges : Part → List Edge
edges [] = []
edges (p ∷ ps) = chain p p ps

-- the model's `cross`, open
abbrev pub area : Vertex → Vertex → Vertex → ℤ
area p q r = (q.x -ℤ p.x) *ℤ (r.y -ℤ p.y) -ℤ (q.y -ℤ p.y) *ℤ (r.x -ℤ p.x)

-- d times `area` of p, q and the point (x / d, y / d): above 0 exactly if the point lies strictly left of the line from p to q
abbrev pub side : Vertex → Vertex → ℤ → ℤ → ℤ → ℤ
side p q x y d = (q.x -ℤ p.x) *ℤ (y -ℤ d *ℤ p.y) -ℤ (q.y -ℤ p.y) *ℤ (x -ℤ d *ℤ p.x)

-- `area` and `side` of expressions
abbrev pub area_e : Expr → Expr → Expr → Expr → Expr → Expr → Expr
area_e px py qx qy rx ry = (qx ⊟ px) ⊠ (ry ⊟ py) ⊟ (qy ⊟ py) ⊠ (rx ⊟ px)

abbrev pub side_e : Expr → Expr → Expr → Expr → Expr → Expr → Expr → Expr
side_e px py qx qy x y d = (qx ⊟ px) ⊠ (y ⊟ d ⊠ py) ⊟ (qy ⊟ py) ⊠ (x ⊟ d ⊠ px)

-- a part as half planes and points
abbrev pub half : Edge → Half
half e = record { a = e.s.y -ℤ e.t.y; b = e.t.x -ℤ e.s.x; c = (e.t.y -ℤ e.s.y) *ℤ e.s.x -ℤ (e.t.x -ℤ e.s.x) *ℤ e.s.y }

abbrev halves : List Edge → List Half
halves es = map half es

abbrev pub point : Vertex → Point
point c = record { x = c.x; y = c.y; d = pos 1 }

abbrev points : Part → List Point
points cs = map point cs

-- what the half plane of an edge says of a corner, and of a point
pub half_area : (e : Edge) (c : Vertex) → at (half e) (point c) ≡ area e.s e.t c
half_area e c = ring 6 (λ px py qx qy rx ry. dot3 (py ⊟ qy) (qx ⊟ px) ((qy ⊟ py) ⊠ px ⊟ (qx ⊟ px) ⊠ py) rx ry I ≈ area_e px py qx qy rx ry) tt
    e.s.x e.s.y e.t.x e.t.y c.x c.y

pub half_side : (e : Edge) (v : Point) → at (half e) v ≡ side e.s e.t v.x v.y v.d
half_side e v = ring 7 (λ px py qx qy x y d. dot3 (py ⊟ qy) (qx ⊟ px) ((qy ⊟ py) ⊠ px ⊟ (qx ⊟ px) ⊠ py) x y d ≈ side_e px py qx qy x y d) tt
    e.s.x e.s.y e.t.x e.t.y v.x v.y v.d

-- what a sound part has
pub record Good (ps : Part) : Type 0 where
  pub any : (c : Vertex) × In c ps
  pub weak : (e : Edge) (c : Vertex) → In e (edges ps) → In c ps → pos 0 ≤ℤ area e.s e.t c
  pub some : (e : Edge) → In e (edges ps) → (c : Vertex) × In c ps × (pos 0 <ℤ area e.s e.t c)

-- each edge of one has a corner of the other on its left
abbrev pub Touch : Part → Part → Type 0
Touch ps qs = (e : Edge) → In e (edges ps) → (c : Vertex) × In c qs × (pos 0 <ℤ area e.s e.t c)

-- the same, as half planes and points
reach : (ps qs : Part) → Touch ps qs → Reach (halves (edges ps)) (points qs)
reach ps qs f h i = go (map-in half (edges ps) h i)
  where
    go : (e : Edge) × In e (edges ps) × (half e ≡ h) → (p : Point) × In p (points qs) × (pos 0 <ℤ at h p)
    go (e, j, q) = let r = f e j in subst (λ h. (p : Point) × In p (points qs) × (pos 0 <ℤ at h p)) q
        (point r.0, in_map point r.1, subst (λ t. pos 0 <ℤ t) (sym (half_area e r.0)) r.2)

-- a good part is a body
body : (ps : Part) → Good ps → Body (halves (edges ps)) (points ps)
body ps g = record {
  deep = λ p i. let r = map-in point ps p i in subst (λ p. pos 0 <ℤ p.d) r.2 (suc_pos 0);
  weak = λ h p i j. let r = map-in half (edges ps) h i in let u = map-in point ps p j in
      subst (λ h. pos 0 ≤ℤ at h p) r.2 (subst (λ p. pos 0 ≤ℤ at (half r.0) p) u.2 (subst (λ t. pos 0 ≤ℤ t) (sym (half_area r.0 u.0)) (g.weak r.0 u.0 r.1 u.1)));
  some = reach ps ps g.some;
  any = (point g.any.0, in_map point g.any.1);
}

-- (x / d, y / d) lies strictly inside
abbrev pub Inside : Part → ℤ → ℤ → ℤ → Type 0
Inside ps x y d = (e : Edge) → In e (edges ps) → pos 0 <ℤ side e.s e.t x y d

-- a point in all the half planes is inside
half_inside : (es : List Edge) (v : Point) → All (halves es) v → (e : Edge) → In e es → pos 0 <ℤ side e.s e.t v.x v.y v.d
half_inside es v a e i = subst (λ t. pos 0 <ℤ t) (half_side e v) (get v (in_map half i) a)

-- a point strictly inside both
pub record Common (ps qs : Part) : Type 0 where
  pub x : ℤ
  pub y : ℤ
  pub d : ℤ
  pub one : pos 1 ≤ℤ d
  pub left : Inside ps x y d
  pub right : Inside qs x y d

lt_one : (d : ℤ) → pos 0 <ℤ d → pos 1 ≤ℤ d
lt_one = order 1 (λ d. (O ≺ d) ∷ [] ⊢ I ≲ d by hyp 0) tt

pub one_lt : (d : ℤ) → pos 1 ≤ℤ d → pos 0 <ℤ d
one_lt = order 1 (λ d. (I ≲ d) ∷ [] ⊢ O ≺ d by hyp 0) tt

-- Good parts, each of whose edges has a corner of the other on its left, have such a point.
pub touch_common : (ps qs : Part) → Good ps → Good qs → Touch ps qs → Touch qs ps → Common ps qs
touch_common ps qs g h f k = go (meet (halves (edges ps)) (halves (edges qs)) (points ps) (points qs) (body ps g) (body qs h) (reach ps qs f) (reach qs ps k))
  where
    go : Meet (halves (edges qs)) (halves (edges ps)) → Common ps qs
    go m = record { x = m.p.x; y = m.p.y; d = m.p.d; one = lt_one m.p.d m.deep; left = half_inside (edges ps) m.p m.right; right = half_inside (edges qs) m.p m.left }

-- ---- a point inside is in a triangle of corners, so in no half plane that has no corner

pos_cancel : (a b : ℤ) → pos 0 <ℤ a → pos 0 <ℤ (a *ℤ b) → pos 0 <ℤ b
pos_cancel a b h k = *ℤ-cancel_< (pos 0) b a h (order 2 (λ a b. (O ≺ a ⊠ b) ∷ [] ⊢ O ⊠ a ≺ b ⊠ a by hyp 0) tt a b k)

-- no point is left of an edge both ways
closed : (fx fy px py x y d : ℤ) → pos 0 <ℤ side (vertex fx fy) (vertex px py) x y d → pos 0 <ℤ side (vertex px py) (vertex fx fy) x y d → ⊥
closed = order 7 (λ fx fy px py x y d. (O ≺ side_e fx fy px py x y d) ∷ (O ≺ side_e px py fx fy x y d) ∷ [] ⊢ never by hyp 0 ⊕ hyp 1 ⊕ num 1) tt

-- the first triangle of the fan from f that the point does not lie beyond turns left
turns : (f p q : Vertex) (x y d : ℤ) → pos 0 <ℤ side p q x y d → pos 0 <ℤ side f p x y d → side f q x y d ≤ℤ pos 0 → pos 0 <ℤ (d *ℤ area f p q)
turns f p q x y d = order 9 (λ fx fy px py qx qy x y d. (O ≺ side_e px py qx qy x y d) ∷ (O ≺ side_e fx fy px py x y d) ∷ (side_e fx fy qx qy x y d ≲ O) ∷ []
    ⊢ O ≺ d ⊠ area_e fx fy px py qx qy by hyp 0 ⊕ hyp 1 ⊕ hyp 2 ⊕ num 1) tt f.x f.y p.x p.y q.x q.y x y d

-- and the point is in it, so in no half plane that has none of the three
triangle : (f p q : Vertex) (x y d : ℤ) (k : Half) → pos 0 <ℤ side p q x y d → pos 0 <ℤ side f p x y d → side f q x y d ≤ℤ pos 0 → pos 0 <ℤ area f p q →
    at k (point f) ≤ℤ pos 0 → at k (point p) ≤ℤ pos 0 → at k (point q) ≤ℤ pos 0 → pos 0 <ℤ at k (record { x = x; y = y; d = d }) → ⊥
triangle f p q x y d k = order 12 (λ fx fy px py qx qy x y d a b c. (O ≺ side_e px py qx qy x y d) ∷ (O ≺ side_e fx fy px py x y d) ∷ (side_e fx fy qx qy x y d ≲ O) ∷ (O ≺ area_e fx fy px py qx qy) ∷
    (dot3 a b c fx fy I ≲ O) ∷ (dot3 a b c px py I ≲ O) ∷ (dot3 a b c qx qy I ≲ O) ∷ (O ≺ dot3 a b c x y d) ∷ []
    ⊢ never by hyp 3 ⊗ hyp 7 ⊕ hyp 3 ⊕ hyp 7 ⊕ hyp 0 ⊗ hyp 4 ⊕ hyp 4 ⊕ hyp 2 ⊗ hyp 5 ⊕ hyp 1 ⊗ hyp 6 ⊕ hyp 6) tt f.x f.y p.x p.y q.x q.y x y d k.a k.b k.c

-- along the fan from f
fan : (f p : Vertex) (ps : Part) (x y d : ℤ) (k : Half) → pos 0 <ℤ d → pos 0 <ℤ at k (record { x = x; y = y; d = d }) →
    at k (point f) ≤ℤ pos 0 → at k (point p) ≤ℤ pos 0 → ((c : Vertex) → In c ps → at k (point c) ≤ℤ pos 0) →
    pos 0 <ℤ side f p x y d → ((e : Edge) → In e (chain f p ps) → pos 0 <ℤ side e.s e.t x y d) → ⊥
fan f p [] x y d k hd hv hf hp hs l a = closed f.x f.y p.x p.y x y d l (a (record { s = p; t = f }) here)
fan f p (q ∷ ps) x y d k hd hv hf hp hs l a = ⊎_elim
    (λ n. let e = a (record { s = p; t = q }) here in triangle f p q x y d k e l n (pos_cancel d (area f p q) hd (turns f p q x y d e l n)) hf hp (hs q here) hv)
    (λ m. fan f q ps x y d k hd hv hf (hs q here) (λ c i. hs c (there i)) m (λ e i. a e (there i)))
    (le_or_lt (side f q x y d) (pos 0))

one_corner : (px py x y d : ℤ) → pos 0 <ℤ side (vertex px py) (vertex px py) x y d → ⊥
one_corner = order 5 (λ px py x y d. (O ≺ side_e px py px py x y d) ∷ [] ⊢ never by hyp 0) tt

-- a half plane that has a point inside has a corner
pub hull : (ps : Part) (x y d : ℤ) (k : Half) → Good ps → pos 0 <ℤ d → Inside ps x y d → ((c : Vertex) → In c ps → at k (point c) ≤ℤ pos 0) → at k (record { x = x; y = y; d = d }) ≤ℤ pos 0
hull ps x y d k g hd l hs = ⊎_elim (λ n. n) (λ hv. absurd (go ps g l hs hv)) (le_or_lt (at k (record { x = x; y = y; d = d })) (pos 0))
  where
    go : (ps : Part) → Good ps → Inside ps x y d → ((c : Vertex) → In c ps → at k (point c) ≤ℤ pos 0) → pos 0 <ℤ at k (record { x = x; y = y; d = d }) → ⊥
    go [] g l hs hv = not_in g.any.1
    go (f ∷ []) g l hs hv = one_corner f.x f.y x y d (l (record { s = f; t = f }) here)
    go (f ∷ p ∷ ps) g l hs hv = fan f p ps x y d k hd hv (hs f here) (hs p (there here)) (λ c i. hs c (there (there i))) (l (record { s = f; t = p }) here) (λ e i. l e (there i))
