-- Moving parts: by a signed amount (`shifted`), by the model's `moved`, and as a placement moves them. Moving both parts by the same amount
-- changes nothing; what counts is how far one is moved against the other. Each part has a vertex: of none the largest is 0 wherever it is moved.
-- Assumes nothing.
use mathlib.Core.Bool.{Bool, true, false, not, cond, ◌||◌}
use mathlib.Core.List.{List, [], ◌∷◌, map, map-map}
use mathlib.Core.Path.{◌≡◌, refl, sym, ap, ap₂, ◌∙◌}
use Prim.Native.Nat.{ℕ, zero, suc, ◌*◌, ◌<◌}
use native.Mathlib.Omega.{arith}
use native.Mathlib.Nat.{not-suc-le-zero, le_of_suc-le-suc}
use borrow.Author.Tests.{eqb-false}
use lib.Dec.{eqb}
use lib.IntN.{ℤ, pos, ◌+ℤ◌, ◌-ℤ◌, ◌*ℤ◌, +ℤ_idr, +ℤ_invr}
use lib.ListN.{length, length-map}
use lib.Signed.{le_z, lt_z}
use Rattle.integers.proofs.Solver.{ring, #, ◌⊞◌, ◌⊟◌, ◌⊠◌, ◌≈◌}
use Rattle.model.specs.Candidate.{placed_part}
use Rattle.model.specs.Content.{Vertex, vertex, Part, Board, origin}
use Rattle.model.specs.Geometry.{Direction, direction, rotated, moved, shifted, vertex_at, following, cross, outward_normal, normals, directions, along, separates, disjoint, distance_squared, along_edge, near_edge, corners_clear, separated, pieces_conflict}
use Rattle.model.specs.Grid.{Placement}
use Rattle.model.specs.Lists.{all, any, below, largest_z, smallest_z}
use Rattle.model.proofs.Folds.{map-below-same, all_same}
use Rattle.model.proofs.Extremes.{le_z_same, largest-through, smallest_through}
use Rattle.model.proofs.Tests.{all_map, all-each, any_same}

-- ---- what a move does along a direction

pub along-shifted : (d : Direction) (a b : ℤ) (v : Vertex) → along d (shifted a b v) ≡ along d v +ℤ along d (vertex a b)
unfolding along
along-shifted d a b v =
    ring 6 (λ A B x y a b. A ⊠ (x ⊞ a) ⊞ B ⊠ (y ⊞ b) ≈ (A ⊠ x ⊞ B ⊠ y) ⊞ (A ⊠ a ⊞ B ⊠ b)) tt d.a d.b v.x v.y a b

pub largest-shifted : (d : Direction) (a b : ℤ) (P : Part) → 0 < length P
    → largest_z (map (along d) (map (shifted a b) P)) ≡ largest_z (map (along d) P) +ℤ along d (vertex a b)
largest-shifted d a b P h = largest-through (along d) (shifted a b) (along d (vertex a b)) (along-shifted d a b) P h

pub smallest_shifted : (d : Direction) (a b : ℤ) (P : Part) → 0 < length P
    → smallest_z (map (along d) (map (shifted a b) P)) ≡ smallest_z (map (along d) P) +ℤ along d (vertex a b)
smallest_shifted d a b P h = smallest_through (along d) (shifted a b) (along d (vertex a b)) (along-shifted d a b) P h

-- ---- a move keeps the normals

pub vertex_at-map : (s : Vertex → Vertex) (P : Part) (i : ℕ) → i < length P → vertex_at (map s P) i ≡ s (vertex_at P i)
unfolding vertex_at
vertex_at-map s [] i h = absurd (not-suc-le-zero h)
vertex_at-map s (v ∷ P) zero h = refl
vertex_at-map s (v ∷ P) (suc i) h = vertex_at-map s P i (le_of_suc-le-suc h)

-- the next vertex is one of the part's
pub following-within : (P : Part) (i : ℕ) → i < length P → following P i < length P
unfolding following
following-within P i h = go (eqb (suc i) (length P)) refl
  where
    go : (t : Bool) → eqb (suc i) (length P) ≡ t → cond t 0 (suc i) < length P
    go true e = omega arith
    go false e = let k = eqb-false (suc i) (length P) e in omega arith

pub following-map : (s : Vertex → Vertex) (P : Part) (i : ℕ) → following (map s P) i ≡ following P i
unfolding following
following-map s P i = ap (λ n. cond (eqb (suc i) n) 0 (suc i)) (length-map P s)

pub next_map : (s : Vertex → Vertex) (P : Part) (i : ℕ) → i < length P → vertex_at (map s P) (following (map s P) i) ≡ s (vertex_at P (following P i))
next_map s P i h = ap (vertex_at (map s P)) (following-map s P i) ∙ vertex_at-map s P (following P i) (following-within P i h)

normal_shifted : (a b : ℤ) (p q : Vertex) → outward_normal (shifted a b p) (shifted a b q) ≡ outward_normal p q
unfolding outward_normal
normal_shifted a b p q =
    ap (λ s. direction s ((p.x +ℤ a) -ℤ (q.x +ℤ a))) (ring 3 (λ u w b. (u ⊞ b) ⊟ (w ⊞ b) ≈ u ⊟ w) tt q.y p.y b)
    ∙ ap (λ s. direction (q.y -ℤ p.y) s) (ring 3 (λ u w b. (u ⊞ b) ⊟ (w ⊞ b) ≈ u ⊟ w) tt p.x q.x a)

pub normals-shifted : (a b : ℤ) (P : Part) → normals (map (shifted a b) P) ≡ normals P
unfolding normals below
normals-shifted a b P =
    ap (λ n. map (λ i. outward_normal (vertex_at (map (shifted a b) P) i) (vertex_at (map (shifted a b) P) (following (map (shifted a b) P) i))) (below n)) (length-map P (shifted a b))
    ∙ map-below-same _ _ (length P) edge
  where
    edge : (i : ℕ) → i < length P
        → outward_normal (vertex_at (map (shifted a b) P) i) (vertex_at (map (shifted a b) P) (following (map (shifted a b) P) i))
        ≡ outward_normal (vertex_at P i) (vertex_at P (following P i))
    edge i h =
        ap₂ outward_normal (vertex_at-map (shifted a b) P i h) (next_map (shifted a b) P i h)
        ∙ normal_shifted a b (vertex_at P i) (vertex_at P (following P i))

-- ---- what a move does to distances

-- the numbers of a corner and an edge from the start (0, 0)
pub along-from : (a b x y : ℤ) → a *ℤ x +ℤ b *ℤ y ≡ (a -ℤ pos 0) *ℤ (x -ℤ pos 0) +ℤ (b -ℤ pos 0) *ℤ (y -ℤ pos 0)
along-from = ring 4 (λ a b x y. a ⊠ x ⊞ b ⊠ y ≈ (a ⊟ # (pos 0)) ⊠ (x ⊟ # (pos 0)) ⊞ (b ⊟ # (pos 0)) ⊠ (y ⊟ # (pos 0))) tt

pub length_from : (a b : ℤ) → a *ℤ a +ℤ b *ℤ b ≡ (a -ℤ pos 0) *ℤ (a -ℤ pos 0) +ℤ (b -ℤ pos 0) *ℤ (b -ℤ pos 0)
length_from = ring 2 (λ a b. a ⊠ a ⊞ b ⊠ b ≈ (a ⊟ # (pos 0)) ⊠ (a ⊟ # (pos 0)) ⊞ (b ⊟ # (pos 0)) ⊠ (b ⊟ # (pos 0))) tt

pub cross-from : (a b x y : ℤ) → a *ℤ y -ℤ b *ℤ x ≡ (a -ℤ pos 0) *ℤ (y -ℤ pos 0) -ℤ (b -ℤ pos 0) *ℤ (x -ℤ pos 0)
cross-from = ring 4 (λ a b x y. a ⊠ y ⊟ b ⊠ x ≈ (a ⊟ # (pos 0)) ⊠ (y ⊟ # (pos 0)) ⊟ (b ⊟ # (pos 0)) ⊠ (x ⊟ # (pos 0))) tt

-- A distance looks only at how the corner and the edge's end lie from the edge's start.
pub near-from : (h : ℕ) (s t v : Vertex) → near_edge h s t v ≡ near_edge h origin (vertex (t.x -ℤ s.x) (t.y -ℤ s.y)) (vertex (v.x -ℤ s.x) (v.y -ℤ s.y))
unfolding near_edge along_edge distance_squared cross
near-from h s t v =
    let end : Vertex = vertex (t.x -ℤ s.x) (t.y -ℤ s.y) in
    let corner : Vertex = vertex (v.x -ℤ s.x) (v.y -ℤ s.y) in
    near_same h
    (along-from end.x end.y corner.x corner.y)
    (length_from end.x end.y)
    (length_from corner.x corner.y)
    (end-from s.x s.y t.x t.y v.x v.y)
    (cross-from end.x end.y corner.x corner.y)
  where
    -- the five numbers that the test looks at
    near_same : (h : ℕ) {u u' l l' p p' q q' c c' : ℤ} → u ≡ u' → l ≡ l' → p ≡ p' → q ≡ q' → c ≡ c'
        → cond (le_z u (pos 0)) (lt_z p (pos (h * h))) (cond (le_z l u) (lt_z q (pos (h * h))) (lt_z (c *ℤ c) (pos (h * h) *ℤ l)))
        ≡ cond (le_z u' (pos 0)) (lt_z p' (pos (h * h))) (cond (le_z l' u') (lt_z q' (pos (h * h))) (lt_z (c' *ℤ c') (pos (h * h) *ℤ l')))
    near_same h eu el ep eq ec = rw (eu, el, ep, eq, ec)

    end-from : (sx sy tx ty vx vy : ℤ) → (vx -ℤ tx) *ℤ (vx -ℤ tx) +ℤ (vy -ℤ ty) *ℤ (vy -ℤ ty)
        ≡ ((vx -ℤ sx) -ℤ (tx -ℤ sx)) *ℤ ((vx -ℤ sx) -ℤ (tx -ℤ sx)) +ℤ ((vy -ℤ sy) -ℤ (ty -ℤ sy)) *ℤ ((vy -ℤ sy) -ℤ (ty -ℤ sy))
    end-from = ring 6 (λ sx sy tx ty vx vy. (vx ⊟ tx) ⊠ (vx ⊟ tx) ⊞ (vy ⊟ ty) ⊠ (vy ⊟ ty)
        ≈ ((vx ⊟ sx) ⊟ (tx ⊟ sx)) ⊠ ((vx ⊟ sx) ⊟ (tx ⊟ sx)) ⊞ ((vy ⊟ sy) ⊟ (ty ⊟ sy)) ⊠ ((vy ⊟ sy) ⊟ (ty ⊟ sy))) tt

-- So it is the same wherever these two lie the same way from it.
near-alike : (h : ℕ) (s t v s' t' v' : Vertex) → t.x -ℤ s.x ≡ t'.x -ℤ s'.x → t.y -ℤ s.y ≡ t'.y -ℤ s'.y → v.x -ℤ s.x ≡ v'.x -ℤ s'.x → v.y -ℤ s.y ≡ v'.y -ℤ s'.y
    → near_edge h s t v ≡ near_edge h s' t' v'
near-alike h s t v s' t' v' a b x y = near-from h s t v ∙ (λ i. near_edge h origin (vertex (a i) (b i)) (vertex (x i) (y i))) ∙ sym (near-from h s' t' v')

-- two corners moved by the same amount, and by different ones
same_move : (u w a b : ℤ) → (u +ℤ a) -ℤ (w +ℤ a) ≡ (u +ℤ b) -ℤ (w +ℤ b)
same_move = ring 4 (λ u w a b. (u ⊞ a) ⊟ (w ⊞ a) ≈ (u ⊞ b) ⊟ (w ⊞ b)) tt

module _ (h : ℕ) (a b c e : ℤ) (s t v : Vertex) where
  -- the move of the corner taken off that of the edge
  near-shifted : near_edge h (shifted c e s) (shifted c e t) (shifted a b v) ≡ near_edge h (shifted (c -ℤ a) (e -ℤ b) s) (shifted (c -ℤ a) (e -ℤ b) t) v
  near-shifted = near-alike h _ _ _ _ _ _ (same_move t.x s.x c (c -ℤ a)) (same_move t.y s.y e (e -ℤ b)) (other v.x s.x a c) (other v.y s.y b e)
    where
      other : (u w a c : ℤ) → (u +ℤ a) -ℤ (w +ℤ c) ≡ u -ℤ (w +ℤ (c -ℤ a))
      other = ring 4 (λ u w a c. (u ⊞ a) ⊟ (w ⊞ c) ≈ u ⊟ (w ⊞ (c ⊟ a))) tt

  -- the move of the edge taken off that of the corner
  near-shifted-corner : near_edge h (shifted a b s) (shifted a b t) (shifted c e v) ≡ near_edge h s t (shifted (c -ℤ a) (e -ℤ b) v)
  near-shifted-corner = near-alike h _ _ _ _ _ _ (same t.x s.x a) (same t.y s.y b) (other v.x s.x a c) (other v.y s.y b e)
    where
      same : (u w a : ℤ) → (u +ℤ a) -ℤ (w +ℤ a) ≡ u -ℤ w
      same = ring 3 (λ u w a. (u ⊞ a) ⊟ (w ⊞ a) ≈ u ⊟ w) tt

      other : (u w a c : ℤ) → (u +ℤ c) -ℤ (w +ℤ a) ≡ (u +ℤ (c -ℤ a)) -ℤ w
      other = ring 4 (λ u w a c. (u ⊞ c) ⊟ (w ⊞ a) ≈ (u ⊞ (c ⊟ a)) ⊟ w) tt

-- ---- parts moved

-- a move (a, b) of P is the opposite move of Q, in the test of the direction (A, B)
test_shifted : (l s A B a b c e : ℤ)
    → le_z (l +ℤ (A *ℤ a +ℤ B *ℤ b)) (s +ℤ (A *ℤ c +ℤ B *ℤ e)) ≡ le_z l (s +ℤ (A *ℤ (c -ℤ a) +ℤ B *ℤ (e -ℤ b)))
test_shifted l s A B a b c e =
    le_z_same (l +ℤ (A *ℤ a +ℤ B *ℤ b)) (s +ℤ (A *ℤ c +ℤ B *ℤ e)) l (s +ℤ (A *ℤ (c -ℤ a) +ℤ B *ℤ (e -ℤ b)))
    (ring 8 (λ l s A B a b c e. (s ⊞ (A ⊠ c ⊞ B ⊠ e)) ⊟ (l ⊞ (A ⊠ a ⊞ B ⊠ b)) ≈ (s ⊞ (A ⊠ (c ⊟ a) ⊞ B ⊠ (e ⊟ b))) ⊟ l) tt l s A B a b c e)

-- the corners of mapped parts against their edges
clear-mapped : (h : ℕ) (s t : Vertex → Vertex) (P Q : Part)
    → corners_clear h (map s P) (map t Q) ≡ all (λ i. all (λ v. not (near_edge h (t (vertex_at Q i)) (t (vertex_at Q (following Q i))) (s v))) P) (below (length Q))
unfolding corners_clear
clear-mapped h s t P Q =
    ap (λ n. all (λ i. all (λ v. not (near_edge h (vertex_at (map t Q) i) (vertex_at (map t Q) (following (map t Q) i)) v)) (map s P)) (below n)) (length-map Q t)
    ∙ all_same _ _ (length Q) (λ i l.
    all_map (λ v. not (near_edge h (vertex_at (map t Q) i) (vertex_at (map t Q) (following (map t Q) i)) v)) s P
    ∙ all-each _ _ (λ v. ap (λ p. not (near_edge h p (vertex_at (map t Q) (following (map t Q) i)) (s v))) (vertex_at-map t Q i l) ∙ ap (λ q. not (near_edge h (t (vertex_at Q i)) q (s v))) (next_map t Q i l)) P)

-- maps that give the same distances
clear-maps : (h : ℕ) (s t s' t' : Vertex → Vertex) (P Q : Part) → ((p q v : Vertex) → near_edge h (t p) (t q) (s v) ≡ near_edge h (t' p) (t' q) (s' v))
    → corners_clear h (map s P) (map t Q) ≡ corners_clear h (map s' P) (map t' Q)
clear-maps h s t s' t' P Q f =
    clear-mapped h s t P Q ∙ all_same _ _ (length Q) (λ i l. all-each _ _ (λ v. ap not (f (vertex_at Q i) (vertex_at Q (following Q i)) v)) P) ∙ sym (clear-mapped h s' t' P Q)

-- a move by nothing
pub unmoved : (R : Part) → map (shifted (pos 0) (pos 0)) R ≡ R
unmoved [] = refl
unmoved (v ∷ R) =
    ap (λ s. vertex s (v.y +ℤ pos 0) ∷ map (shifted (pos 0) (pos 0)) R) (+ℤ_idr v.x)
    ∙ ap (λ s. vertex v.x s ∷ map (shifted (pos 0) (pos 0)) R) (+ℤ_idr v.y)
    ∙ ap (λ (vs : Part). v ∷ vs) (unmoved R)

map_same : (P : Part) → map (λ v. v) P ≡ P
map_same [] = refl
map_same (v ∷ P) = ap (λ (vs : Part). v ∷ vs) (map_same P)

module _ (gap : ℕ) (P Q : Part) (a b c e : ℤ) where
  -- no corner is near: the moves count by their difference
  pub clear-shifted : corners_clear gap (map (shifted a b) P) (map (shifted c e) Q) ≡ corners_clear gap P (map (shifted (c -ℤ a) (e -ℤ b)) Q)
  clear-shifted =
      clear-maps gap (shifted a b) (shifted c e) (λ v. v) (shifted (c -ℤ a) (e -ℤ b)) P Q (near-shifted gap a b c e)
      ∙ ap (λ (R : Part). corners_clear gap R (map (shifted (c -ℤ a) (e -ℤ b)) Q)) (map_same P)

  pub clear-shifted-corner : corners_clear gap (map (shifted c e) Q) (map (shifted a b) P) ≡ corners_clear gap (map (shifted (c -ℤ a) (e -ℤ b)) Q) P
  clear-shifted-corner =
      clear-maps gap (shifted c e) (shifted a b) (shifted (c -ℤ a) (e -ℤ b)) (λ v. v) Q P (near-shifted-corner gap a b c e)
      ∙ ap (λ (R : Part). corners_clear gap (map (shifted (c -ℤ a) (e -ℤ b)) Q) R) (map_same P)

module _ (gap : ℕ) (P Q : Part) (some_p : 0 < length P) (some_q : 0 < length Q) where
  -- one direction: the moves count by their difference
  pub separates-shifted : (a b c e : ℤ) (d : Direction)
      → separates (map (shifted a b) P) (map (shifted c e) Q) d ≡ separates P (map (shifted (c -ℤ a) (e -ℤ b)) Q) d
  unfolding separates along
  separates-shifted a b c e d =
      ap (λ s. le_z s (smallest_z (map (along d) (map (shifted c e) Q)))) (largest-shifted d a b P some_p)
      ∙ ap (λ s. le_z (largest_z (map (along d) P) +ℤ along d (vertex a b)) s) (smallest_shifted d c e Q some_q)
      ∙ test_shifted (largest_z (map (along d) P)) (smallest_z (map (along d) Q)) d.a d.b a b c e
      ∙ ap (le_z (largest_z (map (along d) P))) (sym (smallest_shifted d (c -ℤ a) (e -ℤ b) Q some_q))

  -- the directions are those of the parts where they stood
  directions-shifted : (a b c e k l : ℤ) → directions (map (shifted a b) P) (map (shifted c e) Q) ≡ directions P (map (shifted k l) Q)
  unfolding directions
  directions-shifted a b c e k l = rw (normals-shifted a b P, normals-shifted c e Q, normals-shifted k l Q)

  disjoint-shifted : (a b c e : ℤ) → disjoint (map (shifted a b) P) (map (shifted c e) Q) ≡ disjoint P (map (shifted (c -ℤ a) (e -ℤ b)) Q)
  unfolding disjoint
  disjoint-shifted a b c e =
      any_same _ _ (separates-shifted a b c e) (directions (map (shifted a b) P) (map (shifted c e) Q))
      ∙ ap (any (separates P (map (shifted (c -ℤ a) (e -ℤ b)) Q))) (directions-shifted a b c e (c -ℤ a) (e -ℤ b))

  pub separated-shifted : (a b c e : ℤ)
      → separated gap (map (shifted a b) P) (map (shifted c e) Q) ≡ separated gap P (map (shifted (c -ℤ a) (e -ℤ b)) Q)
  unfolding separated
  separated-shifted a b c e = rw (disjoint-shifted a b c e, clear-shifted gap P Q a b c e, clear-shifted-corner gap P Q a b c e)

  -- the same of the model's move
  pub separated-moved : (a b c e : ℕ)
      → separated gap (map (moved a b) P) (map (moved c e) Q) ≡ separated gap P (map (shifted (pos c -ℤ pos a) (pos e -ℤ pos b)) Q)
  unfolding moved
  separated-moved a b c e = separated-shifted (pos a) (pos b) (pos c) (pos e)

  -- both moved by the same amount
  pub separated-together : (a b : ℤ) → separated gap (map (shifted a b) P) (map (shifted a b) Q) ≡ separated gap P Q
  separated-together a b =
      separated-shifted a b a b
      ∙ ap (λ s. separated gap P (map (shifted s (b -ℤ b)) Q)) (+ℤ_invr a)
      ∙ ap (λ s. separated gap P (map (shifted (pos 0) s) Q)) (+ℤ_invr b)
      ∙ ap (separated gap P) (unmoved Q)

-- ---- pieces moved

-- every part of the piece has a vertex
abbrev pub Vertexed : List Part → Type 0
Vertexed [] = Unit {0}
Vertexed (P ∷ Ps) = (0 < length P) × Vertexed Ps

module _ (gap : ℕ) (a b : ℤ) where
  against : (P : Part) → 0 < length P → (Qs : List Part) → Vertexed Qs
      → any (λ Q. not (separated gap (map (shifted a b) P) Q)) (map (map (shifted a b)) Qs) ≡ any (λ Q. not (separated gap P Q)) Qs
  unfolding any
  against P h [] k = refl
  against P h (Q ∷ Qs) k =
      ap (λ t. not t || any (λ Q. not (separated gap (map (shifted a b) P) Q)) (map (map (shifted a b)) Qs)) (separated-together gap P Q h k.0 a b)
      ∙ ap (λ t. not (separated gap P Q) || t) (against P h Qs k.1)

  -- Both pieces moved by the same amount: conflict stays as it is.
  pub pieces_conflict-together : (Ps Qs : List Part) → Vertexed Ps → Vertexed Qs
      → pieces_conflict gap (map (map (shifted a b)) Ps) (map (map (shifted a b)) Qs) ≡ pieces_conflict gap Ps Qs
  unfolding pieces_conflict any
  pieces_conflict-together [] Qs h k = refl
  pieces_conflict-together (P ∷ Ps) Qs h k =
      ap (λ t. t || any (λ P. any (λ Q. not (separated gap P Q)) (map (map (shifted a b)) Qs)) (map (map (shifted a b)) Ps)) (against P h.0 Qs k)
      ∙ ap (λ t. any (λ Q. not (separated gap P Q)) Qs || t) (pieces_conflict-together Ps Qs h.1 k)

-- ---- parts placed

-- a placed part is the turned part, moved
pub placed-moved : (b : Board) (p : Placement) (P : Part)
    → placed_part b p P ≡ map (moved (p.column * b.g) (p.row * b.g)) (map (rotated p.rotation) P)
unfolding placed_part
placed-moved b p P = sym (map-map (moved (p.column * b.g) (p.row * b.g)) (rotated p.rotation) P)

-- Two placed parts are separated exactly if the turned parts are, the second moved by the way from the first's dot to its own.
pub separated-placed : (gap : ℕ) (b : Board) (p q : Placement) (P Q : Part) → 0 < length P → 0 < length Q
    → separated gap (placed_part b p P) (placed_part b q Q)
    ≡ separated gap (map (rotated p.rotation) P)
    (map (shifted (pos (q.column * b.g) -ℤ pos (p.column * b.g)) (pos (q.row * b.g) -ℤ pos (p.row * b.g))) (map (rotated q.rotation) Q))
separated-placed gap b p q P Q h k =
    ap (λ (R : Part). separated gap R (placed_part b q Q)) (placed-moved b p P)
    ∙ ap (λ (R : Part). separated gap (map (moved (p.column * b.g) (p.row * b.g)) (map (rotated p.rotation) P)) R) (placed-moved b q Q)
    ∙ separated-moved gap (map (rotated p.rotation) P) (map (rotated q.rotation) Q) (rw (length-map P (rotated p.rotation)) h) (rw (length-map Q (rotated q.rotation)) k)
    (p.column * b.g) (p.row * b.g) (q.column * b.g) (q.row * b.g)
