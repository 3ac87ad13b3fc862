-- Parts that lie as far apart along a direction as a gap have each corner so far from each edge of the other part. Assumes nothing.
use mathlib.Core.Path.{◌≡◌, refl}
use mathlib.Core.List.{List, [], ◌∷◌}
use lib.IntN.{ℤ, pos, negsuc, neg_ℤ, nat_abs, ◌+ℤ◌, ◌-ℤ◌, ◌*ℤ◌}
use lib.Signed.{◌≤ℤ◌, ◌<ℤ◌}
use Rattle.integers.specs.Absolute.{abs_z}
use Rattle.integers.proofs.Solver.{ring, ◌⊞◌, ◌⊟◌, ◌⊠◌, ⊖◌, ◌≈◌, ◌≲◌, ◌≺◌}
use Rattle.integers.proofs.Slack.{nonneg_pos}
use Rattle.integers.proofs.Certificates.{order, ◌⊢◌by◌, hyp, sqr, num, times, ◌⊕◌, ◌⊗◌}
use Rattle.integers.proofs.Order.{<ℤ-trans, <ℤ-≤ℤ, *ℤ-cancel-≤}
use Rattle.model.specs.Content.{Vertex, Part}
use Rattle.convexity.proofs.Members.{In, here, there, not_in}
use Rattle.convexity.proofs.HalfPlanes.{O}
use Rattle.convexity.proofs.Edges.{Edge, chain, edges, area, Good, area_e}
use Rattle.convexity.proofs.Separation.{dot, Wide, Sep, ByEdge, some-edge, start, neg_nz}

-- ---- distances, squared

-- the model's `distance_squared`, open
abbrev pub d2 : Vertex → Vertex → ℤ
d2 p q = (q.x -ℤ p.x) *ℤ (q.x -ℤ p.x) +ℤ (q.y -ℤ p.y) *ℤ (q.y -ℤ p.y)

-- its `along_edge`, open
abbrev pub along : Vertex → Edge → ℤ
along c e = (e.t.x -ℤ e.s.x) *ℤ (c.x -ℤ e.s.x) +ℤ (e.t.y -ℤ e.s.y) *ℤ (c.y -ℤ e.s.y)

-- a corner is not nearer than g to an edge: what `near_edge` asks, by cases
pub record Far (g : ℤ) (c : Vertex) (e : Edge) : Type 0 where
  pub before : along c e ≤ℤ pos 0 → (g *ℤ g) ≤ℤ d2 e.s c
  pub after : pos 0 <ℤ along c e → d2 e.s e.t ≤ℤ along c e → (g *ℤ g) ≤ℤ d2 e.t c
  pub beside : pos 0 <ℤ along c e → along c e <ℤ d2 e.s e.t → (g *ℤ g *ℤ d2 e.s e.t) ≤ℤ (area e.s e.t c *ℤ area e.s e.t c)

-- a common factor is left out
pub cancel : (n u v : ℤ) → pos 0 <ℤ n → (n *ℤ u) ≤ℤ (n *ℤ v) → u ≤ℤ v
cancel n u v h k = *ℤ-cancel-≤ u v n h (order 3 (λ n u v. (n ⊠ u ≲ n ⊠ v) ∷ [] ⊢ u ⊠ n ≲ v ⊠ n by hyp 0) tt n u v k)

-- ---- the direction (a, b) goes w or more from a corner to each end of an edge, and (a² + b²) · g² is at most w²

-- so to an end the squared distance is at least g²: (a² + b²) · g² ≤ w² ≤ (a · x + b · y)² ≤ (a² + b²) · (x² + y²)
near-corner : (a b w g x y : ℤ) → pos 0 ≤ℤ w → ((a *ℤ a +ℤ b *ℤ b) *ℤ (g *ℤ g)) ≤ℤ (w *ℤ w) → w ≤ℤ (a *ℤ x +ℤ b *ℤ y) → ((a *ℤ a +ℤ b *ℤ b) *ℤ (g *ℤ g)) ≤ℤ ((a *ℤ a +ℤ b *ℤ b) *ℤ (x *ℤ x +ℤ y *ℤ y))
near-corner = order 6 (λ a b w g x y. (O ≲ w) ∷ ((a ⊠ a ⊞ b ⊠ b) ⊠ (g ⊠ g) ≲ w ⊠ w) ∷ (w ≲ a ⊠ x ⊞ b ⊠ y) ∷ []
    ⊢ (a ⊠ a ⊞ b ⊠ b) ⊠ (g ⊠ g) ≲ (a ⊠ a ⊞ b ⊠ b) ⊠ (x ⊠ x ⊞ y ⊠ y) by sqr (a ⊠ y ⊟ b ⊠ x) ⊕ hyp 2 ⊗ (hyp 2 ⊕ num 2 ⊗ hyp 0) ⊕ hyp 1) tt

-- and so to the foot on the edge, of which (l − u) · p + u · q is the way times l: n is a² + b², l the squared length, u how far along, p and q the way to the ends
near-edge : (n w g l u p q c k : ℤ) → pos 0 ≤ℤ w → (n *ℤ (g *ℤ g)) ≤ℤ (w *ℤ w) → pos 0 ≤ℤ u → u ≤ℤ l → w ≤ℤ p → w ≤ℤ q → (l -ℤ u) *ℤ p +ℤ u *ℤ q ≡ c *ℤ k → (k *ℤ k) ≤ℤ (n *ℤ l) → (n *ℤ l *ℤ (g *ℤ g *ℤ l)) ≤ℤ (n *ℤ l *ℤ (c *ℤ c))
near-edge = order 9 (λ n w g l u p q c k. (O ≲ w) ∷ (n ⊠ (g ⊠ g) ≲ w ⊠ w) ∷ (O ≲ u) ∷ (u ≲ l) ∷ (w ≲ p) ∷ (w ≲ q) ∷ ((l ⊟ u) ⊠ p ⊞ u ⊠ q ≈ c ⊠ k) ∷ (k ⊠ k ≲ n ⊠ l) ∷ []
    ⊢ n ⊠ l ⊠ (g ⊠ g ⊠ l) ≲ n ⊠ l ⊠ (c ⊠ c)
    by sqr c ⊗ hyp 7 ⊕ times 6 (c ⊠ k ⊞ (l ⊟ u) ⊠ p ⊞ u ⊠ q) ⊕ (hyp 3 ⊗ hyp 4 ⊕ hyp 2 ⊗ hyp 5) ⊗ (hyp 3 ⊗ hyp 4 ⊕ hyp 2 ⊗ hyp 5 ⊕ num 2 ⊗ (hyp 2 ⊕ hyp 3) ⊗ hyp 0) ⊕ sqr l ⊗ hyp 1) tt

-- how far the direction (a, b) goes from c to s
abbrev toward : ℤ → ℤ → Vertex → Vertex → ℤ
toward a b c s = a *ℤ (s.x -ℤ c.x) +ℤ b *ℤ (s.y -ℤ c.y)

-- the way from a corner to the foot on an edge is square to the edge
foot : (a b : ℤ) (c : Vertex) (e : Edge) → (d2 e.s e.t -ℤ along c e) *ℤ toward a b c e.s +ℤ along c e *ℤ toward a b c e.t ≡ area e.s e.t c *ℤ (a *ℤ (e.t.y -ℤ e.s.y) -ℤ b *ℤ (e.t.x -ℤ e.s.x))
foot a b c e = ring 8 (λ a b cx cy sx sy tx ty.
    ((tx ⊟ sx) ⊠ (tx ⊟ sx) ⊞ (ty ⊟ sy) ⊠ (ty ⊟ sy) ⊟ ((tx ⊟ sx) ⊠ (cx ⊟ sx) ⊞ (ty ⊟ sy) ⊠ (cy ⊟ sy))) ⊠ (a ⊠ (sx ⊟ cx) ⊞ b ⊠ (sy ⊟ cy)) ⊞ ((tx ⊟ sx) ⊠ (cx ⊟ sx) ⊞ (ty ⊟ sy) ⊠ (cy ⊟ sy)) ⊠ (a ⊠ (tx ⊟ cx) ⊞ b ⊠ (ty ⊟ cy))
    ≈ area_e sx sy tx ty cx cy ⊠ (a ⊠ (ty ⊟ sy) ⊟ b ⊠ (tx ⊟ sx))) tt a b c.x c.y e.s.x e.s.y e.t.x e.t.y

-- Cauchy and Schwarz
cauchy : (a b x y : ℤ) → ((a *ℤ y -ℤ b *ℤ x) *ℤ (a *ℤ y -ℤ b *ℤ x)) ≤ℤ ((a *ℤ a +ℤ b *ℤ b) *ℤ (x *ℤ x +ℤ y *ℤ y))
cauchy = order 4 (λ a b x y. [] ⊢ (a ⊠ y ⊟ b ⊠ x) ⊠ (a ⊠ y ⊟ b ⊠ x) ≲ (a ⊠ a ⊞ b ⊠ b) ⊠ (x ⊠ x ⊞ y ⊠ y) by sqr (a ⊠ x ⊞ b ⊠ y)) tt

-- the distance from either corner
square-flip : (g x y u v : ℤ) → g ≤ℤ ((x -ℤ u) *ℤ (x -ℤ u) +ℤ (y -ℤ v) *ℤ (y -ℤ v)) → g ≤ℤ ((u -ℤ x) *ℤ (u -ℤ x) +ℤ (v -ℤ y) *ℤ (v -ℤ y))
square-flip = order 5 (λ g x y u v. (g ≲ (x ⊟ u) ⊠ (x ⊟ u) ⊞ (y ⊟ v) ⊠ (y ⊟ v)) ∷ [] ⊢ g ≲ (u ⊟ x) ⊠ (u ⊟ x) ⊞ (v ⊟ y) ⊠ (v ⊟ y) by hyp 0) tt

module _ (a b w g : ℤ) (nz : pos 0 <ℤ (a *ℤ a +ℤ b *ℤ b)) (hw : pos 0 ≤ℤ w) (hn : ((a *ℤ a +ℤ b *ℤ b) *ℤ (g *ℤ g)) ≤ℤ (w *ℤ w)) where
  far-corner : (c s : Vertex) → w ≤ℤ toward a b c s → (g *ℤ g) ≤ℤ d2 s c
  far-corner c s h = square-flip (g *ℤ g) s.x s.y c.x c.y (cancel (a *ℤ a +ℤ b *ℤ b) (g *ℤ g) (d2 c s) nz (near-corner a b w g (s.x -ℤ c.x) (s.y -ℤ c.y) hw hn h))

  far : (c : Vertex) (e : Edge) → w ≤ℤ toward a b c e.s → w ≤ℤ toward a b c e.t → Far g c e
  far c e h k = record { before = λ z. far-corner c e.s h; after = λ u z. far-corner c e.t k; beside = λ u v. full (<ℤ-trans u v) (<ℤ-≤ℤ u) (<ℤ-≤ℤ v) }
    where
      l : ℤ
      l = d2 e.s e.t

      x : ℤ
      x = area e.s e.t c

      n : ℤ
      n = a *ℤ a +ℤ b *ℤ b

      full : pos 0 <ℤ l → pos 0 ≤ℤ along c e → along c e ≤ℤ l → (g *ℤ g *ℤ l) ≤ℤ (x *ℤ x)
      full p u v = cancel (n *ℤ l) (g *ℤ g *ℤ l) (x *ℤ x) (order 2 (λ n l. (O ≺ n) ∷ (O ≺ l) ∷ [] ⊢ O ≺ n ⊠ l by hyp 0 ⊗ hyp 1 ⊕ hyp 0 ⊕ hyp 1) tt n l nz p)
          (near-edge n w g l (along c e) (toward a b c e.s) (toward a b c e.t) x (a *ℤ (e.t.y -ℤ e.s.y) -ℤ b *ℤ (e.t.x -ℤ e.s.x)) hw hn u v h k (foot a b c e) (cauchy a b (e.t.x -ℤ e.s.x) (e.t.y -ℤ e.s.y)))

-- ---- parts separated by a direction

-- an edge ends at a corner
skip : {A : Type 0} {c f : A} {ps : List A} (q : A) → In c (f ∷ ps) → In c (f ∷ q ∷ ps)
skip q here = here
skip q (there j) = there (there j)

end_of : (f p : Vertex) (ps : Part) (e : Edge) → In e (chain f p ps) → In e.t (f ∷ ps)
end_of f p [] e here = here
end_of f p [] e (there i) = absurd (not_in i)
end_of f p (q ∷ ps) e here = there here
end_of f p (q ∷ ps) e (there i) = skip q (end_of f q ps e i)

end : (ps : Part) (e : Edge) → In e (edges ps) → In e.t ps
end [] e i = absurd (not_in i)
end (p ∷ ps) e i = end_of p p ps e i

-- no corner of either part is nearer than g to an edge of the other
pub record Apart (g : ℤ) (ps qs : Part) : Type 0 where
  pub first : (p : Vertex) (e : Edge) → In p ps → In e (edges qs) → Far g p e
  pub second : (q : Vertex) (e : Edge) → In q qs → In e (edges ps) → Far g q e

-- the opposite direction
neg_norm : (a b g w : ℤ) → ((a *ℤ a +ℤ b *ℤ b) *ℤ (g *ℤ g)) ≤ℤ w → ((neg_ℤ a *ℤ neg_ℤ a +ℤ neg_ℤ b *ℤ neg_ℤ b) *ℤ (g *ℤ g)) ≤ℤ w
neg_norm = order 4 (λ a b g w. ((a ⊠ a ⊞ b ⊠ b) ⊠ (g ⊠ g) ≲ w) ∷ [] ⊢ (⊖ a ⊠ ⊖ a ⊞ ⊖ b ⊠ ⊖ b) ⊠ (g ⊠ g) ≲ w by hyp 0) tt

-- the way from a corner of the first part to one of the second, and back
ahead : (a b w px py qx qy : ℤ) → (a *ℤ px +ℤ b *ℤ py +ℤ w) ≤ℤ (a *ℤ qx +ℤ b *ℤ qy) → w ≤ℤ (a *ℤ (qx -ℤ px) +ℤ b *ℤ (qy -ℤ py))
ahead = order 7 (λ a b w px py qx qy. (a ⊠ px ⊞ b ⊠ py ⊞ w ≲ a ⊠ qx ⊞ b ⊠ qy) ∷ [] ⊢ w ≲ a ⊠ (qx ⊟ px) ⊞ b ⊠ (qy ⊟ py) by hyp 0) tt

back : (a b w px py qx qy : ℤ) → (a *ℤ px +ℤ b *ℤ py +ℤ w) ≤ℤ (a *ℤ qx +ℤ b *ℤ qy) → w ≤ℤ (neg_ℤ a *ℤ (px -ℤ qx) +ℤ neg_ℤ b *ℤ (py -ℤ qy))
back = order 7 (λ a b w px py qx qy. (a ⊠ px ⊞ b ⊠ py ⊞ w ≲ a ⊠ qx ⊞ b ⊠ qy) ∷ [] ⊢ w ≲ ⊖ a ⊠ (px ⊟ qx) ⊞ ⊖ b ⊠ (py ⊟ qy) by hyp 0) tt

-- parts that lie w apart along a direction are g apart, if w is at least g times the direction's length
pub wide_apart : (g w a b : ℤ) (ps qs : Part) → pos 0 ≤ℤ w → pos 0 <ℤ (a *ℤ a +ℤ b *ℤ b) → ((a *ℤ a +ℤ b *ℤ b) *ℤ (g *ℤ g)) ≤ℤ (w *ℤ w) → Wide w a b ps qs → Apart g ps qs
wide_apart g w a b ps qs hw nz hn s = record {
  first = λ p e i j. far a b w g nz hw hn p e (to p e.s i (start qs e j)) (to p e.t i (end qs e j));
  second = λ q e i j. far (neg_ℤ a) (neg_ℤ b) w g (neg_nz a b nz) hw (neg_norm a b g (w *ℤ w) hn) q e (from e.s q (start ps e j) i) (from e.t q (end ps e j) i);
}
  where
    to : (p q : Vertex) → In p ps → In q qs → w ≤ℤ toward a b p q
    to p q i j = ahead a b w p.x p.y q.x q.y (s p q i j)

    from : (p q : Vertex) → In p ps → In q qs → w ≤ℤ toward (neg_ℤ a) (neg_ℤ b) q p
    from p q i j = back a b w p.x p.y q.x q.y (s p q i j)

-- and separated at gap 0, by an edge
wide_zero : (w a b : ℤ) (ps qs : Part) → pos 0 ≤ℤ w → Wide w a b ps qs → Sep (pos 0) a b ps qs
wide_zero w a b ps qs hw s p q i j = order 4 (λ u v w m. (O ≲ w) ∷ (u ⊞ w ≲ v) ∷ [] ⊢ u ⊞ O ⊠ m ≲ v by hyp 0 ⊕ hyp 1) tt (dot a b p) (dot a b q) w (abs_z a +ℤ abs_z b) hw (s p q i j)

pub wide_edge : (ps qs : Part) (w a b : ℤ) → Good ps → Good qs → pos 0 ≤ℤ w → pos 0 <ℤ (a *ℤ a +ℤ b *ℤ b) → Wide w a b ps qs → ByEdge ps qs
wide_edge ps qs w a b k h hw nz s = some-edge ps qs k h a b nz (wide_zero w a b ps qs hw s)

-- ---- the gap measured as a square

-- a² + b² is at most (|a| + |b|)²
abs_z-sq : (a : ℤ) → abs_z a *ℤ abs_z a ≡ a *ℤ a
abs_z-sq (pos n) = refl
abs_z-sq (negsuc n) = refl

abs_z-norm : (g a b : ℤ) → ((a *ℤ a +ℤ b *ℤ b) *ℤ (g *ℤ g)) ≤ℤ (g *ℤ (abs_z a +ℤ abs_z b) *ℤ (g *ℤ (abs_z a +ℤ abs_z b)))
abs_z-norm g a b = order 5 (λ g a b c d. (c ⊠ c ≈ a ⊠ a) ∷ (d ⊠ d ≈ b ⊠ b) ∷ (O ≲ c) ∷ (O ≲ d) ∷ []
    ⊢ (a ⊠ a ⊞ b ⊠ b) ⊠ (g ⊠ g) ≲ g ⊠ (c ⊞ d) ⊠ (g ⊠ (c ⊞ d)) by times 0 (⊖ (g ⊠ g)) ⊕ times 1 (⊖ (g ⊠ g)) ⊕ sqr g ⊗ num 2 ⊗ hyp 2 ⊗ hyp 3) tt
    g a b (abs_z a) (abs_z b) (abs_z-sq a) (abs_z-sq b) (nonneg_pos (nat_abs a)) (nonneg_pos (nat_abs b))

reach-some : (g a b : ℤ) → pos 0 ≤ℤ g → pos 0 ≤ℤ (g *ℤ (abs_z a +ℤ abs_z b))
reach-some g a b hg = order 2 (λ g m. (O ≲ g) ∷ (O ≲ m) ∷ [] ⊢ O ≲ g ⊠ m by hyp 0 ⊗ hyp 1) tt g (abs_z a +ℤ abs_z b) hg (nonneg_pos _)

-- so what a direction separates at gap g is that far apart,
pub sep_apart : (g a b : ℤ) (ps qs : Part) → pos 0 ≤ℤ g → pos 0 <ℤ (a *ℤ a +ℤ b *ℤ b) → Sep g a b ps qs → Apart g ps qs
sep_apart g a b ps qs hg nz s = wide_apart g (g *ℤ (abs_z a +ℤ abs_z b)) a b ps qs (reach-some g a b hg) nz (abs_z-norm g a b) s

-- and separated at gap 0
pub sep_edge : (ps qs : Part) (g a b : ℤ) → Good ps → Good qs → pos 0 ≤ℤ g → pos 0 <ℤ (a *ℤ a +ℤ b *ℤ b) → Sep g a b ps qs → ByEdge ps qs
sep_edge ps qs g a b k h hg nz s = wide_edge ps qs (g *ℤ (abs_z a +ℤ abs_z b)) a b k h (reach-some g a b hg) nz s
