-- From the model's words, which go by places (corner i, the corner after it), to elements of lists: the edges of a part, what `sound`, `normals` and `separates` say
-- of them. Assumes nothing.
use mathlib.Core.Path.{◌≡◌, refl, sym, ◌∙◌, ap, subst}
use mathlib.Core.Bool.{Bool, true, false, cond, ◌||◌}
use mathlib.Core.List.{List, [], ◌∷◌, map}
use mathlib.Core.Logic.{◌⊎◌, inl, inr, ⊎_elim}
use Prim.Native.Nat.{ℕ, zero, suc, ◌+◌, ◌≤◌, ◌<◌}
use native.Mathlib.Nat.{zero-mul}
use native.Mathlib.Omega.{arith}
use borrow.Author.Tests.{eqb-true, eqb-false, eq-eqb, ne_eqb}
use lib.Dec.{eqb}
use lib.IntN.{ℤ, pos, nat_abs, ◌+ℤ◌, ◌-ℤ◌, +ℤ_idr}
use lib.ListN.{length, get_or, length-map}
use lib.Signed.{le_z, ◌≤ℤ◌, ◌<ℤ◌, ≤ℤ_refl}
use Rattle.integers.proofs.Solver.{◌⊞◌, ◌⊟◌, ◌≲◌}
use Rattle.integers.proofs.Certificates.{order, ◌⊢◌by◌, hyp, num, ◌⊕◌}
use Rattle.integers.proofs.Order.{<ℤ-≤ℤ, le_z_true, lt_z_true, le_le_z}
use Rattle.model.specs.Content.{Vertex, Part, origin}
use Rattle.model.specs.Geometry.{vertex_at, following, cross, strictly_left, edge_sound, sound, Direction, direction, outward_normal, normals, negated, directions, along, separates, disjoint}
use Rattle.model.specs.Lists.{any, below, largest_z, smallest_z}
use Rattle.model.proofs.Lists.{all-below}
use Rattle.model.proofs.Extremes.{largest-test, smallest_test}
use Rattle.convexity.specs.Parts.{width}
use Rattle.convexity.specs.Square.{clearance, separates_by}
use Rattle.convexity.proofs.Members.{In, here, there, not_in, in_left, in_right, all_in, in_all, in_any, in_map, map-in, in_at, at_in, in_below, below_in}
use Rattle.convexity.proofs.HalfPlanes.{O}
use Rattle.convexity.proofs.Edges.{Edge, chain, edges, area, area_e, Good}
use Rattle.convexity.proofs.Separation.{Wide, Sep, nx, ny, ByEdge}

-- ---- the edge at a place

abbrev pub edge_at : Part → ℕ → Edge
edge_at P i = record { s = vertex_at P i; t = vertex_at P (following P i) }

pub following-step : (P : Part) (i : ℕ) → suc i < length P → following P i ≡ suc i
unfolding following
following-step P i h = rw (ne_eqb (suc i) (length P) (omega arith))

pub following-last : (P : Part) (i : ℕ) → suc i ≡ length P → following P i ≡ 0
unfolding following
following-last P i h = rw (eq-eqb (suc i) (length P) h)

-- the edges of a chain are those from each corner to the next, and the one from the last back to f
in_step : (f p : Vertex) (ps : Part) (i : ℕ) → i < length ps → In (record { s = get_or (p ∷ ps) i origin; t = get_or ps i origin }) (chain f p ps)
in_step f p [] i h = absurd (omega arith)
in_step f p (q ∷ ps) zero h = here
in_step f p (q ∷ ps) (suc i) h = there (in_step f q ps i (omega arith))

in_last : (f p : Vertex) (ps : Part) → In (record { s = get_or (p ∷ ps) (length ps) origin; t = f }) (chain f p ps)
in_last f p [] = here
in_last f p (q ∷ ps) = there (in_last f q ps)

pub in_edges : (P : Part) (i : ℕ) → i < length P → In (edge_at P i) (edges P)
unfolding vertex_at
in_edges [] i h = absurd (omega arith)
in_edges (p ∷ ps) i h = go (eqb (suc i) (suc (length ps))) refl
  where
    go : (b : Bool) → eqb (suc i) (suc (length ps)) ≡ b → In (record { s = get_or (p ∷ ps) i origin; t = get_or (p ∷ ps) (following (p ∷ ps) i) origin }) (chain p p ps)
    go true e =
        let l : i ≡ length ps = omega (arith, eqb-true (suc i) (suc (length ps)) e) in
        rw (following-last (p ∷ ps) i (eqb-true (suc i) (suc (length ps)) e), l) (in_last p p ps)
    go false e =
        let n : i < length ps = omega (arith, eqb-false (suc i) (suc (length ps)) e) in
        rw (following-step (p ∷ ps) i (omega arith)) (in_step p p ps i n)

-- where an edge of a chain stands
chain-in : (f p : Vertex) (ps : Part) (e : Edge) → In e (chain f p ps)
    → (i : ℕ) × (e.s ≡ get_or (p ∷ ps) i origin) × (((i < length ps) × (e.t ≡ get_or ps i origin)) ⊎ ((i ≡ length ps) × (e.t ≡ f)))
chain-in f p [] e here = (0, refl, inr (refl, refl))
chain-in f p [] e (there i) = absurd (not_in i)
chain-in f p (q ∷ ps) e here = (0, refl, inl (omega arith, refl))
chain-in f p (q ∷ ps) e (there i) =
    let r = chain-in f q ps e i in
    (suc r.0, r.1, ⊎_elim (λ (h, k). inl (omega arith, k)) (λ (h, k). inr (omega arith, k)) r.2)

same_ends : (s t : Vertex) (e : Edge) → e.s ≡ s → e.t ≡ t → record { s = s; t = t } ≡ e
same_ends s t e p q = sym (ap {B = Edge} (λ z. record { s = z; t = e.t }) p ∙ ap {B = Edge} (λ z. record { s = s; t = z }) q)

pub edges_in : (P : Part) (e : Edge) → In e (edges P) → (i : ℕ) × (i < length P) × (edge_at P i ≡ e)
unfolding vertex_at
edges_in [] e j = absurd (not_in j)
edges_in (p ∷ ps) e j = go (chain-in p p ps e j)
  where
    go : (i : ℕ) × (e.s ≡ get_or (p ∷ ps) i origin) × (((i < length ps) × (e.t ≡ get_or ps i origin)) ⊎ ((i ≡ length ps) × (e.t ≡ p)))
        → (i : ℕ) × (i < suc (length ps)) × (record { s = get_or (p ∷ ps) i origin; t = get_or (p ∷ ps) (following (p ∷ ps) i) origin } ≡ e)
    go (i, s, r) =
        ⊎_elim (λ (h, t). (i, omega arith, rw (following-step (p ∷ ps) i (omega arith)) (same_ends _ _ e s t)))
        (λ (h, t). (i, omega arith, rw (following-last (p ∷ ps) i (omega arith)) (same_ends _ _ e s t))) r

-- ---- the normals are those of the edges

abbrev pub normal_of : Edge → Direction
normal_of e = direction (nx e) (ny e)

pub normals-in : (P : Part) (d : Direction) → In d (normals P) → (e : Edge) × In e (edges P) × (normal_of e ≡ d)
unfolding normals outward_normal
normals-in P d j =
    let r = map-in (λ i. direction ((edge_at P i).t.y -ℤ (edge_at P i).s.y) ((edge_at P i).s.x -ℤ (edge_at P i).t.x)) (below (length P)) d j in
    (edge_at P r.0, in_edges P r.0 (below_in (length P) r.0 r.1), r.2)

pub in_normals : (P : Part) (e : Edge) → In e (edges P) → In (normal_of e) (normals P)
unfolding normals outward_normal
in_normals P e j =
    let r = edges_in P e j in
    subst (λ (e : Edge). In (direction (e.t.y -ℤ e.s.y) (e.s.x -ℤ e.t.x)) (normals P)) r.2
    (in_map (λ i. direction ((edge_at P i).t.y -ℤ (edge_at P i).s.y) ((edge_at P i).s.x -ℤ (edge_at P i).t.x)) (in_below (length P) r.0 r.1))

-- ---- a direction that separates

largest-upper : (zs : List ℤ) → 0 < length zs → (z : ℤ) → In z zs → z ≤ℤ largest_z zs
largest-upper zs h z i =
    le_z_true z (largest_z zs)
    (all_in (λ z. le_z z (largest_z zs)) zs (sym (largest-test (largest_z zs) zs h) ∙ le_le_z _ _ (≤ℤ_refl (largest_z zs))) z i)

largest-least : (zs : List ℤ) → 0 < length zs → (c : ℤ) → ((z : ℤ) → In z zs → z ≤ℤ c) → largest_z zs ≤ℤ c
largest-least zs h c f = le_z_true (largest_z zs) c (largest-test c zs h ∙ in_all (λ z. le_z z c) zs (λ z i. le_le_z z c (f z i)))

smallest_lower : (zs : List ℤ) → 0 < length zs → (z : ℤ) → In z zs → smallest_z zs ≤ℤ z
smallest_lower zs h z i =
    le_z_true (smallest_z zs) z (all_in (le_z (smallest_z zs)) zs (sym (smallest_test (smallest_z zs) zs h) ∙ le_le_z _ _ (≤ℤ_refl (smallest_z zs))) z i)

smallest_greatest : (zs : List ℤ) → 0 < length zs → (c : ℤ) → ((z : ℤ) → In z zs → c ≤ℤ z) → c ≤ℤ smallest_z zs
smallest_greatest zs h c f = le_z_true c (smallest_z zs) (smallest_test c zs h ∙ in_all (le_z c) zs (λ z i. le_le_z c z (f z i)))

module _ (gap : ℕ) (P Q : Part) (some_p : 0 < length P) (some_q : 0 < length Q) (d : Direction) where
  first_some : 0 < length (map (along d) P)
  first_some = rw (length-map P (along d)) some_p

  second_some : 0 < length (map (along d) Q)
  second_some = rw (length-map Q (along d)) some_q

  -- it separates exactly if it separates each corner of P from each of Q
  pub separates-corners : separates_by gap P Q d ≡ true → Sep (pos gap) d.a d.b P Q
  unfolding separates_by along clearance
  separates-corners h p q i j =
      order 5 (λ u l k s v. (u ≲ l) ∷ (l ⊞ k ≲ s) ∷ (s ≲ v) ∷ [] ⊢ u ⊞ k ≲ v by hyp 0 ⊕ hyp 1 ⊕ hyp 2) tt
      (along d p) (largest_z (map (along d) P)) (clearance gap d) (smallest_z (map (along d) Q)) (along d q)
      (largest-upper (map (along d) P) first_some (along d p) (in_map (along d) i)) (le_z_true _ _ h)
      (smallest_lower (map (along d) Q) second_some (along d q) (in_map (along d) j))

  pub corners-separate : Sep (pos gap) d.a d.b P Q → separates_by gap P Q d ≡ true
  unfolding separates_by along clearance
  corners-separate f =
      le_le_z _ _
      (smallest_greatest (map (along d) Q) second_some _ (λ z j.
      (let q = map-in (along d) Q z j in
      subst (λ v. (largest_z (map (along d) P) +ℤ clearance gap d) ≤ℤ v) q.2
      (back (largest_z (map (along d) P)) (clearance gap d) (along d q.0)
      (largest-least (map (along d) P) first_some _ (λ w i. let p = map-in (along d) P w i in subst (λ u. u ≤ℤ (along d q.0 -ℤ clearance gap d)) p.2
      (fore (along d p.0) (clearance gap d) (along d q.0) (f p.0 q.0 p.1 q.1))))))))
    where
      fore : (u k v : ℤ) → (u +ℤ k) ≤ℤ v → u ≤ℤ (v -ℤ k)
      fore = order 3 (λ u k v. (u ⊞ k ≲ v) ∷ [] ⊢ u ≲ v ⊟ k by hyp 0) tt

      back : (l k v : ℤ) → l ≤ℤ (v -ℤ k) → (l +ℤ k) ≤ℤ v
      back = order 3 (λ l k v. (l ≲ v ⊟ k) ∷ [] ⊢ l ⊞ k ≲ v by hyp 0) tt

  -- each corner of Q lies at least the width beyond each of P
  pub width-corners : Wide (width P Q d) d.a d.b P Q
  unfolding along
  width-corners p q i j =
      order 4 (λ u l s v. (u ≲ l) ∷ (s ≲ v) ∷ [] ⊢ u ⊞ (s ⊟ l) ≲ v by hyp 0 ⊕ hyp 1) tt
      (along d p) (largest_z (map (along d) P)) (smallest_z (map (along d) Q)) (along d q)
      (largest-upper (map (along d) P) first_some (along d p) (in_map (along d) i))
      (smallest_lower (map (along d) Q) second_some (along d q) (in_map (along d) j))

-- at gap 0
pub zero_gap : (P Q : Part) (d : Direction) → separates_by 0 P Q d ≡ separates P Q d
unfolding separates_by separates clearance
zero_gap P Q d =
    ap (λ n. le_z (largest_z (map (along d) P) +ℤ pos n) (smallest_z (map (along d) Q))) (zero-mul (nat_abs d.a + nat_abs d.b))
    ∙ ap (λ z. le_z z (smallest_z (map (along d) Q))) (+ℤ_idr (largest_z (map (along d) P)))

-- ---- separated by an edge

module _ (P Q : Part) (some_p : 0 < length P) (some_q : 0 < length Q) where
  separating : (d : Direction) → Sep (pos 0) d.a d.b P Q → separates P Q d ≡ true
  separating d f = sym (zero_gap P Q d) ∙ corners-separate 0 P Q some_p some_q d f

  pub edge_separated : ByEdge P Q → disjoint P Q ≡ true
  unfolding disjoint directions negated
  edge_separated = ⊎_elim
      (λ (e, i, s). in_any (separates P Q) (directions P Q) (normal_of e) (in_left (map negated (normals Q)) (in_normals P e i)) (separating (normal_of e) s))
      (λ (e, i, s). in_any (separates P Q) (directions P Q) (negated (normal_of e)) (in_right (normals P) (in_map negated (in_normals Q e i))) (separating (negated (normal_of e)) s))

-- ---- sound parts

-- what a sound part's edge says of each corner: it is an end of the edge, or strictly left of it
left-of : (P : Part) → sound P ≡ true → (i k : ℕ) → i < length P → k < length P
    → (k ≡ i) ⊎ (k ≡ following P i) ⊎ (pos 0 <ℤ area (vertex_at P i) (vertex_at P (following P i)) (vertex_at P k))
unfolding sound edge_sound strictly_left cross
left-of P h i k hi hk =
    ⊎_elim (λ e. inl (eqb-true k i e)) (⊎_elim (λ e. inr (inl (eqb-true k (following P i) e))) (λ e. inr (inr (lt_z_true _ _ e))))
    (one_of (eqb k i) (eqb k (following P i)) (strictly_left (vertex_at P i) (vertex_at P (following P i)) (vertex_at P k))
    (all-below _ (length P) (all-below (edge_sound P) (length P) h i hi) k hk))
  where
    one_of : (a b c : Bool) → (a || b || c) ≡ true → (a ≡ true) ⊎ (b ≡ true) ⊎ (c ≡ true)
    one_of true b c e = inl refl
    one_of false true c e = inr (inl refl)
    one_of false false c e = inr (inr e)

-- an end of an edge lies on it
at_start : (p q : Vertex) → pos 0 ≤ℤ area p q p
at_start p q = order 4 (λ px py qx qy. [] ⊢ O ≲ area_e px py qx qy px py by num 0) tt p.x p.y q.x q.y

at_end : (p q : Vertex) → pos 0 ≤ℤ area p q q
at_end p q = order 4 (λ px py qx qy. [] ⊢ O ≲ area_e px py qx qy qx qy by num 0) tt p.x p.y q.x q.y

-- a corner that is no end of edge i
abbrev other : ℕ → ℕ
other zero = 2
other (suc zero) = 0
other (suc (suc i)) = 1

following-or : (P : Part) (i : ℕ) → (following P i ≡ suc i) ⊎ (following P i ≡ 0)
unfolding following
following-or P i = go (eqb (suc i) (length P))
  where
    go : (t : Bool) → (cond t 0 (suc i) ≡ suc i) ⊎ (cond t 0 (suc i) ≡ 0)
    go true = inr refl
    go false = inl refl

record Other (P : Part) (i k : ℕ) : Type 0 where
  fits : k < length P
  apart : k ≡ i → ⊥
  after : k ≡ following P i → ⊥

other-ok : (P : Part) (i : ℕ) → 3 ≤ length P → Other P i (other i)
other-ok P zero h = record { fits = omega arith; apart = omega arith; after = omega (arith, following-step P 0 (omega arith)) }
other-ok P (suc zero) h = record { fits = omega arith; apart = omega arith; after = omega (arith, following-step P 1 (omega arith)) }
other-ok P (suc (suc i)) h = record {
  fits = omega arith;
  apart = omega arith;
  after = ⊎_elim {C = 1 ≡ following P (suc (suc i)) → ⊥} (λ k. omega arith) (λ k. omega arith) (following-or P (suc (suc i)));
}

-- corners, by place
pub in_part : (P : Part) (i : ℕ) → i < length P → In (vertex_at P i) P
unfolding vertex_at
in_part P i h = in_at origin P i h

part_in_lem : (P : Part) (v : Vertex) → In v P → (i : ℕ) × (i < length P) × (vertex_at P i ≡ v)
unfolding vertex_at
part_in_lem P v j = at_in origin P v j

-- A sound part with three corners is good.
pub sound-good : (P : Part) → sound P ≡ true → 3 ≤ length P → Good P
sound-good P s three = record { any = (vertex_at P 0, in_part P 0 (omega arith)); weak = weak; some = some }
  where
    weak_at : (i k : ℕ) → i < length P → k < length P → pos 0 ≤ℤ area (vertex_at P i) (vertex_at P (following P i)) (vertex_at P k)
    weak_at i k hi hk =
        ⊎_elim (λ e. rw e (at_start (vertex_at P i) (vertex_at P (following P i))))
        (⊎_elim (λ e. rw e (at_end (vertex_at P i) (vertex_at P (following P i)))) (λ h. <ℤ-≤ℤ h)) (left-of P s i k hi hk)

    weak : (e : Edge) (c : Vertex) → In e (edges P) → In c P → pos 0 ≤ℤ area e.s e.t c
    weak e c i j =
        let r = edges_in P e i in
        let u = part_in_lem P c j in
        subst (λ (e : Edge). pos 0 ≤ℤ area e.s e.t c) r.2
        (subst (λ c. pos 0 ≤ℤ area (edge_at P r.0).s (edge_at P r.0).t c) u.2 (weak_at r.0 u.0 r.1 u.1))

    some_at : (i : ℕ) → i < length P → (c : Vertex) × In c P × (pos 0 <ℤ area (vertex_at P i) (vertex_at P (following P i)) c)
    some_at i hi =
        let o = other-ok P i three in
        (vertex_at P (other i), in_part P (other i) o.fits, ⊎_elim (λ e. absurd (o.apart e)) (⊎_elim (λ e. absurd (o.after e)) (λ h. h)) (left-of P s i (other i) hi o.fits))

    some : (e : Edge) → In e (edges P) → (c : Vertex) × In c P × (pos 0 <ℤ area e.s e.t c)
    some e i = let r = edges_in P e i in subst (λ (e : Edge). (c : Vertex) × In c P × (pos 0 <ℤ area e.s e.t c)) r.2 (some_at r.0 r.1)
