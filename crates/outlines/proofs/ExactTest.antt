-- The test is exact: `meet` finds two edges to meet only where they have a point in common, so that a simple outline is not refused. (That it finds all is `clear` of SimpleTest.)
use mathlib.Core.Bool.{Bool, true, false, ◌&&◌, ◌||◌, true≢false}
use mathlib.Core.List.{List, [], ◌∷◌, ◌++◌}
use mathlib.Core.Logic.{◌⊎◌, inl, inr, ⊎_elim}
use mathlib.Core.Option.{Option, none, some}
use mathlib.Core.Path.{◌≡◌, refl, sym, ◌∙◌, subst}
use borrow.Author.Tests.{not-true}
use lib.IntN.{ℤ, pos, negsuc, neg_ℤ, ◌+ℤ◌, ◌-ℤ◌}
use lib.Signed.{le_z, <ℤ-≤ℤ_trans, clash_ℤ, ≤ℤ_refl}
use Rattle.integers.proofs.Order as Order
use Rattle.integers.proofs.Order.{≤ℤ-antisym, <ℤ-≤ℤ, <ℤ-trans, ≤ℤ-<ℤ_trans, le_or_lt}
use Rattle.integers.proofs.Slack.{le_slack}
use Rattle.model.specs.Content.{Vertex, vertex}
use Rattle.model.specs.Geometry.{cross, strictly_left, along_edge}
use Rattle.model.proofs.Lists.{and_left, and_right, and_both, or_left, or_right}
use Rattle.outlines.specs.Outline.{Place, first_where, is_zero, same_side, less_than, meet, doubles_back, meets_path, edge_meets, edges_meet, last_of}
use Rattle.outlines.specs.Simple.{Meet, ShareOnly, PathEdge, IsSimple}
use Rattle.outlines.proofs.Tools.{dot, ◌≼◌, ◌≺◌, #, ◌⊞◌, ◌⊟◌, ◌⊠◌, ⊖◌, ◌≲◌, ◌⋖◌, ◌≈◌, never, hyp, ◌⊕◌, ◌⊢◌by◌, order, neg_lt, neg_zero, ring, times, or_l, or_r, or_case}
use Rattle.outlines.proofs.Crossing.{cross_e, cross-anti}
use Rattle.outlines.proofs.Winding.Telescope.{meet+, meet-, four, Meet-uw, lt_d+, lt_d-, Meet-swap, Meet-ab}
use Rattle.outlines.proofs.Winding.Turning.{Three, not_on_path}
use Rattle.outlines.proofs.Ears.Turned.{Turned, round}
use Rattle.outlines.proofs.Ears.Diagonal.{On, on_swap, on_meet, at_same}
use Rattle.outlines.proofs.Rule.{is_left, zero_is, found}
use Rattle.outlines.proofs.SimpleTest.{same-meet}

-- ---- not on one side
not_left : (a b u t : Vertex) → same_side a b u t ≡ false → pos 0 ≺ cross a b u → pos 0 ≺ cross a b t → ⊥
unfolding same_side
not_left a b u t e i j = true≢false (sym (or_l (strictly_left a b u && strictly_left a b t) (strictly_left b a u && strictly_left b a t) (and_both (strictly_left a b u) (strictly_left a b t) (is_left a b u i) (is_left a b t j))) ∙ e)

-- Nor both strictly on the right.
not_right : (a b u t : Vertex) → same_side a b u t ≡ false → cross a b u ≺ pos 0 → cross a b t ≺ pos 0 → ⊥
unfolding same_side
not_right a b u t e i j = true≢false (sym (or_r (strictly_left a b u && strictly_left a b t) (strictly_left b a u && strictly_left b a t) (and_both (strictly_left b a u) (strictly_left b a t) (flip u i) (flip t j))) ∙ e)
  where
    flip : (v : Vertex) → cross a b v ≺ pos 0 → strictly_left b a v ≡ true
    flip v k = is_left b a v (subst (λ q. pos 0 ≺ q) (sym (cross-anti a b v)) (neg_lt (cross a b v) k))

-- The first is larger: it is not negative, and the second not positive.
high : (a b u t : Vertex) → same_side a b u t ≡ false → cross a b t ≺ cross a b u → (pos 0 ≼ cross a b u) × (cross a b t ≼ pos 0)
high a b u t e h = (
  ⊎_elim (λ i. i) (λ i. absurd (not_right a b u t e i (<ℤ-trans h i))) (le_or_lt (pos 0) (cross a b u)),
  ⊎_elim (λ i. i) (λ i. absurd (not_left a b u t e (<ℤ-trans i h) i)) (le_or_lt (cross a b t) (pos 0)),
)

-- The first is smaller: it is not positive, and the second not negative.
low : (a b u t : Vertex) → same_side a b u t ≡ false → cross a b u ≺ cross a b t → (cross a b u ≼ pos 0) × (pos 0 ≼ cross a b t)
low a b u t e h = (
  ⊎_elim (λ i. i) (λ i. absurd (not_left a b u t e i (<ℤ-trans i h))) (le_or_lt (cross a b u) (pos 0)),
  ⊎_elim (λ i. i) (λ i. absurd (not_right a b u t e (<ℤ-trans h i) i)) (le_or_lt (pos 0) (cross a b t)),
)

-- Both are equal, and so 0.
level : (a b u t : Vertex) → same_side a b u t ≡ false → cross a b u ≡ cross a b t → cross a b u ≡ pos 0
level a b u t e h = ≤ℤ-antisym (⊎_elim (λ i. i) (λ i. absurd (not_left a b u t e i (subst (λ q. pos 0 ≺ q) h i))) (le_or_lt (cross a b u) (pos 0)))
    (⊎_elim (λ i. i) (λ i. absurd (not_right a b u t e i (subst (λ q. q ≺ pos 0) h i))) (le_or_lt (pos 0) (cross a b u)))

-- ---- on a line: between in one coordinate
abbrev Btw : ℤ → ℤ → ℤ → Type 0
Btw a b u = ((a ≼ u) × (u ≼ b)) ⊎ ((b ≼ u) × (u ≼ a))

-- The test of four numbers failed.
not_less : (a b u t : ℤ) → less_than a b u t ≡ false → a ≺ u → a ≺ t → b ≺ u → b ≺ t → ⊥
unfolding less_than
not_less a b u t e i j k l = true≢false (sym (and_both _ _ (and_both _ _ (and_both _ _ (Order.lt_lt_z a u i) (Order.lt_lt_z a t j)) (Order.lt_lt_z b u k)) (Order.lt_lt_z b t l)) ∙ e)

-- Two intervals, each from its smaller end, that are not apart.
sorted : (a b u t : ℤ) → a ≼ b → u ≼ t → (b ≺ u → ⊥) → (t ≺ a → ⊥) → Btw a b u ⊎ Btw u t a
sorted a b u t i j f g = ⊎_elim (λ k. inl (inl (k, ⊎_elim (λ l. l) (λ l. absurd (f l)) (le_or_lt u b)))) (λ k. inr (inl (<ℤ-≤ℤ k, ⊎_elim (λ l. l) (λ l. absurd (g l)) (le_or_lt a t)))) (le_or_lt a u)

-- The ends exchanged.
turn_b : {a b u : ℤ} → Btw a b u → Btw b a u
turn_b = ⊎_elim (λ i. inr i) (λ i. inl i)

-- Intervals that are not apart: an end of the one lies in the other.
overlap : (a b u t : ℤ) → less_than a b u t ≡ false → less_than u t a b ≡ false → (Btw a b u ⊎ Btw a b t) ⊎ (Btw u t a ⊎ Btw u t b)
overlap a b u t e f = ⊎_elim (λ i. ⊎_elim
    (λ j. ⊎_elim (λ k. inl (inl k)) (λ k. inr (inl k)) (sorted a b u t i j
    (λ k. not_less a b u t e (≤ℤ-<ℤ_trans i k) (<ℤ-≤ℤ_trans (≤ℤ-<ℤ_trans i k) j) k (<ℤ-≤ℤ_trans k j)) (λ k. not_less u t a b f (≤ℤ-<ℤ_trans j k) (<ℤ-≤ℤ_trans (≤ℤ-<ℤ_trans j k) i) k (<ℤ-≤ℤ_trans k i))))
    (λ j. let j' = <ℤ-≤ℤ j in ⊎_elim (λ k. inl (inr k)) (λ k. inr (inl (turn_b k))) (sorted a b t u i j'
    (λ k. not_less a b u t e (<ℤ-≤ℤ_trans (≤ℤ-<ℤ_trans i k) j') (≤ℤ-<ℤ_trans i k) (<ℤ-≤ℤ_trans k j') k) (λ k. not_less u t a b f k (<ℤ-≤ℤ_trans k i) (≤ℤ-<ℤ_trans j' k) (<ℤ-≤ℤ_trans (≤ℤ-<ℤ_trans j' k) i))))
    (le_or_lt u t))
    (λ i. let i' = <ℤ-≤ℤ i in ⊎_elim
    (λ j. ⊎_elim (λ k. inl (inl (turn_b k))) (λ k. inr (inr k)) (sorted b a u t i' j
    (λ k. not_less a b u t e k (<ℤ-≤ℤ_trans k j) (≤ℤ-<ℤ_trans i' k) (<ℤ-≤ℤ_trans (≤ℤ-<ℤ_trans i' k) j)) (λ k. not_less u t a b f (<ℤ-≤ℤ_trans (≤ℤ-<ℤ_trans j k) i') (≤ℤ-<ℤ_trans j k) (<ℤ-≤ℤ_trans k i') k)))
    (λ j. let j' = <ℤ-≤ℤ j in ⊎_elim (λ k. inl (inr (turn_b k))) (λ k. inr (inr (turn_b k))) (sorted b a t u i' j'
    (λ k. not_less a b u t e (<ℤ-≤ℤ_trans k j') k (<ℤ-≤ℤ_trans (≤ℤ-<ℤ_trans i' k) j') (≤ℤ-<ℤ_trans i' k)) (λ k. not_less u t a b f (<ℤ-≤ℤ_trans k i') k (<ℤ-≤ℤ_trans (≤ℤ-<ℤ_trans j' k) i') (≤ℤ-<ℤ_trans j' k))))
    (le_or_lt u t)) (le_or_lt a b)

-- A point in line with a and b, between them in x, is on the edge.
on_x : (a b u : Vertex) → cross a b u ≡ pos 0 → a.x ≺ b.x → (a.x ≼ u.x) × (u.x ≼ b.x) → On u a b
unfolding cross
on_x a b u e h i = record {
  k = b.x -ℤ u.x;
  l = u.x -ℤ a.x;
  k0 = le_slack i.1;
  l0 = le_slack i.0;
  some = s a.x b.x u.x h;
  atx = ring 3 (λ a b u. ((b ⊟ u) ⊞ (u ⊟ a)) ⊠ u ≈ (b ⊟ u) ⊠ a ⊞ (u ⊟ a) ⊠ b) tt a.x b.x u.x;
  aty = order 6 (λ ax ay cx cy ux uy. (cross_e ax ay cx cy ux uy ≈ # (pos 0)) ∷ [] ⊢ ((cx ⊟ ux) ⊞ (ux ⊟ ax)) ⊠ uy ≈ (cx ⊟ ux) ⊠ ay ⊞ (ux ⊟ ax) ⊠ cy by times 0 (# (pos 1))) tt a.x a.y b.x b.y u.x u.y e;
}
  where
    s : (a b u : ℤ) → a ≺ b → pos 0 ≺ (b -ℤ u) +ℤ (u -ℤ a)
    s = order 3 (λ a b u. (a ⋖ b) ∷ [] ⊢ # (pos 0) ⋖ (b ⊟ u) ⊞ (u ⊟ a) by hyp 0) tt

-- The numbers differ.
abbrev Ne : ℤ → ℤ → Type 0
Ne a b = (a ≺ b) ⊎ (b ≺ a)

-- Nothing lies between the larger and the smaller.
lt_not : {A : Type 0} (a b u : ℤ) → a ≺ b → b ≼ u → u ≼ a → A
lt_not a b u h i j = absurd (order 3 (λ a b u. (a ⋖ b) ∷ (b ≲ u) ∷ (u ≲ a) ∷ [] ⊢ never by hyp 0 ⊕ hyp 1 ⊕ hyp 2) tt a b u h i j)

-- The same, whichever end is further left.
on_of : (a b u : Vertex) → cross a b u ≡ pos 0 → Ne a.x b.x → Btw a.x b.x u.x → On u a b
on_of a b u e (inl h) (inl i) = on_x a b u e h i
on_of a b u e (inl h) (inr i) = lt_not a.x b.x u.x h i.0 i.1
on_of a b u e (inr h) (inl i) = lt_not b.x a.x u.x h i.0 i.1
on_of a b u e (inr h) (inr i) = on_swap (on_x b a u (neg_zero (cross a b u) (cross b a u) (cross-anti a b u) e) h i)

-- Edges meet where an end of the one is on the other.
first_on : {a b u t : Vertex} → On u a b → Meet a b u t
first_on {a} {b} {u} {t} o = Meet-swap (on_meet u t a b o)

-- ---- all on one line that is not upright
record InLine (a b u t : Vertex) : Type 0 where
  u0 : cross a b u ≡ pos 0
  t0 : cross a b t ≡ pos 0
  a0 : cross u t a ≡ pos 0
  b0 : cross u t b ≡ pos 0

-- Between equal numbers.
eq_of : (a b u : ℤ) → Btw a b u → a ≡ b → a ≡ u
eq_of a b u (inl i) e = ≤ℤ-antisym i.0 (subst (λ q. u ≼ q) (sym e) i.1)
eq_of a b u (inr i) e = ≤ℤ-antisym (subst (λ q. q ≼ u) (sym e) i.0) i.1

-- An end is between.
btw_end : (a b u : ℤ) → a ≡ u → Btw a b u
btw_end a b u e = ⊎_elim (λ i. inl (subst (λ q. a ≼ q) e (≤ℤ_refl a), subst (λ q. q ≼ b) e i)) (λ i. inr (subst (λ q. b ≼ q) e (<ℤ-≤ℤ i), subst (λ q. q ≼ a) e (≤ℤ_refl a))) (le_or_lt a b)

-- Two numbers differ or are equal.
trich : (a b : ℤ) → Ne a b ⊎ (a ≡ b)
trich a b = ⊎_elim (λ i. ⊎_elim (λ j. inr (≤ℤ-antisym i j)) (λ j. inl (inl j)) (le_or_lt b a)) (λ i. inl (inr i)) (le_or_lt a b)

-- In one line that is not upright, edges that are not apart in x meet.
col_x : (a b u t : Vertex) → InLine a b u t → Ne a.x b.x → less_than a.x b.x u.x t.x ≡ false → less_than u.x t.x a.x b.x ≡ false → Meet a b u t
col_x a b u t r h e f = ⊎_elim (λ i. ⊎_elim (λ j. at_u j) (λ j. at_t j) i)
    (λ i. ⊎_elim
    (λ j. ⊎_elim (λ n. on_meet a b u t (on_of u t a r.a0 n j)) (λ q. at_u (btw_end a.x b.x u.x (sym (eq_of u.x t.x a.x j q)))) (trich u.x t.x))
    (λ j. ⊎_elim (λ n. Meet-ab (on_meet b a u t (on_of u t b r.b0 n j))) (λ q. at_u (turn_b (btw_end b.x a.x u.x (sym (eq_of u.x t.x b.x j q))))) (trich u.x t.x)) i)
    (overlap a.x b.x u.x t.x e f)
  where
    at_u : Btw a.x b.x u.x → Meet a b u t
    at_u j = first_on (on_of a b u r.u0 h j)

    at_t : Btw a.x b.x t.x → Meet a b u t
    at_t j = Meet-uw (first_on (on_of a b t r.t0 h j))

-- ---- the coordinates exchanged
ex : Vertex → Vertex
ex v = vertex v.y v.x

-- Exchanged coordinates turn the cross round.
cross-ex : (a b u : Vertex) → cross (ex a) (ex b) (ex u) ≡ neg_ℤ (cross a b u)
unfolding cross ex
cross-ex a b u = ring 6 (λ ax ay cx cy ux uy. cross_e ay ax cy cx uy ux ≈ ⊖ cross_e ax ay cx cy ux uy) tt a.x a.y b.x b.y u.x u.y

-- Edges that meet, with coordinates exchanged.
ex_meet : {a b u t : Vertex} → Meet (ex a) (ex b) (ex u) (ex t) → Meet a b u t
unfolding ex
ex_meet h = record { m = h.m; n = h.n; k = h.k; l = h.l; m0 = h.m0; n0 = h.n0; k0 = h.k0; l0 = h.l0; some = h.some; sums = h.sums; atx = h.aty; aty = h.atx }

-- The edges exchanged.
swap_in : {a b u t : Vertex} → InLine a b u t → InLine u t a b
swap_in r = record { u0 = r.a0; t0 = r.b0; a0 = r.u0; b0 = r.t0 }

-- Points in line, with coordinates exchanged.
ex_in : (a b u t : Vertex) → InLine a b u t → InLine (ex a) (ex b) (ex u) (ex t)
ex_in a b u t r = record { u0 = neg_zero (cross a b u) _ (cross-ex a b u) r.u0; t0 = neg_zero (cross a b t) _ (cross-ex a b t) r.t0; a0 = neg_zero (cross u t a) _ (cross-ex u t a) r.a0; b0 = neg_zero (cross u t b) _ (cross-ex u t b) r.b0 }

-- The edges are apart neither in x nor in y.
record Lap (a b u t : Vertex) : Type 0 where
  x1 : less_than a.x b.x u.x t.x ≡ false
  x2 : less_than u.x t.x a.x b.x ≡ false
  y1 : less_than a.y b.y u.y t.y ≡ false
  y2 : less_than u.y t.y a.y b.y ≡ false

-- Edges without extent in one coordinate have the same.
point : (a b u t : ℤ) → less_than a b u t ≡ false → less_than u t a b ≡ false → a ≡ b → u ≡ t → a ≡ u
point a b u t e f i j = ⊎_elim (λ p. ⊎_elim (λ q. eq_of a b u q i) (λ q. eq_of a b t q i ∙ sym j) p) (λ p. ⊎_elim (λ q. sym (eq_of u t a q j)) (λ q. i ∙ sym (eq_of u t b q j)) p) (overlap a b u t e f)

-- In an upright line.
col_y : (a b u t : Vertex) → InLine a b u t → Lap a b u t → a.x ≡ b.x → u.x ≡ t.x → Meet a b u t
unfolding ex
col_y a b u t r o i j = ⊎_elim (λ n. ex_meet (col_x (ex a) (ex b) (ex u) (ex t) (ex_in a b u t r) n o.y1 o.y2))
    (λ p. ⊎_elim (λ n. Meet-swap (ex_meet (col_x (ex u) (ex t) (ex a) (ex b) (ex_in u t a b (swap_in r)) n o.y2 o.y1)))
    (λ q. same-meet a b u t (at_same (point a.x b.x u.x t.x o.x1 o.x2 i j) (point a.y b.y u.y t.y o.y1 o.y2 p q))) (trich u.y t.y)) (trich a.y b.y)

-- In any line.
col : (a b u t : Vertex) → InLine a b u t → Lap a b u t → Meet a b u t
col a b u t r o = ⊎_elim (λ n. col_x a b u t r n o.x1 o.x2) (λ i. ⊎_elim (λ n. Meet-swap (col_x u t a b (swap_in r) n o.x2 o.x1)) (λ j. col_y a b u t r o i j) (trich u.x t.x)) (trich a.x b.x)

-- ---- the test
dif0 : (A B C E : ℤ) → E +ℤ B ≡ C +ℤ A → A ≡ B → C ≡ E
dif0 = order 4 (λ A B C E. (E ⊞ B ≈ C ⊞ A) ∷ (A ≈ B) ∷ [] ⊢ C ≈ E by times 0 (# (negsuc 0)) ⊕ times 1 (# (negsuc 0))) tt

-- Edges that pass all tests meet.
touch : (a b u t : Vertex) → same_side a b u t ≡ false → same_side u t a b ≡ false → Lap a b u t → Meet a b u t
touch a b u t e f o = ⊎_elim (λ n. ⊎_elim
    (λ h. let p = low a b u t e h in let q = high u t a b f (lt_d- C E A B d h) in meet- a b u t q.1 q.0 p.0 p.1 (lt_d- C E A B d h))
    (λ h. let p = high a b u t e h in let q = low u t a b f (lt_d+ C E A B d h) in meet+ a b u t q.1 q.0 p.0 p.1 (lt_d+ C E A B d h)) n)
    (λ h. let k = dif0 A B C E d h in let u0 = level a b u t e h in let a0 = level u t a b f k in col a b u t (record { u0 = u0; t0 = sym h ∙ u0; a0 = a0; b0 = sym k ∙ a0 }) o) (trich A B)
  where
    A : ℤ
    A = cross a b u

    B : ℤ
    B = cross a b t

    C : ℤ
    C = cross u t a

    E : ℤ
    E = cross u t b

    d : E +ℤ B ≡ C +ℤ A
    d = (four a b u t).D

-- Edges that are found to meet have a point in common.
pub met : (a b u t : Vertex) → meet a b u t ≡ true → Meet a b u t
unfolding meet
met a b u t e = touch a b u t (or_left s1 s2 e1) (or_right s1 s2 e1) (record { x1 = or_right (s1 || s2) l1 e2; x2 = or_right (s1 || s2 || l1) l2 e3; y1 = or_right (s1 || s2 || l1 || l2) l3 e4; y2 = or_right (s1 || s2 || l1 || l2 || l3) l4 e5 })
  where
    s1 : Bool
    s1 = same_side a b u t

    s2 : Bool
    s2 = same_side u t a b

    l1 : Bool
    l1 = less_than a.x b.x u.x t.x

    l2 : Bool
    l2 = less_than u.x t.x a.x b.x

    l3 : Bool
    l3 = less_than a.y b.y u.y t.y

    l4 : Bool
    l4 = less_than u.y t.y a.y b.y

    e5 : (s1 || s2 || l1 || l2 || l3 || l4) ≡ false
    e5 = not-true (s1 || s2 || l1 || l2 || l3 || l4) e

    e4 : (s1 || s2 || l1 || l2 || l3) ≡ false
    e4 = or_left (s1 || s2 || l1 || l2 || l3) l4 e5

    e3 : (s1 || s2 || l1 || l2) ≡ false
    e3 = or_left (s1 || s2 || l1 || l2) l3 e4

    e2 : (s1 || s2 || l1) ≡ false
    e2 = or_left (s1 || s2 || l1) l2 e3

    e1 : (s1 || s2) ≡ false
    e1 = or_left (s1 || s2) l1 e2

-- ---- a simple outline passes
path_none : (c s : Vertex) → meets_path c s [] ≡ true → ⊥
unfolding meets_path
path_none c s e = true≢false (sym e)

-- The edge of the path that is met.
path_met : (c s m : Vertex) (N : List Vertex) → meets_path c s (m ∷ N) ≡ true → (u : Vertex) × (t : Vertex) × PathEdge m N u t × Meet c s u t
unfolding meets_path
path_met c s m [] e = absurd (true≢false (sym e))
path_met c s m (n ∷ N) e = ⊎_elim (λ i. (m, n, inl (refl, refl), met c s m n i)) (λ i. let r = path_met c s n N i in (r.0, r.1, inr r.2, r.3)) (or_case (meet c s m n) (meets_path c s (n ∷ N)) e)

-- Neighbours that double back share more than their corner.
back_not : (p c s : Vertex) → doubles_back p c s ≡ true → ShareOnly p c s → ⊥
unfolding doubles_back along_edge
back_not p c s e a = clash_ℤ (a.apart (zero_is (cross p c s) (and_left (is_zero (cross p c s)) (le_z (pos 0) (dot p c s)) e))) (Order.le_z_true (pos 0) (dot p c s) (and_right (is_zero (cross p c s)) (le_z (pos 0) (dot p c s)) e))

-- The first corner of a simple outline passes.
first-clear : (c : Vertex) (R : List Vertex) → IsSimple (c ∷ R) → edge_meets c R ≡ true → ⊥
unfolding edge_meets
first-clear c [] g e = true≢false (sym e)
first-clear c (s ∷ M) g e = ⊎_elim (λ i. back_not (last_of s M) c s i (g.adj (last_of s M) c s (inr (refl, refl)) (inl (inl (refl, refl))))) (λ i. path M g i) (or_case (doubles_back (last_of s M) c s) (meets_path c s M) e)
  where
    path : (M : List Vertex) → IsSimple (c ∷ s ∷ M) → meets_path c s M ≡ true → ⊥
    path [] g i = path_none c s i
    path (m ∷ N) g i = let r = path_met c s m N i in
        g.far c s r.0 r.1 (inl (inl (refl, refl))) (inl (inr (inr r.2))) (not_on_path c s (m ∷ N) r.0 r.1 g.dist.0 (inr r.2)).0 (not_on_path s m N r.0 r.1 g.dist.1.0 r.2).0 (not_on_path c s (m ∷ N) r.0 r.1 g.dist.0 (inr r.2)).1 r.3

-- Where no corner fails, the outline passes.
pub meets-false : (P : List Vertex) → first_where edge_meets [] P ≡ none → edges_meet P ≡ false
unfolding edges_meet
meets-false P e = rw (e, edges_meet)

-- A simple outline of three corners or more passes.
pub simple_clear : (P : List Vertex) → Three P → IsSimple P → edges_meet P ≡ false
simple_clear P t g = go (first_where edge_meets [] P) refl
  where
    go : (o : Option Place) → first_where edge_meets [] P ≡ o → edges_meet P ≡ false
    go none e = meets-false P e
    go (some f) e = let r = found edge_meets [] P f e in
        absurd (first-clear f.corner (f.after ++ f.before) ((subst (λ q. Turned q (f.corner ∷ (f.after ++ f.before))) (sym r.is) (round f.before (f.corner ∷ f.after))).sim t g) r.passes)
